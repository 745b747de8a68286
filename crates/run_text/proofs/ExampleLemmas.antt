-- The rows of a small render.
use Rattle.std.proofs.Common.{◌≡◌, List, [], ◌∷◌, ◌++◌, Option, Some, None, refl, lit<, arith}
use Rattle.std.specs.Prelude.{codes}
use Rattle.std.specs.Fmt.{decimal}
use Rattle.std.proofs.lemmas.Fmt.{decimal_digit}
use Rattle.serve_machine.specs.declared.event.Event.TheVariants.{Claim, Enter, Leave, Publish, Take, Deliver}
use Rattle.serve_machine.specs.Events.{frame_key}
use Rattle.serve_machine.specs.SerialExamples.{trimmed}
use Rattle.run_text.specs.declared.line.Line.{Line}
use Rattle.run_text.specs.declared.line.Line.TheVariants.{Workers, Window, Did}
use Rattle.run_text.specs.Lines.{lines_text}
use Rattle.run_text.specs.Examples.{FirstRow, SecondRow, ThirdRow, whole, front, back}
use Rattle.run_text.specs.Progress.{Progress, unread, follow}
use Rattle.run_text.proofs.LineLemmas.{AllFit}
use Rattle.run_text.proofs.JudgeLemmas.{all_read, wrong_next, refused}

abbrev before : List Line
before = Workers 1 ∷ Window 0 1 ∷ Did (Take 0 0) ∷ Did (Claim 0 (frame_key 1 0)) ∷ Did (Claim 0 (frame_key 0 2)) ∷ []

abbrev made : List Line
made = Did (Leave 0 0 0) ∷ Did (Publish 0 (frame_key 0 2)) ∷ []

abbrev last : List Line
last = Did (Publish 0 (frame_key 1 0)) ∷ Did (Deliver 0 0) ∷ []

abbrev entered : Line
entered = Did (Enter 0 0 0)

zero_is : decimal 0 ≡ 48 ∷ []
zero_is = decimal_digit 0 (omega arith)

one_is : decimal 1 ≡ 49 ∷ []
one_is = decimal_digit 1 (omega arith)

two_is : decimal 2 ≡ 50 ∷ []
two_is = decimal_digit 2 (omega arith)

abbrev progress_of : Option Progress → Progress
progress_of None = unread
progress_of (Some p) = p

whole_is : whole ≡ lines_text (before ++ entered ∷ (made ++ last)) ++ []
whole_is = rw (zero_is, one_is, two_is) refl

fits_before : AllFit before
fits_before = ((lit< tt, tt), ((lit< tt, (lit< tt, tt)), ((lit< tt, (lit< tt, tt)), ((lit< tt, (lit< tt, (lit< tt, tt))), ((lit< tt, (lit< tt, (lit< tt, tt))), tt)))))

fits_made : AllFit (before ++ entered ∷ made)
fits_made = ((lit< tt, tt), ((lit< tt, (lit< tt, tt)), ((lit< tt, (lit< tt, tt)), ((lit< tt, (lit< tt, (lit< tt, tt))), ((lit< tt, (lit< tt, (lit< tt, tt))), ((lit< tt, (lit< tt, (lit< tt, tt))), ((lit< tt, (lit< tt, (lit< tt, tt))), ((lit< tt, (lit< tt, (lit< tt, tt))), tt))))))))

fits_all : AllFit (before ++ entered ∷ (made ++ last))
fits_all = ((lit< tt, tt), ((lit< tt, (lit< tt, tt)), ((lit< tt, (lit< tt, tt)), ((lit< tt, (lit< tt, (lit< tt, tt))), ((lit< tt, (lit< tt, (lit< tt, tt))), ((lit< tt, (lit< tt, (lit< tt, tt))), ((lit< tt, (lit< tt, (lit< tt, tt))), ((lit< tt, (lit< tt, (lit< tt, tt))), ((lit< tt, (lit< tt, (lit< tt, tt))), ((lit< tt, (lit< tt, tt)), tt))))))))))

pub first_row : FirstRow
first_row = all_read trimmed 1 64 whole (before ++ entered ∷ (made ++ last)) (progress_of (follow trimmed 1 64 unread (before ++ entered ∷ (made ++ last))))
    (record { text_is = whole_is; fits = fits_all; follows = refl }) (lit< tt)

pub second_row : SecondRow
second_row =
    let p = progress_of (follow trimmed 1 64 unread before) in
    wrong_next trimmed 1 64 (front ++ back) back before p
    (record { text_is = rw (zero_is, one_is, two_is) refl; fits = fits_before; follows = refl })
    (refused trimmed 1 64 p (codes "leave 0 0 0") (codes "publish 0 0 2\npublish 0 1 0\ndeliver 0 0\n") back (Did (Leave 0 0 0)) refl refl (rw zero_is refl) (lit< tt, (lit< tt, (lit< tt, tt))) refl)
    (λ e. let no : ⊥ = cc in absurd no)

pub third_row : ThirdRow
third_row =
    let p = progress_of (follow trimmed 1 1 unread (before ++ entered ∷ made)) in
    wrong_next trimmed 1 1 whole (codes "publish 0 1 0\ndeliver 0 0\n") (before ++ entered ∷ made) p
    (record { text_is = rw (zero_is, one_is, two_is) refl; fits = fits_made; follows = refl })
    (refused trimmed 1 1 p (codes "publish 0 1 0") (codes "deliver 0 0\n") (codes "publish 0 1 0\ndeliver 0 0\n") (Did (Publish 0 (frame_key 1 0))) refl refl (rw (zero_is, one_is) refl) (lit< tt, (lit< tt, (lit< tt, tt))) refl)
    (λ e. let no : ⊥ = cc in absurd no)
