-- Where the first line ends, and what a step shows.
use Rattle.std.proofs.Common.{◌≡◌, ◌⊎◌, ℕ, suc, ◌+◌, ◌<◌, Bool, true, false, List, [], ◌∷◌, ◌++◌, length, take, drop, get_or, Some, None, refl, sym, ap, ◌∙◌, inl, inr, ⊎_elim, arith}
use Rattle.std.specs.Prelude.{◌==◌, nat_lt, if◌then◌else◌}
use Rattle.std.specs.List.{prefix_len, position, position_or_len, list_all}
use Rattle.std.proofs.lemmas.Option.{cond_some}
use Rattle.std.proofs.lemmas.Bool.{ltb-true, not-false, eqb-true}
use Rattle.std.proofs.lemmas.List.{take-append-drop, drop_more, take_all}
use Rattle.clip_graph.specs.Plan.{Application}
use Rattle.run_text.specs.declared.line.Line.{Line}
use Rattle.run_text.specs.Lines.{line_text, LineFits}
use Rattle.run_text.proofs.ReadLemmas.{front_passes, end_past}
use Rattle.run_text.specs.Progress.{Progress, next}
use Rattle.run_text.proofs.LineLemmas.{plain}
use Rattle.run_text.proofs.JudgeLemmas as j
use Rattle.run_check.specs.Stages.{Goes}
use Rattle.run_check.specs.Steps.{StepsTo}

test : (b : Bool) → (b ≡ true) ⊎ (b ≡ false)
test true = inl refl
test false = inr refl

stop_at : (p : ℕ → Bool) (xs : List ℕ) → prefix_len p xs < length xs → p (get_or xs (prefix_len p xs) 0) ≡ false
stop_at p [] less = absurd (omega arith)
stop_at p (x ∷ xs) less = ⊎_elim
    (λ (h : p x ≡ true). let n : 1 + prefix_len p xs ≡ suc (prefix_len p xs) = omega arith in let less' : 1 + prefix_len p xs < suc (length xs) = rw h at less in rw h (rw n (stop_at p xs (omega arith))))
    (λ (h : p x ≡ false). rw h h) (test (p x))

abbrev is_newline : ℕ → Bool
is_newline byte = byte == 10

-- the bytes up to the first newline, and those after it
pub record Cut (text : List ℕ) (end : ℕ) : Type 0 where
  pub text_is : text ≡ take end text ++ 10 ∷ drop (end + 1) text
  pub plain : list_all plain (take end text) ≡ true
  pub inside : end < length text

pub cut_at : (text : List ℕ) (end : ℕ) → position is_newline text ≡ Some end → Cut text end
cut_at text end is =
    let found = cond_some (nat_lt (position_or_len is_newline text) (length text)) (position_or_len is_newline text) end is in
    let less : position_or_len is_newline text < length text = ltb-true (position_or_len is_newline text) (length text) found.0 in
    let same : position_or_len is_newline text ≡ end = found.1 in
    let stop : plain (get_or text (position_or_len is_newline text) 0) ≡ false = stop_at plain text less in
    let byte : get_or text end 0 ≡ 10 = ap (λ n. get_or text n 0) (sym same) ∙ eqb-true (get_or text (position_or_len is_newline text) 0) 10 (not-false (get_or text (position_or_len is_newline text) 0 == 10) stop) in
    record {
      text_is = sym (take-append-drop end text) ∙ ap (λ (l : List ℕ). take end text ++ l) (drop_more text end 0 (omega arith) ∙ ap (λ b. b ∷ drop (end + 1) text) byte);
      plain = ap (λ n. list_all plain (take n text)) (sym same) ∙ front_passes plain text;
      inside = omega arith;
    }

pub uncut : (text : List ℕ) → position is_newline text ≡ None → list_all plain text ≡ true
uncut text none =
    let end : length text ≡ position_or_len is_newline text = end_past is_newline text none in
    ap (list_all plain) (sym (take_all (position_or_len is_newline text) text (omega arith))) ∙ front_passes plain text

module _ (plan : List Application) (root capacity : ℕ) (Stands : Progress → Type 0) (p : Progress) (rest : List ℕ) where
  -- no line ends
  pub no_end : position is_newline rest ≡ None → StepsTo plan root capacity Stands p rest None
  no_end none = j.cut_off plan root capacity p rest (uncut rest none)

  -- a line can't be read
  pub no_line : (end : ℕ) → position is_newline rest ≡ Some end → ((l : Line) → LineFits l → take end rest ≡ line_text l → ⊥) → StepsTo plan root capacity Stands p rest None
  no_line end is never = let cut = cut_at rest end is in j.unreadable plan root capacity p (take end rest) (drop (end + 1) rest) rest cut.text_is cut.plain never

  -- a line that was read, and came or not
  pub one_line : (end : ℕ) (line : Line) (yes : Bool) → position is_newline rest ≡ Some end → take end rest ≡ line_text line → LineFits line → Goes Stands (next plan root capacity p line) yes
      → StepsTo plan root capacity Stands p rest (if yes then Some (end + 1) else None)
  one_line end line true is read fits goes =
      let cut = cut_at rest end is in
      let inside = cut.inside in
      record {
        line = line;
        after = goes.0;
        text_is = cut.text_is ∙ ap (λ (l : List ℕ). l ++ 10 ∷ drop (end + 1) rest) read;
        fits = fits;
        goes = goes.1;
        stands = goes.2;
        some = omega arith;
        inside = omega arith;
      }
  one_line end line false is read fits goes =
      let cut = cut_at rest end is in
      j.refused plan root capacity p (take end rest) (drop (end + 1) rest) rest line cut.text_is cut.plain read fits goes

pub no_text : (text : List ℕ) → length text ≡ 0 → text ≡ []
no_text [] h = refl
no_text (x ∷ xs) h = absurd (omega arith)
