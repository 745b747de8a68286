-- The lines of a text: where each ends, and that a text is the lines of one list alone.
use Rattle.std.proofs.Common.{◌≡◌, ◌⊎◌, ℕ, zero, suc, ◌<◌, ◌≤◌, ◌^◌, Bool, true, false, not, List, [], ◌∷◌, ◌++◌, length, take, Some, refl, sym, ap, ap₂, ◌∙◌, inl, inr, arith, rules}
use Rattle.std.specs.Prelude.{◌==◌, codes}
use Rattle.std.specs.Fmt.{decimal}
use Rattle.std.specs.List.{list_all, AllByRecursion}
use Rattle.std.specs.Char.{is_ascii_digit}
use Rattle.std.specs.Str.Parse.{digits_value}
use Rattle.std.proofs.lemmas.List.{append-nil, append_assoc, append_cancel_right}
use Rattle.std.proofs.lemmas.Bool.{and_parts, ne_eqb, not-true}
use Rattle.std.proofs.lemmas.Str.Parse.{IsNumeralModel, numerals_by_value}
use Rattle.std.proofs.lemmas.Fmt.{digits_decimal}
use Rattle.serve_machine.specs.declared.event.Event.{Event}
use Rattle.serve_machine.specs.declared.event.Event.TheVariants.{Hit, Claim, Enter, Leave, Evict, Publish, Abandon, Take, Deliver, Fail}
use Rattle.serve_machine.specs.declared.event.WindowStop.TheVariants.{Read, Changed, Memory}
use Rattle.run_text.specs.declared.line.Line.{Line}
use Rattle.run_text.specs.declared.line.Line.TheVariants.{Workers, Window, Did}
use Rattle.run_text.specs.Lines.{numbers, line_text, lines_text, event_text, AreSmall, EventFits, LineFits}
use Rattle.run_text.specs.Reading.{line_of}
use Rattle.run_text.proofs.ReadLemmas.{line_again}
use Rattle.run_text.specs.Journal.{first_line, after_line, first_lines}

-- NO NEWLINE IS IN A LINE

abbrev pub plain : ℕ → Bool
plain byte = not (byte == 10)

all-append : (p : ℕ → Bool) (xs ys : List ℕ) → list_all p xs ≡ true → list_all p ys ≡ true → list_all p (xs ++ ys) ≡ true
all-append p [] ys first second = second
all-append p (x ∷ xs) ys first second = let parts = and_parts (p x) (list_all p xs) first in rw parts.0 (all-append p xs ys parts.1 second)

digit_low : (digit : ℕ) → is_ascii_digit digit ≡ true → 48 ≤ digit
digit_low digit is = search rules

digits_plain : (digits : List ℕ) → list_all is_ascii_digit digits ≡ true → list_all plain digits ≡ true
digits_plain [] all = refl
digits_plain (digit ∷ digits) all =
    let parts = and_parts (is_ascii_digit digit) (list_all is_ascii_digit digits) all in
    let low = digit_low digit parts.0 in
    rw (ne_eqb digit 10 (λ e. omega arith)) (digits_plain digits parts.1)

own : IsNumeralModel (λ ds. list_all is_ascii_digit ds ≡ true) (digits_value 10)
own = numerals_by_value (λ ds. list_all is_ascii_digit ds ≡ true) (search rules)

abbrev AreLarge : List ℕ → Type 0
AreLarge ns = AllByRecursion (λ n. n < 2 ^ 64) ns

numbers_plain : (ns : List ℕ) → AreLarge ns → list_all plain (numbers ns) ≡ true
numbers_plain [] fits = refl
numbers_plain (n ∷ ns) fits = all-append plain (decimal n) (numbers ns) (digits_plain (decimal n) (digits_decimal own n fits.0)) (numbers_plain ns fits.1)

small_large : (ns : List ℕ) → AreSmall ns → AreLarge ns
small_large [] fits = tt
small_large (n ∷ ns) fits = let f = fits.0 in (omega arith, small_large ns fits.1)

small_plain : (ns : List ℕ) → AreSmall ns → list_all plain (numbers ns) ≡ true
small_plain ns fits = numbers_plain ns (small_large ns fits)

event_plain : (event : Event) → EventFits event → list_all plain (event_text event) ≡ true
event_plain (Hit w k) fits = small_plain (w ∷ k.node ∷ k.n ∷ []) fits
event_plain (Claim w k) fits = small_plain (w ∷ k.node ∷ k.n ∷ []) fits
event_plain (Enter w i j) fits = small_plain (w ∷ i ∷ j ∷ []) fits
event_plain (Leave w i j) fits = small_plain (w ∷ i ∷ j ∷ []) fits
event_plain (Evict w k) fits = small_plain (w ∷ k.node ∷ k.n ∷ []) fits
event_plain (Publish w k) fits = small_plain (w ∷ k.node ∷ k.n ∷ []) fits
event_plain (Abandon w k) fits = small_plain (w ∷ k.node ∷ k.n ∷ []) fits
event_plain (Take w n) fits = small_plain (w ∷ n ∷ []) fits
event_plain (Deliver w n) fits = small_plain (w ∷ n ∷ []) fits
event_plain (Fail w Memory) fits = all-append plain (numbers (w ∷ [])) (codes " memory") (small_plain (w ∷ []) fits) refl
event_plain (Fail w (Read i)) fits = all-append plain (numbers (w ∷ [])) (codes " read" ++ numbers (i ∷ [])) (small_plain (w ∷ []) (fits.0, tt)) (small_plain (i ∷ []) fits.1)
event_plain (Fail w (Changed i n want got)) fits =
    let f0 = fits.0.1.0 in let f1 = fits.0.1.1.0 in
    all-append plain (numbers (w ∷ [])) (codes " changed" ++ numbers (i ∷ n ∷ want ∷ got ∷ [])) (small_plain (w ∷ []) (fits.0.0, tt)) (numbers_plain (i ∷ n ∷ want ∷ got ∷ []) (omega arith, (omega arith, (fits.1, (fits.2, tt)))))

pub line_plain : (line : Line) → LineFits line → list_all plain (line_text line) ≡ true
line_plain (Workers count) fits = small_plain (count ∷ []) fits
line_plain (Window first count) fits = small_plain (first ∷ count ∷ []) fits
line_plain (Did event) fits = event_plain event fits

-- WHERE A LINE ENDS

test : (b : Bool) → (b ≡ true) ⊎ (b ≡ false)
test true = inl refl
test false = inr refl

no_break : (x : ℕ) → plain x ≡ true → (x == 10) ≡ false
no_break x h = not-true (x == 10) h

pub first_line_is : (xs rest : List ℕ) → list_all plain xs ≡ true → first_line (xs ++ 10 ∷ rest) ≡ xs ++ 10 ∷ []
first_line_is [] rest all = refl
first_line_is (x ∷ xs) rest all =
    let parts = and_parts (plain x) (list_all plain xs) all in
    rw (no_break x parts.0) (ap (λ (l : List ℕ). x ∷ l) (first_line_is xs rest parts.1))

pub after_line_is : (xs rest : List ℕ) → list_all plain xs ≡ true → after_line (xs ++ 10 ∷ rest) ≡ rest
after_line_is [] rest all = refl
after_line_is (x ∷ xs) rest all =
    let parts = and_parts (plain x) (list_all plain xs) all in
    rw (no_break x parts.0) (after_line_is xs rest parts.1)

-- without a newline all is the first line
pub first_whole : (xs : List ℕ) → list_all plain xs ≡ true → first_line xs ≡ xs
first_whole [] all = refl
first_whole (x ∷ xs) all =
    let parts = and_parts (plain x) (list_all plain xs) all in
    rw (no_break x parts.0) (ap (λ (l : List ℕ). x ∷ l) (first_whole xs parts.1))

-- LINES OF A LIST

abbrev pub AllFit : List Line → Type 0
AllFit lines = AllByRecursion LineFits lines

-- the text of some lines begins with that of the first
pub one_more : (line : Line) (lines : List Line) (rest : List ℕ) → lines_text (line ∷ lines) ++ rest ≡ line_text line ++ 10 ∷ (lines_text lines ++ rest)
one_more line lines rest = append_assoc (line_text line ++ codes "\n") (lines_text lines) rest ∙ append_assoc (line_text line) (codes "\n") (lines_text lines ++ rest)

pub text_more : (line : Line) (lines : List Line) → lines_text (line ∷ lines) ≡ line_text line ++ 10 ∷ lines_text lines
text_more line lines = append_assoc (line_text line) (codes "\n") (lines_text lines)

pub lines_text-append : (ls ms : List Line) → lines_text (ls ++ ms) ≡ lines_text ls ++ lines_text ms
lines_text-append [] ms = refl
lines_text-append (l ∷ ls) ms = ap (λ (t : List ℕ). (line_text l ++ codes "\n") ++ t) (lines_text-append ls ms) ∙ sym (append_assoc (line_text l ++ codes "\n") (lines_text ls) (lines_text ms))

not_empty : (xs ys : List ℕ) (y : ℕ) → xs ++ y ∷ ys ≡ [] → ⊥
not_empty [] ys y e = let no : ⊥ = cc in no
not_empty (x ∷ xs) ys y e = let no : ⊥ = cc in no

-- a text is that of one list of lines
pub cancel : (ls ms : List Line) (rest : List ℕ) → AllFit ls → AllFit ms → lines_text ls ++ rest ≡ lines_text ms → (ns : List Line) × (ms ≡ ls ++ ns) × (rest ≡ lines_text ns)
cancel [] ms rest f g e = (ms, refl, e)
cancel (l ∷ ls) [] rest f g e = absurd (not_empty (line_text l) (lines_text ls ++ rest) 10 (sym (one_more l ls rest) ∙ e))
cancel (l ∷ ls) (m ∷ ms) rest f g e =
    let all : line_text l ++ 10 ∷ (lines_text ls ++ rest) ≡ line_text m ++ 10 ∷ lines_text ms = sym (one_more l ls rest) ∙ e ∙ text_more m ms in
    let pl = line_plain l f.0 in
    let pm = line_plain m g.0 in
    let firsts : line_text l ++ 10 ∷ [] ≡ line_text m ++ 10 ∷ [] = sym (first_line_is (line_text l) (lines_text ls ++ rest) pl) ∙ ap first_line all ∙ first_line_is (line_text m) (lines_text ms) pm in
    let texts : line_text l ≡ line_text m = append_cancel_right (line_text l) (line_text m) (10 ∷ []) firsts in
    let read : Some l ≡ Some m = sym (line_again l f.0) ∙ ap line_of texts ∙ line_again m g.0 in
    let same : m ≡ l = cc in
    let rests : lines_text ls ++ rest ≡ lines_text ms = sym (after_line_is (line_text l) (lines_text ls ++ rest) pl) ∙ ap after_line all ∙ after_line_is (line_text m) (lines_text ms) pm in
    let ih = cancel ls ms rest f.1 g.1 rests in
    (ih.0, ap₂ (λ (x : Line) (xs : List Line). x ∷ xs) same ih.1, ih.2)

-- the first lines of a text
pub first_lines_take : (k : ℕ) (ls : List Line) (rest : List ℕ) → AllFit ls → k ≤ length ls → first_lines k (lines_text ls ++ rest) ≡ lines_text (take k ls)
first_lines_take zero ls rest fits few = refl
first_lines_take (suc k) [] rest fits few = absurd (omega arith)
first_lines_take (suc k) (l ∷ ls) rest fits few =
    let p = line_plain l fits.0 in
    ap (first_lines (suc k)) (one_more l ls rest)
    ∙ ap₂ (λ (a b : List ℕ). a ++ first_lines k b) (first_line_is (line_text l) (lines_text ls ++ rest) p) (after_line_is (line_text l) (lines_text ls ++ rest) p)
    ∙ ap (λ (b : List ℕ). (line_text l ++ 10 ∷ []) ++ b) (first_lines_take k ls rest fits.1 (omega arith))

-- and one more
pub first_lines_past : (ls : List Line) (rest : List ℕ) → AllFit ls → first_lines (suc (length ls)) (lines_text ls ++ rest) ≡ lines_text ls ++ first_line rest
first_lines_past [] rest fits = append-nil (first_line rest)
first_lines_past (l ∷ ls) rest fits =
    let p = line_plain l fits.0 in
    ap (first_lines (suc (suc (length ls)))) (one_more l ls rest)
    ∙ ap₂ (λ (a b : List ℕ). a ++ first_lines (suc (length ls)) b) (first_line_is (line_text l) (lines_text ls ++ rest) p) (after_line_is (line_text l) (lines_text ls ++ rest) p)
    ∙ ap (λ (b : List ℕ). (line_text l ++ 10 ∷ []) ++ b) (first_lines_past ls rest fits.1)
    ∙ sym (append_assoc (line_text l ++ 10 ∷ []) (lines_text ls) (first_line rest))

no_lines : (k : ℕ) → first_lines k [] ≡ []
no_lines zero = refl
no_lines (suc k) = no_lines k

-- past its end a text has no more lines
pub first_lines_all : (k : ℕ) (ls : List Line) → AllFit ls → length ls ≤ k → first_lines k (lines_text ls) ≡ lines_text ls
first_lines_all k [] fits few = no_lines k
first_lines_all zero (l ∷ ls) fits few = absurd (omega arith)
first_lines_all (suc k) (l ∷ ls) fits few =
    let p = line_plain l fits.0 in
    ap (first_lines (suc k)) (text_more l ls)
    ∙ ap₂ (λ (a b : List ℕ). a ++ first_lines k b) (first_line_is (line_text l) (lines_text ls) p) (after_line_is (line_text l) (lines_text ls) p)
    ∙ ap (λ (b : List ℕ). (line_text l ++ 10 ∷ []) ++ b) (first_lines_all k ls fits.1 (omega arith))
