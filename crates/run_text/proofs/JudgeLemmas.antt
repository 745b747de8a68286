-- What is known of a text of which some lines were read, and that a text is judged in one way.
use Rattle.std.proofs.Common.{◌≡◌, ◌⊎◌, ℕ, zero, suc, ◌<◌, ◌≤◌, Bool, true, false, List, [], ◌∷◌, ◌++◌, length, take, drop, Option, Some, None, refl, sym, ap, ◌∙◌, subst, inl, inr, ⊎_elim, arith}
use Rattle.std.specs.Option.{option_and_then}
use Rattle.std.specs.List.{list_all}
use Rattle.std.proofs.lemmas.List.{append-nil, append_assoc, append_cancel_right, take-append-drop}
use Rattle.std.proofs.lemmas.Bool.{and_parts, cases_lt, cases_order}
use Rattle.std.specs.Prelude.{◌==◌}
use Rattle.clip_graph.specs.Plan.{Application}
use Rattle.run_text.specs.declared.line.Line.{Line}
use Rattle.serve_machine.specs.Events.{WindowEvents}
use Rattle.run_text.specs.Lines.{LineFits, line_text, lines_text, journal_lines}
use Rattle.run_text.specs.Reading.{line_of}
use Rattle.run_text.proofs.ReadLemmas.{line_again}
use Rattle.run_text.specs.declared.verdict.Verdict.{Verdict}
use Rattle.run_text.specs.declared.verdict.Verdict.TheVariants.{Yes, No}
use Rattle.run_text.specs.Journal.{IsJournal, first_line, first_lines, IsFirstWrong, Judges, JudgedOnce}
use Rattle.run_text.specs.Progress.{Progress, unread, next, follow}
use Rattle.run_text.proofs.LineLemmas.{AllFit, plain, line_plain, first_line_is, first_whole, text_more, lines_text-append, cancel, first_lines_take, first_lines_past, first_lines_all}
use Rattle.run_text.proofs.ProgressLemmas.{journal_of, follow-append, follow_front, follows_all}

fits_take : (k : ℕ) (ls : List Line) → AllFit ls → AllFit (take k ls)
fits_take zero ls fits = tt
fits_take (suc k) [] fits = tt
fits_take (suc k) (l ∷ ls) fits = (fits.0, fits_take k ls fits.1)

fits_push : (ls : List Line) (l : Line) → AllFit ls → LineFits l → AllFit (ls ++ l ∷ [])
fits_push [] l fits fit = (fit, tt)
fits_push (m ∷ ls) l fits fit = (fits.0, fits_push ls l fits.1 fit)

some_taken : (k : ℕ) (ls : List Line) → 0 < k → k ≤ length ls → take k ls ≡ [] → ⊥
some_taken zero ls some few e = absurd (omega arith)
some_taken (suc k) [] some few e = absurd (omega arith)
some_taken (suc k) (l ∷ ls) some few e = let no : ⊥ = cc in no

bound : {A B : Type 0} (o : Option A) (f : A → Option B) (y : B) → option_and_then f o ≡ Some y → (x : A) × (o ≡ Some x) × (f x ≡ Some y)
bound None f y h = absurd (cc)
bound (Some x) f y h = (x, refl, h)

test : (b : Bool) → (b ≡ true) ⊎ (b ≡ false)
test true = inl refl
test false = inr refl

once : (xs : List ℕ) → first_line (first_line xs) ≡ first_line xs
once [] = refl
once (x ∷ xs) = ⊎_elim (λ (h : (x == 10) ≡ true). rw h (rw h refl)) (λ (h : (x == 10) ≡ false). rw h (rw h (ap (λ (l : List ℕ). x ∷ l) (once xs)))) (test (x == 10))

nothing : (xs : List ℕ) → first_line xs ≡ [] → xs ≡ []
nothing [] e = refl
nothing (x ∷ xs) e = ⊎_elim (λ (h : (x == 10) ≡ true). let bad : x ∷ [] ≡ [] = rw h at e in absurd (cc)) (λ (h : (x == 10) ≡ false). let bad : x ∷ first_line xs ≡ [] = rw h at e in absurd (cc)) (test (x == 10))

-- bytes without a newline do not end in one
ends_in : (xs ys : List ℕ) → list_all plain ys ≡ true → ys ≡ xs ++ 10 ∷ [] → ⊥
ends_in [] ys all e = let bad : false ≡ true = sym (ap (list_all plain) e) ∙ all in let no : ⊥ = cc in no
ends_in (x ∷ xs) [] all e = let no : ⊥ = cc in no
ends_in (x ∷ xs) (y ∷ ys) all e = let rest : ys ≡ xs ++ 10 ∷ [] = cc in ends_in xs ys (and_parts (plain y) (list_all plain ys) all).1 rest

module _ (plan : List Application) (root capacity : ℕ) where
  -- the first lines of lines that follow one another
  front : (k : ℕ) (ls : List Line) (q : Progress) → follow plan root capacity unread ls ≡ Some q → AllFit ls → 0 < k → k ≤ length ls → IsJournal plan root capacity (lines_text (take k ls))
  front k ls q h fits some few =
      let parts = follow_front plan root capacity unread q (take k ls) (drop k ls) (subst (λ l. follow plan root capacity unread l ≡ Some q) (sym (take-append-drop k ls)) h) in
      journal_of plan root capacity parts.0 (take k ls) parts.1 (some_taken k ls some few) (fits_take k ls fits)

  -- the first lines of a journal are one
  closed : (text : List ℕ) (k : ℕ) → IsJournal plan root capacity text → 0 < k → IsJournal plan root capacity (first_lines k text)
  closed text k j some =
      let ls = journal_lines j.workers j.windows in
      let h = follows_all plan root capacity j.workers j.some j.most j.windows j.runs in
      ⊎_elim
      (λ (few : k < length ls).
      let same : first_lines k text ≡ lines_text (take k ls) = ap (first_lines k) (j.text_is ∙ sym (append-nil (lines_text ls))) ∙ first_lines_take k ls [] j.fits (omega arith) in
      subst (IsJournal plan root capacity) (sym same) (front k ls h.0 h.1 j.fits some (omega arith)))
      (λ (all : length ls ≤ k).
      let same : first_lines k text ≡ text = ap (first_lines k) j.text_is ∙ first_lines_all k ls j.fits all ∙ sym j.text_is in
      subst (IsJournal plan root capacity) (sym same) j) (cases_lt k (length ls))

  pub one_verdict : (text : List ℕ) (one other : Verdict) → Judges plan root capacity text one → Judges plan root capacity text other → one ≡ other
  one_verdict text Yes Yes a b = refl
  one_verdict text Yes (No n) a b = absurd (b.wrong (closed text n a b.some))
  one_verdict text (No n) Yes a b = absurd (a.wrong (closed text n b a.some))
  one_verdict text (No n) (No m) a b = ⊎_elim
      (λ (same : n ≡ m). ap No same)
      (λ (order : (n < m) ⊎ (m < n)). ⊎_elim
      (λ (less : n < m). absurd (a.wrong (b.before n a.some less)))
      (λ (more : m < n). absurd (b.wrong (a.before m b.some more))) order) (cases_order n m)

  -- WHILE LINES ARE READ

  -- these lines were read, and this is left of the text
  pub record Consumed (text rest : List ℕ) (ls : List Line) (p : Progress) : Type 0 where
    pub text_is : text ≡ lines_text ls ++ rest
    pub fits : AllFit ls
    pub follows : follow plan root capacity unread ls ≡ Some p

  pub nothing_read : (text : List ℕ) → Consumed text text [] unread
  nothing_read text = record { text_is = refl; fits = tt; follows = refl }

  -- one more line was read
  pub read_more : (text rest tail : List ℕ) (ls : List Line) (l : Line) (p q : Progress) → Consumed text rest ls p → rest ≡ line_text l ++ 10 ∷ tail → LineFits l → next plan root capacity p l ≡ Some q → Consumed text tail (ls ++ l ∷ []) q
  read_more text rest tail ls l p q c is fit goes = record {
    text_is = c.text_is ∙ ap (λ (r : List ℕ). lines_text ls ++ r) (is ∙ sym (append_assoc (line_text l) (10 ∷ []) tail) ∙ ap (λ (r : List ℕ). r ++ tail) (sym (append-nil (line_text l ++ 10 ∷ []))))
        ∙ sym (append_assoc (lines_text ls) (lines_text (l ∷ [])) tail) ∙ ap (λ (r : List ℕ). r ++ tail) (sym (lines_text-append ls (l ∷ [])));
    fits = fits_push ls l c.fits fit;
    follows = follow-append plan root capacity unread p q ls (l ∷ []) c.follows (rw goes refl);
  }

  -- all was read
  pub all_read : (text : List ℕ) (ls : List Line) (p : Progress) → Consumed text [] ls p → 0 < length ls → IsJournal plan root capacity text
  all_read text ls p c some =
      subst (IsJournal plan root capacity) (sym (c.text_is ∙ append-nil (lines_text ls))) (journal_of plan root capacity p ls c.follows (λ e. let none : length ls ≡ 0 = ap length e in omega arith) c.fits)

  -- the next line can't follow
  abbrev pub Ends : Progress → List ℕ → Type 0
  Ends p line = (l : Line) → LineFits l → line ≡ line_text l ++ 10 ∷ [] → next plan root capacity p l ≡ None

  stops : (text rest : List ℕ) (ls : List Line) (p : Progress) → Consumed text rest ls p → Ends p (first_line rest) → (rest ≡ [] → ls ≡ []) → IsJournal plan root capacity (first_lines (suc (length ls)) text) → ⊥
  stops text rest ls p c ends some j =
      let ms = journal_lines j.workers j.windows in
      let h = follows_all plan root capacity j.workers j.some j.most j.windows j.runs in
      let same : lines_text ls ++ first_line rest ≡ lines_text ms = sym (ap (first_lines (suc (length ls))) c.text_is ∙ first_lines_past ls rest c.fits) ∙ j.text_is in
      let cut = cancel ls ms (first_line rest) c.fits j.fits same in
      go j.workers j.windows cut.0 cut.1 cut.2 h.0 h.1 j.fits
    where
      tail_fits : (xs ys : List Line) → AllFit (xs ++ ys) → AllFit ys
      tail_fits [] ys f = f
      tail_fits (x ∷ xs) ys f = tail_fits xs ys f.1

      -- a line and more after it are no first line
      alone : (l : Line) (ns : List Line) → LineFits l → first_line rest ≡ lines_text (l ∷ ns) → first_line rest ≡ line_text l ++ 10 ∷ []
      alone l ns fit is = sym (once rest) ∙ ap first_line (is ∙ text_more l ns) ∙ first_line_is (line_text l) (lines_text ns) (line_plain l fit)

      go : (t : ℕ) (vs : List WindowEvents) (ns : List Line) → journal_lines t vs ≡ ls ++ ns → first_line rest ≡ lines_text ns → (q : Progress) → follow plan root capacity unread (journal_lines t vs) ≡ Some q → AllFit (journal_lines t vs) → ⊥
      go t vs [] is line q h fits =
          let none : ls ≡ [] = some (nothing rest line) in
          let bad : journal_lines t vs ≡ [] = is ∙ append-nil ls ∙ none in
          let no : ⊥ = cc in no
      go t vs (l ∷ ns) is line q h fits =
          let fit = (tail_fits ls (l ∷ ns) (subst AllFit is fits)).0 in
          let parts = follow_front plan root capacity unread q ls (l ∷ ns) (subst (λ xs. follow plan root capacity unread xs ≡ Some q) is h) in
          let same : Some p ≡ Some parts.0 = sym c.follows ∙ parts.1 in
          let at : parts.0 ≡ p = cc in
          let one = bound (next plan root capacity parts.0 l) (λ z. follow plan root capacity z ns) q parts.2 in
          let none : next plan root capacity p l ≡ None = ends l fit (alone l ns fit line) in
          let both : Some one.0 ≡ None = sym one.1 ∙ ap (λ z. next plan root capacity z l) at ∙ none in
          let no : ⊥ = cc in no

  -- the line after those that were read is the first that is wrong
  pub wrong_next : (text rest : List ℕ) (ls : List Line) (p : Progress) → Consumed text rest ls p → Ends p (first_line rest) → (rest ≡ [] → ls ≡ []) → IsFirstWrong plan root capacity text (suc (length ls))
  wrong_next text rest ls p c ends some = record {
    some = omega arith;
    wrong = stops text rest ls p c ends some;
    before = λ k low less. subst (IsJournal plan root capacity) (sym (ap (first_lines k) c.text_is ∙ first_lines_take k ls rest c.fits (omega arith))) (front k ls p c.follows c.fits low (omega arith));
  }

  -- a text that ends without a newline
  pub cut_off : (p : Progress) (rest : List ℕ) → list_all plain rest ≡ true → Ends p (first_line rest)
  cut_off p rest all l fit is = absurd (ends_in (line_text l) rest all (sym (first_whole rest all) ∙ is))

  -- a line that can't be read
  pub unreadable : (p : Progress) (line tail rest : List ℕ) → rest ≡ line ++ 10 ∷ tail → list_all plain line ≡ true → ((l : Line) → LineFits l → line ≡ line_text l → ⊥) → Ends p (first_line rest)
  unreadable p line tail rest is all never l fit text =
      let same : line ++ 10 ∷ [] ≡ line_text l ++ 10 ∷ [] = sym (first_line_is line tail all) ∙ ap first_line (sym is) ∙ text in
      absurd (never l fit (append_cancel_right line (line_text l) (10 ∷ []) same))

  -- a line that may not come
  pub refused : (p : Progress) (line tail rest : List ℕ) (l : Line) → rest ≡ line ++ 10 ∷ tail → list_all plain line ≡ true → line ≡ line_text l → LineFits l → next plan root capacity p l ≡ None → Ends p (first_line rest)
  refused p line tail rest l is all read fits none m fit text =
      let same : line ++ 10 ∷ [] ≡ line_text m ++ 10 ∷ [] = sym (first_line_is line tail all) ∙ ap first_line (sym is) ∙ text in
      let texts : line_text l ≡ line_text m = sym read ∙ append_cancel_right line (line_text m) (10 ∷ []) same in
      let again : Some l ≡ Some m = sym (line_again l fits) ∙ ap line_of texts ∙ line_again m fit in
      let one : l ≡ m = cc in
      subst (λ z. next plan root capacity p z ≡ None) one none

  -- nothing can follow an empty text
  pub empty_ends : (p : Progress) → Ends p []
  empty_ends p l fit is = absurd (never (line_text l) is)
    where
      never : (xs : List ℕ) → [] ≡ xs ++ 10 ∷ [] → ⊥
      never [] e = let no : ⊥ = cc in no
      never (x ∷ xs) e = let no : ⊥ = cc in no

pub judged_once : JudgedOnce
judged_once plan root capacity text one other a b = one_verdict plan root capacity text one other a b
