-- Words of a matrix, read one after the other.
use Rattle.std.proofs.Common.{◌≡◌, ◌⊎◌, inl, inr, ℕ, ◌∙◌, ◌+◌, ◌<◌, List, [], ◌∷◌, ◌++◌, length, refl, sym, ap, arith, Bool, true, false, not, Option, Some, None, is_some, append-nil, Result, Ok, Err, OnOk, OnErr, subst}
use Rattle.std.proofs.lemmas.List.{length-append}
use Rattle.std.specs.Prelude.{ℤ, suc, ◌&&◌, ◌||◌, ◌==◌, if◌then◌else◌}
use Rattle.std.specs.List.{filter, filter_map, list_all, slice_split, cons_option}
use Rattle.std.proofs.lemmas.Bool.Decides.{nat_tests}
use Rattle.std.proofs.lemmas.List.Elements.{filter-append, filter_map-append}
use Rattle.std.proofs.lemmas.List.Folds.{list_all-append}
use Rattle.std.proofs.lemmas.Grind.{common_steps}
use Rattle.std.specs.Result.{is_ok}
use Rattle.arrayvec.specs.ArrayVec.{ArrayVec}
use Rattle.clip_term.specs.Filters.{entry_of, is_gap, matrix_named}
use Rattle.clip_term.specs.Refusals.{is_weight}
use Rattle.clip_term.proofs.PassedLemmas.{all_at}

-- the words among the parts between gaps
abbrev pub words : List (List ℕ) → List (List ℕ)
words parts = filter (λ (word : List ℕ). not (length word == 0)) parts

abbrev are_all : List (List ℕ) → Bool
are_all texts = list_all (λ (word : List ℕ). is_some (entry_of word)) texts

abbrev pub are_entries : List (List ℕ) → Bool
are_entries parts = are_all (words parts)

abbrev pub entries_in : List (List ℕ) → List ℤ
entries_in parts = filter_map entry_of (words parts)

not_empty : (c : ℕ) (cs : List ℕ) → (length (c ∷ cs) == 0) ≡ false
not_empty c cs = grind (arith, nat_tests)

entries_of : (word : List ℕ) → entries_in (word ∷ []) ≡ cons_option (entry_of word) []
entries_of word = grind (arith, common_steps)

are_of : (word : List ℕ) → are_entries (word ∷ []) ≡ (is_some (entry_of word) || length word == 0)
are_of word = grind (arith, common_steps)

words_more : (parts : List (List ℕ)) (word : List ℕ) → words (parts ++ word ∷ []) ≡ words parts ++ words (word ∷ [])
words_more parts word = filter-append (λ (w : List ℕ). not (length w == 0)) parts (word ∷ [])

entries_by : (parts : List (List ℕ)) (word : List ℕ) → entries_in (parts ++ word ∷ []) ≡ entries_in parts ++ entries_in (word ∷ [])
entries_by parts word = ap (filter_map entry_of) (words_more parts word) ∙ filter_map-append entry_of (words parts) (words (word ∷ []))

are_by : (parts : List (List ℕ)) (word : List ℕ) → are_entries (parts ++ word ∷ []) ≡ (are_entries parts && are_entries (word ∷ []))
are_by parts word = ap are_all (words_more parts word) ∙ list_all-append (λ (w : List ℕ). is_some (entry_of w)) (words parts) (words (word ∷ []))

and_true : (b : Bool) → (b && true) ≡ b
and_true b = grind (arith, common_steps)

-- a word that is an entry
pub entries_more : (parts : List (List ℕ)) (word : List ℕ) (entry : ℤ) → entry_of word ≡ Some entry → entries_in (parts ++ word ∷ []) ≡ entries_in parts ++ entry ∷ []
entries_more parts word entry e = entries_by parts word ∙ ap (λ es. entries_in parts ++ es) (entries_of word ∙ ap (λ o. cons_option o []) e)

pub are_more : (parts : List (List ℕ)) (word : List ℕ) (entry : ℤ) → entry_of word ≡ Some entry → are_entries (parts ++ word ∷ []) ≡ are_entries parts
are_more parts word entry e = are_by parts word ∙ ap (λ b. are_entries parts && b) (are_of word ∙ ap (λ (o : Option ℤ). is_some o || length word == 0) e) ∙ and_true (are_entries parts)

-- and one that is none
pub entries_less : (parts : List (List ℕ)) (word : List ℕ) → entry_of word ≡ None → entries_in (parts ++ word ∷ []) ≡ entries_in parts
entries_less parts word e = entries_by parts word ∙ ap (λ es. entries_in parts ++ es) (entries_of word ∙ ap (λ o. cons_option o []) e) ∙ append-nil (entries_in parts)

pub are_less : (parts : List (List ℕ)) (word : List ℕ) → entry_of word ≡ None → are_entries (parts ++ word ∷ []) ≡ (are_entries parts && (length word == 0))
are_less parts word e = are_by parts word ∙ ap (λ b. are_entries parts && b) (are_of word ∙ ap (λ (o : Option ℤ). is_some o || length word == 0) e)

some_more : (o : Option ℤ) (es : List ℤ) → is_some o ≡ true → length (cons_option o es) ≡ suc (length es)
some_more o es e = grind (arith, common_steps)

-- where all words are entries, there are as many
count_same : (texts : List (List ℕ)) → are_all texts ≡ true → length (filter_map entry_of texts) ≡ length texts
count_same [] e = refl
count_same (word ∷ texts) e =
    let now = all_at (λ (w : List ℕ). is_some (entry_of w)) word texts e in
    some_more (entry_of word) (filter_map entry_of texts) now.0 ∙ ap (λ n. suc n) (count_same texts now.1)

abbrev is_count : ℕ → Bool
is_count n = n == 9 || n == 25

abbrev matrix_of : List (List ℕ) → Option (List ℤ)
matrix_of parts = if is_count (length (words parts)) && are_entries parts then Some (entries_in parts) else None

by_count : (are count all : Bool) (entries : List ℤ) → (are ≡ true → count ≡ all) → (if all && are then Some entries else None) ≡ (if are && count then Some entries else None)
by_count are count all entries same = grind (arith, common_steps)

counts : (parts : List (List ℕ)) → are_entries parts ≡ true → is_count (length (entries_in parts)) ≡ is_count (length (words parts))
counts parts e = ap is_count (count_same (words parts) e)

-- the matrix of a text, by the parts that were read
pub matrix_is : (parts : List (List ℕ)) (text : List ℕ) → parts ≡ slice_split is_gap text
    → matrix_named text ≡ (if are_entries parts && is_count (length (entries_in parts)) then Some (entries_in parts) else None)
matrix_is parts text whole = search (arith, by_count, counts)

-- ---- parts that were read

-- the entries of these parts, or some part is none, or there are more than a matrix has
pub record HasRead (parts : List (List ℕ)) (entries : List ℤ) (are : Bool) : Type 0 where
  pub all : are ≡ true → (entries ≡ entries_in parts) × (are_entries parts ≡ true)
  pub not : are ≡ false → (are_entries parts ≡ false) ⊎ (25 < length (entries_in parts))

pub read_nothing : HasRead [] [] true
read_nothing = record { all = λ right. (refl, refl); not = λ wrong. absurd (cc) }

-- what was refused stays so
refused_more : (parts : List (List ℕ)) (word : List ℕ) → (are_entries parts ≡ false) ⊎ (25 < length (entries_in parts))
    → (are_entries (parts ++ word ∷ []) ≡ false) ⊎ (25 < length (entries_in (parts ++ word ∷ [])))
refused_more parts word (inl wrong) = inl (are_by parts word ∙ ap (λ b. b && are_entries (word ∷ [])) wrong)
refused_more parts word (inr many) =
    let longer : length (entries_in (parts ++ word ∷ [])) ≡ length (entries_in parts) + length (entries_in (word ∷ []))
    = ap length (entries_by parts word) ∙ length-append (entries_in parts) (entries_in (word ∷ [])) in
    inr (omega (arith, longer, many))

module _ (parts : List (List ℕ)) (word : List ℕ) (entries : List ℤ) (are : Bool) (read : HasRead parts entries are) where
  -- one entry more, where there is room for it
  pub read_entry : (entry : ℤ) → entry_of word ≡ Some entry → HasRead (parts ++ word ∷ []) (entries ++ entry ∷ []) are
  read_entry entry is = record {
    all = λ right. (let before = read.all right in
        (ap (λ es. es ++ entry ∷ []) before.0 ∙ sym (entries_more parts word entry is), are_more parts word entry is ∙ before.1));
    not = λ wrong. refused_more parts word (read.not wrong);
  }

  -- and where there is none
  pub read_over : (entry : ℤ) → entry_of word ≡ Some entry → length entries ≡ 25 → HasRead (parts ++ word ∷ []) entries false
  read_over entry is full = record { all = λ right. absurd (cc); not = λ wrong. by_was are refl }
    where
      by_was : (was : Bool) → are ≡ was → (are_entries (parts ++ word ∷ []) ≡ false) ⊎ (25 < length (entries_in (parts ++ word ∷ [])))
      by_was true right =
          let before = read.all right in
          let more : length (entries_in (parts ++ word ∷ [])) ≡ length (entries_in parts) + 1
          = ap length (entries_more parts word entry is) ∙ length-append (entries_in parts) (entry ∷ []) in
          let same : length entries ≡ length (entries_in parts) = ap length before.0 in
          inr (omega (arith, more, same, full))
      by_was false wrong = refused_more parts word (read.not wrong)

  -- one that is put where there is room
  pub read_pushed : {E : Type 0} (entry : ℤ) (old new : ArrayVec ℤ) (put : Result (Unit {0}) E) → entry_of word ≡ Some entry → old.items ≡ entries
      → OnOk put (new.items ≡ old.items ++ entry ∷ []) → OnErr put (new ≡ old) → OnErr put (length old.items ≡ 25) → HasRead (parts ++ word ∷ []) new.items (are && is_ok put)
  read_pushed entry old new (Ok u) is same more stays full =
      rw (and_true are) (subst (λ (es : List ℤ). HasRead (parts ++ word ∷ []) es are) (sym (more ∙ ap (λ es. es ++ entry ∷ []) same)) (read_entry entry is))
  read_pushed entry old new (Err e) is same more stays full =
      let none : (are && false) ≡ false = grind (arith, common_steps) in
      rw none (subst (λ (es : List ℤ). HasRead (parts ++ word ∷ []) es false) (sym (ap (λ (v : ArrayVec ℤ). v.items) stays ∙ same)) (read_over entry is (sym (ap length same) ∙ full)))

  -- a part that is none, or empty
  pub read_none : entry_of word ≡ None → HasRead (parts ++ word ∷ []) entries (are && (length word == 0))
  read_none is = by_was are refl (length word == 0) refl
    where
      by_was : (was : Bool) → are ≡ was → (empty : Bool) → (length word == 0) ≡ empty → HasRead (parts ++ word ∷ []) entries (was && empty)
      by_was true right true blank =
          let before = read.all right in
          record { all = λ _. (before.0 ∙ sym (entries_less parts word is), are_less parts word is ∙ ap (λ b. b && (length word == 0)) before.1 ∙ blank); not = λ wrong. absurd (cc) }
      by_was true right false some =
          let before = read.all right in
          record { all = λ wrong. absurd (cc); not = λ _. inl (are_less parts word is ∙ ap (λ b. b && (length word == 0)) before.1 ∙ some) }
      by_was false wrong empty is_it = record { all = λ right. absurd (cc); not = λ _. refused_more parts word (read.not wrong) }

pub small_pushed : {E : Type 0} (entry : ℤ) (old new : ArrayVec ℤ) (put : Result (Unit {0}) E) → is_weight entry ≡ true → list_all is_weight old.items ≡ true
    → OnOk put (new.items ≡ old.items ++ entry ∷ []) → OnErr put (new ≡ old) → list_all is_weight new.items ≡ true
small_pushed entry old new (Ok u) small before more stays =
    ap (list_all is_weight) more ∙ list_all-append is_weight old.items (entry ∷ []) ∙ ap (λ b. b && (is_weight entry && true)) before ∙ ap (λ b. b && true) small
small_pushed entry old new (Err e) small before more stays = ap (λ (v : ArrayVec ℤ). list_all is_weight v.items) stays ∙ before

-- what stands where all of a text was read
pub read_all : (parts : List (List ℕ)) (text : List ℕ) (entries : List ℤ) (are square : Bool) → parts ≡ slice_split is_gap text
    → HasRead parts entries are → square ≡ (are && is_count (length entries)) → matrix_named text ≡ (if square then Some entries else None)
read_all parts text entries are square split read test = rw test (matrix_is parts text split ∙ by_was are refl)
  where
    found : Bool → Bool → List ℤ → Option (List ℤ)
    found are count es = if are && count then Some es else None

    not_many : (b : Bool) (es : List ℤ) → 25 < length es → found b (is_count (length es)) es ≡ None
    not_many b es many = grind (arith, common_steps, nat_tests)

    by_was : (was : Bool) → are ≡ was → found (are_entries parts) (is_count (length (entries_in parts))) (entries_in parts) ≡ found was (is_count (length entries)) entries
    by_was true right =
        let before = read.all right in
        ap (λ b. found b (is_count (length (entries_in parts))) (entries_in parts)) before.1 ∙ ap (λ (es : List ℤ). found true (is_count (length es)) es) (sym before.0)
    by_was false wrong = by_reason (read.not wrong)
      where
        by_reason : (are_entries parts ≡ false) ⊎ (25 < length (entries_in parts)) → found (are_entries parts) (is_count (length (entries_in parts))) (entries_in parts) ≡ None
        by_reason (inl none) = ap (λ b. found b (is_count (length (entries_in parts))) (entries_in parts)) none
        by_reason (inr many) = not_many (are_entries parts) (entries_in parts) many
