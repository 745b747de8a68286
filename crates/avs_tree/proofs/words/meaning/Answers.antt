use Rattle.std.proofs.Common.{◌≡◌, ◌∙◌, ℕ, ◌≤◌, ◌-◌, sym, ap, arith, List, [], ◌∷◌, length, take, drop, get_or, map, Some, true, false, Bor}
use Rattle.std.proofs.lemmas.List.{take_all}
use Rattle.std.specs.Str.{str_eq_ignore_ascii_case}
use Rattle.avs_lex.specs.Spelling.{Text}
use Rattle.avs_tree.specs.Lexeme.{meaning_in}
use Rattle.avs_tree.proofs.words.meaning.Goals as goal

found : {A : Type 0} (rows : List (Bor (List ℕ) × A)) (word : Text) (row : Bor (List ℕ) × A) → 1 ≤ length rows → row ≡ get_or rows 0 row
    → str_eq_ignore_ascii_case word row.0.now ≡ true → meaning_in (map (λ row. (row.0.now, row.1)) rows) word ≡ Some row.1
found [] word row some is same = absurd (omega arith)
found (first ∷ rows) word row some is same =
    let here : str_eq_ignore_ascii_case word first.0.now ≡ true = rw is at same in
    rw here (ap (λ x. Some x.1) (sym is))

next : {A : Type 0} (rows : List (Bor (List ℕ) × A)) (word : Text) (row : Bor (List ℕ) × A) → 1 ≤ length rows → row ≡ get_or rows 0 row
    → str_eq_ignore_ascii_case word row.0.now ≡ false → meaning_in (map (λ row. (row.0.now, row.1)) rows) word ≡ meaning_in (map (λ row. (row.0.now, row.1)) (take (length rows - 1) (drop 1 rows))) word
next [] word row some is other = absurd (omega arith)
next (first ∷ rows) word row some is other = let here : str_eq_ignore_ascii_case word first.0.now ≡ false = rw is at other in
    let rest : take (length (first ∷ rows) - 1) rows ≡ rows = take_all (length (first ∷ rows) - 1) rows (omega arith) in
    rw (here, rest)

pub returns-then-same_word : goal.returns-then-same_word
returns-then-same_word g c =
    let same = sym c.same_word.ensures ∙ c.if-same_word.true in
    sym (found c.loop-table.table.now c.args.word.now c.row-item.result c.in-len1-up.len_at_least c.row-item.is same) ∙ c.loop-table.invariant

pub loop-table-preserved : goal.loop-table-preserved
loop-table-preserved g c =
    let other = sym c.same_word.ensures ∙ c.if-same_word.false in
    sym (next c.loop-table.table.now c.args.word.now c.row-item.result c.in-len1-up.len_at_least c.row-item.is other) ∙ c.loop-table.invariant
