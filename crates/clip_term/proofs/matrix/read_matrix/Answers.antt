use Rattle.std.proofs.Common.{◌≡◌, ◌∙◌, ℕ, List, [], ◌∷◌, ◌++◌, map, sym, ap, rules, tests, Some, None, Bool, is_some, refl, w32}
use Rattle.std.specs.Prelude.{◌&&◌, ◌||◌, ◌==◌, if◌then◌else◌}
use Rattle.std.proofs.lemmas.Iterator.Consumers.{YieldsList-end}
use Rattle.std.proofs.lemmas.Iterator.Splits.{YieldsList-from_slice_split}
use Rattle.std.proofs.lemmas.List.{map-append}
use Rattle.std.proofs.lemmas.Int.{to_z-of_z}
use Rattle.clip_term.specs.Filters.{is_gap, entry_of, matrix_named}
use Rattle.clip_term.proofs.MatrixLemmas.{read_pushed, small_pushed, read_none, read_all}
use Rattle.std.specs.List.{slice_split}
use Rattle.clip_term.proofs.matrix.read_matrix.Goals.{After-is_square}
use Rattle.clip_term.proofs.matrix.read_matrix.Goals as goal
use denote.Bor.{Bor}
use mir.Val.{SFits}

pub loop-word-preserved-in-Some-entry_of : goal.loop-word-preserved-in-Some-entry_of
loop-word-preserved-in-Some-entry_of c =
    let entry = c.in-Some-entry_of.entry in
    let word = c.in-Some.word.now in
    let parts : List (List ℕ) = map (λ (p : Bor (List ℕ)). p.now) c.loop-word.yielded in
    let more : map (λ (p : Bor (List ℕ)). p.now) (c.loop-word.yielded ++ c.in-Some.word ∷ []) ≡ parts ++ word ∷ [] = map-append _ c.loop-word.yielded (c.in-Some.word ∷ []) in
    let is : entry_of word ≡ Some entry = sym c.entry_of.ensures.entry ∙ c.in-Some-entry_of.is in
    let before = c.loop-word.invariant in
    let fits : SFits w32 entry = search rules in
    let put = rw (to_z-of_z w32 entry fits) at c.try_push.ensures.ok in
    rw more (rw c.is_ok-are_entries.ensures.value (record {
      read = read_pushed parts word c.loop-word.entries.items c.loop-word.are_entries before.read entry c.loop-word.entries c.try_push.new.self c.try_push.result is refl put c.try_push.ensures.err c.try_push.ensures.full;
      small = small_pushed entry c.loop-word.entries c.try_push.new.self c.try_push.result c.in-Some-entry_of.ensures.small before.small put c.try_push.ensures.err;
    }))

pub loop-word-preserved : goal.loop-word-preserved
loop-word-preserved c =
    let word = c.in-Some.word.now in
    let parts : List (List ℕ) = map (λ (p : Bor (List ℕ)). p.now) c.loop-word.yielded in
    let more : map (λ (p : Bor (List ℕ)). p.now) (c.loop-word.yielded ++ c.in-Some.word ∷ []) ≡ parts ++ word ∷ [] = map-append _ c.loop-word.yielded (c.in-Some.word ∷ []) in
    let none : entry_of word ≡ None = sym c.entry_of.ensures.entry ∙ c.in-None-entry_of.is in
    let before = c.loop-word.invariant in
    rw more (rw c.is_empty-are_entries.ensures (record { read = read_none parts word c.loop-word.entries.items c.loop-word.are_entries before.read none; small = before.small }))

-- what the text writes, once all of it was read
whole : (c : After-is_square) → matrix_named c.args.text.now ≡ (if c.is_square.result then Some c.loop-word.entries.items else None)
whole c =
    let end = YieldsList-end
    (YieldsList-from_slice_split _ is_gap c.as_bytes.result.now (cc) (cc) (cc) (λ x b q k. search (rules, tests)))
    c.loop-word.yielded _ c.loop-word.yielded_by _ _ c.in-None.is c.next.ensures.steps in
    read_all (map (λ (p : Bor (List ℕ)). p.now) c.loop-word.yielded) c.args.text.now c.loop-word.entries.items c.loop-word.are_entries c.is_square.result
    (end.0 ∙ ap (slice_split is_gap) c.as_bytes.ensures.value) c.loop-word.invariant.read
    (c.is_square.ensures ∙ ap (λ n. c.loop-word.are_entries && (n == 9 || n == 25)) c.len-count.ensures.value)

pub returns-then-not-is_square-clause-bad_text : goal.returns-then-not-is_square-clause-bad_text
returns-then-not-is_square-clause-bad_text c =
    let at = goal.at.returns-then-not-is_square-clause-bad_text c in
    λ _. whole at.After-is_square ∙ ap (λ (b : Bool). if b then Some c.loop-word.entries.items else None) c.if-not-is_square.true

pub returns-in-Ok-clause-read : goal.returns-in-Ok-clause-read
returns-in-Ok-clause-read c =
    let at = goal.at.returns-in-Ok-clause-read c in
    let items = c.from_vec.ensures ∙ c.in-Ok.ensures.items_if_clones_equal (λ x y is. is) ∙ c.as_slice.ensures.value in
    whole at.After-is_square ∙ ap (λ (b : Bool). if b then Some c.loop-word.entries.items else None) c.if-not-is_square.false ∙ ap Some (sym items)

pub returns-in-Err-clause-memory : goal.returns-in-Err-clause-memory
returns-in-Err-clause-memory c =
    let at = goal.at.returns-in-Err-clause-memory c in
    λ _. ap is_some (whole at.After-is_square ∙ ap (λ (b : Bool). if b then Some c.loop-word.entries.items else None) c.if-not-is_square.false)
