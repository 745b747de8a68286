use Rattle.std.proofs.Common.{◌≡◌, ℕ, true, false, Bool, List, [], ◌∷◌, ◌++◌, is_ok, if◌then◌else◌, ap, sym, subst, ◌∙◌}
use Rattle.core_tests.specs.declared.turns.Note.{Note}
use Rattle.turn_lock.specs.Entries.{AddsOnly}
use Rattle.turn_lock.proofs.CallerLemmas.{adds_none, adds_one}
use Rattle.core_tests.proofs.turns.take_turns.Goals as goal

-- a push that may fail
pushes : (n : ℕ) (note : Note) (before after : List Note) (ok : Bool) → note.by ≡ n → after ≡ (if ok then before ++ note ∷ [] else before) → AddsOnly (λ e. e.by) n before after
pushes n note before after true mine is = subst (AddsOnly (λ e. e.by) n before) (sym is) (adds_one (λ e. e.by) n before note mine)
pushes n note before after false mine is = subst (AddsOnly (λ e. e.by) n before) (sym is) (adds_none (λ e. e.by) n before)

pub leave-seat-requires-clause-added : goal.leave-seat-requires-clause-added
leave-seat-requires-clause-added g c = rw c.enter-value.ensures.turn
    (pushes c.meet-seat.result.number (record { by = c.number-number.result; turn = c.loop-turn.turn }) _ _ (is_ok c.push.result) (c.number-number.ensures.number ∙ (sym (ap (λ s. s.number) c.loop-turn.invariant) ∙ sym (ap (λ s. s.number) c.meet-seat.ensures))) c.push.ensures.items)
