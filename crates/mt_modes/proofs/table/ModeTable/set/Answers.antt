use Rattle.std.proofs.Common.{◌≡◌, ◌∙◌, ℕ, List, sym, ap, rules, true, w32}
use Rattle.std.specs.Prelude.{ℤ, nat_eq}
use Rattle.std.specs.Map.{lookup}
use Rattle.clip_term.specs.Filters.{IsMode}
use Rattle.mt_modes.specs.Modes.{is_mode}
use Rattle.mt_modes.proofs.RuleLemmas.{lookup-insert, mode_is, modes_kept}
use Rattle.mt_modes.proofs.table.ModeTable.set.Goals as goal
use Rattle.mt_modes.proofs.table.ModeTable.set.Goals.{in-Ok, in-Err}
use mir.Val.{to_z, of_z}

pub invariant_of-self-2 : goal.invariant_of-self-2
invariant_of-self-2 c =
    let z : ℤ = to_z w32 (of_z w32 c.args.mode) in
    let passed : is_mode z ≡ true = search rules in
    let is : IsMode c.unsigned_abs-mode.result = rw c.unsigned_abs-mode.ensures.value (mode_is z passed) in
    let old : List (ℕ × ℕ) = c.self.inside.chosen.entries in
    let key = c.number.result in
    let value = c.unsigned_abs-mode.result in
    elim c.match-insert.branch [
      | in-Ok w ↦ record {
        chosen = λ number mode e.
            modes_kept (nat_eq number key) value mode (lookup (nat_eq number) old) (sym (lookup-insert key value number old) ∙ ap (lookup (nat_eq number)) (sym w.in-Ok.ensures.entries) ∙ e) is (c.self.invariant.chosen number mode);
        default = c.self.invariant.default;
      }
      | in-Err w ↦ record {
        chosen = λ number mode e. c.self.invariant.chosen number mode (ap (lookup (nat_eq number)) (sym w.in-Err.ensures.err) ∙ e);
        default = c.self.invariant.default;
      }
    ]
