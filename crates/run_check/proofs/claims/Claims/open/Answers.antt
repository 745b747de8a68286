use Rattle.std.proofs.Common.{◌+◌, ℕ, Option, ◌∙◌, ap}
use Rattle.std.specs.Prelude.{is_some, if◌then◌else◌}
use Rattle.std.specs.HashMap.{hash_map_len}
use Rattle.run_check.proofs.ClaimLemmas.{opened}
use Rattle.run_check.proofs.TallyLemmas.{on_ok}
use Rattle.run_check.proofs.claims.Claims.open.Goals as goal

pub returns : goal.returns
returns c = λ claims are none.
    let old = c.args.self.now in
    let len = c.in-Ok.ensures.len ∙ ap (λ (o : Option ℕ). hash_map_len old.by_key + (if is_some o then 0 else 1)) (c.in-Ok.ensures.old ∙ are.by_key c.args.key ∙ none) in
    on_ok c.add-2.result (rw c.alone.ensures at c.add-2.ensures)
    (opened old (record { by_key = c.insert.new.self; at_node = c.add.new.self; of_worker = c.add-2.new.self }) claims c.args.key c.args.worker are none c.in-Ok.ensures.updates.0 len c.in_ok-add.ensures)
