use Rattle.std.proofs.Common.{◌+◌, ℕ, Option, sym, ◌∙◌, ap}
use Rattle.std.specs.Prelude.{is_some, if◌then◌else◌}
use Rattle.std.specs.HashMap.{hash_map_len}
use Rattle.run_check.proofs.ClaimLemmas.{closed}
use Rattle.run_check.proofs.TallyLemmas.{on_ok}
use Rattle.run_check.proofs.claims.Claims.close.Goals as goal

pub returns : goal.returns
returns c = λ claims are there.
    let old = c.args.self.now in
    let len = ap (λ (o : Option ℕ). hash_map_len c.swap_remove.new.self + (if is_some o then 1 else 0)) (sym (c.swap_remove.ensures.value ∙ are.by_key c.args.key ∙ there)) ∙ c.swap_remove.ensures.len in
    on_ok c.sub-2.result (rw c.alone.ensures at c.sub-2.ensures)
    (closed old (record { by_key = c.swap_remove.new.self; at_node = c.sub.new.self; of_worker = c.sub-2.new.self }) claims c.args.key c.args.worker are there c.swap_remove.ensures.updates.0 len c.in_ok-sub.ensures)
