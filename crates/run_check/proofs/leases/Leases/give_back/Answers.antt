use Rattle.run_check.proofs.LeaseLemmas.{back}
use Rattle.run_check.proofs.TallyLemmas.{on_ok}
use Rattle.std.proofs.Common.{◌≡◌, ◌-◌, arith}
use Rattle.run_check.proofs.leases.Leases.give_back.Goals as goal

pub returns : goal.returns
returns c = λ places are is.
    let old = c.args.self.now in
    let total : c.saturating_sub-self.result ≡ old.total - 1 = omega arith in
    on_ok c.sub.result (rw c.alone.ensures at c.sub.ensures)
    (λ held. back old (record { out = c.swap_remove.new.self; held = c.sub.new.self; total = c.saturating_sub-self.result }) places c.args.place c.args.worker are is c.swap_remove.ensures.updates.0 held total)
