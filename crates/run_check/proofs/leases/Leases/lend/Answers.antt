use Rattle.run_check.proofs.LeaseLemmas.{lent}
use Rattle.run_check.proofs.TallyLemmas.{on_ok}
use Rattle.run_check.proofs.leases.Leases.lend.Goals as goal

pub returns : goal.returns
returns c = λ places are is.
    on_ok c.add.result (rw c.alone.ensures at c.add.ensures)
    (λ held. lent c.args.self.now (record { out = c.insert.new.self; held = c.add.new.self; total = c.in_ok-self.field-0 }) places c.args.place c.args.worker are is c.in-Ok.ensures.updates.0 held c.in_ok-self.ensures)
