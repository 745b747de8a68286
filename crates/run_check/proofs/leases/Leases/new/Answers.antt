use Rattle.std.proofs.Common.{refl, ap}
use Rattle.std.specs.Map.{lookup}
use Rattle.inst_table.specs.Places.{same_place}
use Rattle.run_check.proofs.LeaseLemmas.{none_lent}
use Rattle.run_check.proofs.leases.Leases.new.Goals as goal

pub returns : goal.returns
returns c = λ ps. none_lent (record { out = c.new.result; held = c.new-2.result; total = 0 }) ps (λ p. ap (lookup (same_place p)) c.new.ensures.empty) c.new-2.ensures refl
