-- The source goes back, and then on.
use Rattle.std.proofs.Common.{◌≡◌, Err, rules}
use Rattle.seq_source.specs.Faults.{FaultShows}
use Rattle.seq_source.proofs.KeepingLemmas.{and_then, answer_shows}
use Rattle.seq_source.proofs.reading.approach.Goals as goal

pub returns-clause-keeps : goal.returns-clause-keeps
returns-clause-keeps g c = and_then g.S.Source c.args.source.now c.go_back.new.source c.go_on.new.source c.in_ok-place.ensures.keeps c.go_on.ensures.keeps

pub returns-clause-fault : goal.returns-clause-fault
returns-clause-fault g c = answer_shows g.S.Source c.go_on.result c.args.source.now c.go_back.new.source c.go_on.new.source c.in_ok-place.ensures.keeps (c.in_ok-place.ensures.steady (λ e. (let none : ⊥ = cc e in none))) c.args.n c.args.end c.go_on.ensures.fault

pub returns-in_err-place-clause-fault : goal.returns-in_err-place-clause-fault
returns-in_err-place-clause-fault g c =
    let fact : FaultShows g.S.Source c.args.source.now c.go_back.new.source c.args.n c.args.end c.in_err-place.field-0.0 = c.in_err-place.ensures.fault c.args.n c.args.end in
    let is : c.from_residual.result ≡ Err c.in_err-place.field-0.0 = search rules in
    rw is fact
