use Rattle.std.proofs.Common.{Some, arith, ap, sym, ◌∙◌}
use Rattle.fv_plane.specs.Info.{Rate}
use Rattle.y4m_stream.proofs.GcdLemmas.{reduced, lowest_is, default_rate}
use Rattle.y4m_stream.proofs.numbers.lowest.Goals as goal

pub returns-in-0-eq0-clause-rate : goal.returns-in-0-eq0-clause-rate
returns-in-0-eq0-clause-rate c = default_rate

pub returns-in_default-clause-lowest : goal.returns-in_default-clause-lowest
returns-in_default-clause-lowest c =
    ap (λ (rate : Rate). Some (rate.num, rate.den)) c.lowest-num.ensures ∙ sym (lowest_is c.args.num c.args.den (omega (arith, c.in_default.is-0.1)) (omega (arith, c.in_default.is-1.1)))

pub returns-in_default-clause-rate : goal.returns-in_default-clause-rate
returns-in_default-clause-rate c =
    rw (ap (λ (rate : Rate). rate.num) c.lowest-num.ensures, ap (λ (rate : Rate). rate.den) c.lowest-num.ensures)
    (reduced c.args.num c.args.den (omega (arith, c.in_default.is-0.1)) (omega (arith, c.in_default.is-1.1)) c.requires.num c.requires.den)
