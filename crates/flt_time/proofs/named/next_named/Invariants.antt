use Rattle.std.proofs.Common.{take, ◌≤◌, ◌^◌}
use Rattle.std.specs.Prelude.{MatchOption, IfSome}
use Rattle.flt_time.specs.Named.{IsNext, NoneFrom}
use Rattle.flt_time.proofs.named.next_named.Given as goal

abbrev pub invariant-loop-frame : goal.invariant-loop-frame
invariant-loop-frame l =
    record {
      next : MatchOption l.next (NoneFrom (take l.frame-index l.frames) l.low) (λ f. IsNext (take l.frame-index l.frames) l.low f);
      small : IfSome l.next (λ f. f ≤ 2 ^ 31);
    }
