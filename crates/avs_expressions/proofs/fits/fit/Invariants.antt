use Rattle.std.proofs.Common.{◌≡◌, map, drop}
use Rattle.avs_values.specs.Views.{signature_view}
use Rattle.avs_meaning.specs.Expressions as m
use Rattle.avs_expressions.proofs.fits.fit.Given as goal

abbrev pub invariant-loop-k : goal.invariant-loop-k
invariant-loop-k l = m.fit l.k (map signature_view (drop l.k l.signatures)) l.args ≡ m.fit 0 (map signature_view l.signatures) l.args
