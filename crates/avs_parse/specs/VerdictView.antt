-- What the code's verdict means.
use Rattle.avs_tree.specs.View.{script_view}
use Rattle.avs_tree.specs.Place as p
use Rattle.avs_parse.specs.declared.machine.Verdict.{Verdict}
use Rattle.avs_parse.specs.declared.machine.Verdict.TheVariants as v

abbrev pub verdict_view : Verdict → p.Verdict
verdict_view (v.Accepts script) = p.accepts (script_view script)
verdict_view (v.Stops left) = p.stops left
verdict_view (v.TooDeep left) = p.too_deep left
