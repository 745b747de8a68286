-- How a statement of the code ends.
use Rattle.avs_meaning.specs.Statements as m
use Rattle.avs_statements.specs.declared.flow.Flow.{Flow}
use Rattle.avs_statements.specs.declared.flow.Flow.TheVariants.{On, Back}
use Rattle.avs_statements.specs.declared.flow.Turn.{Turn}
use Rattle.avs_statements.specs.declared.flow.Turn.TheVariants.{Next, Done}

abbrev pub flow_view : Flow → m.Flow
flow_view (On x) = m.on x
flow_view (Back x) = m.back x

abbrev pub turn_view : Turn → m.Turn
turn_view (Next n) = m.goes_to n
turn_view (Done flow) = m.stops (flow_view flow)
