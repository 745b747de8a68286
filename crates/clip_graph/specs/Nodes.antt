-- The plan that the nodes of a graph are.
use Rattle.std.specs.Prelude.{List, map}
use Rattle.clip_term.specs.Terms.{act_of}
use Rattle.clip_graph.specs.declared.node.Node.{Node}
use Rattle.clip_graph.specs.Plan.{Application}

abbrev pub application_of : Node → Application
application_of node = record { act = act_of node.op; inputs = node.inputs.items; info = node.info; mode = node.mode; depth = node.depth }

abbrev pub plan_of : List Node → List Application
plan_of nodes = map application_of nodes
