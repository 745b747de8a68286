use Rattle.std.proofs.Common.{◌≡◌, ◌++◌, drop}
use Rattle.serve_text.specs.InfoText.{node_lines}
use Rattle.serve_text.proofs.info.add_nodes.Given as goal

-- with the lines that are left the text is whole
abbrev pub invariant-loop-i : goal.invariant-loop-i
invariant-loop-i l = l.text.items ++ node_lines l.i (drop l.i l.graph) ≡ l.fn.text.items ++ node_lines 0 l.graph
