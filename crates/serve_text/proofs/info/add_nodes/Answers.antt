-- One more line, and at the end none is left.
use Rattle.std.proofs.Common.{◌≡◌, ◌∙◌, ◌++◌, ◌+◌, drop, ap, sym, arith}
use Rattle.std.proofs.lemmas.List.{append_assoc}
use Rattle.clip_graph.specs.Plan.{application_at}
use Rattle.serve_text.specs.InfoText.{node_line, node_lines}
use Rattle.serve_text.proofs.TextLemmas.{next_line, lines_end}
use Rattle.serve_text.proofs.info.add_nodes.Goals as goal

pub loop-i-preserved : goal.loop-i-preserved
loop-i-preserved c =
    let plan = c.args.graph.now in
    let i = c.loop-i.i in
    let rest = node_lines (i + 1) (drop (i + 1) plan) in
    let line : c.add_node.new.text.items ≡ c.loop-i.text.items ++ node_line i (application_at plan i) = c.in_ok-add_node.ensures ∙ ap (λ node. c.loop-i.text.items ++ node_line i node) c.node.ensures in
    ap (λ text. text ++ rest) line ∙ append_assoc c.loop-i.text.items (node_line i (application_at plan i)) rest
    ∙ ap (λ lines. c.loop-i.text.items ++ lines) (sym (next_line plan i (omega arith))) ∙ c.loop-i.invariant

pub returns : goal.returns
returns c = sym (lines_end c.args.graph.now c.loop-i.i c.loop-i.text.items (omega arith)) ∙ c.loop-i.invariant
