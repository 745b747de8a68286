use Rattle.std.proofs.Common.{rules, ◌≡◌, ◌+◌, ◌<◌, ℕ, length, arith}
use Rattle.std.proofs.lemmas.List.{length-map, take_all}
use Rattle.std.proofs.lemmas.List.Elements.{All-get_or}
use Rattle.clip_graph.specs.declared.node.Node.{Node}
use Rattle.clip_graph.specs.declared.graph.TheConstants.Graph.{MAX_NODES}
use Rattle.clip_graph.specs.Nodes.{application_of, plan_of}
use Rattle.std.specs.List.{All}
use Rattle.clip_term.specs.Terms.{act_of}
use Rattle.clip_graph.specs.Plan.{IsApplication, IsCounted, sources_in}
use Rattle.clip_graph.proofs.GrowingLemmas.{IsPlan-nodes}
use Rattle.clip_graph.proofs.graph.Graph.add.Goals as goal

pub invariant_of-self-2 : goal.invariant_of-self-2
invariant_of-self-2 c =
    let old = c.self.inside.nodes.items in
    let node : Node = record { op = c.args.op; inputs = c.in-Ok.inputs; info = c.args.info; mode = c.args.mode; depth = c.deepest-depth.result + 1 } in
    let copied : c.in-Ok.inputs.items ≡ c.args.inputs.now = search rules in
    let places : All (λ i. i < length (plan_of old)) c.args.inputs.now = search rules in
    let counted : IsCounted (act_of c.args.op) (sources_in (plan_of old)) c.args.mode = search rules in
    let room : length old < MAX_NODES = omega (arith, c.self.invariant.0.few, length-map old application_of) in
    let last : IsApplication (plan_of old) (length (plan_of old)) (application_of node) = record {
      lower = rw copied (λ j there. All-get_or (λ (i : ℕ). i < length (plan_of old)) c.args.inputs.now j 0 there places);
      sound = search rules;
      told = search rules;
      mode = c.requires.mode;
      counted = rw (take_all (length (plan_of old)) (plan_of old) (omega arith)) counted;
      depth = search rules;
      shallow = omega arith;
    } in
    search (rules, IsPlan-nodes old c.push_reserved.new.self.items node c.self.inside.sources (search rules) c.self.invariant.0 room c.self.invariant.1 last)
