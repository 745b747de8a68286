-- Each frame is one of an earlier node, and the frames are collected in their order.
use Rattle.std.proofs.Common.{◌∙◌, ℕ, ◌<◌, sym, ap, subst, arith}
use Rattle.clip_graph.specs.Plan.{Application, is_source, input_keys, AreOfKeys}
use Rattle.clip_frames.proofs.CallerLemmas.{input_below, not_source}
use Rattle.filter_tests.proofs.FrameLemmas.{of_keys_more, of_keys_all}
use Rattle.filter_tests.proofs.compared.+frame_of.Goals as goal

pub frame_of-requires : goal.frame_of-requires
frame_of-requires g t c κs within =
    let below = input_below c.args.graph.now c.args.key c.loop-input.i c.in-Some.input c.len.ensures.plan c.requires.node c.in-Some.ensures in
    let lower = below.node in
    let inside = c.requires.node in
    (subst (λ (m : ℕ). c.in-Some.input.node < m) c.decreases lower, (within, record { node = omega arith; number = below.number }))

pub loop-input-preserved : goal.loop-input-preserved
loop-input-preserved g t c = record {
  few = (let few = c.loop-input.invariant.few in omega arith);
  frames = of_keys_more c.args.graph.now (input_keys c.args.graph.now c.args.key) c.loop-input.i c.in-Some.input c.loop-input.frames.items c.push.new.self.items c.in_ok-frame_of.field-0
      c.in-Some.ensures c.in_ok-push.ensures.items c.in_ok-frame_of.ensures c.loop-input.invariant.frames;
}

pub make_frame-requires : goal.make_frame-requires
make_frame-requires g t c =
    let plan = c.args.graph.now in
    let keys = input_keys plan c.args.key in
    record {
      key = record { node = c.requires.node; number = c.requires.number };
      filter = sym (ap (λ (a : Application). is_source a.act) c.node-node.ensures) ∙ not_source c.node-node.result.now.op c.in_default.not-Source;
      shapes = subst (AreOfKeys plan keys) (sym c.deref.ensures.value) (of_keys_all plan keys c.loop-input.i c.loop-input.frames.items c.in_default-input_at.ensures c.loop-input.invariant.frames);
    }
