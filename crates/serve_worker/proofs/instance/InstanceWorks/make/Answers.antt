-- A filter, or a source.
use Rattle.std.proofs.Common.{◌≡◌, Some, sym, ap, ◌∙◌, subst, arith, IfOk}
use Rattle.serve_core.specs.Sources.{opened_at}
use Rattle.serve_worker.specs.Instances.{feed_of, holds_of}
use Rattle.serve_core.specs.Works.{IsMade}
use Rattle.serve_worker.proofs.Reading.{made_with, of_source, made_of_source}
use Rattle.serve_worker.proofs.instance.InstanceWorks.make.Goals as goal

pub read-requires : goal.read-requires
read-requires g c =
    let holds : Some c.in-Source.source.index.info ≡ opened_at c.args.graph.now c.args.key.node = ap holds_of (sym c.in-Source.is) ∙ c.requires.source in
    let at = of_source c.args.graph.now c.args.key.node c.in-Source.source.index.info c.len.ensures.plan c.requires.key.node holds in
    let frames = ap (λ i. i.frames) at.info_is in
    omega (arith, frames, c.requires.key.number)

pub returns-in-Plain-clause-made : goal.returns-in-Plain-clause-made
returns-in-Plain-clause-made g c = made_with c.args.graph.now c.args.key c.args.inputs.now (feed_of g.S.Source c.args.self.now) c.filtered.result c.filtered.ensures.made

pub returns-in-Scratch-clause-made : goal.returns-in-Scratch-clause-made
returns-in-Scratch-clause-made g c = made_with c.args.graph.now c.args.key c.args.inputs.now (feed_of g.S.Source c.args.self.now) c.filtered-in-Scratch.result c.filtered-in-Scratch.ensures.made

pub returns-in-Source-clause-made : goal.returns-in-Source-clause-made
returns-in-Source-clause-made g c =
    let holds : Some c.in-Source.source.index.info ≡ opened_at c.args.graph.now c.args.key.node = ap holds_of (sym c.in-Source.is) ∙ c.requires.source in
    let at = of_source c.args.graph.now c.args.key.node c.in-Source.source.index.info c.len.ensures.plan c.requires.key.node holds in
    subst (λ o. IfOk c.read.result (IsMade c.args.graph.now c.args.key o c.args.inputs.now)) (ap (feed_of g.S.Source) (sym c.in-Source.is))
    (made_of_source g.S.Source c.args.graph.now c.args.key c.args.inputs.now c.in-Source.source c.read.result at c.read.ensures.frame c.read.ensures.shape c.read.ensures.whole)
