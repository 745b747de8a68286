-- The clip that was opened is listed with its source.
use Rattle.std.proofs.Common.{◌≡◌, ◌∙◌, ◌+◌, length, Ok, ap, sym, arith, rules}
use Rattle.std.specs.FinMap.{get}
use Rattle.avs_meaning.specs.State.{clip_in}
use Rattle.avs_files.proofs.OpenedLemmas.{opened_one, opened_more, length_more}
use Rattle.avs_files.proofs.host.FileHostHost.clip.Goals as goal

pub invariant_of-self-2 : goal.invariant_of-self-2
invariant_of-self-2 g c =
    let was = c.args.self.now in
    let told = g.W.Known.told in
    let world = g.W.Known.world in
    let source = g.H.Src.Source in
    let held : g.H.HeldFiles.given c.open_clip.new.files ≡ g.W.Known.given + length c.push_reserved-2.new.self.items
    = rw (c.push_reserved-2.ensures.items, c.reserve-2.ensures.items, length_more was.sources.items c.new.result)
    (omega (arith, c.in_ok-source.ensures.given, was.given)) in
    let same : c.in-Ok.own ≡ c.args.name.now = search rules in
    record {
      world = c.in_ok-source.ensures.world ∙ was.world;
      borrow = c.in_ok-source.ensures.borrow ∙ was.borrow;
      given = held;
      opened = rw (c.push_reserved.ensures.items, c.push_reserved-2.ensures.items, c.reserve.ensures.items, c.reserve-2.ensures.items)
          (opened_more source told world was.listed.items was.sources.items _ c.new.result was.opened
          (opened_one source told world _ c.new.result (g.H.HeldFiles.world was.files) was.world (search rules) (search rules)
          (λ w is. ap (λ name. clip_in (get w name)) same ∙ c.in_ok-source.ensures.told w is ∙ ap Ok (sym c.info-info.ensures.info)) (search rules)));
    }
