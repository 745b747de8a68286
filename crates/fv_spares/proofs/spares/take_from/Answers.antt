use Rattle.std.proofs.Common.{◌≡◌, ◌+◌, ◌-◌, ◌<◌, rules, arith, length, sym, ap, ◌∙◌}
use Rattle.std.proofs.lemmas.List.{get_or_read}
use Rattle.fv_spares.specs.Spares.{Serves}
use Rattle.fv_spares.proofs.SpareLemmas.{hands_out}
use Rattle.fv_spares.proofs.spares.take_from.Goals as goal

pub returns-then-serves : goal.returns-then-serves
returns-then-serves c =
    let i = c.loop-at.invariant in
    let pieces = c.loop-at.pieces.items in
    let at = c.loop-at.at - 1 in
    let lt : at < length pieces = omega (arith, i.within, c.loop-at-test.true) in
    let step : at + 1 ≡ c.loop-at.at = omega (arith, c.loop-at-test.true) in
    let same : c.index.result.now ≡ c.remove.result = get_or_read pieces at _ lt c.index.ensures c.remove.result ∙ sym c.remove.ensures.value in
    let size : length c.deref.result.now ≡ length c.remove.result.items =
    ap (λ l. length l) c.deref.ensures.value ∙ ap (λ p. length p.items) same in
    let h : Serves c.args.size (length c.deref.result.now) = search rules in
    rw (← i.kept) (hands_out c.args.size pieces c.remove.new.self.items at c.remove.result lt c.remove.ensures.value c.remove.ensures.by_index.2 (omega (arith, size, h.0), omega (arith, size, h.1)) (rw step i.none))
