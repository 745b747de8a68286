use Rattle.std.proofs.Common.{◌≡◌, None, sym, ◌∙◌, subst}
use Rattle.inst_table.specs.declared.place.Slot.TheVariants.{Free}
use Rattle.inst_table.specs.Places.{same_place, place_at, slot_at}
use Rattle.inst_table.proofs.MapLemmas.{insert_entry-new}
use Rattle.inst_table.proofs.table.InstTable.add.Goals as goal

pub unreachable-requires : goal.unreachable-requires
unreachable-requires g c =
    let place = place_at c.args.node c.args.instance c.args.shared in
    let none = subst (λ v. slot_at place v ≡ None) (sym c.self.view_is) (c.requires.free c.args.shared) in
    c.in_default.not-None (c.in-Ok.ensures.old ∙ none)

pub returns-in-Ok-clause-ok : goal.returns-in-Ok-clause-ok
returns-in-Ok-clause-ok g c =
    let place = place_at c.args.node c.args.instance c.args.shared in
    let none = subst (λ v. slot_at place v ≡ None) (sym c.self.view_is) (c.requires.free c.args.shared) in
    rw (← c.self.view_is) (c.in-Ok.ensures.entries ∙ insert_entry-new same_place place (Free c.args.value) c.self.inside.places.entries none)
