use Rattle.std.proofs.Common.{IsSome, sym, ◌∙◌, subst}
use Rattle.inst_table.specs.Places.{same_place, slot_at}
use Rattle.inst_table.proofs.MapLemmas.{insert_entry-there}
use Rattle.inst_table.proofs.table.InstTable.replace.Goals as goal

pub returns-clause-after : goal.returns-clause-after
returns-clause-after g c =
    let there = subst (λ v. IsSome (slot_at c.args.place v)) (sym c.self.view_is) c.requires in
    rw (← c.self.view_is) (c.in-Ok.ensures.entries ∙ insert_entry-there same_place c.args.place c.args.slot c.self.inside.places.entries there)
