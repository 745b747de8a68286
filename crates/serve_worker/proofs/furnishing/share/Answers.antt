-- A source, or a filter.
use Rattle.std.proofs.Common.{◌∷◌, [], ap, sym}
use Rattle.std.specs.Option.{option_map}
use Rattle.inst_table.specs.declared.place.Slot.TheVariants.{Free}
use Rattle.inst_table.specs.Places.{shared_place}
use Rattle.clip_term.specs.Terms.{act_of, SourcePart}
use Rattle.serve_worker.proofs.FurnishingLemmas.{moved_kept, moved_leases, moved_adds, put_kept, put_leases, filter_adds}
use Rattle.serve_worker.proofs.furnishing.share.Goals as goal

pub returns-in-Some-clause-ok : goal.returns-in-Some-clause-ok
returns-in-Some-clause-ok g c = moved_adds c.args.sources.now.items c.move_last.new.sources.items c.args.table.now c.move_last.new.table c.args.node c.move_last.result (act_of c.args.op.now) _ (sym c.in-Some.ensures) c.requires.next c.move_last.ensures.ok

pub returns-in-Some-clause-kept : goal.returns-in-Some-clause-kept
returns-in-Some-clause-kept g c = moved_kept c.args.sources.now.items c.move_last.new.sources.items c.args.table.now c.move_last.new.table c.args.node c.move_last.result c.move_last.ensures.ok c.move_last.ensures.err c.move_last.ensures.table

pub returns-in-Some-clause-leases : goal.returns-in-Some-clause-leases
returns-in-Some-clause-leases g c = moved_leases c.args.sources.now.items c.move_last.new.sources.items c.args.table.now c.move_last.new.table c.args.node c.move_last.result c.move_last.ensures.ok c.move_last.ensures.table

pub returns-in-None : goal.returns-in-None
returns-in-None g c = record {
  ok = filter_adds c.args.sources.now.items c.args.table.now c.add_filter.new.table (act_of c.args.op.now) (λ x. (shared_place c.args.node, Free x) ∷ []) c.add_filter.result (ap (option_map (λ (p : SourcePart). p.info)) (sym c.in-None.ensures)) c.add_filter.ensures.ok;
  kept = put_kept c.args.sources.now.items c.args.table.now c.add_filter.new.table (shared_place c.args.node) (act_of c.args.op.now) c.add_filter.result c.add_filter.ensures.ok c.add_filter.ensures.err;
  leases = put_leases c.args.sources.now.items c.args.table.now c.add_filter.new.table (shared_place c.args.node) (act_of c.args.op.now) c.add_filter.result c.add_filter.ensures.ok c.add_filter.ensures.err;
}
