use Rattle.std.proofs.Common.{◌≡◌, All, map, take}
use Rattle.fv_plane.specs.Picture.{IsPicture}
use Rattle.clip_term.specs.declared.term.Term.{out-Term}
use Rattle.clip_term.specs.Terms.{term_of, clips, asked_picture, term_pictures}
use Rattle.clip_reference.proofs.SizeLemmas.{ops_in}
use Rattle.clip_reference.proofs.reference.+reference_frame.Given as goal

abbrev pub decreases-reference_frame : goal.decreases-reference_frame
decreases-reference_frame l = ops_in l.term.now

abbrev pub invariant-loop-origin : goal.invariant-loop-origin
invariant-loop-origin l = record {
  made : l.frames.items ≡ map (asked_picture (term_pictures l.book (clips (map term_of (out-Term l.term).inputs.items)))) (take l.origin-index l.origin-items);
  sizes : All IsPicture l.frames.items;
}
