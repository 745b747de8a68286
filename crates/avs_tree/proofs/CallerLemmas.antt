-- What the proofs of other crates cite of the lemmas on the machine.
pub use Rattle.avs_tree.proofs.OneToken.{same_advance}
pub use Rattle.avs_tree.proofs.Places.{exact, accepted}
pub use Rattle.avs_tree.proofs.OnePlace.{one_stop, one_deep, never_both}
pub use Rattle.avs_tree.proofs.OneTree.{one_tree}
pub use Rattle.avs_tree.proofs.Ends.{end_is_told}
pub use Rattle.avs_tree.proofs.SizeLemmas.{script_fits, kind_shorter, block_shorter, functions_shorter, script_shorter}
