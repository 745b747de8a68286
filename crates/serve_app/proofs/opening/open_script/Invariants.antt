-- What is known of the files is what they tell.
use Rattle.std.specs.Prelude.{is_some}
use Rattle.serve_app.proofs.PickLemmas.{world_of}
use Rattle.serve_app.proofs.opening.open_script.Given as goal

abbrev pub ghosts-open_in : goal.ghosts-open_in
ghosts-open_in g a = record {
  told = is_some (g.H.HeldFiles.world a.files);
  world = world_of (g.H.HeldFiles.world a.files);
  given = g.H.HeldFiles.given a.files;
  borrow = g.H.HeldFiles.borrow a.files;
}
