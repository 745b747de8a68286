use Rattle.serve_app.proofs.BookLemmas.{means_something}
use Rattle.serve_app.proofs.laws.a_script_means_something.Goals as goal

pub returns : goal.returns
returns c = means_something
