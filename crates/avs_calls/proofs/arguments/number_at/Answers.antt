use Rattle.std.proofs.Common.{arith, sym}
use Rattle.std.proofs.lemmas.Grind.{common_steps}
use Rattle.std.proofs.lemmas.Int.{to_z-of_z}
use Rattle.avs_calls.proofs.NumberLemmas.{fits_at}
use Rattle.avs_calls.proofs.arguments.number_at.Goals as goal

pub returns-in-Some : goal.returns-in-Some
returns-in-Some c =
    let fits = fits_at c.args.values.now c.args.place c.in-Some.n c.requires.fit (sym c.in-Some.ensures) in
    grind (arith, common_steps, to_z-of_z, fits)
