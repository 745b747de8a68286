-- The pieces fit.
use Rattle.std.proofs.Common.{ℕ, ◌≤◌, length, sym, subst, arith}
use Rattle.std.proofs.lemmas.List.{length-append}
use Rattle.serve_text.proofs.FormatLemmas.{short_name}
use Rattle.serve_text.proofs.info.clip_line.Goals as goal

pub joined-requires : goal.joined-requires
joined-requires c =
    let name : length c.format_name.result.now ≤ 9 = subst (λ text. length text ≤ 9) (sym c.format_name.ensures) (short_name c.args.info.now.shape) in
    omega (arith, name, length-append {A = ℕ})
