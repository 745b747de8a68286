use Rattle.std.proofs.Common.{◌≡◌, sym, subst, true}
use Rattle.std.specs.Prelude.{Option, IfSome}
use Rattle.fv_plane.specs.declared.format_names.Format.{Format}
use Rattle.fv_plane.specs.Format.{has_depth}
use Rattle.fv_plane.proofs.FormatNameLemmas.{named_legal}
use Rattle.fv_plane.proofs.format_names.format_named.Goals as goal

pub returns-clause-legal : goal.returns-clause-legal
returns-clause-legal c =
    subst (λ (r : Option Format). IfSome r (λ (f : Format). has_depth f.kind f.bits ≡ true)) (sym c.find_named.ensures) (named_legal c.args.text.now)
