use Rattle.std.proofs.Common.{sym, subst}
use Rattle.std.specs.Prelude.{Option, IfSome}
use Rattle.y4m_stream.specs.Head.{Colourspace}
use Rattle.y4m_stream.proofs.ColourLemmas.{HasDepth, named_legal}
use Rattle.y4m_stream.proofs.colourspace.colourspace_named.Goals as goal

pub returns-clause-legal : goal.returns-clause-legal
returns-clause-legal c = subst (λ (r : Option Colourspace). IfSome r HasDepth) (sym c.find_named.ensures) (named_legal c.args.name.now)
