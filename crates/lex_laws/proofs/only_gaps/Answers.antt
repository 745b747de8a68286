use Rattle.lex_laws.proofs.GapLemmas.{only_gaps, end_is_the_end, only_gaps_before_fault}
use Rattle.lex_laws.proofs.only_gaps.Goals as goal

pub returns : goal.returns
returns c = record { tokens = only_gaps; ends = end_is_the_end; fault = only_gaps_before_fault }
