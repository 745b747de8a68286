use Rattle.lex_laws.proofs.CaseReadLemmas.{case_keeps_tokens, case_keeps_faults, case_keeps_bytes}
use Rattle.lex_laws.proofs.case_is_not_read.Goals as goal

pub returns : goal.returns
returns c = record { tokens = case_keeps_tokens; faults = case_keeps_faults; bytes = case_keeps_bytes }
