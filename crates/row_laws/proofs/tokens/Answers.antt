use Rattle.row_laws.proofs.TokenRows.{token_rows, lex_fault_rows}
use Rattle.row_laws.proofs.tokens.Goals as goal

pub returns : goal.returns
returns c = record { tokens = token_rows; faults = lex_fault_rows }
