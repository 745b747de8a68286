use Rattle.run_text.proofs.ExampleLemmas.{first_row, second_row, third_row}
use Rattle.run_text.proofs.laws.examples.Goals as goal

pub returns-clause-whole : goal.returns-clause-whole
returns-clause-whole c = first_row

pub returns-clause-without : goal.returns-clause-without
returns-clause-without c = second_row

pub returns-clause-small : goal.returns-clause-small
returns-clause-small c = third_row
