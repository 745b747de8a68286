use Rattle.avs_lex.proofs.NestedLemmas.{nested_comment_ends}
use Rattle.avs_lex.proofs.laws.nested_comments_end.Goals as goal

pub returns : goal.returns
returns c = nested_comment_ends
