use Rattle.fv_plane.proofs.BytesLemmas.{whole_none, two_whole}
use Rattle.fv_plane.proofs.builder.plain_chroma.Goals as goal

pub returns-then-planes-eq1-clause-whole : goal.returns-then-planes-eq1-clause-whole
returns-then-planes-eq1-clause-whole c = λ p. whole_none c.args.shape

pub returns-clause-whole : goal.returns-clause-whole
returns-clause-whole c = two_whole c.args.shape _ _ c.in_ok-u.ensures.whole c.in_ok-v.ensures.whole
