use Rattle.std.proofs.Common.{rules}
use Rattle.avs_eval.specs.OutsideBy.{outside_by}
use Rattle.avs_eval.proofs.DepthLemmas.{below_is}
use Rattle.avs_eval.proofs.depth.+run.Goals as goal

pub body_of-requires : goal.body_of-requires
body_of-requires g t c = record {
  may = record {
    callable = λ some alloc s h here body short. search rules;
    runs = λ some alloc s s' h h' here body r post told. rw (below_is (outside_by g.H.Host.clips g.H.Host.scripts) c.args.depth here.now _ some) (search rules);
    keeps = λ some alloc s s' h h' here body r post. search rules;
    works = λ some alloc s s' h h' here body r post. search rules;
  };
  short = c.requires.short;
}
