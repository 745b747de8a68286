use Rattle.std.proofs.Common.{length, ap, ◌∙◌, arith}
use Rattle.std.specs.List.{position_or_len}
use Rattle.frame_cache.specs.Cached.{same_key}
use Rattle.serve_core.proofs.Places.{there}
use Rattle.frame_cache.proofs.CallerLemmas.{remove_is}
use Rattle.serve_core.proofs.claims.close.Goals as goal

pub remove-requires : goal.remove-requires
remove-requires c =
    let at = c.index_of-at.ensures ∙ ap (position_or_len (λ e. same_key c.args.key e.0)) c.deref.ensures.value in
    let h = there (same_key c.args.key) c.args.claims.now.items c.index_of-at.result at c.requires in
    omega (arith, h, ap length c.deref.ensures.value, c.deref.ensures.len)

pub returns : goal.returns
returns c =
    let at = c.index_of-at.ensures ∙ ap (position_or_len (λ e. same_key c.args.key e.0)) c.deref.ensures.value in
    c.remove.ensures.items ∙ remove_is c.args.key c.args.claims.now.items c.index_of-at.result at (there (same_key c.args.key) c.args.claims.now.items c.index_of-at.result at c.requires)
