use Rattle.std.proofs.Common.{rules, ◌≡◌, List, Bool, ap, ◌∙◌}
use Rattle.std.specs.List.{list_all}
use Rattle.run_check.proofs.MirrorLemmas.{all_delivered}
use Rattle.run_check.proofs.tracker.Tracker.is_whole.Goals as goal

pub returns : goal.returns
returns c = λ m s h.
    let same : c.deref.result.now ≡ c.args.self.now.delivered.items = search rules in
    c.are_true.ensures ∙ ap (λ (l : List Bool). list_all (λ b. b) l) (same ∙ h.delivered) ∙ all_delivered s.frames
