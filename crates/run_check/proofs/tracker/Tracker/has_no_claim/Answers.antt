use Rattle.run_check.proofs.tracker.Tracker.has_no_claim.Goals as goal

pub returns : goal.returns
returns c = λ m s h. c.is_empty.ensures s.claims h.claims
