use Rattle.std.proofs.Common.{◌≡◌, drop}
use Rattle.clip_reference.proofs.InfoLemmas.{told, joined}
use Rattle.clip_reference.proofs.reference.infos_of.Given as goal

abbrev pub invariant-loop-term : goal.invariant-loop-term
invariant-loop-term l = joined l.infos.items (told (drop l.term-index l.terms)) ≡ told l.terms
