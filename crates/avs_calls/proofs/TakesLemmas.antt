-- What takes clips is no source.
use Rattle.std.proofs.Common.{◌≡◌, refl, ℕ, [], true, rules}
use Rattle.clip_term.specs.Terms.{Act, source, plain, time, space, joined, soft, fields, choice}
use Rattle.avs_meaning.specs.Arguments.{takes}
use Rattle.avs_state.specs.Sources.{source_of}

pub takes_none : (act : Act) (n : ℕ) → takes act n ≡ true → source_of act ≡ []
takes_none (source name number info) n h = search rules
takes_none (plain info colour) n h = refl
takes_none (time op) n h = refl
takes_none (space op) n h = refl
takes_none (joined op) n h = refl
takes_none (soft op) n h = refl
takes_none (fields op) n h = refl
takes_none (choice op) n h = refl
