-- The texts so far are those of the words so far, and each is UTF-8.
use Rattle.std.proofs.Common.{◌≡◌, ℕ, ◌<◌, map, take}
use Rattle.std.specs.Str.{IsUtf8}
use Rattle.std.specs.List.{slice_index_or}
use Rattle.command_line.specs.Command.{Text}
use Rattle.command_line.proofs.words.texts_in.Given as goal

abbrev pub invariant-loop-word : goal.invariant-loop-word
invariant-loop-word l = record {
  texts : map (λ text. text.now) l.texts.items ≡ take l.word-index l.words;
  utf8 : (k : ℕ) → k < l.word-index → (d : Text) → IsUtf8 (slice_index_or l.words k d);
}
