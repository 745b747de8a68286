use Rattle.std.proofs.Common.{rules, string_bytes}
use Rattle.std.specs.Char.{encode_utf8}
use Rattle.std.specs.Str.Iter.{chars_rest}
use Rattle.std.proofs.lemmas.Slice.{pushed}
use Rattle.avs_values.proofs.CharacterLemmas.{one_back, one_pushed}
use Rattle.avs_values.proofs.texts.reversed.Goals as goal

pub loop-c-preserved : goal.loop-c-preserved
loop-c-preserved c = record {
  made = one_pushed (string_bytes c.push.new.self) c.loop-c.yielded c.in-Some.c (pushed (encode_utf8 c.in-Some.c) c.loop-c.invariant.made c.in_ok-push.was c.push.ensures.bytes);
  rest = one_back (chars_rest c.loop-c.c-iterator.iter) (chars_rest c.next.new.self.iter) c.args.text.now c.loop-c.yielded c.in-Some.c c.loop-c.invariant.rest (search rules);
}
