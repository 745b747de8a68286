use Rattle.std.proofs.Common.{◌≡◌, ◌++◌, reverse, string_bytes}
use Rattle.std.specs.Str.{encode_utf8_all}
use Rattle.std.specs.Str.Iter.{chars_rest}
use Rattle.avs_values.proofs.texts.reversed.Given as goal

abbrev pub invariant-loop-c : goal.invariant-loop-c
invariant-loop-c l = record {
  made : string_bytes l.made ≡ encode_utf8_all l.yielded;
  rest : chars_rest l.c-iterator.iter ++ encode_utf8_all (reverse l.yielded) ≡ l.text;
}
