use Rattle.std.proofs.Common.{rules, arith, refl}
use Rattle.std.proofs.lemmas.Nat.Gcd.{IsGcd-from_zero, IsGcd-from_mod}
use Rattle.filter_tests.proofs.clips.info_of.Goals as goal

pub returns : goal.returns
returns g c = record {
  shape = search rules;
  some = omega arith;
  most = omega arith;
  rate = record { some_num = omega arith; some_den = omega arith; most_num = omega arith; most_den = omega arith; lowest = IsGcd-from_mod 25 1 1 (IsGcd-from_zero 1 0 refl) };
  par = record { num = omega arith; den = omega arith };
}
