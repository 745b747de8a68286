use Rattle.std.proofs.Common.{refl, arith}
use Rattle.std.proofs.Math.Nat.{one-dvd}
use Rattle.journal_tests.proofs.journals.names_the_first_wrong_line.Goals as goal

pub over_a_source-requires : goal.over_a_source-requires
over_a_source-requires g c = record {
  shape = record { depth = refl; some_width = omega arith; some_height = omega arith; most_width = omega arith; most_height = omega arith; whole_width = refl; whole_height = refl; most_bytes = omega arith };
  some = omega arith;
  most = omega arith;
  rate = record { some_num = omega arith; some_den = omega arith; most_num = omega arith; most_den = omega arith; lowest = (one-dvd 25, one-dvd 1, λ d first second. second) };
  par = record { num = omega arith; den = omega arith };
}
