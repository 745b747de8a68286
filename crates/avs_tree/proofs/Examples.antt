-- The table of places, computed by the machine.
use Rattle.std.proofs.Common.{◌≡◌, refl, subst, ℕ, suc}
use Rattle.avs_tree.specs.Lexeme.{Lexemes, type_word_of, is_punctuation, operator_at}
use Rattle.avs_tree.specs.Machine.{operand, continues, grow, reach, closing_argument}
use Rattle.avs_tree.specs.Place.{verdict, stops, too_deep, StopsAt, DeepAt, Answers}
use Rattle.avs_tree.specs.Examples.{Examples}
use Rattle.avs_tree.proofs.Places.{exact}

stop_at : (ts : Lexemes) (n : ℕ) → verdict ts ≡ stops (suc n) → StopsAt ts (suc n)
stop_at ts n is = subst (Answers ts) is (exact ts)

deep_at : (ts : Lexemes) (n : ℕ) → verdict ts ≡ too_deep n → DeepAt ts n
deep_at ts n is = subst (Answers ts) is (exact ts)

pub examples_hold : Examples
unfolding verdict is_punctuation operator_at operand continues grow reach closing_argument type_word_of
examples_hold = (stop_at _ 1 refl, (stop_at _ 1 refl, (stop_at _ 5 refl, (stop_at _ 3 refl, (stop_at _ 2 refl, (stop_at _ 3 refl, (stop_at _ 0 refl, (deep_at _ 2 refl, (stop_at _ 0 refl, tt)))))))))
