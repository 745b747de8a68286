-- Nested comments as a grammar: an opening `[*`, parts, and a closing `*]`. A part is a character that begins neither an
-- opening nor a closing, or a whole nested comment.
use Rattle.std.specs.Prelude.{◌≡◌, ◌≤◌, ℕ, ◌∷◌, length, drop, slice_index, Bool, false, ◌&&◌, ◌==◌}
use Rattle.avs_lex.specs.Spelling.{Text, star, left_bracket, right_bracket}

abbrev pub begins_opening : Text → Bool
begins_opening text = slice_index text 0 == left_bracket && slice_index text 1 == star

abbrev pub begins_closing : Text → Bool
begins_closing text = slice_index text 0 == star && slice_index text 1 == right_bracket

-- parts and a closing, and then the rest
pub data ClosesComment : Text → Text → Type 0 where
  closing : (rest : Text) → ClosesComment (star ∷ right_bracket ∷ rest) rest
  character : {text rest : Text} (c : ℕ) → begins_opening (c ∷ text) ≡ false → begins_closing (c ∷ text) ≡ false → ClosesComment text rest → ClosesComment (c ∷ text) rest
  comment : {inside text rest : Text} → ClosesComment inside text → ClosesComment text rest → ClosesComment (left_bracket ∷ star ∷ inside) rest

-- the text begins with a nested comment of this size
pub record IsNestedComment (text : Text) (size : ℕ) : Type 0 where
  pub inside : Text
  pub opens : text ≡ left_bracket ∷ star ∷ inside
  pub within : size ≤ length text
  pub closes : ClosesComment inside (drop size text)
