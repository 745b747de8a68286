-- What a word is, as `clap` sees it.
use Rattle.std.proofs.Common.{◌≡◌, ℕ, ◌==◌, Bool, true, false, refl, sym, ap, subst, List, [], ◌∷◌, Some, None, ◌∙◌}
use Rattle.std.specs.Prelude.{slice_get}
use Rattle.std.specs.Str.{IsUtf8, chars, bytes_eq, encode_utf8_all}
use Rattle.std.proofs.lemmas.Str.{chars-encodes}
use Rattle.std.proofs.lemmas.Bool.Decides.{Decides-eqb}
use Rattle.clap.specs.Lexer.{long_of, short_of}
use Rattle.command_line.specs.Command.{Text, Kind, operand, end_of_options, long, short, kind_of, kind_after_dash, kind_after_dashes}

-- the word is `--`
abbrev pub is_dashes : Text → Bool
is_dashes word = bytes_eq word (45 ∷ 45 ∷ [])

-- what `clap` sees of a word of this kind
abbrev pub Looks : Text → Kind → Type 0
Looks word operand = (is_dashes word ≡ false) × (long_of word ≡ None) × (short_of word ≡ None)
Looks word end_of_options = is_dashes word ≡ true
Looks word (long name value) = (is_dashes word ≡ false) × (long_of word ≡ Some (name, value))
Looks word short = (is_dashes word ≡ false) × (long_of word ≡ None) × ((c : ℕ) × (rest : Text) × (short_of word ≡ Some (c ∷ rest)) × (word ≡ 45 ∷ c ∷ rest))

looks_dashes : (rest : Text) → Looks (45 ∷ 45 ∷ rest) (kind_after_dashes rest)
looks_dashes [] = refl
looks_dashes (c ∷ rest) = (refl, refl)

looks_dash : (rest : Text) → Looks (45 ∷ rest) (kind_after_dash rest)
looks_dash [] = (refl, refl, refl)
looks_dash (c ∷ rest) = go (c == 45) refl
  where
    go : (b : Bool) → (c == 45) ≡ b → Looks (45 ∷ c ∷ rest) (kind_after_dash (c ∷ rest))
    go true is = subst (λ x. Looks (45 ∷ x ∷ rest) (kind_after_dash (x ∷ rest))) (sym ((Decides-eqb c 45).0 is)) (looks_dashes rest)
    go false is = rw is (rw is refl, rw is refl, (c, rest, rw is refl, refl))

pub looks : (word : Text) → Looks word (kind_of word)
looks [] = (refl, refl, refl)
looks (c ∷ rest) = go (c == 45) refl
  where
    go : (b : Bool) → (c == 45) ≡ b → Looks (c ∷ rest) (kind_of (c ∷ rest))
    go true is = subst (λ x. Looks (x ∷ rest) (kind_of (x ∷ rest))) (sym ((Decides-eqb c 45).0 is)) (looks_dash rest)
    go false is = rw is (rw is refl, rw is refl, rw is refl)

-- a text of one character or more has a first one
pub first_char : (c : ℕ) (rest : Text) → IsUtf8 (c ∷ rest) → (x : ℕ) × (slice_get (chars (c ∷ rest)) 0 ≡ Some x)
first_char c rest (cs, (scalar, encoded)) = go cs refl
  where
    same : chars (c ∷ rest) ≡ cs
    same = ap chars (sym encoded) ∙ chars-encodes cs scalar

    go : (ds : List ℕ) → cs ≡ ds → (x : ℕ) × (slice_get (chars (c ∷ rest)) 0 ≡ Some x)
    go [] none = let bad : [] ≡ c ∷ rest = sym (ap encode_utf8_all none) ∙ encoded in absurd (cc)
    go (x ∷ xs) is = (x, ap (λ ys. slice_get ys 0) (same ∙ is))
