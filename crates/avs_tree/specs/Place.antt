-- The place of a fault: what the machine answers of tokens, and what a place is by the grammar of avs_tree.
use Rattle.std.specs.Prelude.{◌≡◌, ◌⊎◌, ◌<◌, ◌≤◌, ℕ, zero, suc, [], ◌∷◌, ◌++◌, length, Option, Some, nat_le, if◌then◌else◌}
use Rattle.avs_tree.specs.declared.symbol.Symbol.{Symbol}
use Rattle.avs_tree.specs.declared.symbol.Symbol.TheVariants as s
use Rattle.avs_tree.specs.declared.words.Keyword.TheVariants as w
use Rattle.avs_tree.specs.Lexeme.{Lexeme, Lexemes}
use Rattle.avs_tree.specs.Tree.{Script}
use Rattle.avs_tree.specs.Grammar.{IsScript, script_nesting, nesting_limit}
use Rattle.avs_tree.specs.Machine.{level_of, State, start, Step, stuck, goes, whole, advance}

-- ---- the machine over tokens

-- A tree, or how many tokens are left from the refused one on, or from the one that nests too deep. None are left where the
-- tokens end too early.
pub data Verdict : Type 0 where
  accepts : Script → Verdict
  stops : ℕ → Verdict
  too_deep : ℕ → Verdict

abbrev pub alone : Script → Lexemes → Verdict
alone tree [] = accepts tree
alone tree (t ∷ ts) = stops (suc (length ts))

abbrev pub go_on : Step → Lexemes → (State → Verdict) → Verdict
go_on stuck ts next = stops (suc (length ts))
go_on (goes state) ts next = if nat_le (level_of state) nesting_limit then next state else too_deep (suc (length ts))
go_on (whole tree) ts next = alone tree ts

abbrev pub run : State → Lexemes → Verdict
run state [] = stops 0
run state (t ∷ ts) = go_on (advance state (t ∷ ts)) ts (λ next. run next ts)

unfoldable pub verdict : Lexemes → Verdict
verdict ts = run start ts

-- ---- places by the grammar

-- These tokens begin a script.
pub record Begins (seen : Lexemes) : Type 0 where
  pub more : Lexemes
  pub tree : Script
  pub script : IsScript (seen ++ more) tree

-- A script within the limit of nesting begins with these tokens.
pub record BeginsWithin (seen : Lexemes) : Type 0 where
  pub more : Lexemes
  pub tree : Script
  pub script : IsScript (seen ++ more) tree
  pub shallow : script_nesting tree ≤ nesting_limit

-- `if`, `while` and `for`, which a parenthesis follows
abbrev pub IsWord : Option Symbol → Type 0
IsWord x = (x ≡ Some (s.Keyword w.If)) ⊎ ((x ≡ Some (s.Keyword w.While)) ⊎ (x ≡ Some (s.Keyword w.For)))

-- The nesting of these tokens is within the limit: a script within it begins with them, or with those before `if`, `while` or
-- `for`, whose parenthesis may be the first to nest too deep.
abbrev pub IsWithin : Lexemes → Type 0
IsWithin seen = BeginsWithin seen ⊎ ((before : Lexemes) × (word : Lexeme) × (seen ≡ before ++ word ∷ []) × IsWord (Some word.0) × BeginsWithin before)

-- The token from which on this many are left is the first one such that no script begins with the tokens up to it.
pub record StopsAt (ts : Lexemes) (left : ℕ) : Type 0 where
  pub seen : Lexemes
  pub token : Lexeme
  pub rest : Lexemes
  pub cut : ts ≡ seen ++ token ∷ rest
  pub place : left ≡ suc (length rest)
  pub begins : Begins seen
  pub within : IsWithin seen
  pub ends : (more : Lexemes) (tree : Script) → IsScript (seen ++ token ∷ more) tree → ⊥

-- At the token from which on this many are left the nesting becomes too deep: scripts begin with the tokens up to it, and each
-- of them nests deeper than the limit.
pub record DeepAt (ts : Lexemes) (left : ℕ) : Type 0 where
  pub seen : Lexemes
  pub token : Lexeme
  pub rest : Lexemes
  pub cut : ts ≡ seen ++ token ∷ rest
  pub place : left ≡ suc (length rest)
  pub begins : Begins (seen ++ token ∷ [])
  pub within : IsWithin seen
  pub opens : IsWord (Some token.0) → ⊥
  pub deep : (more : Lexemes) (tree : Script) → IsScript (seen ++ token ∷ more) tree → nesting_limit < script_nesting tree

-- What a verdict says of tokens: they are a script within the limit, or one of them is refused, or they end too early (which the
-- tokens of a text do not).
abbrev pub Answers : Lexemes → Verdict → Type 0
Answers ts (accepts tree) = IsScript ts tree × (script_nesting tree ≤ nesting_limit)
Answers ts (stops zero) = Begins ts
Answers ts (stops (suc n)) = StopsAt ts (suc n)
Answers ts (too_deep left) = DeepAt ts left
