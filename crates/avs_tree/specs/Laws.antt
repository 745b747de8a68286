-- The laws of this crate: the verdict of the machine is what the grammar of avs_tree says, and a place is the only one.
use Rattle.std.specs.Prelude.{◌≡◌, ◌≤◌, ℕ, suc, length, [], ◌∷◌, ◌++◌}
use Rattle.avs_tree.specs.declared.symbol.Symbol.TheVariants as s
use Rattle.avs_tree.specs.declared.symbol.Punctuation.TheVariants as m
use Rattle.avs_tree.specs.Lexeme.{Lexeme, Lexemes}
use Rattle.avs_tree.specs.Tree.{Script}
use Rattle.avs_tree.specs.Grammar.{IsScript, script_nesting, nesting_limit}
use Rattle.avs_tree.specs.Machine.{State, advance}
use Rattle.avs_tree.specs.Sizes.{IsScriptShort}
use Rattle.avs_tree.specs.Place.{verdict, Answers, accepts, stops, StopsAt, DeepAt}

-- The verdict on tokens is right.
abbrev pub Exact : Type 0
Exact = (ts : Lexemes) → Answers ts (verdict ts)

-- Tokens that are a script within the limit are accepted, as its tree.
abbrev pub Accepted : Type 0
Accepted = (ts : Lexemes) (tree : Script) → IsScript ts tree → script_nesting tree ≤ nesting_limit → verdict ts ≡ accepts tree

-- At most one token is the place of a fault, and the fault is of one kind.
abbrev pub OneStop : Type 0
OneStop = (ts : Lexemes) (m n : ℕ) → StopsAt ts m → StopsAt ts n → m ≡ n

abbrev pub OneDeep : Type 0
OneDeep = (ts : Lexemes) (m n : ℕ) → DeepAt ts m → DeepAt ts n → m ≡ n

abbrev pub NeverBoth : Type 0
NeverBoth = (ts : Lexemes) (m n : ℕ) → StopsAt ts m → DeepAt ts n → ⊥

-- Tokens that end with the end of a script are accepted, or one of them is the place of a fault.
abbrev pub EndIsTold : Type 0
EndIsTold = (before : Lexemes) (last : Lexeme) → last.0 ≡ s.Punctuation m.End → verdict (before ++ last ∷ []) ≡ stops 0 → ⊥

-- What a token does depends on no token after it.
abbrev pub OneToken : Type 0
OneToken = (state : State) (token : Lexeme) (ts us : Lexemes) → advance state (token ∷ ts) ≡ advance state (token ∷ us)

-- No statement of a script has as many expressions as the script has tokens, its end among them.
abbrev pub ScriptsAreShort : Type 0
ScriptsAreShort = (most : ℕ) (ts : Lexemes) (tree : Script) → IsScript ts tree → length ts ≤ suc most → IsScriptShort most tree
