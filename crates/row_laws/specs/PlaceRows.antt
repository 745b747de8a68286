-- Texts and their trees, and the line of a fault where there is no tree: that of the first token with which no script goes on,
-- or at which the nesting becomes 33.
use Rattle.std.specs.Prelude.{◌≡◌, pos, [], ◌∷◌, ◌++◌, replicate, codes, true, false, Some, None, Result, Ok, Err}
use Rattle.avs_lex.specs.declared.fault.LexKind.TheVariants.{FloatLiteral, OpenString}
use Rattle.avs_tree.specs.Tree.{Loaded, NoTree, lexical, syntax, nests, Kind, int, bool, str, name, call, method_calls, method_call, no_method_calls, minus, not_, chain, compare, conditional, group, step, no_steps, arg, no_args, assign, value, if_, arm, no_arms, else_, then_, no_more}
use Rattle.avs_tree.specs.declared.tree.Operator.TheVariants as o
use Rattle.avs_tree.specs.declared.words.TypeWord.TheVariants as w
use Rattle.avs_parse.specs.Load.{script_of}

-- a script of one statement in line 1
abbrev pub one : Kind → Result Loaded NoTree
one kind = Ok (record { tree = record { functions = []; statements = then_ kind 1 no_more }; last_line = 1 })

pub record TreeRows : Type 0 where
  -- products bind tighter than sums
  pub sum : script_of (codes "a=1+2*3")
      ≡ one (assign (codes "a") (chain (int (pos 1)) (step o.Plus (chain (int (pos 2)) (step o.Times (int (pos 3)) 1 no_steps)) 1 no_steps)))
  -- operators of one precedence are one chain
  pub difference : script_of (codes "a = 1 - 2 + 3")
      ≡ one (assign (codes "a") (chain (int (pos 1)) (step o.Minus (int (pos 2)) 1 (step o.Plus (int (pos 3)) 1 no_steps))))
  pub parentheses : script_of (codes "(1 + 2) * 3")
      ≡ one (value (chain (group (chain (int (pos 1)) (step o.Plus (int (pos 2)) 1 no_steps))) (step o.Times (int (pos 3)) 1 no_steps)))
  pub choice : script_of (codes "a < 2 ? -1 : !b")
      ≡ one (value (conditional (compare o.Less (name (codes "a") 1) (int (pos 2)) 1) (minus (int (pos 1)) 1) (not_ (name (codes "b") 1) 1) 1))
  -- a call by a dot, with a named argument
  pub dot : script_of (codes "a.Trim(0, last=\"x\")")
      ≡ one (value (method_calls (name (codes "a") 1) (method_call (codes "Trim")
      (arg None (int (pos 0)) (arg (Some (codes "last")) (str (codes "x")) no_args)) 1 no_method_calls)))
  -- statements have their lines, and `yes` is true
  pub branches : script_of (codes "if (yes) {\nx = 1\n}\nelse { F() }\n")
      ≡ Ok (record {
        tree = record {
          functions = [];
          statements = then_ (if_ (arm (bool true)
              (then_ (assign (codes "x") (int (pos 1))) 2 no_more) no_arms) (else_ (then_ (value (call (codes "F") no_args 4)) 4 no_more))) 1 no_more;
        };
        last_line = 5;
      })
  -- function F(clip c, int "n") { return c }
  pub function : script_of (codes "function F(clip c, int \"n\") {}\n")
      ≡ Ok (record {
        tree = record {
          functions = record {
            name = codes "F";
            params = record { name = codes "c"; word = w.Clip; optional = false } ∷ record { name = codes "n"; word = w.Int; optional = true } ∷ [];
            body = no_more;
            line = 1;
          } ∷ [];
          statements = no_more;
        };
        last_line = 2;
      })
  pub empty : script_of [] ≡ Ok (record { tree = record { functions = []; statements = no_more }; last_line = 1 })

pub record PlaceRows : Type 0 where
  -- the parenthesis, where an operand is wanted
  pub no_operand : script_of (codes "x = 1\ny = (2\n+ )") ≡ Err (syntax 3)
  -- the end of the text, in its last line
  pub open_call : script_of (codes "Trim(1\n\n") ≡ Err (syntax 3)
  pub open_brace : script_of (codes "if (true) {\nx = 1\n") ≡ Err (syntax 3)
  pub no_brace : script_of (codes "if (true)\nx = 1") ≡ Err (syntax 2)
  pub closing_brace : script_of (codes "\n}") ≡ Err (syntax 2)
  -- two comparisons in a row, and two statements in a line
  pub comparisons : script_of (codes "a == b\n\\== c") ≡ Err (syntax 2)
  pub statements : script_of (codes "x = 1 y = 2") ≡ Err (syntax 1)
  pub no_type : script_of (codes "function F(float x) {}") ≡ Err (syntax 1)
  -- a required parameter after an optional one
  pub required_after_optional : script_of (codes "function F(int \"a\", int b) {}") ≡ Err (syntax 1)
  -- a word can't be assigned to
  pub word : script_of (codes "true = 1") ≡ Err (syntax 1)
  -- a lexical fault counts before an earlier syntax fault
  pub lexical_first : script_of (codes "x = )\ny = 1.5") ≡ Err (lexical FloatLiteral 2)
  pub open_string : script_of (codes "x = 1\ny = \"") ≡ Err (lexical OpenString 2)
  -- 33 parentheses in the second line, and 32 of them before the end
  pub too_deep : script_of (codes "x =\\\n" ++ replicate 33 40) ≡ Err (nests 2)
  pub not_too_deep : script_of (codes "x =\\\n" ++ replicate 32 40 ++ codes "\n\n") ≡ Err (syntax 4)
