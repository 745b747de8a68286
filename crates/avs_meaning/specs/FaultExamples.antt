-- Scripts with a fault, each computed: its kind, the name of its text, and its line.
use Rattle.std.specs.Prelude.{◌≡◌, [], ◌∷◌, pos, Ok, Err}
use Rattle.std.specs.Prelude.{codes, false, Some, None, if◌then◌else◌}
use Rattle.avs_tree.specs.Tree.{int, bool, str, name, call, no_args, arg, assign, value, if_, for, arm, no_arms, no_else, then_, no_more, syntax}
use Rattle.avs_tree.specs.declared.tree.Operator.TheVariants as op
use Rattle.avs_values.specs.Values.{same}
use Rattle.clip_term.specs.declared.fault.FilterFault.TheVariants as filter
use Rattle.avs_meaning.specs.Faults.{script, input}
use Rattle.avs_meaning.specs.Meaning.{wrong, meaning, text_meaning}
use Rattle.avs_meaning.specs.declared.fault.FileKind.TheVariants as file
use Rattle.avs_meaning.specs.declared.fault.InputFault.TheVariants as i
use Rattle.avs_meaning.specs.declared.fault.ScriptKind.TheVariants as k
use Rattle.avs_meaning.specs.ExampleScripts.{without_files, here, script_of, meaning_of, between, dots}

pub record FaultsOfScripts : Type 0 where
  -- x = 7 / 0
  pub division_by_zero : meaning_of (then_ (assign (codes "x") (between op.Divide (int (pos 7)) (int (pos 0)) 1)) 1 no_more) 1
      ≡ wrong (script k.DivZero here 1)
  -- x = last
  pub last_is_unset : meaning_of (then_ (assign (codes "x") (name (codes "last") 1)) 1 no_more) 1 ≡ wrong (script k.UnknownName here 1)
  -- the condition of an `else if` in line 2 counts for line 1
  pub else_if : meaning_of (then_ (if_ (arm (bool false) no_more (arm (int (pos 1)) no_more no_arms)) no_else) 1 no_more) 3
      ≡ wrong (script k.TypeFault here 1)
  -- a step of 0
  pub for_step : meaning_of (then_ (for (codes "x") (int (pos 0)) (int (pos 9)) (Some (int (pos 0))) no_more) 2 no_more) 3
      ≡ wrong (script k.BadRange here 2)
  -- the value of the script is no clip
  pub not_a_clip : meaning_of (then_ (value (int (pos 1))) 1 no_more) 4 ≡ wrong (script k.NotClip here 4)
  -- SetFilterMTMode("x", 4), of a filter that is not there
  pub mode_of_four : meaning_of (then_ (value (call (codes "SetFilterMTMode") (arg None (str (codes "x")) (arg None (int (pos 4)) no_args)) 1)) 1 no_more) 1
      ≡ wrong (script k.ModeRefused here 1)
  -- BlankClip(length=3, ..) and Prefetch(17)
  pub prefetch_of_seventeen : meaning_of (then_ (value (dots (int (pos 3)) 1)) 1
      (then_ (value (call (codes "Prefetch") (arg None (int (pos 17)) no_args) 2)) 2 no_more)) 2
      ≡ wrong (script k.PrefetchRange here 2)
  -- BlankClip(length=3, ..) and ApplyRange(0, 1, "Width"), which gives a number
  pub range_of_a_number : meaning_of (then_ (value (dots (int (pos 3)) 1)) 1
      (then_ (value (call (codes "ApplyRange") (arg None (int (pos 0)) (arg None (int (pos 1)) (arg None (str (codes "Width")) no_args))) 2)) 2 no_more)) 2
      ≡ wrong (script k.TypeFault here 2)
  -- BlankClip(length=3, ..) and GeneralConvolution(0, "1 2 3")
  pub matrix_of_three : meaning_of (then_ (value (dots (int (pos 3)) 1)) 1
      (then_ (value (call (codes "GeneralConvolution") (arg None (int (pos 0)) (arg None (str (codes "1 2 3")) no_args)) 2)) 2 no_more)) 2
      ≡ wrong (script (k.Filter filter.BadText) here 2)
  -- Y4MSource("none.y4m")
  pub no_source : meaning_of (then_ (value (call (codes "y4msource") (arg None (str (codes "none.y4m")) no_args) 1)) 1 no_more) 1
      ≡ wrong (input (codes "none.y4m") i.NotThere)
  -- Import("lib.avs")
  pub no_import : meaning_of (then_ (value (call (codes "Import") (arg None (str (codes "lib.avs")) no_args) 5)) 5 no_more) 6
      ≡ wrong (script (k.File file.NotThere) here 5)
  -- a blank clip without frames, in line 7
  pub no_frames : meaning_of (then_ (value (dots (int (pos 0)) 7)) 6 no_more) 8 ≡ wrong (script (k.Filter filter.EmptyClip) here 7)
  -- the script itself isn't there
  pub no_script : meaning (without_files (λ text. Err (syntax 1))) here ≡ wrong (script (k.File file.NotThere) here 0)
  -- Eval("x = "), whose text has no tree
  pub no_eval : text_meaning (without_files (λ text. if same text [] then Ok (record {
    tree = record {
      functions = [];
      statements = then_ (value (call (codes "Eval") (arg None (str (codes "x = ")) no_args) 1)) 1 no_more;
    };
    last_line = 1;
  }) else Err (syntax 1))) here []
      ≡ wrong (script k.Syntax (codes "Eval") 1)
  -- function F() { F() } in line 2, and F
  pub no_end : script_of (record { name = codes "F"; params = []; body = then_ (value (call (codes "f") no_args 2)) 2 no_more; line = 2 } ∷ [])
      (then_ (value (name (codes "F") 3)) 3 no_more) 3 ≡ wrong (script k.CallDepth here 2)
  -- two functions of one name, in lines 4 and 5
  pub same_name : script_of (record { name = codes "F"; params = []; body = no_more; line = 4 } ∷ record { name = codes "f"; params = []; body = no_more; line = 5 } ∷ [])
      no_more 6 ≡ wrong (script k.DuplicateFunction here 5)
  -- BlankClip(length=3, ..), and Trim(1) in line 2, with none of `last`, `length` and `end`
  pub no_end_of_trim : meaning_of (then_ (value (dots (int (pos 3)) 1)) 1
      (then_ (value (call (codes "Trim") (arg None (int (pos 1)) no_args) 2)) 2 no_more)) 2
      ≡ wrong (script k.NoMatch here 2)
  -- the script imports lib.avs, where a name in line 9 is unknown
  pub imported : meaning (record {
    clips = λ file. Err i.NotThere;
    scripts = λ file. Ok file;
    trees = λ text. Ok (if same text here
        then record {
          tree = record { functions = []; statements = then_ (value (call (codes "Import") (arg None (str (codes "lib.avs")) no_args) 1)) 1 no_more };
          last_line = 1;
        }
        else record { tree = record { functions = []; statements = then_ (value (name (codes "x") 9)) 9 no_more }; last_line = 9 });
  }) here
      ≡ wrong (script k.UnknownName (codes "lib.avs") 9)
