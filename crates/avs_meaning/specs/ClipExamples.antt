-- Scripts with a clip, each computed: the place of the clip in the plan, how many frames it has, its mode, and the places of
-- its inputs.
use Rattle.std.specs.Prelude.{◌≡◌, ℕ, [], ◌∷◌, pos, Ok}
use Rattle.std.specs.Prelude.{codes, false, Option, Some, None, if◌then◌else◌}
use Rattle.avs_tree.specs.Tree.{Block, int, str, name, call, compare, no_args, arg, assign, value, return, while, for, then_, no_more}
use Rattle.avs_tree.specs.declared.tree.Operator.TheVariants as op
use Rattle.avs_tree.specs.declared.words.TypeWord.TheVariants as w
use Rattle.avs_values.specs.Values.{Text, same}
use Rattle.clip_term.specs.Blank.{default_clip}
use Rattle.avs_meaning.specs.State.{Numbers}
use Rattle.avs_meaning.specs.Meaning.{Meaning, clip, wrong, files_of}
use Rattle.avs_meaning.specs.ExampleScripts.{here, script_of, meaning_of, between, dots, shown, seen}

-- the workers and the window of a script
abbrev pub crew_in : Meaning → Option Numbers
crew_in (clip plan root crew) = crew
crew_in (wrong fault) = None

-- a call with one text
abbrev pub called : Text → Text → ℕ → Block → Block
called word text line rest = then_ (value (call word (arg None (str text) no_args) line)) line rest

pub record ClipsOfScripts : Type 0 where
  -- BlankClip(length=3, ..)
  pub a_blank_clip : seen (meaning_of (then_ (value (dots (int (pos 3)) 1)) 1 no_more) 1) ≡ shown 0 3 1 []
  -- BlankClip(length=3, ..) and then Trim(1, 0), which is tried with `last` first
  pub tried_with_last : seen (meaning_of (then_ (value (dots (int (pos 3)) 1)) 1
      (then_ (value (call (codes "Trim") (arg None (int (pos 1)) (arg None (int (pos 0)) no_args)) 2)) 2 no_more)) 2) ≡ shown 1 2 1 (0 ∷ [])
  -- last = BlankClip(length=4, ..), a = BlankClip(length=3, ..) and UnalignedSplice(a, a), which fits as it is written
  pub as_written : seen (meaning_of (then_ (value (dots (int (pos 4)) 1)) 1 (then_ (assign (codes "a") (dots (int (pos 3)) 2)) 2
      (then_ (value (call (codes "UnalignedSplice") (arg None (name (codes "a") 3) (arg None (name (codes "a") 3) no_args)) 3)) 3 no_more))) 3)
      ≡ shown 2 6 1 (1 ∷ 1 ∷ [])
  -- BlankClip(length=3, ..) + BlankClip(length=4, ..)
  pub a_splice : seen (meaning_of (then_ (value (between op.Plus (dots (int (pos 3)) 1) (dots (int (pos 4)) 1) 1)) 1 no_more) 1)
      ≡ shown 2 7 1 (0 ∷ 1 ∷ [])
  -- x = 0, while (x < 3) { x = x + 2 } and BlankClip(length=x, ..)
  pub a_while : seen (meaning_of (then_ (assign (codes "x") (int (pos 0))) 1
      (then_ (while (compare op.Less (name (codes "x") 2) (int (pos 3)) 2)
      (then_ (assign (codes "X") (between op.Plus (name (codes "x") 2) (int (pos 2)) 2)) 2 no_more)) 2
      (then_ (value (dots (name (codes "x") 3) 3)) 3 no_more))) 3) ≡ shown 0 4 1 []
  -- x = 0, for (i = 9223372036854775806, 9223372036854775807) { x = x + 1 } and BlankClip(length=x, ..)
  pub a_for : seen (meaning_of (then_ (assign (codes "x") (int (pos 0))) 1
      (then_ (for (codes "i") (int (pos 9223372036854775806)) (int (pos 9223372036854775807)) None
      (then_ (assign (codes "x") (between op.Plus (name (codes "x") 2) (int (pos 1)) 2)) 2 no_more)) 2
      (then_ (value (dots (name (codes "x") 3) 3)) 3 no_more))) 3) ≡ shown 0 2 1 []
  -- function Dots(int n) { return BlankClip(length=n + 1, ..) } and dots(4)
  pub a_function : seen (script_of (record {
    name = codes "Dots";
    params = record { name = codes "n"; word = w.Int; optional = false } ∷ [];
    body = then_ (return (dots (between op.Plus (name (codes "N") 1) (int (pos 1)) 1) 1)) 1 no_more;
    line = 1;
  } ∷ [])
      (then_ (value (call (codes "dots") (arg None (int (pos 4)) no_args) 2)) 2 no_more) 2) ≡ shown 0 5 1 []
  -- SetFilterMTMode("Invert", 3), BlankClip(length=3, ..) and Invert, which declares no mode
  pub a_mode : seen (meaning_of (then_ (value (call (codes "SetFilterMTMode") (arg None (str (codes "Invert")) (arg None (int (pos 3)) no_args)) 1)) 1
      (then_ (value (dots (int (pos 3)) 2)) 2 (then_ (value (call (codes "Invert") no_args 3)) 3 no_more))) 3) ≡ shown 1 3 3 (0 ∷ [])
  -- BlankClip(length=3, ..) and ApplyRange(1, 2, "Reverse")
  pub a_range : seen (meaning_of (then_ (value (dots (int (pos 3)) 1)) 1
      (then_ (value (call (codes "ApplyRange") (arg None (int (pos 1)) (arg None (int (pos 2)) (arg None (str (codes "Reverse")) no_args))) 2)) 2 no_more)) 2)
      ≡ shown 2 3 1 (0 ∷ 1 ∷ [])
  -- BlankClip(length=3, ..), Prefetch(4) and Prefetch(2, 5), of which the last one counts
  pub a_crew : crew_in (meaning_of (then_ (value (dots (int (pos 3)) 1)) 1
      (then_ (value (call (codes "Prefetch") (arg None (int (pos 4)) no_args) 2)) 2
      (then_ (value (call (codes "Prefetch") (arg None (int (pos 2)) (arg None (int (pos 5)) no_args)) 3)) 3 no_more))) 3)
      ≡ Some (record { threads = 2; frames = Some 5 })
  -- The script imports lib.avs twice, which opens a.y4m: one script, two imports and two sources.
  pub files_counted : files_of (record {
    clips = λ file. Ok default_clip;
    scripts = λ file. Ok file;
    trees = λ text. Ok (if same text here
        then record {
          tree = record {
            functions = [];
            statements = called (codes "Import") (codes "lib.avs") 1 (called (codes "Import") (codes "lib.avs") 2 no_more);
          };
          last_line = 2;
        }
        else record { tree = record { functions = []; statements = called (codes "Y4MSource") (codes "a.y4m") 1 no_more }; last_line = 1 });
  }) here
      ≡ 5
