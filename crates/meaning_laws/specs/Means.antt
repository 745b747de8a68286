-- What a script means, by its file, its tree and the rules of execution.
use Rattle.std.specs.Prelude.{◌≡◌, Ok, Err}
use Rattle.fv_io.specs.World.{World}
use Rattle.avs_tree.specs.Tree.{Loaded, NoTree}
use Rattle.avs_parse.specs.Laws.{HasScript}
use Rattle.avs_values.specs.Values.{Text}
use Rattle.avs_values.specs.declared.value.Value.{Value}
use Rattle.avs_values.specs.declared.value.Value.TheVariants as v
use Rattle.avs_meaning.specs.Faults.{Fault, script}
use Rattle.avs_meaning.specs.Meaning.{Meaning, wrong, meaning_by, clip_or_not, call_limit, start}
use Rattle.avs_meaning.specs.State.{Outside, State, Outcome, and_then, define_all}
use Rattle.avs_meaning.specs.Rules.{Executes}
use Rattle.avs_meaning.specs.Expressions.{no_tree}
use Rattle.avs_meaning.specs.declared.fault.FileKind.{FileKind}
use Rattle.avs_meaning.specs.declared.fault.ScriptKind.TheVariants as k
use Rattle.meaning_laws.specs.Files.{HasNoTree, IsScriptFile, IsNoScriptFile}

-- in a world, with what its files tell, the script of this name means this
module _ (world : World) (outside : Outside) (name : Text) where
  pub data Means : Meaning → Type 0 where
    no_script : (why : FileKind) → IsNoScriptFile world name why → Means (wrong (script (k.File why) name 0))
    has_no_tree : (text : Text) (why : NoTree) → IsScriptFile world name text → HasNoTree text why
        → Means (wrong (no_tree name why))
    -- Its functions are defined before its first statement: no two have one name.
    functions_clash : (text : Text) (loaded : Loaded) (fault : Fault)
        → IsScriptFile world name text → HasScript text loaded
        → define_all loaded.tree.functions name start ≡ Err fault → Means (wrong fault)
    -- What its statements give is the clip, or no clip.
    executed : (text : Text) (loaded : Loaded) (after : State) (out : Outcome Value)
        → IsScriptFile world name text → HasScript text loaded
        → define_all loaded.tree.functions name start ≡ Ok (tt, after)
        → Executes outside call_limit name after loaded.tree.statements v.Undefined out
        → Means (meaning_by (and_then out (clip_or_not name loaded.last_line)))
