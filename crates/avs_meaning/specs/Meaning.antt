-- What a script means: a clip, or why there is none.
use Rattle.std.specs.Prelude.{ℕ, zero, suc, ◌+◌, List, [], Option, None, Result, Ok, Err}
use Rattle.avs_tree.specs.Tree.{Block}
use Rattle.avs_values.specs.Values.{Text}
use Rattle.avs_values.specs.declared.value.Value.{Value}
use Rattle.avs_values.specs.declared.value.Value.TheVariants as v
use Rattle.clip_graph.specs.Plan.{Application, sources_in}
use Rattle.mt_modes.specs.Modes.{no_modes}
use Rattle.avs_meaning.specs.State.{Context, Numbers, Outside, State, Outcome, Run, ◌>>=◌, fails, pure}
use Rattle.avs_meaning.specs.Faults.{Fault, script}
use Rattle.avs_meaning.specs.Filters.{info_of}
use Rattle.avs_meaning.specs.Statements.{body_of}
use Rattle.avs_meaning.specs.Expressions.{load}
use Rattle.avs_meaning.specs.declared.fault.FileKind.{FileKind}
use Rattle.avs_meaning.specs.declared.fault.ScriptKind.TheVariants as k

-- one call deeper, where n calls may nest
unfoldable pub below : Outside → ℕ → Text → Block → Run Value
below outside zero here body = fails k.CallDepth here 0
below outside (suc n) here body = body_of (record { outside = outside; depth = n; deeper = below outside n }) here body v.Undefined

-- where n calls may nest
abbrev pub context_of : Outside → ℕ → Context
context_of outside n = record { outside = outside; depth = n; deeper = below outside n }

-- the statements of a text or a function, where n calls may nest
abbrev pub run : Outside → ℕ → Text → Block → Run Value
run outside n here body = body_of (context_of outside n) here body v.Undefined

abbrev pub call_limit : ℕ
call_limit = 64

abbrev pub step_limit : ℕ
step_limit = 1000000

abbrev pub start : State
start = record {
  env = [];
  globals = [];
  functions = [];
  modes = no_modes;
  crew = None;
  plan = [];
  opened = [];
  imports = 0;
  units = step_limit;
}

-- the place of a clip, which must be there
abbrev pub clip_or_not : Text → ℕ → Value → Run ℕ
clip_or_not here line (v.Clip i) = info_of here i line >>= (λ info. pure i)
clip_or_not here line _ = fails k.NotClip here line

-- the statements of a whole script, whose value is a clip
unfoldable pub to_clip : Outside → Text → Block → ℕ → Run ℕ
to_clip outside here body line = run outside call_limit here body >>= clip_or_not here line

-- a text as the script of this name: the place of its clip
abbrev pub executed : Outside → Text → Text → Run ℕ
executed outside here text =
    load outside here text >>= (λ loaded. to_clip outside here loaded.tree.statements loaded.last_line)

pub data Meaning : Type 0 where
  -- the clip at a place of a plan, and what the last call of Prefetch asked for
  clip : List Application → ℕ → Option Numbers → Meaning
  wrong : Fault → Meaning

abbrev pub meaning_by : Outcome ℕ → Meaning
meaning_by (Ok ended) = clip ended.1.plan ended.0 ended.1.crew
meaning_by (Err fault) = wrong fault

-- a text as the script of this name
abbrev pub text_meaning : Outside → Text → Text → Meaning
text_meaning outside here text = meaning_by (executed outside here text start)

abbrev pub script_meaning : Result Text FileKind → Outside → Text → Meaning
script_meaning (Ok text) outside here = text_meaning outside here text
script_meaning (Err kind) outside here = wrong (script (k.File kind) here 0)

-- the script of this name
abbrev pub meaning : Outside → Text → Meaning
meaning outside name = script_meaning (outside.scripts name) outside name

-- ---- how many files a script reads

abbrev pub imports_by : Outcome ℕ → ℕ
imports_by (Ok ended) = ended.1.imports
imports_by (Err fault) = 0

-- how often a text imports a script, as the script of this name, where it has a clip
abbrev pub text_imports : Outside → Text → Text → ℕ
text_imports outside here text = imports_by (executed outside here text start)

-- the script itself, each script that it imports as often as it does, and a file for each source of its plan
abbrev pub files_by : Meaning → ℕ → ℕ
files_by (clip plan root crew) imports = 1 + imports + sources_in plan
files_by (wrong fault) imports = 0

abbrev pub script_files : Result Text FileKind → Outside → Text → ℕ
script_files (Ok text) outside here = files_by (text_meaning outside here text) (text_imports outside here text)
script_files (Err kind) outside here = 0

-- how many files the script of this name reads, where it has a clip
abbrev pub files_of : Outside → Text → ℕ
files_of outside name = script_files (outside.scripts name) outside name
