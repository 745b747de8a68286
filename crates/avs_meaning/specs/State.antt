-- What a run works in: the outside, its state, its workers, and its context.
use Rattle.std.specs.FinMap.{get}
use Rattle.std.specs.List.{after_first}
use Rattle.std.specs.Prelude.{ℕ, ◌*◌, ◌≤◌, nat_le, Bool, true, ◌&&◌, Option, Some, None, if◌then◌else◌, zero, suc, ◌+◌, List, [], ◌∷◌, length, drop, nat_lt, Result, Ok, Err, ◌++◌}
use Rattle.std.specs.Str.{is_utf8}
use Rattle.fv_io.specs.World.{World}
use Rattle.fv_plane.specs.declared.format.Info.{Info}
use Rattle.y4m_stream.specs.Stream.{is_newline, head_fault, head_info, fault_after, size_of, body}
use Rattle.y4m_stream.specs.declared.fault.Y4mFault.{Y4mFault}
use Rattle.y4m_stream.specs.declared.fault.Y4mFault.TheVariants.{NoFrames}
use Rattle.avs_tree.specs.Tree.{Loaded, NoTree, Block}
use Rattle.avs_tree.specs.Tree as tree
use Rattle.avs_values.specs.Values.{text_limit, Text, same}
use Rattle.avs_values.specs.declared.value.Value.{Value}
use Rattle.clip_graph.specs.Plan.{Application}
use Rattle.mt_modes.specs.Modes.{Modes}
use Rattle.avs_meaning.specs.Faults.{Fault, script}
use Rattle.avs_meaning.specs.declared.fault.FileKind.{FileKind}
use Rattle.avs_meaning.specs.declared.fault.FileKind.TheVariants as f
use Rattle.avs_meaning.specs.declared.fault.InputFault.{InputFault}
use Rattle.avs_meaning.specs.declared.fault.InputFault.TheVariants as i
use Rattle.avs_meaning.specs.declared.fault.ScriptKind.{ScriptKind}
use Rattle.avs_meaning.specs.declared.fault.ScriptKind.TheVariants as k
use Rattle.avs_meaning.specs.declared.state.SourceClip.{SourceClip}
use Rattle.avs_meaning.specs.declared.state.Variable.{Variable}

-- ==== The workers of a render (AviSynth+ wiki, "Prefetch").

-- how many workers, and how many frames a window has, where that is given
pub record Numbers : Type 0 where
  pub threads : ℕ
  pub frames : Option ℕ

abbrev pub is_among : ℕ → ℕ → Bool
is_among most n = nat_le 1 n && nat_le n most

abbrev pub all_among : ℕ → Option ℕ → Bool
all_among most None = true
all_among most (Some n) = is_among most n

-- the numbers, where they are in their ranges
abbrev pub crew_in : ℕ → Option ℕ → Option Numbers
crew_in threads frames =
    if is_among 16 threads && all_among 32 frames then Some (record { threads = threads; frames = frames }) else None

-- twice as many frames as workers where none are given
abbrev pub frames_or : ℕ → Option ℕ → ℕ
frames_or threads (Some n) = n
frames_or threads None = 2 * threads

abbrev pub window_of : Numbers → ℕ
window_of crew = frames_or crew.threads crew.frames

pub record IsCrew (crew : Numbers) : Type 0 where
  pub least : 1 ≤ crew.threads
  pub most : crew.threads ≤ 16
  pub some_frames : 1 ≤ window_of crew
  pub few_frames : window_of crew ≤ 32

-- Without Prefetch there is one worker, and a window has one frame.
abbrev pub workers : Option Numbers → ℕ
workers None = 1
workers (Some crew) = crew.threads

abbrev pub window : Option Numbers → ℕ
window None = 1
window (Some crew) = window_of crew

-- ==== What the outside tells a script: the trees of texts, the clips of files, and the scripts of files.

pub record Outside : Type 0 where
  pub trees : Text → Result Loaded NoTree
  -- by the names of files
  pub clips : Text → Result Info InputFault
  pub scripts : Text → Result Text FileKind

-- ---- the outside of a world of files

abbrev pub script_in : Option (List ℕ) → Result Text FileKind
script_in None = Err f.NotThere
script_in (Some bytes) =
    if nat_lt text_limit (length bytes) then Err f.ScriptTooLong else (if is_utf8 bytes then Ok bytes else Err f.NotUtf8)

-- after k frames: the fault that comes next, or their number where the bytes end, or what the rest gives
abbrev pub frames_by : Option Y4mFault → ℕ → List ℕ → Result ℕ Y4mFault → Result ℕ Y4mFault
frames_by (Some fault) k left rest = Err fault
frames_by None k [] rest = Ok k
frames_by None k (byte ∷ left) rest = rest

-- Each frame has a byte, so that there are no more frames than bytes.
unfoldable pub frames_from : ℕ → ℕ → ℕ → List ℕ → Result ℕ Y4mFault
frames_from zero size k left = Err NoFrames
frames_from (suc fuel) size k left =
    frames_by (fault_after size k left) k left (frames_from fuel size (k + 1) (drop size (after_first is_newline left)))

abbrev pub info_by : Result ℕ Y4mFault → List ℕ → Result Info InputFault
info_by (Ok frames) bytes = Ok (head_info bytes frames)
info_by (Err fault) bytes = Err (i.Y4m fault)

abbrev pub stream_by : Option Y4mFault → List ℕ → Result Info InputFault
stream_by (Some fault) bytes = Err (i.Y4m fault)
stream_by None bytes = info_by (frames_from (length bytes + 1) (size_of bytes) 0 (body bytes)) bytes

abbrev pub clip_in : Option (List ℕ) → Result Info InputFault
clip_in None = Err i.NotThere
clip_in (Some bytes) = stream_by (head_fault bytes) bytes

-- what the files of a world tell, where texts have these trees
abbrev pub outside_of : (Text → Result Loaded NoTree) → World → Outside
outside_of trees world = record {
  trees = trees;
  clips = λ name. clip_in (get world name);
  scripts = λ name. script_in (get world name);
}

-- ==== The state of a run, and what a run gives: a value and the next state, or a fault.

-- a function, and the name of the text that it stands in
pub record Defined : Type 0 where
  pub function : tree.Function
  pub text : Text

-- variables in the order in which they were first set
abbrev pub Env : Type 0
Env = List Variable

pub record State : Type 0 where
  -- the variables of the function that runs, or of the script
  pub env : Env
  pub globals : Env
  pub functions : List Defined
  -- the modes that were set for filters
  pub modes : Modes
  -- what the last call of Prefetch asked for
  pub crew : Option Numbers
  pub plan : List Application
  -- the clips that were opened, in order
  pub opened : List SourceClip
  -- how many scripts were read by Import
  pub imports : ℕ
  -- how many statements and turns of loops are left
  pub units : ℕ

abbrev pub Outcome : Type 0 → Type 0
Outcome X = Result (X × State) Fault

abbrev pub Run : Type 0 → Type 0
Run X = State → Outcome X

abbrev pub and_then : {X Y : Type 0} → Outcome X → (X → Run Y) → Outcome Y
and_then (Ok ended) next = next ended.0 ended.1
and_then (Err fault) next = Err fault

infixl 10 ◌>>=◌
abbrev pub ◌>>=◌ : {X Y : Type 0} → Run X → (X → Run Y) → Run Y
first >>= next = λ s. and_then (first s) next

infixl 10 ◌>>◌
abbrev pub ◌>>◌ : {X Y : Type 0} → Run X → Run Y → Run Y
first >> next = first >>= (λ _. next)

abbrev pub pure : {X : Type 0} → X → Run X
pure x = λ s. Ok (x, s)

-- a fault in the text of this name, at a line
abbrev pub fails : {X : Type 0} → ScriptKind → Text → ℕ → Run X
fails kind here line = λ s. Err (script kind here line)

-- what needs no state
abbrev pub lifted : {X : Type 0} → Result X Fault → Run X
lifted (Ok x) = pure x
lifted (Err fault) = λ s. Err fault

-- ---- imports

-- one more script was read
abbrev pub imported : State → State
imported s = record s { imports = s.imports + 1 }

-- ---- units

abbrev pub pay : ℕ → Text → ℕ → Run (Unit {0})
pay zero here line = fails k.StepLimit here line
pay (suc n) here line = λ s. Ok (tt, record s { units = n })

-- a statement, or a turn of a loop
abbrev pub spend : Text → ℕ → Run (Unit {0})
spend here line = λ s. pay s.units here line s

-- ---- variables

abbrev pub lookup : Text → Env → Option Value
lookup name [] = None
lookup name (x ∷ env) = if same name x.name then Some x.value else lookup name env

-- a variable is replaced in its place, and a new one is put at the end
abbrev pub with : Text → Value → Env → Env
with name value [] = record { name = name; value = value } ∷ []
with name value (x ∷ env) =
    if same name x.name then record { name = name; value = value } ∷ env else x ∷ with name value env

abbrev pub or_else : Option Value → Option Value → Option Value
or_else (Some x) other = Some x
or_else None other = other

-- a variable of the environment, or else a global one
abbrev pub variable : Text → State → Option Value
variable name s = or_else (lookup name s.env) (lookup name s.globals)

abbrev pub set : Text → Value → Run (Unit {0})
set name value = λ s. Ok (tt, record s { env = with name value s.env })

abbrev pub set_global : Text → Value → Run (Unit {0})
set_global name value = λ s. Ok (tt, record s { globals = with name value s.globals })

-- ---- functions

abbrev pub find : Text → List Defined → Option Defined
find name [] = None
find name (d ∷ ds) = if same name d.function.name then Some d else find name ds

abbrev pub define_by : Option Defined → tree.Function → Text → Run (Unit {0})
define_by (Some d) function here = fails k.DuplicateFunction here function.line
define_by None function here = λ s.
    Ok (tt, record s { functions = s.functions ++ record { function = function; text = here } ∷ [] })

-- a function of the text of this name
abbrev pub define : tree.Function → Text → Run (Unit {0})
define function here = λ s. define_by (find function.name s.functions) function here s

abbrev pub define_all : List tree.Function → Text → Run (Unit {0})
define_all [] here = pure tt
define_all (function ∷ rest) here = define function here >> define_all rest here

-- ==== What the expressions and the statements of a text are evaluated in.

pub record Context : Type 0 where
  pub outside : Outside
  -- how many calls may still nest
  pub depth : ℕ
  -- what executes the statements of a text one call deeper
  pub deeper : Text → Block → Run Value
