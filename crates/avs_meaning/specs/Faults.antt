-- Why a script has no clip, and the printed names of it.
use Rattle.std.specs.Prelude.{ℕ, codes}
use Rattle.avs_lex.specs.Tokens.{lex_kind_name}
use Rattle.avs_values.specs.Values.{Refusal, Text}
use Rattle.avs_values.specs.Values as v
use Rattle.clip_term.specs.Refusals.{filter_fault_name}
use Rattle.avs_meaning.specs.declared.fault.FileKind.{FileKind}
use Rattle.avs_meaning.specs.declared.fault.FileKind.TheVariants as f
use Rattle.avs_meaning.specs.declared.fault.InputFault.{InputFault}
use Rattle.avs_meaning.specs.declared.fault.ScriptKind.{ScriptKind}
use Rattle.avs_meaning.specs.declared.fault.ScriptKind.TheVariants as k

-- ==== Why a script has no clip.

pub data Fault : Type 0 where
  -- a fault at a line of the text of this name
  script : ScriptKind → Text → ℕ → Fault
  -- the file of this name is no clip
  input : Text → InputFault → Fault

-- the same fault of a script
abbrev pub kind_of : Refusal → ScriptKind
kind_of v.TypeFault = k.TypeFault
kind_of v.Overflow = k.Overflow
kind_of v.DivZero = k.DivZero
kind_of v.BadText = k.BadText
kind_of v.BadRange = k.BadRange
kind_of v.TextLimit = k.TextLimit
kind_of (v.AssertFailed message) = k.AssertFailed message

-- ==== The printed names of faults of scripts. A fault that holds one of another kind has that one's name.

abbrev pub file_kind_name : FileKind → Text
file_kind_name f.NotThere = codes "NotThere"
file_kind_name f.ScriptTooLong = codes "ScriptTooLong"
file_kind_name f.NotUtf8 = codes "NotUtf8"

abbrev pub kind_name : ScriptKind → Text
kind_name (k.Lex kind) = lex_kind_name kind
kind_name (k.Filter fault) = filter_fault_name fault
kind_name (k.File kind) = file_kind_name kind
kind_name (k.AssertFailed message) = codes "AssertFailed"
kind_name k.TypeFault = codes "TypeFault"
kind_name k.Overflow = codes "Overflow"
kind_name k.DivZero = codes "DivZero"
kind_name k.BadText = codes "BadText"
kind_name k.BadRange = codes "BadRange"
kind_name k.BadExpression = codes "BadExpression"
kind_name k.TextLimit = codes "TextLimit"
kind_name k.Syntax = codes "Syntax"
kind_name k.NestLimit = codes "NestLimit"
kind_name k.UnknownName = codes "UnknownName"
kind_name k.NoMatch = codes "NoMatch"
kind_name k.NotClip = codes "NotClip"
kind_name k.DuplicateFunction = codes "DuplicateFunction"
kind_name k.StepLimit = codes "StepLimit"
kind_name k.CallDepth = codes "CallDepth"
kind_name k.NodeLimit = codes "NodeLimit"
kind_name k.DepthLimit = codes "DepthLimit"
kind_name k.ModeRefused = codes "ModeRefused"
kind_name k.PrefetchRange = codes "PrefetchRange"
