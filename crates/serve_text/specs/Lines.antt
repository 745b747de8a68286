-- The lines of the program on standard error.
use Rattle.std.specs.Prelude.{ℕ, List, [], ◌++◌, codes}
use Rattle.std.specs.Char.{encode_utf8}
use Rattle.std.specs.Fmt.{decimal}
use Rattle.fv_io.specs.declared.sink.Sink.{Ghosts}
use Rattle.fv_io.specs.Sink.{Puts, PutsPrefix, IsLater, SinkFailed}
use Rattle.y4m_stream.specs.declared.fault.Y4mFault.{Y4mFault}
use Rattle.y4m_stream.specs.declared.fault.Y4mFault.TheVariants as of_stream
use Rattle.y4m_stream.specs.Stream.{fault_name}
use Rattle.avs_meaning.specs.Faults.{kind_name}
use Rattle.avs_meaning.specs.declared.fault.InputFault.{InputFault}
use Rattle.avs_meaning.specs.declared.fault.InputFault.TheVariants as of_input
use Rattle.avs_meaning.specs.declared.fault.ScriptKind.{ScriptKind}
use Rattle.avs_meaning.specs.declared.fault.ScriptKind.TheVariants as k
use Rattle.serve_text.specs.declared.stop.FileFault.{FileFault}
use Rattle.serve_text.specs.declared.stop.FileFault.TheVariants as of_file
use Rattle.serve_text.specs.declared.stop.Stop.{Stop}
use Rattle.serve_text.specs.declared.stop.Stop.TheVariants as of_stop

abbrev pub usage_line : List ℕ
usage_line = codes "usage: avsserve render SCRIPT [--cache C] [--threads T] [--report | --journal] [--plain] | info SCRIPT | selftest NUMBER | session SCRIPT LIST [--cache C] | replay SCRIPT JOURNAL [--cache C]\n"

abbrev pub read_line : List ℕ
read_line = codes "read fault\n"

abbrev pub write_line : List ℕ
write_line = codes "write fault\n"

abbrev pub memory_line : List ℕ
memory_line = codes "no memory\n"

-- the name of a fault, and the message of an assertion that failed
abbrev pub kind_text : ScriptKind → List ℕ
kind_text (k.AssertFailed message) = codes "AssertFailed: " ++ message
kind_text kind = kind_name kind

-- the letter or the number that a fault of a stream is about, after a space
abbrev pub y4m_detail : Y4mFault → List ℕ
y4m_detail (of_stream.BadNumber letter) = codes " " ++ encode_utf8 letter
y4m_detail (of_stream.BadFrame frame) = codes " " ++ decimal frame
y4m_detail (of_stream.Truncated frame) = codes " " ++ decimal frame
y4m_detail _ = []

-- a kind, and the letter or the number that it is about
abbrev pub y4m_kind : Y4mFault → List ℕ
y4m_kind fault = fault_name fault ++ y4m_detail fault

abbrev pub input_kind : InputFault → List ℕ
input_kind of_input.NotThere = codes "NotThere"
input_kind (of_input.Y4m fault) = y4m_kind fault

-- the frame that isn't whole any more, the offset just past it, and the offset at which the bytes ended
abbrev pub changed_kind : ℕ → ℕ → ℕ → List ℕ
changed_kind frame want got =
    codes "Changed " ++ (decimal frame ++ (codes " want " ++ (decimal want ++ (codes " got " ++ decimal got))))

abbrev pub file_kind : FileFault → List ℕ
file_kind of_file.NotThere = codes "NotThere"
file_kind of_file.LineTooLong = codes "LineTooLong"
file_kind of_file.TooManyLines = codes "TooManyLines"
file_kind of_file.JournalTooLong = codes "JournalTooLong"

-- the fault of the text of this name at a line
abbrev pub script_line : ScriptKind → List ℕ → ℕ → List ℕ
script_line kind name line = codes "script fault: " ++ (name
    ++ (codes " line " ++ (decimal line ++ (codes ": " ++ (kind_text kind ++ codes "\n")))))

-- a fault of this kind of the file of this name
abbrev pub file_line : List ℕ → List ℕ → List ℕ
file_line name kind = codes "input fault: " ++ (name ++ (codes ": " ++ (kind ++ codes "\n")))

abbrev pub input_line : List ℕ → InputFault → List ℕ
input_line name fault = file_line name (input_kind fault)

-- the line of a stop
abbrev pub stop_line : Stop → List ℕ
stop_line (of_stop.Script kind name line) = script_line kind name line
stop_line (of_stop.Input name fault) = input_line name fault
stop_line (of_stop.Changed name frame want got) = file_line name (changed_kind frame want got)
stop_line (of_stop.File name fault) = file_line name (file_kind fault)
stop_line of_stop.Read = read_line
stop_line of_stop.Write = write_line
stop_line of_stop.Memory = memory_line

-- a line is put whole where the count of faults didn't rise, and a prefix of it in any case
pub record Says {E : Type 0} (sink : Ghosts E) (old new : E) (line : List ℕ) : Type 0 where
  pub cut : PutsPrefix sink old new line
  pub whole : (SinkFailed sink old new → ⊥) → Puts sink old new line
  pub later : IsLater sink old new
