-- The texts that are read, the line that is said of each, and what a call that puts it leaves.
use Rattle.std.specs.List.{count_by}
use Rattle.std.specs.Prelude.{ℕ, ◌==◌, Bool, List, ◌++◌, codes, decimal, drop, ◌≡◌}
use Rattle.fv_io.specs.Sink.{Puts, PutsPrefix, SinkFailed}
use Rattle.fv_io.specs.declared.sink.Sink.{Ghosts}
use Rattle.clip_graph.specs.Plan.{Application}
use Rattle.run_text.specs.Journal.{Judges}
use Rattle.run_text.specs.declared.verdict.Verdict.{Verdict}
use Rattle.run_text.specs.declared.verdict.Verdict.TheVariants.{Yes, No}
use Rattle.serve_text.specs.declared.stop.Stop.{Stop}
use Rattle.serve_text.specs.declared.stop.Stop.TheVariants as of_stop

-- ==== The lines that say what a text is.

abbrev pub is_newline : ℕ → Bool
is_newline byte = byte == 10

-- a journal, with the number of its lines, each of which has a newline at its end
abbrev pub run_line : List ℕ → List ℕ
run_line text = codes "run: " ++ (decimal (count_by is_newline text) ++ codes " lines\n")

-- no journal, with the first line at which it stops being one
abbrev pub wrong_line : ℕ → List ℕ
wrong_line line = codes "not a run: line " ++ (decimal line ++ codes "\n")

-- ==== The texts that are read.

-- the longest text that is read
abbrev pub longest : ℕ
longest = 67108864

-- the text so far, and the bytes from the source's place on
abbrev pub with_rest : List ℕ → List ℕ → ℕ → List ℕ
with_rest text told place = text ++ drop place told

-- ==== The line that is said of a text, and what a call that puts it leaves.

-- the line of a verdict on a text
abbrev pub said : List ℕ → Verdict → List ℕ
said text Yes = run_line text
said text (No line) = wrong_line line

-- this is the line of the text: that of a journal of the plan, or of the first line at which it stops being one
pub record IsSaidOf (plan : List Application) (root capacity : ℕ) (text line : List ℕ) : Type 0 where
  pub verdict : Verdict
  pub judged : Judges plan root capacity text verdict
  pub line_is : line ≡ said text verdict

abbrev pub SaidOnce : Type 0
SaidOnce = (plan : List Application) (root capacity : ℕ) (text one other : List ℕ)
    → IsSaidOf plan root capacity text one → IsSaidOf plan root capacity text other → one ≡ other

-- ---- puts

module _ {K : Type 0} (sink : Ghosts K) (old new : K) (IsDue : List ℕ → Type 0) where
  -- a line that is due was put, and nothing else
  pub record PutsDue : Type 0 where
    pub line : List ℕ
    pub due : IsDue line
    pub put : Puts sink old new line

  -- why no line was put whole: the sink failed, and a prefix of each line that is due was put, or out of memory, and
  -- nothing was
  abbrev pub DueStops : Stop → Type 0
  DueStops (of_stop.Script kind name line) = ⊥
  DueStops (of_stop.Input name fault) = ⊥
  DueStops (of_stop.Changed name frame want got) = ⊥
  DueStops (of_stop.File name fault) = ⊥
  DueStops of_stop.Read = ⊥
  DueStops of_stop.Write = SinkFailed sink old new × ((line : List ℕ) → IsDue line → PutsPrefix sink old new line)
  DueStops of_stop.Memory = new ≡ old
