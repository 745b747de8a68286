-- What the evaluation of a script reads of a host, and how a fault of its file is told.
use Rattle.std.proofs.Common.{◌≡◌, ◌∙◌, ℕ, ◌+◌, ◌++◌, if◌then◌else◌, arith, Bool, IsTrue, List, length, Option, Result, Ok, Err, OnOk, refl, sym, ap}
use Rattle.std.proofs.lemmas.List.Recursion.{is_count_by}
use Rattle.fv_io.specs.World.{World}
use Rattle.fv_io.specs.declared.source.Source.{Ghosts}
use Rattle.seq_source.specs.FrameSource.{FrameSource}
use Rattle.inst_table.specs.declared.place.Place.{Place}
use Rattle.inst_table.specs.declared.place.Slot.{Slot}
use Rattle.serve_worker.specs.declared.instance.Instance.{Instance}
use Rattle.serve_worker.specs.Furnishing.{sources_in as sources_of_table, fault_counts}
use Rattle.clip_term.specs.Terms.{Act, source}
use Rattle.clip_graph.specs.Plan.{Application, is_source, sources_in}
use Rattle.avs_meaning.specs.Meaning as m
use Rattle.avs_meaning.specs.State.{Outside}
use Rattle.avs_meaning.specs.declared.fault.FileKind.{FileKind}
use Rattle.avs_meaning.specs.declared.fault.ScriptKind.TheVariants as k
use Rattle.avs_meaning.specs.declared.state.SourceClip.{SourceClip}
use Rattle.avs_meaning.specs.declared.stop.EvalError.TheVariants as s
use Rattle.avs_state.specs.Hosts.{TellsScript, StopsBy}
use Rattle.avs_state.specs.Sources.{source_of, sources_of}
use Rattle.avs_state.specs.Stops.{named}
use Rattle.avs_state.specs.declared.stop.Stop as run
use Rattle.avs_state.specs.declared.host.HostFault.{HostFault}
use Rattle.avs_state.specs.declared.host.HostFault.TheVariants as h
use Rattle.avs_eval.specs.Evaluates.{Evaluates}
use Rattle.avs_eval.specs.declared.evaluation.Opened.{Opened}
use Rattle.avs_files.specs.Closed.{CountsFaults, faults_among}
use Rattle.avs_files.specs.Opened.{told_of}
use Rattle.serve_text.specs.StopKinds.{stop_of}
use Rattle.serve_app.specs.Opening.{Tells}
use Rattle.serve_text.specs.declared.stop.Stop.{Stop}
use Rattle.serve_app.specs.Meaning.{files_in, ReadsOnce}
use Rattle.serve_app.proofs.ClosingLemmas.{count_stays}
use Rattle.serve_app.proofs.PlayLemmas.{told_as, in_told}

-- ---- the file of the script

-- a file that is no script is told as the script's fault
pub fault_told : (told : Result (List ℕ) FileKind) (outside : Outside) (name : List ℕ) (fault : HostFault) (stop : run.Stop) → TellsScript told (Err fault) → StopsBy fault name 0 stop
    → Tells (m.script_meaning told outside name) (Err (stop_of (named name stop)))
fault_told told outside name (h.Input why) stop tells by = absurd tells
fault_told told outside name (h.Script kind) stop tells by = rw (tells, by) (told_as _ (s.Fault (k.File kind) name 0) refl)
fault_told told outside name h.Read stop tells by = rw by tt
fault_told told outside name h.Memory stop tells by = rw by tt

-- ---- its text

one_source : (act : Act) (later : List SourceClip) → length (source_of act ++ later) ≡ (if is_source act then 1 + length later else length later)
one_source (source name number info) later = omega arith
one_source _ later = refl

count_sources : (plan : List Application) → length (sources_of plan) ≡ sources_in plan
count_sources plan = is_count_by (λ (as' : List Application). length (sources_of as')) (λ (a : Application). is_source a.act) refl (λ a later. one_source a.act (sources_of later)) plan

-- the files that were fetched are those that the script reads
pub all_read : (outside : Outside) (name text : List ℕ) (opened : Opened) (given : List SourceClip) (before mid now : ℕ) → outside.scripts name ≡ Ok text
    → m.text_meaning outside name text ≡ m.clip opened.graph opened.root opened.prefetch → sources_of opened.graph ≡ given → mid ≡ before + 1
    → now ≡ mid + (length given + m.text_imports outside name text) → now ≡ before + m.files_of outside name
all_read outside name text opened given before mid now there means same first rest =
    let files : m.files_of outside name ≡ 1 + m.text_imports outside name text + sources_in opened.graph =
    ap (λ r. m.script_files r outside name) there ∙ ap (λ meaning. m.files_by meaning (m.text_imports outside name text)) means in
    let count = sym (count_sources opened.graph) ∙ ap length same in
    omega (arith, files, count, first, rest)

-- ---- all of it

-- no fault was counted, and the files that were fetched are those of the world
pub reads_once : (told : Bool) (world : World) (name : List ℕ) (faults after fetched fetched_after : ℕ) → after ≡ faults → (IsTrue told → fetched_after ≡ fetched + files_in world name)
    → ReadsOnce (told_of told world) name faults after fetched fetched_after
reads_once told world name faults after fetched fetched_after steady all =
    record { steady = steady; fetched = in_told told world (λ w. fetched_after ≡ fetched + files_in w name) all }

module _ {S : Type 0} (source : Ghosts S) (told : Option World) (name : List ℕ) (faults mid between after fetched fetched_mid fetched_after : ℕ) (sources left : List (FrameSource S))
    (table : List (Place × Slot (Instance S))) (none : faults_among source sources ≡ 0) (was : ReadsOnce told name faults mid fetched fetched_mid) (same : fetched_after ≡ fetched_mid)
    (counts : CountsFaults source (sources_of_table table) mid between) (last : CountsFaults source left between after) where
  -- the sources of a stream that was put whole have not failed, so their closing counts no fault
  pub stream_reads : {X : Type 0} (put : Result X Stop) → OnOk put (fault_counts source (left ++ sources_of_table table) ≡ fault_counts source sources)
      → OnOk put (ReadsOnce told name faults after fetched fetched_after)
  stream_reads (Ok whole) steady = record {
    steady = count_stays source table left sources mid between after steady none counts last ∙ was.steady;
    fetched = λ w is. same ∙ was.fetched w is;
  }
  stream_reads (Err stop) steady = tt
