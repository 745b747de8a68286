-- What is read for a replay, and what it shows.
use Rattle.std.proofs.Common.{◌≡◌, ◌∙◌, ℕ, ◌<◌, ◌≤◌, List, length, Option, Some, None, Result, Ok, Err, IfOk, IfErr, OnOk, refl, sym, ap, subst}
use Rattle.std.specs.Prelude.{IsErrOf, Vec}
use Rattle.std.specs.FinMap.{get}
use Rattle.std.specs.Option.{ForSome}
use Rattle.std.specs.declared.alloc.Global.{Global}
use Rattle.fv_io.specs.World.{World, InWorld}
use Rattle.fv_io.specs.declared.files.FetchFault.{FetchFault}
use Rattle.fv_io.specs.declared.files.FetchFault.TheVariants as of_fetch
use Rattle.fv_io.specs.declared.sink.Sink.{Ghosts}
use Rattle.prefetch.specs.Rendered.{PutsNothing}
use Rattle.avs_eval.specs.declared.evaluation.Opened.{Opened}
use Rattle.avs_meaning.specs.Meaning as m
use Rattle.serve_replay.specs.Verdicts.{longest, IsSaidOf, PutsDue, DueStops}
use Rattle.serve_replay.specs.declared.reading.JournalStop.{JournalStop}
use Rattle.serve_replay.specs.declared.reading.JournalStop.TheVariants as of_journal
use Rattle.serve_text.specs.declared.stop.Stop.{Stop}
use Rattle.serve_text.specs.declared.stop.Stop.TheVariants as of_stop
use Rattle.serve_app.specs.declared.replay.Charge.{Charge}
use Rattle.serve_app.specs.Meaning.{meaning_in}
use Rattle.serve_app.specs.Opening.{OpeningShows}
use Rattle.serve_app.specs.Replays.{HasText, IsToldVerdict, journal_stop, charge_with, ReadingShows, IsCharge, ReplayShows, IsScriptReplay}
use Rattle.serve_app.specs.Sessions.{fetch_stop}
use Rattle.serve_app.specs.Stop.{ScriptHasClip, IsByScript}
use Rattle.serve_app.proofs.MeaningLemmas.{same_plan, same_root}
use Rattle.serve_app.proofs.SessionLemmas.{given}

module _ (told : Option World) (script name : List ℕ) (failed : Type 0) where
  abbrev Shown : Stop → Type 0
  Shown stop = ReadingShows told script name failed stop

  -- the script was not evaluated
  pub before_reads : (stop : Stop) → OpeningShows told script failed stop → Shown stop
  before_reads (of_stop.Script kind text line) shown = shown
  before_reads (of_stop.Input file fault) shown = shown
  before_reads (of_stop.Changed file frame want got) shown = shown
  before_reads (of_stop.File file fault) shown = absurd shown
  before_reads of_stop.Read shown = shown
  before_reads of_stop.Write shown = shown
  before_reads of_stop.Memory shown = shown

  -- the file was not opened
  pub unopened_journal : {X : Type 0} (fault : FetchFault) → ScriptHasClip told script
      → (IsErrOf {T = X} (Err fault) of_fetch.NotThere → InWorld told (λ w. get w name ≡ None)) → (IsErrOf {T = X} (Err fault) of_fetch.Failed → failed) → Shown (fetch_stop name fault)
  unopened_journal of_fetch.NotThere has none fails = (refl, (has, none refl))
  unopened_journal of_fetch.Failed has none fails = fails refl
  unopened_journal of_fetch.Memory has none fails = tt

  -- it was opened, and its bytes were read
  module _ (opened : Opened) (bytes : Option (List ℕ)) (done : Result (Vec ℕ Global) JournalStop) where
    abbrev Told : Type 0
    Told = InWorld told (λ w. bytes ≡ get w name)

    abbrev Longer : Type 0
    Longer = ForSome bytes (λ text. longest < length text)

    pub charged : Told → InWorld told (λ w. get w name ≡ None → ⊥) → InWorld told (λ w. meaning_in w script ≡ m.clip opened.graph opened.root opened.prefetch) → opened.root < length opened.graph
        → IfOk done (λ text. ForSome bytes (λ all. text.items ≡ all)) → IfOk done (λ text. length text.items ≤ longest) → IfOk (charge_with opened name done) (IsCharge told script name)
    charged tells there means inside same short = by_done done same short
      where
        text_is : (text : Vec ℕ Global) → ForSome bytes (λ all. text.items ≡ all) → InWorld told (λ w. get w name ≡ Some text.items)
        text_is text all w is =
            let some = given (get w name) (there w is) in
            let here : bytes ≡ Some some.0 = tells w is ∙ some.1 in
            let items : text.items ≡ some.0 = all some.0 here in
            rw items some.1

        by_done : (over : Result (Vec ℕ Global) JournalStop) → IfOk over (λ text. ForSome bytes (λ all. text.items ≡ all)) → IfOk over (λ text. length text.items ≤ longest)
            → IfOk (charge_with opened name over) (IsCharge told script name)
        by_done (Ok text) all few = record {
          inside = inside;
          told_is = λ w is. record { crew = opened.prefetch; means = means w is; text_is = text_is text all w is; few = few };
        }
        by_done (Err why) all few = tt

    pub unread_journal : Told → ScriptHasClip told script → (IsErrOf done of_journal.TooLong → Longer) → (IsErrOf done of_journal.Read → failed) → IfErr (charge_with opened name done) Shown
    unread_journal tells has long fails = by_done done long fails
      where
        by_done : (over : Result (Vec ℕ Global) JournalStop) → (IsErrOf over of_journal.TooLong → Longer) → (IsErrOf over of_journal.Read → failed) → IfErr (charge_with opened name over) Shown
        by_done (Ok text) long fails = tt
        by_done (Err of_journal.TooLong) long fails =
            (refl, (has, (λ w is text there. long refl text (tells w is ∙ there))))
        by_done (Err of_journal.Read) long fails = fails refl
        by_done (Err of_journal.Memory) long fails = tt

-- what holds where no read failed
pub read_well : (opened : Opened) (name : List ℕ) (done : Result (Vec ℕ Global) JournalStop) (Steady P : Type 0) → ((IsErrOf done of_journal.Read → ⊥) → Steady) → (Steady → P) → OnOk (charge_with opened name done) P
read_well opened name (Ok text) Steady P steady so = so (steady (λ bad. cc bad))
read_well opened name (Err why) Steady P steady so = tt

-- what holds of each answer that is well
pub on_charge : (opened : Opened) (name : List ℕ) (done : Result (Vec ℕ Global) JournalStop) (P : Type 0) → P → OnOk (charge_with opened name done) P
on_charge opened name (Ok text) P is = is
on_charge opened name (Err why) P is = tt

module _ {K : Type 0} (told : Option World) (script name : List ℕ) (capacity : ℕ) (sink : Ghosts K) (old new : K) (failed : Type 0) where
  abbrev Shows : Stop → Type 0
  Shows stop = ReplayShows told script name capacity sink old new failed stop

  -- nothing was put
  unread : (stop : Stop) → PutsNothing sink old new → ReadingShows told script name failed stop → Shows stop
  unread (of_stop.Script kind text line) still shown = (shown, still)
  unread (of_stop.Input file fault) still shown = (shown, still)
  unread (of_stop.Changed file frame want got) still shown = (shown, still)
  unread (of_stop.File file fault) still shown = (shown, still)
  unread of_stop.Read still shown = (shown, still)
  unread of_stop.Write still shown = absurd shown
  unread of_stop.Memory still shown = (shown, still)

  pub unread_replay : (stop : Stop) → new ≡ old → ReadingShows told script name failed stop → IsScriptReplay told script name capacity sink old new failed (Err stop)
  unread_replay stop still shown = record { whole = tt; clip = tt; stop = unread stop (ap sink.bytes still) shown }

  -- a line was put of what was read, whole or cut short
  module _ (charge : Charge) (is : IsCharge told script name charge) (clip : ScriptHasClip told script) where
    text_there : (world : World) → told ≡ Some world → HasText world script name
    text_there world there = record { plan = charge.graph; root = charge.root; text = charge.text.items; of = is.told_is world there }

    abbrev Said : List ℕ → Type 0
    Said line = IsSaidOf charge.graph charge.root capacity charge.text.items line

    said_there : (line : List ℕ) → IsToldVerdict told script name capacity line → Said line
    said_there line verdict =
        let a = verdict.is in
        let h = a.has in
        let x = h.of in
        let y = is.told_is verdict.world verdict.told_is in
        let same = sym x.means ∙ y.means in
        let plans = same_plan h.plan charge.graph h.root charge.root x.crew y.crew same in
        let roots = same_root h.plan charge.graph h.root charge.root x.crew y.crew same in
        let texts : Some h.text ≡ Some charge.text.items = sym x.text_is ∙ y.text_is in
        let alike : h.text ≡ charge.text.items = cc in
        rw (plans, roots, alike) at a.says

    pub judged_replay : (done : Result (Unit {0}) Stop) → OnOk done (PutsDue sink old new Said) → IfErr done (DueStops sink old new Said) → IsScriptReplay told script name capacity sink old new failed done
    unfolding text_there
    judged_replay (Ok u) due stop = record {
      whole = λ world there. record { line = due.line; is = record { has = text_there world there; says = due.due }; put = due.put };
      clip = clip;
      stop = tt;
    }
    judged_replay (Err of_stop.Write) due stop = record { whole = tt; clip = tt; stop = (stop.0, clip, text_there, (λ line verdict. stop.1 line (said_there line verdict))) }
    judged_replay (Err of_stop.Memory) due stop = record { whole = tt; clip = tt; stop = (tt, ap sink.bytes stop) }
    judged_replay (Err (of_stop.Script kind text line)) due stop = absurd stop
    judged_replay (Err (of_stop.Input file fault)) due stop = absurd stop
    judged_replay (Err (of_stop.Changed file frame want got)) due stop = absurd stop
    judged_replay (Err (of_stop.File file fault)) due stop = absurd stop
    judged_replay (Err of_stop.Read) due stop = absurd stop

-- ---- stops that aren't for the script

no_journal : (name : List ℕ) (why : JournalStop) → IsByScript (journal_stop name why) → ⊥
no_journal name of_journal.TooLong by = by
no_journal name of_journal.Read by = by
no_journal name of_journal.Memory by = by

pub no_charge : (opened : Opened) (name : List ℕ) (done : Result (Vec ℕ Global) JournalStop) (P : Type 0) → IfErr (charge_with opened name done) (λ stop. IsByScript stop → P)
no_charge opened name (Ok text) P = tt
no_charge opened name (Err why) P = λ by. absurd (no_journal name why by)

not_write : (name : List ℕ) (why : JournalStop) → journal_stop name why ≡ of_stop.Write → ⊥
not_write name of_journal.TooLong is = let no : ⊥ = cc is in no
not_write name of_journal.Read is = let no : ⊥ = cc is in no
not_write name of_journal.Memory is = let no : ⊥ = cc is in no

-- and none is a failed write
pub unwritten : (opened : Opened) (name : List ℕ) (done : Result (Vec ℕ Global) JournalStop) → IsErrOf (charge_with opened name done) of_stop.Write → ⊥
unwritten opened name (Ok text) is = let no : ⊥ = cc is in no
unwritten opened name (Err why) is = not_write name why (let same : journal_stop name why ≡ of_stop.Write = cc is in same)

unopened_write : (name : List ℕ) (fault : FetchFault) → fetch_stop name fault ≡ of_stop.Write → ⊥
unopened_write name of_fetch.NotThere is = let no : ⊥ = cc is in no
unopened_write name of_fetch.Failed is = let no : ⊥ = cc is in no
unopened_write name of_fetch.Memory is = let no : ⊥ = cc is in no

pub unopened_unwritten : {X : Type 0} (name : List ℕ) (fault : FetchFault) → IsErrOf {T = X} (Err (fetch_stop name fault)) of_stop.Write → ⊥
unopened_unwritten name fault is = unopened_write name fault (let same : fetch_stop name fault ≡ of_stop.Write = cc is in same)

opening_write : (told : Option World) (script : List ℕ) (failed : Type 0) (stop : Stop) → OpeningShows told script failed stop → stop ≡ of_stop.Write → ⊥
opening_write told script failed stop shown is = subst (OpeningShows told script failed) is shown

pub opening_unwritten : {X : Type 0} (told : Option World) (script : List ℕ) (failed : Type 0) (stop : Stop) → OpeningShows told script failed stop → IsErrOf {T = X} (Err stop) of_stop.Write → ⊥
opening_unwritten told script failed stop shown is = opening_write told script failed stop shown (let same : stop ≡ of_stop.Write = cc is in same)

due_script : {K : Type 0} (sink : Ghosts K) (old new : K) (IsDue : List ℕ → Type 0) (stop : Stop) → DueStops sink old new IsDue stop → IsByScript stop → ⊥
due_script sink old new IsDue (of_stop.Script kind name line) shown by = shown
due_script sink old new IsDue (of_stop.Input name fault) shown by = shown
due_script sink old new IsDue (of_stop.Changed name frame want got) shown by = by
due_script sink old new IsDue (of_stop.File name fault) shown by = by
due_script sink old new IsDue of_stop.Read shown by = by
due_script sink old new IsDue of_stop.Write shown by = by
due_script sink old new IsDue of_stop.Memory shown by = by

pub no_due : {K : Type 0} (sink : Ghosts K) (old new : K) (IsDue : List ℕ → Type 0) (done : Result (Unit {0}) Stop) (P : Type 0) → IfErr done (DueStops sink old new IsDue) → IfErr done (λ stop. IsByScript stop → P)
no_due sink old new IsDue (Ok u) P shown = tt
no_due sink old new IsDue (Err stop) P shown = λ by. absurd (due_script sink old new IsDue stop shown by)
