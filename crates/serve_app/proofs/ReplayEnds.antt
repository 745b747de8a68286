-- What a replay shows at its end, from what it did.
use Rattle.std.proofs.Common.{◌≡◌, ◌∙◌, ◌⊎◌, ℕ, ◌<◌, ◌≤◌, nat_le, Bool, true, false, List, length, Option, Some, None, Ok, Err, inl, inr, refl, sym, ap, subst, arith}
use Rattle.std.specs.FinMap.{get}
use Rattle.std.specs.Option.{ForSome}
use Rattle.std.proofs.lemmas.Bool.{le-leb}
use Rattle.std.proofs.lemmas.Bool.Decides.{nat_tests}
use Rattle.fv_io.specs.declared.files.Files as of_files
use Rattle.fv_io.specs.declared.sink.Sink.{Ghosts}
use Rattle.fv_io.specs.Files.{FilesFailed}
use Rattle.fv_io.specs.Sink.{PutsPrefix}
use Rattle.fv_io.specs.World.{World, InWorld}
use Rattle.fv_io.proofs.CallerLemmas.{gets_all, gets_none}
use Rattle.prefetch.specs.Rendered.{PutsNothing}
use Rattle.serve_replay.specs.Verdicts.{longest, IsSaidOf}
use Rattle.serve_replay.proofs.VerdictLemmas.{said_once}
use Rattle.serve_text.specs.Lines.{Says, stop_line, file_line, file_kind}
use Rattle.serve_text.specs.StopKinds.{status_of_stop}
use Rattle.serve_text.specs.declared.stop.FileFault.{FileFault}
use Rattle.serve_text.specs.declared.stop.FileFault.TheVariants as of_file
use Rattle.serve_text.specs.declared.stop.Stop.{Stop}
use Rattle.serve_text.specs.declared.stop.Stop.TheVariants as of_stop
use Rattle.serve_text.specs.declared.stop.Stop.TheVariants.{Script, Input, Changed, Read, Write, Memory}
use Rattle.serve_app.specs.Headline.{EndsByInput, EndsByJournal, ReplayEnds}
use Rattle.serve_app.specs.Meaning.{Meaning, a_clip, Means}
use Rattle.serve_app.specs.Replays.{HasText, IsVerdictOf, IsToldVerdict, IsJournalFault, ReplayShows, status_of_text, replay_status}
use Rattle.serve_app.specs.Run.{ReplayDoes}
use Rattle.serve_app.specs.Stop.{ScriptHasClip}
use Rattle.serve_app.proofs.MeaningLemmas.{means_one_thing, same_plan, same_root}
use Rattle.serve_app.proofs.RunLemmas.{Before, never_zero, Cause, Fails, causes_of, causes_of_whole}

-- one line is said in a world
pub one_verdict : (world : World) (script name : List ℕ) (capacity : ℕ) (one other : List ℕ) → IsVerdictOf world script name capacity one → IsVerdictOf world script name capacity other → one ≡ other
one_verdict world script name capacity one other a b =
    let h = a.has in
    let k = b.has in
    let x = h.of in
    let y = k.of in
    let same = sym x.means ∙ y.means in
    let plans = same_plan h.plan k.plan h.root k.root x.crew y.crew same in
    let roots = same_root h.plan k.plan h.root k.root x.crew y.crew same in
    let texts : Some h.text ≡ Some k.text = sym x.text_is ∙ y.text_is in
    let alike : h.text ≡ k.text = cc in
    let says : IsSaidOf k.plan k.root capacity k.text one = rw (plans, roots, alike) at a.says in
    said_once k.plan k.root capacity k.text one other says b.says

not_few : (n most : ℕ) → most < n → nat_le n most ≡ true → ⊥
not_few n most more few = grind (arith, nat_tests)

over : (n most : ℕ) → most < n → (b : Bool) → nat_le n most ≡ b → nat_le n most ≡ false
over n most more true few = absurd (not_few n most more few)
over n most more false is = is

-- the status of a text by its length
short_is : (text : List ℕ) → length text ≤ longest → status_of_text (Some text) ≡ 0
short_is text few = rw (le-leb (length text) longest few) refl

long_is : (text : List ℕ) → longest < length text → 3 ≡ status_of_text (Some text)
long_is text more = rw (over (length text) longest more (nat_le (length text) longest) refl) refl

long_status : (o p : Option (List ℕ)) → o ≡ p → ForSome o (λ text. longest < length text) → 3 ≡ status_of_text o
long_status o None none long = sym (ap status_of_text none)
long_status o (Some text) some long = long_is text (long text some) ∙ sym (ap status_of_text some)

module _ {F S K E : Type 0} (files : of_files.Ghosts F S) (sink : Ghosts K) (lines : Ghosts E) (f g : F) (out new : K) (err said : E) (script name : List ℕ) (capacity : ℕ) where
  abbrev Ended : ℕ → Type 0
  Ended status = ReplayEnds files sink lines f g out new err said script name capacity status

  abbrev due : World → Meaning → ℕ
  due = replay_status name

  by_clip : (world : World) (meaning : Meaning) → files.world f ≡ Some world → Means world script meaning → ScriptHasClip (files.world f) script → status_of_text (get world name) ≡ due world meaning
  by_clip world meaning is means has = let one = has world is in ap (due world) (means_one_thing world script (a_clip one.0) meaning one.1 means)

  -- ---- a stop

  abbrev Shows : Stop → Type 0
  Shows stop = ReplayShows (files.world f) script name capacity sink out new (FilesFailed files f g) stop

  abbrev OfFile : List ℕ → FileFault → Type 0
  OfFile file fault = ((file ≡ name) × IsJournalFault (files.world f) script name fault) × PutsNothing sink out new

  of_file_is : (file : List ℕ) (fault : FileFault) → OfFile file fault → (world : World) (meaning : Meaning) → files.world f ≡ Some world → Means world script meaning → 3 ≡ due world meaning
  of_file_is file of_file.NotThere (of, put) world meaning is means = sym (ap status_of_text (of.1.1 world is)) ∙ by_clip world meaning is means of.1.0
  of_file_is file of_file.JournalTooLong (of, put) world meaning is means = long_status (get world name) (get world name) refl (of.1.1 world is) ∙ by_clip world meaning is means of.1.0
  of_file_is file of_file.LineTooLong (of, put) world meaning is means = absurd of.1
  of_file_is file of_file.TooManyLines (of, put) world meaning is means = absurd of.1

  cause_of : (stop : Stop) → Shows stop → Cause files sink lines f g out new err said script OfFile stop
  cause_of (Script kind text line) shown = shown
  cause_of (Input file fault) shown = shown
  cause_of (Changed file frame want got) shown = absurd shown.0
  cause_of (of_stop.File file fault) shown = shown
  cause_of Read shown = shown.0
  cause_of Write shown = (shown.0, shown.1)
  cause_of Memory shown = tt

  abbrev InputFails : Type 0
  InputFails = EndsByInput files sink lines f g out new err said script ⊎ EndsByJournal files sink lines f g out new err said script name capacity

  input_of : (stop : Stop) → Shows stop → Before files sink lines f g out new err said script stop → Says lines err said (stop_line stop) → status_of_stop stop ≡ 3 → InputFails
  input_of (Script kind text line) shown before says is = absurd (omega (arith, is))
  input_of (Input file fault) shown before says is = inl (record { name = file; fault = fault; is = shown.0; line = says; put = shown.1; steady = before tt })
  input_of (Changed file frame want got) shown before says is = absurd shown.0
  input_of (of_stop.File file fault) shown before says is =
      inr (record { fault = fault; is = (shown.0).1; line = subst (λ (n : List ℕ). Says lines err said (file_line n (file_kind fault))) (shown.0).0 says; put = shown.1 })
  input_of Read shown before says is = absurd (omega (arith, is))
  input_of Write shown before says is = absurd (omega (arith, is))
  input_of Memory shown before says is = absurd (omega (arith, is))

  -- ---- all of it

  nothing_cut : (line : List ℕ) → PutsNothing sink out new → PutsPrefix sink out new line
  nothing_cut line none = rw none (gets_none (sink.bytes out) line)

  prefix_of : (stop : Stop) → Shows stop → (line : List ℕ) → IsToldVerdict (files.world f) script name capacity line → PutsPrefix sink out new line
  prefix_of (Script kind text at) shown line is = nothing_cut line shown.1
  prefix_of (Input file fault) shown line is = nothing_cut line shown.1
  prefix_of (Changed file frame want got) shown line is = nothing_cut line shown.1
  prefix_of (of_stop.File file fault) shown line is = nothing_cut line shown.1
  prefix_of Read shown line is = nothing_cut line shown.1
  prefix_of Write shown line is = shown.3 line is
  prefix_of Memory shown line is = nothing_cut line shown.1

  nothing_of : (stop : Stop) → Shows stop → InWorld (files.world f) (λ world. (HasText world script name → ⊥) → PutsNothing sink out new)
  nothing_of (Script kind text line) shown world is none = shown.1
  nothing_of (Input file fault) shown world is none = shown.1
  nothing_of (Changed file frame want got) shown world is none = shown.1
  nothing_of (of_stop.File file fault) shown world is none = shown.1
  nothing_of Read shown world is none = shown.1
  nothing_of Write shown world is none = absurd (none (shown.2 world is))
  nothing_of Memory shown world is none = shown.1

  unwritten_of : (stop : Stop) → Shows stop → (status_of_stop stop ≡ 4) ⊎ (status_of_stop stop ≡ 6) → PutsNothing sink out new
  unwritten_of (Script kind text line) shown which = shown.1
  unwritten_of (Input file fault) shown which = shown.1
  unwritten_of (Changed file frame want got) shown which = shown.1
  unwritten_of (of_stop.File file fault) shown which = shown.1
  unwritten_of Read shown which = shown.1
  unwritten_of Write shown which = absurd (omega (arith, which))
  unwritten_of Memory shown which = shown.1

  -- the status 0 is due where a line was said
  zero_is : (world : World) (meaning : Meaning) → InWorld (files.world f) (λ w. HasText w script name) → ScriptHasClip (files.world f) script → files.world f ≡ Some world → Means world script meaning → 0 ≡ due world meaning
  zero_is world meaning has clip is means =
      let one = has world is in
      let of = one.of in
      sym (ap status_of_text of.text_is ∙ short_is one.text of.few) ∙ by_clip world meaning is means clip

  pub replay_whole : ReplayDoes files sink f g out new script name capacity (Ok tt) → said ≡ err → Ended 0
  replay_whole did quiet =
      let replay = did.replay in
      record {
        whole = λ zero world is. (let one = replay.whole world is in (one.line, one.is, one.put));
        prefix = λ line is.
            (let one = replay.whole is.world is.told_is in
            gets_all (sink.bytes out) (sink.bytes new) line (rw (one_verdict is.world script name capacity one.line line one.is is.is) at one.put));
        nothing = λ world is none. (let one = replay.whole world is in let said = one.is in absurd (none said.has));
        unwritten = λ which. absurd (omega (arith, which));
        steady = λ zero. did.steady;
        fetched = λ zero. did.fetched;
        causes = causes_of_whole files sink lines f g out new err said script (said ≡ err) InputFails (Fails files sink lines f g out new err said script) due
            (λ world meaning is means. zero_is world meaning (λ w told. (let one = replay.whole w told in let said = one.is in said.has)) replay.clip is means) quiet;
      }

  pub replay_stop : (stop : Stop) → ReplayDoes files sink f g out new script name capacity (Err stop) → Before files sink lines f g out new err said script stop → Says lines err said (stop_line stop) → Ended (status_of_stop stop)
  replay_stop stop did before says =
      let replay = did.replay in
      record {
        whole = λ zero. absurd (never_zero stop zero);
        prefix = prefix_of stop replay.stop;
        nothing = nothing_of stop replay.stop;
        unwritten = unwritten_of stop replay.stop;
        steady = λ zero. absurd (never_zero stop zero);
        fetched = λ zero. absurd (never_zero stop zero);
        causes = causes_of files sink lines f g out new err said script OfFile due (λ world fault. refl) of_file_is (said ≡ err) InputFails (Fails files sink lines f g out new err said script) (λ failed. failed)
            stop (cause_of stop replay.stop) before says (input_of stop replay.stop before says);
      }
