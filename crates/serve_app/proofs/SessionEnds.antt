-- What a session shows at its end, from what it did.
use Rattle.std.proofs.Common.{◌≡◌, ◌∙◌, ◌⊎◌, ℕ, ◌≤◌, List, Option, Some, None, Result, Ok, Err, inl, inr, refl, sym, ap, subst, arith}
use Rattle.std.specs.FinMap.{get}
use Rattle.fv_io.specs.declared.files.Files as of_files
use Rattle.fv_io.specs.declared.sink.Sink.{Ghosts}
use Rattle.fv_io.specs.World.{World, InWorld}
use Rattle.fv_session.specs.declared.request.SessionFault.{SessionFault}
use Rattle.fv_session.specs.declared.request.SessionFault.TheVariants as of_fault
use Rattle.clip_graph.specs.Plan.{Application}
use Rattle.prefetch.specs.Rendered.{PutsNothing}
use Rattle.serve_machine.specs.declared.event.WindowStop.{WindowStop}
use Rattle.serve_machine.specs.declared.windows.Record.{Record}
use Rattle.serve_text.specs.Lines.{Says, stop_line, file_line, file_kind}
use Rattle.serve_text.specs.StopKinds.{status_of_stop}
use Rattle.serve_text.specs.declared.stop.FileFault.{FileFault}
use Rattle.serve_text.specs.declared.stop.FileFault.TheVariants as of_file
use Rattle.serve_text.specs.declared.stop.Stop.{Stop}
use Rattle.serve_text.specs.declared.stop.Stop.TheVariants as of_stop
use Rattle.serve_text.specs.declared.stop.Stop.TheVariants.{Script, Input, Changed, Read, Write, Memory}
use Rattle.prefetch.specs.Answered.{EndsEarly}
use Rattle.fv_io.specs.Files.{FilesFailed}
use Rattle.serve_app.specs.Headline.{EndsByInput, EndsByChange, EndsByList, EndsSession, SessionEnds, SessionJournal}
use Rattle.serve_app.specs.Meaning.{Meaning, a_clip, Means}
use Rattle.serve_app.specs.Run.{SessionDoes}
use Rattle.serve_app.specs.Sessions.{IsAnswersOf, AnswersList, IsListFault, SessionShows, SessionCuts, TellsCut, status_of_end, status_of_list, session_status}
use Rattle.serve_app.specs.Stop.{ScriptHasClip}
use Rattle.serve_app.proofs.MeaningLemmas.{means_one_thing}
use Rattle.serve_app.proofs.RunLemmas.{Before, never_zero, known_of, Cause, Fails, causes_of, causes_of_whole, ends_by}

module _ {F S K E : Type 0} (files : of_files.Ghosts F S) (sink : Ghosts K) (lines : Ghosts E) (f g : F) (out new : K) (err said : E) (script list : List ℕ) (capacity : ℕ) (journal : Option Record) where
  abbrev Ended : ℕ → Type 0
  Ended status = SessionEnds files sink lines f g out new err said script list status × SessionJournal files sink lines f g out new err said script list capacity journal status

  abbrev Did : Result (Unit {0}) Stop → Type 0
  Did done = SessionDoes files sink f g out new journal script list capacity done

  -- ---- the status that is due

  abbrev due : World → Meaning → ℕ
  due = session_status list

  by_clip : (world : World) (meaning : Meaning) → files.world f ≡ Some world → Means world script meaning → ScriptHasClip (files.world f) script → status_of_list (get world list) ≡ due world meaning
  by_clip world meaning is means has = let one = has world is in ap (due world) (means_one_thing world script (a_clip one.0) meaning one.1 means)

  by_end : (fault : Option SessionFault) → AnswersList (files.world f) script list sink out new fault → (world : World) (meaning : Meaning) → files.world f ≡ Some world → Means world script meaning
      → status_of_end fault ≡ due world meaning
  by_end fault all world meaning is means =
      let one = all.put world is in
      let answers = one.1 in
      sym (ap status_of_end (all.fault_is world is answers.bytes answers.bytes_are)) ∙ sym (ap status_of_list answers.bytes_are)
      ∙ ap (due world) (means_one_thing world script (a_clip answers.clip) meaning answers.means means)

  -- ---- a stop

  abbrev Shows : Stop → Type 0
  Shows stop = SessionShows (files.world f) script list sink out new (FilesFailed files f g) stop

  abbrev OfList : List ℕ → FileFault → Type 0
  OfList name fault = (name ≡ list) × IsListFault (files.world f) script list sink out new fault

  of_list_is : (name : List ℕ) (fault : FileFault) → OfList name fault → (world : World) (meaning : Meaning) → files.world f ≡ Some world → Means world script meaning → 3 ≡ due world meaning
  of_list_is name of_file.NotThere (same, (has, none, put)) world meaning is means = sym (ap status_of_list (none world is)) ∙ by_clip world meaning is means has
  of_list_is name of_file.LineTooLong (same, all) world meaning is means = by_end (Some of_fault.LineTooLong) all world meaning is means
  of_list_is name of_file.TooManyLines (same, all) world meaning is means = by_end (Some of_fault.TooManyLines) all world meaning is means
  of_list_is name of_file.JournalTooLong (same, never) world meaning is means = absurd never

  cause_of : (stop : Stop) → Shows stop → Cause files sink lines f g out new err said script OfList stop
  cause_of (Script kind name line) shown = shown
  cause_of (Input name fault) shown = shown
  cause_of (Changed name frame want got) shown = shown.0
  cause_of (of_stop.File name fault) shown = shown
  cause_of Read shown = shown
  cause_of Write shown = shown
  cause_of Memory shown = tt

  abbrev InputFails : Type 0
  InputFails = EndsByInput files sink lines f g out new err said script
      ⊎ (EndsByList files sink lines f g out new err said script list ⊎ EndsByChange files sink lines f g out new err said script EndsEarly)

  input_of : (stop : Stop) → Shows stop → Before files sink lines f g out new err said script stop → Says lines err said (stop_line stop) → status_of_stop stop ≡ 3 → InputFails
  input_of (Script kind name line) shown before says is = absurd (omega (arith, is))
  input_of (Input name fault) shown before says is = inl (record { name = name; fault = fault; is = shown.0; line = says; put = shown.1; steady = before tt })
  input_of (Changed name frame want got) shown before says is = inr (inr (record { name = name; frame = frame; want = want; got = got; is = shown.0; line = says; put = shown.1 }))
  input_of (of_stop.File name fault) shown before says is = inr (inl (record { fault = fault; is = shown.1; line = subst (λ (n : List ℕ). Says lines err said (file_line n (file_kind fault))) shown.0 says }))
  input_of Read shown before says is = absurd (omega (arith, is))
  input_of Write shown before says is = absurd (omega (arith, is))
  input_of Memory shown before says is = absurd (omega (arith, is))

  -- how the last window ended
  ends_at : (stop : Stop) → Says lines err said (stop_line stop) → (plan : List Application) (cut : Option WindowStop) → TellsCut stop plan cut
      → EndsSession files sink lines f g out new err said script list (status_of_stop stop) plan cut
  ends_at stop says plan None least = (least, at_most (known_of stop))
    where
      at_most : (status_of_stop stop ≡ 0) ⊎ (2 ≤ status_of_stop stop) × (status_of_stop stop ≤ 6) → status_of_stop stop ≤ 6
      at_most (inl zero) = absurd (never_zero stop zero)
      at_most (inr more) = more.1
  ends_at stop says plan (Some why) tells = ends_by files sink lines f g out new err said script stop plan (Some why) says tells

  cuts_at : (stop : Stop) → Says lines err said (stop_line stop) → (log : Option Record) → SessionCuts (files.world f) script list capacity (TellsCut stop) log
      → SessionCuts (files.world f) script list capacity (EndsSession files sink lines f g out new err said script list (status_of_stop stop)) log
  cuts_at stop says None cut = tt
  cuts_at stop says (Some log) cut = record { plan = cut.plan; root = cut.root; is_plan = cut.is_plan; stop = cut.stop; ends = ends_at stop says cut.plan cut.stop cut.ends; windows_are = cut.windows_are }

  -- ---- all of it

  nothing_of : (done : Result (Unit {0}) Stop) → Did done → (log : Option Record) → journal ≡ log
      → InWorld (files.world f) (λ world. ((text : List ℕ) → IsAnswersOf world script list text → ⊥) → PutsNothing sink out new)
  nothing_of done did None is world told none = let session = did.session in let unlisted = session.unlisted is in unlisted.put
  nothing_of done did (Some log) is world told none = let session = did.session in let one = session.listed log is world told in absurd (none one.0 one.1)

  pub session_whole : Did (Ok tt) → said ≡ err → Ended 0
  session_whole did quiet =
      let session = did.session in
      let run = session.run in (
        record {
          whole = λ zero. session.whole;
          prefix = session.prefix;
          nothing = nothing_of (Ok tt) did journal refl;
          steady = λ zero. did.steady;
          causes = causes_of_whole files sink lines f g out new err said script (said ≡ err) InputFails (Fails files sink lines f g out new err said script) due (by_end None session.whole) quiet;
        },
        record {
          run = λ zero. run;
          cut = λ more. absurd (more refl);
          listed = session.listed;
          fetched = did.fetched;
          unlisted = λ none. (let both : Some run.log ≡ None = sym run.there ∙ none in absurd (cc));
        },
      )

  excused : (stop : Stop) → (stop ≡ Read) ⊎ (stop ≡ Memory) → (status_of_stop stop ≡ 4) ⊎ (status_of_stop stop ≡ 6)
  excused stop (inl is) = inl (ap status_of_stop is)
  excused stop (inr is) = inr (ap status_of_stop is)

  pub session_stop : (stop : Stop) → Did (Err stop) → Before files sink lines f g out new err said script stop → Says lines err said (stop_line stop) → Ended (status_of_stop stop)
  session_stop stop did before says =
      let session = did.session in (
        record {
          whole = λ zero. absurd (never_zero stop zero);
          prefix = session.prefix;
          nothing = nothing_of (Err stop) did journal refl;
          steady = λ zero. absurd (never_zero stop zero);
          causes = causes_of files sink lines f g out new err said script OfList due (λ world fault. refl) of_list_is (said ≡ err) InputFails (Fails files sink lines f g out new err said script) (λ failed. failed)
              stop (cause_of stop session.stop) before says (input_of stop session.stop before says);
        },
        record {
          run = λ zero. absurd (never_zero stop zero);
          cut = λ more. cuts_at stop says journal session.cut;
          listed = session.listed;
          fetched = did.fetched;
          unlisted = λ none. (let unlisted = session.unlisted none in (unlisted.put, λ world told text is. excused stop (unlisted.why world told text is)));
        },
      )
