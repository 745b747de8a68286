-- Requests that are answered one after the other.
use Rattle.std.proofs.Common.{◌≡◌, ℕ, ◌+◌, List, [], ◌∷◌, ◌++◌, Option, Some, None, Result, Ok, Err, true, false, sym, refl, ap, subst, ◌∙◌}
use Rattle.std.proofs.lemmas.List.{append_assoc, append-nil}
use Rattle.std.proofs.lemmas.List.Concat.{flat_map-append}
use Rattle.fv_io.specs.declared.sink.Sink.{Ghosts}
use Rattle.fv_io.specs.Sink.{PutsPrefix}
use Rattle.fv_io.specs.declared.source.Source as of_source
use Rattle.fv_io.specs.Faults.{risen}
use Rattle.fv_io.specs.Source.{IsSteady, SourceFailed}
use Rattle.fv_io.specs.Told.{with_piece}
use Rattle.fv_io.proofs.CallerLemmas.{with_piece_twice, with_no_piece, gets_all, gets_more, gets_after}
use Rattle.fv_session.specs.Answers.{answer_to, answers, frame_asked, frames_asked}
use Rattle.fv_session.specs.Next.{ReaderState, left_of, next_of, after_line, asked_by, count_after}
use Rattle.fv_session.specs.Requests.{Asked, nothing, then_ask, lines, requests_after}
use Rattle.fv_session.specs.declared.request.Request.{Request}
use Rattle.fv_session.specs.declared.request.Request.TheVariants.{Frame, Info, Quit, Bad, End}
use Rattle.fv_session.specs.declared.request.SessionFault.{SessionFault}
use Rattle.fv_session.specs.declared.request.SessionFault.TheVariants.{Read, LineTooLong, TooManyLines}
use Rattle.fv_session.proofs.TurnLemmas.{come_in_turn}
use Rattle.serve_session.specs.declared.player.PlayStop.{PlayStop}
use Rattle.serve_session.specs.declared.player.Player as of_player
use Rattle.serve_session.specs.declared.serving.ServeStop.TheVariants.{Play, Session}
use Rattle.serve_session.specs.Serving.{prepend, ends, some_request, Makes, start, one_more, MakesOne, Stays, Answers, Unanswered, Served, SoFar, ServesAll, Refuses, ServesPart}

-- ---- what is asked

then_last : (request : Request) (rest : Asked) → ends request ≡ true → then_ask request rest ≡ record { requests = some_request request; fault = None }
then_last (Frame n) rest is = absurd (let no : ⊥ = cc in no)
then_last Info rest is = absurd (let no : ⊥ = cc in no)
then_last Quit rest is = refl
then_last Bad rest is = absurd (let no : ⊥ = cc in no)
then_last End rest is = refl

then_more : (request : Request) (rest : Asked) → ends request ≡ false → then_ask request rest ≡ prepend (some_request request) rest
then_more (Frame n) rest is = refl
then_more Info rest is = refl
then_more Quit rest is = absurd (let no : ⊥ = cc in no)
then_more Bad rest is = refl
then_more End rest is = absurd (let no : ⊥ = cc in no)

then_some : (request : Request) (rest : Asked) → (more : Asked) × (then_ask request rest ≡ prepend (some_request request) more)
then_some (Frame n) rest = (rest, refl)
then_some Info rest = (rest, refl)
then_some Quit rest = (nothing, refl)
then_some Bad rest = (rest, refl)
then_some End rest = (nothing, refl)

pub counts_on : (count : ℕ) (request : Request) → ends request ≡ false → count_after count request ≡ count + 1
counts_on count (Frame n) is = refl
counts_on count Info is = refl
counts_on count Quit is = refl
counts_on count Bad is = refl
counts_on count End is = absurd (let no : ⊥ = cc in no)

prepend_twice : (one other : List Request) (rest : Asked) → prepend one (prepend other rest) ≡ prepend (one ++ other) rest
prepend_twice one other rest = ap (λ (l : List Request). record { requests = l; fault = rest.fault }) (sym (append_assoc one other rest.requests))

-- the next request, or why there is none
module _ (all : Asked) (asks : List Request) (count : ℕ) (left : List ℕ) (so_far : all ≡ prepend asks (requests_after count (lines left))) where
  abbrev rest : Asked
  rest = requests_after (count + 1) (lines (after_line left))

  by : (next : Result Request SessionFault) → next ≡ next_of count left → all ≡ prepend asks (asked_by next rest)
  by next is = so_far ∙ ap (prepend asks) (come_in_turn count left ∙ ap (λ (r : Result Request SessionFault). asked_by r rest) (sym is))

  module _ (request : Request) (is : Ok request ≡ next_of count left) where
    pub all_asked : ends request ≡ true → all ≡ record { requests = asks ++ some_request request; fault = None }
    all_asked last = by (Ok request) is ∙ ap (prepend asks) (then_last request rest last)

    pub more_asked : (count' : ℕ) (left' : List ℕ) → ends request ≡ false → count' ≡ count_after count request → left' ≡ after_line left → all ≡ prepend (asks ++ some_request request) (requests_after count' (lines left'))
    more_asked count' left' more counted line =
        by (Ok request) is ∙ ap (prepend asks) (then_more request rest more) ∙ prepend_twice asks (some_request request) rest
        ∙ ap (prepend (asks ++ some_request request)) (ap (λ n. requests_after n (lines (after_line left))) (sym (counted ∙ counts_on count request more)) ∙ ap (λ (l : List ℕ). requests_after count' (lines l)) (sym line))

    pub some_asked : (more : Asked) × (all ≡ prepend (asks ++ some_request request) more)
    some_asked = let some = then_some request rest in (some.0, by (Ok request) is ∙ ap (prepend asks) some.1 ∙ prepend_twice asks (some_request request) some.0)

  pub none_asked : (fault : SessionFault) → Err fault ≡ next_of count left → all ≡ record { requests = asks; fault = Some fault }
  none_asked fault is = by (Err fault) is ∙ ap (λ (l : List Request). record { requests = l; fault = Some fault }) (append-nil asks)

-- ---- what is put

module _ (frames : ℕ) (at : ℕ → List ℕ) (line : List ℕ) where
  answers_twice : (one other : List Request) → answers frames at line (one ++ other) ≡ answers frames at line one ++ answers frames at line other
  answers_twice one other = flat_map-append (answer_to frames at line) one other

  answers_one : (request : Request) → answers frames at line (some_request request) ≡ answer_to frames at line request
  answers_one (Frame n) = append-nil (answer_to frames at line (Frame n))
  answers_one Info = append-nil line
  answers_one Quit = append-nil (answer_to frames at line Quit)
  answers_one Bad = append-nil (answer_to frames at line Bad)
  answers_one End = refl

  pub answers_more : (asks : List Request) (request : Request) → answers frames at line (asks ++ some_request request) ≡ answers frames at line asks ++ answer_to frames at line request
  answers_more asks request = answers_twice asks (some_request request) ∙ ap (λ (l : List ℕ). answers frames at line asks ++ l) (answers_one request)

asked_one : (frames : ℕ) (request : Request) → frames_asked frames (some_request request) ≡ frame_asked frames request
asked_one frames (Frame n) = append-nil (frame_asked frames (Frame n))
asked_one frames Info = refl
asked_one frames Quit = refl
asked_one frames Bad = refl
asked_one frames End = refl

pub asked_more : (frames : ℕ) (asks : List Request) (request : Request) → frames_asked frames (asks ++ some_request request) ≡ frames_asked frames asks ++ frame_asked frames request
asked_more frames asks request = flat_map-append (frame_asked frames) asks (some_request request) ∙ ap (λ (l : List ℕ). frames_asked frames asks ++ l) (asked_one frames request)

module _ {P : Type 0} (player : of_player.Ghosts P) where
  pub stays_here : (p : P) → Stays player p p
  stays_here p = record { stands = λ at s. s; frames = refl; line = refl }

  stays_on : (p q r : P) → Stays player p q → Stays player q r → Stays player p r
  stays_on p q r a b = record { stands = λ at s. b.stands at (a.stands at s); frames = b.frames ∙ a.frames; line = b.line ∙ a.line }

  pub makes_more : (p q r : P) (ns one : List ℕ) → Makes player p ns q → MakesOne player q r one → Makes player p (ns ++ one) r
  makes_more p q r ns [] a b = subst (λ (l : List ℕ). Makes player p l r) (sym (append-nil ns)) (subst (Makes player p ns) (sym b) a)
  makes_more p q r ns (n ∷ more) a b = subst (λ (l : List ℕ). Makes player p (ns ++ n ∷ l) r) (sym b.0) (one_more a b.1)

  module _ {K : Type 0} (sink : Ghosts K) where
    pub none_served : (p : P) (old : K) → Served player sink p p old old []
    none_served p old = record { put = λ at s. sym (with_no_piece (sink.bytes old)); made = start; stays = stays_here p }

    module _ (p q r : P) (old here new : K) (asks : List Request) (request : Request) (a : Served player sink p q old here asks) where
      same_answer : (at : ℕ → List ℕ) → answer_to (player.frames q) at (player.line q) request ≡ answer_to (player.frames p) at (player.line p) request
      same_answer at = ap (λ n. answer_to n at (player.line q) request) a.stays.frames ∙ ap (λ (l : List ℕ). answer_to (player.frames p) at l request) a.stays.line

      pub one_served : Answers player sink q r here new request → Served player sink p r old new (asks ++ some_request request)
      one_served b = record {
        put = λ at s.
            b.put at (a.stays.stands at s) ∙ ap (with_piece (sink.bytes here)) (same_answer at) ∙ ap (λ (o : Option (List ℕ)). with_piece o (answer_to (player.frames p) at (player.line p) request)) (a.put at s)
            ∙ with_piece_twice (sink.bytes old) (answers (player.frames p) at (player.line p) asks) (answer_to (player.frames p) at (player.line p) request)
            ∙ ap (with_piece (sink.bytes old)) (sym (answers_more (player.frames p) at (player.line p) asks request));
        made = subst (λ (l : List ℕ). Makes player p l r) (sym (asked_more (player.frames p) asks request))
            (makes_more p q r (frames_asked (player.frames p) asks) (frame_asked (player.frames p) request) a.made (subst (λ n. MakesOne player q r (frame_asked n request)) a.stays.frames b.made));
        stays = stays_on p q r a.stays b.stays;
      }

      -- what is put where it was not answered is a prefix of the answers
      pub prefix_served : (asked more : Asked) → asked ≡ prepend (asks ++ some_request request) more → (at : ℕ → List ℕ) → player.stands_for p at
          → PutsPrefix sink here new (answer_to (player.frames q) at (player.line q) request) → PutsPrefix sink old new (answers (player.frames p) at (player.line p) asked.requests)
      prefix_served asked more is at s cut =
          let whole : answers (player.frames p) at (player.line p) asked.requests ≡ (answers (player.frames p) at (player.line p) asks ++ answer_to (player.frames p) at (player.line p) request) ++ answers (player.frames p) at (player.line p) more.requests
          = ap (λ (x : Asked). answers (player.frames p) at (player.line p) x.requests) is ∙ answers_twice (player.frames p) at (player.line p) (asks ++ some_request request) more.requests
          ∙ ap (λ (l : List ℕ). l ++ answers (player.frames p) at (player.line p) more.requests) (answers_more (player.frames p) at (player.line p) asks request) in
          let here_cut : PutsPrefix sink here new (answer_to (player.frames p) at (player.line p) request) = subst (λ (l : List ℕ). PutsPrefix sink here new l) (same_answer at) cut in
          rw whole (gets_more (sink.bytes old) (sink.bytes new) (answers (player.frames p) at (player.line p) asks ++ answer_to (player.frames p) at (player.line p) request) (answers (player.frames p) at (player.line p) more.requests)
          (gets_after (sink.bytes old) (sink.bytes here) (sink.bytes new) (answers (player.frames p) at (player.line p) asks) (answer_to (player.frames p) at (player.line p) request) (a.put at s) here_cut))

    -- requests that were answered are the first of all
    pub prefix_whole : (p q : P) (old new : K) (asks : List Request) → Served player sink p q old new asks → (asked more : Asked) → asked ≡ prepend asks more → (at : ℕ → List ℕ) → player.stands_for p at
        → PutsPrefix sink old new (answers (player.frames p) at (player.line p) asked.requests)
    prefix_whole p q old new asks a asked more is at s =
        let whole : answers (player.frames p) at (player.line p) asked.requests ≡ answers (player.frames p) at (player.line p) asks ++ answers (player.frames p) at (player.line p) more.requests
        = ap (λ (x : Asked). answers (player.frames p) at (player.line p) x.requests) is ∙ answers_twice (player.frames p) at (player.line p) asks more.requests in
        rw whole (gets_more (sink.bytes old) (sink.bytes new) (answers (player.frames p) at (player.line p) asks) (answers (player.frames p) at (player.line p) more.requests) (gets_all (sink.bytes old) (sink.bytes new) (answers (player.frames p) at (player.line p) asks) (a.put at s)))

-- ---- a session so far

abbrev err : SessionFault → Result Request SessionFault
err fault = Err fault

module _ {P K S : Type 0} (player : of_player.Ghosts P) (sink : Ghosts K) (source : of_source.Ghosts S) where
  pub nothing_yet : (reader : ReaderState) (p : P) (s : S) (old : K) → SoFar player sink source reader p p s s old old reader
  nothing_yet reader p s old = record { asks = []; served = none_served player sink p old; begins = λ told is. refl }

  module _ (reader now : ReaderState) (p q : P) (s t t' : S) (old here : K) (so_far : SoFar player sink source reader p q s t old here now) (same : source.bytes t ≡ source.bytes s) (steady : IsSteady source s t) (unwritten : sink.faults here ≡ sink.faults old) where
    abbrev all : List ℕ → Asked
    all told = requests_after reader.count (lines (left_of reader.held told (source.place s)))

    abbrev left : List ℕ → List ℕ
    left told = left_of now.held told (source.place t)

    refuses : (fault : SessionFault) → (err fault ≡ err Read → SourceFailed source t t') → ((err fault ≡ err Read → ⊥) → (told : List ℕ) → source.bytes t ≡ Some told → err fault ≡ next_of now.count (left told))
        → Refuses player sink source reader p q s t' old here so_far.asks fault
    refuses Read failed next = (failed refl ∙ ap risen steady, λ told is. (requests_after now.count (lines (left told)), so_far.begins told is))
    refuses LineTooLong failed next = λ told is. none_asked (all told) so_far.asks now.count (left told) (so_far.begins told is) LineTooLong (next (λ e. (let no : ⊥ = cc e in no)) told (same ∙ is))
    refuses TooManyLines failed next = λ told is. none_asked (all told) so_far.asks now.count (left told) (so_far.begins told is) TooManyLines (next (λ e. (let no : ⊥ = cc e in no)) told (same ∙ is))

    pub part_refused : (fault : SessionFault) → (err fault ≡ err Read → SourceFailed source t t') → ((err fault ≡ err Read → ⊥) → (told : List ℕ) → source.bytes t ≡ Some told → err fault ≡ next_of now.count (left told))
        → ServesPart player sink source reader p q s t' old here (Session fault)
    part_refused fault failed next = record {
      mid = q;
      here = here;
      asks = so_far.asks;
      served = so_far.served;
      steady = unwritten;
      ended = (refl, refl, refuses fault failed next);
      prefix = λ told is at st. prefix_whole player sink p q old here so_far.asks so_far.served (all told) (requests_after now.count (lines (left told))) (so_far.begins told is) at st;
    }

    module _ (r : P) (new : K) (request : Request) (next : (told : List ℕ) → source.bytes t ≡ Some told → Ok request ≡ next_of now.count (left told)) where
      some_more : (told : List ℕ) → source.bytes s ≡ Some told → (more : Asked) × (all told ≡ prepend (so_far.asks ++ some_request request) more)
      some_more told is = some_asked (all told) so_far.asks now.count (left told) (so_far.begins told is) request (next told (same ∙ is))

      pub part_unanswered : (stop : PlayStop) → Unanswered player sink q r here new request stop → ServesPart player sink source reader p r s t' old new (Play stop)
      part_unanswered stop un = record {
        mid = q;
        here = here;
        asks = so_far.asks;
        served = so_far.served;
        steady = unwritten;
        ended = (request, un, some_more);
        prefix = λ told is at st.
            let some = some_more told is in
            prefix_served player sink p q r old here new so_far.asks request so_far.served (all told) some.0 some.1 at st (un.cut at (so_far.served.stays.stands at st));
      }

      pub all_answered : Answers player sink q r here new request → ends request ≡ true → IsSteady source t t' → ServesAll player sink source reader p r s t' old new
      all_answered one last quiet = record {
        asks = so_far.asks ++ some_request request;
        served = one_served player sink p q r old here new so_far.asks request so_far.served one;
        all = λ told is. all_asked (all told) so_far.asks now.count (left told) (so_far.begins told is) request (next told (same ∙ is)) last;
        steady = quiet ∙ steady;
      }

      pub more_answered : (next_reader : ReaderState) → Answers player sink q r here new request → ends request ≡ false → next_reader.count ≡ count_after now.count request
          → ((told : List ℕ) → source.bytes t ≡ Some told → left_of next_reader.held told (source.place t') ≡ after_line (left told)) → SoFar player sink source reader p r s t' old new next_reader
      more_answered next_reader one more counted rest = record {
        asks = so_far.asks ++ some_request request;
        served = one_served player sink p q r old here new so_far.asks request so_far.served one;
        begins = λ told is.
            more_asked (all told) so_far.asks now.count (left told) (so_far.begins told is) request (next told (same ∙ is)) next_reader.count (left_of next_reader.held told (source.place t')) more counted (rest told (same ∙ is));
      }
