-- What a session leaves: which requests were answered, which frames were made, and what was put.
use Rattle.std.specs.Prelude.{◌≡◌, ℕ, Bool, true, false, List, [], ◌∷◌, ◌++◌, Some, None}
use Rattle.std.specs.Option.{ForSome}
use Rattle.fv_io.specs.declared.sink.Sink.{Ghosts}
use Rattle.fv_io.specs.declared.source.Source as of_source
use Rattle.fv_io.specs.Sink.{Puts, PutsPrefix, SinkFailed}
use Rattle.fv_io.specs.Source.{IsSteady, SourceFailed}
use Rattle.fv_session.specs.Answers.{answer_to, answers, frame_asked, frames_asked}
use Rattle.fv_session.specs.Next.{ReaderState, left_of}
use Rattle.fv_session.specs.Requests.{Asked, lines, requests_after}
use Rattle.fv_session.specs.declared.request.Request.{Request}
use Rattle.fv_session.specs.declared.request.Request.TheVariants.{Quit, End}
use Rattle.fv_session.specs.declared.request.SessionFault.{SessionFault}
use Rattle.fv_session.specs.declared.request.SessionFault.TheVariants.{Read}
use Rattle.serve_session.specs.declared.player.PlayStop.{PlayStop}
use Rattle.serve_session.specs.declared.player.PlayStop.TheVariants.{Stopped, Write, Memory}
use Rattle.serve_session.specs.declared.player.Player as of_player
use Rattle.serve_session.specs.declared.serving.ServeStop.{ServeStop}
use Rattle.serve_session.specs.declared.serving.ServeStop.TheVariants.{Play, Session}

-- requests, and then what is asked after them
abbrev pub prepend : List Request → Asked → Asked
prepend requests rest = record { requests = requests ++ rest.requests; fault = rest.fault }

-- after this nothing is asked
abbrev pub ends : Request → Bool
ends Quit = true
ends End = true
ends _ = false

-- the request, where there is one
abbrev pub some_request : Request → List Request
some_request End = []
some_request request = request ∷ []

module _ {P : Type 0} (player : of_player.Ghosts P) where
  -- these frames were made, one after the other
  pub data Makes (p : P) : List ℕ → P → Type 0 where
    start : Makes p [] p
    one_more : {ns : List ℕ} {n : ℕ} {q r : P} → Makes p ns q → player.makes q n r → Makes p (ns ++ n ∷ []) r

  -- no frame was made, or this one
  abbrev pub MakesOne : P → P → List ℕ → Type 0
  MakesOne p q [] = q ≡ p
  MakesOne p q (n ∷ ns) = (ns ≡ []) × player.makes p n q

  -- it shows what it showed
  pub record Stays (p q : P) : Type 0 where
    pub stands : (at : ℕ → List ℕ) → player.stands_for p at → player.stands_for q at
    pub frames : player.frames q ≡ player.frames p
    pub line : player.line q ≡ player.line p

  module _ {K : Type 0} (sink : Ghosts K) where
    -- a request was answered
    pub record Answers (p q : P) (old new : K) (request : Request) : Type 0 where
      pub put : (at : ℕ → List ℕ) → player.stands_for p at
          → Puts sink old new (answer_to (player.frames p) at (player.line p) request)
      pub made : MakesOne p q (frame_asked (player.frames p) request)
      pub stays : Stays p q

    -- why it was not
    abbrev pub Why : P → P → K → K → List ℕ → PlayStop → Type 0
    Why p q old new [] Stopped = ⊥
    Why p q old new (n ∷ ns) Stopped = player.stops p n q
    Why p q old new asked Write = SinkFailed sink old new × MakesOne p q asked
    Why p q old new [] Memory = ⊥
    Why p q old new (n ∷ ns) Memory = (q ≡ p) × (new ≡ old)

    pub record Unanswered (p q : P) (old new : K) (request : Request) (stop : PlayStop) : Type 0 where
      pub cut : (at : ℕ → List ℕ) → player.stands_for p at
          → PutsPrefix sink old new (answer_to (player.frames p) at (player.line p) request)
      pub why : Why p q old new (frame_asked (player.frames p) request) stop
      pub stays : Stays p q

    -- requests were answered
    pub record Served (p q : P) (old new : K) (asks : List Request) : Type 0 where
      pub put : (at : ℕ → List ℕ) → player.stands_for p at
          → Puts sink old new (answers (player.frames p) at (player.line p) asks)
      pub made : Makes p (frames_asked (player.frames p) asks) q
      pub stays : Stays p q

    module _ {S : Type 0} (source : of_source.Ghosts S) (reader : ReaderState) (p q : P) (s t : S) (old new : K) where
      -- what is asked in all has this property
      abbrev pub InAll : (Asked → Type 0) → Type 0
      InAll Is = ForSome (source.bytes s) (λ told.
          Is (requests_after reader.count (lines (left_of reader.held told (source.place s)))))

      -- requests were answered, and more may be asked by what the reader has left
      pub record SoFar (now : ReaderState) : Type 0 where
        pub asks : List Request
        pub served : Served p q old new asks
        pub begins : (told : List ℕ) → source.bytes s ≡ Some told
            → requests_after reader.count (lines (left_of reader.held told (source.place s)))
            ≡ prepend asks (requests_after now.count (lines (left_of now.held told (source.place t))))

      -- all requests were answered
      pub record ServesAll : Type 0 where
        pub asks : List Request
        pub served : Served p q old new asks
        pub all : InAll (λ asked. asked ≡ record { requests = asks; fault = None })
        pub steady : IsSteady source s t

      -- why there is no next request after these
      abbrev pub Refuses : List Request → SessionFault → Type 0
      Refuses asks Read = SourceFailed source s t × InAll (λ asked. (rest : Asked) × (asked ≡ prepend asks rest))
      Refuses asks fault = InAll (λ asked. asked ≡ record { requests = asks; fault = Some fault })

      -- why not all were answered, after these
      abbrev pub Ends : P → K → List Request → ServeStop → Type 0
      Ends mid here asks (Session fault) = (q ≡ mid) × (new ≡ here) × Refuses asks fault
      Ends mid here asks (Play stop) = (request : Request) × Unanswered mid q here new request stop
          × InAll (λ asked. (rest : Asked) × (asked ≡ prepend (asks ++ some_request request) rest))

      pub record ServesPart (stop : ServeStop) : Type 0 where
        pub mid : P
        pub here : K
        pub asks : List Request
        pub served : Served p mid old here asks
        pub steady : sink.faults here ≡ sink.faults old
        pub ended : Ends mid here asks stop
        -- what is on the sink is in any case a prefix of the answers of all
        pub prefix : InAll (λ asked. (at : ℕ → List ℕ) → player.stands_for p at
            → PutsPrefix sink old new (answers (player.frames p) at (player.line p) asked.requests))
