-- Lines that follow one another are those of windows, and the other way round.
use Rattle.std.proofs.Common.{◌≡◌, ◌⊎◌, ℕ, ◌<◌, ◌≤◌, Bool, true, false, ◌&&◌, List, [], ◌∷◌, ◌++◌, map, Option, Some, None, refl, sym, ap, ◌∙◌, subst, inl, inr, ⊎_elim}
use Rattle.std.specs.Prelude.{if◌then◌else◌, nat_lt, nat_le}
use Rattle.std.specs.Option.{option_and_then}
use Rattle.std.specs.List.{flat_map}
use Rattle.std.proofs.lemmas.List.{append-nil, append_assoc, map-append}
use Rattle.std.proofs.lemmas.Bool.{and_parts, ltb-true, leb-true, lt-ltb, le-leb}
use Rattle.clip_graph.specs.Plan.{Application}
use Rattle.serve_machine.specs.declared.event.Event.{Event}
use Rattle.serve_machine.specs.Events.{WindowEvents}
use Rattle.serve_machine.specs.Law.{start_of}
use Rattle.serve_machine.specs.Machine.{Machine, allowed, change, replay, State}
use Rattle.serve_machine.specs.Journals.{in_window, after_window}
use Rattle.run_text.specs.declared.line.Line.{Line}
use Rattle.run_text.specs.declared.line.Line.TheVariants.{Workers, Window, Did}
use Rattle.run_text.specs.Lines.{window_lines, journal_lines, lines_text}
use Rattle.run_text.specs.Journal.{KeyCache, places, machine_of, is_window, is_finished, IsRunTo, AreFinished, AreWindows, IsJournal, none as none_finished, also, no_window, last}
use Rattle.run_text.specs.Progress.{Progress, unread, named, inside, begun, next, follow, without_events}
use Rattle.run_text.proofs.LineLemmas.{AllFit}

test : (b : Bool) → (b ≡ true) ⊎ (b ≡ false)
test true = inl refl
test false = inr refl

given : {A : Type 0} (b : Bool) (x y : A) → (if b then Some x else None) ≡ Some y → (b ≡ true) × (x ≡ y)
given true x y h = (refl, cc)
given false x y h = absurd (cc)

bound : {A B : Type 0} (o : Option A) (f : A → Option B) (y : B) → option_and_then f o ≡ Some y → (x : A) × (o ≡ Some x) × (f x ≡ Some y)
bound None f y h = absurd (cc)
bound (Some x) f y h = (x, refl, h)

-- RUNS

module _ (m : Machine (Unit {0})) where
  replay_push : (s r : State (Unit {0})) (es : List Event) (e : Event) → replay m s es ≡ Some r → allowed m r e ≡ true → replay m s (es ++ e ∷ []) ≡ Some (change m r e)
  replay_push s r [] e ran ok = let same : s ≡ r = cc in rw (subst (λ z. allowed m z e ≡ true) (sym same) ok) (ap (λ z. Some (change m z e)) same)
  replay_push s r (f ∷ es) e ran ok = ⊎_elim
      (λ (h : allowed m s f ≡ true). rw h (replay_push (change m s f) r es e (rw h at ran) ok))
      (λ (h : allowed m s f ≡ false). let none : None ≡ Some r = rw h at ran in absurd (cc)) (test (allowed m s f))

flat-append : (vs ws : List WindowEvents) → flat_map window_lines (vs ++ ws) ≡ flat_map window_lines vs ++ flat_map window_lines ws
flat-append [] ws = refl
flat-append (v ∷ vs) ws = ap (λ (l : List Line). window_lines v ++ l) (flat-append vs ws) ∙ sym (append_assoc (window_lines v) (flat_map window_lines vs) (flat_map window_lines ws))

-- the lines of one window more
lines_more : (t : ℕ) (vs : List WindowEvents) (v : WindowEvents) → journal_lines t (vs ++ v ∷ []) ≡ journal_lines t vs ++ window_lines v
lines_more t vs v = ap (λ (l : List Line). Workers t ∷ l) (flat-append vs (v ∷ []) ∙ ap (λ (l : List Line). flat_map window_lines vs ++ l) (append-nil (window_lines v)))

-- and of one event more
event_more : (t : ℕ) (vs : List WindowEvents) (v : WindowEvents) (e : Event) → journal_lines t (vs ++ v ∷ []) ++ Did e ∷ [] ≡ journal_lines t (vs ++ record v { events = v.events ++ e ∷ [] } ∷ [])
event_more t vs v e =
    ap (λ (l : List Line). l ++ Did e ∷ []) (lines_more t vs v) ∙ append_assoc (journal_lines t vs) (window_lines v) (Did e ∷ [])
    ∙ ap (λ (l : List Line). journal_lines t vs ++ (Window v.first v.count ∷ l)) (sym (map-append Did v.events (e ∷ [])))
    ∙ sym (lines_more t vs (record v { events = v.events ++ e ∷ [] }))

module _ (plan : List Application) (root capacity : ℕ) where
  -- what was read up to here
  pub data Reached : Progress → List Line → Type 0 where
    at_unread : Reached unread []
    at_named : {t : ℕ} → 0 < t → t ≤ 16 → Reached (named t) (Workers t ∷ [])
    at_inside : {t : ℕ} {vs : List WindowEvents} {cache : KeyCache} (v : WindowEvents) (s : State (Unit {0})) → 0 < t → t ≤ 16
        → AreFinished plan root capacity t vs cache → IsRunTo plan root capacity t cache v s
        → Reached (inside t (in_window (machine_of plan root capacity t) cache v) s) (journal_lines t (vs ++ v ∷ []))

  reached_next : (p q : Progress) (ls : List Line) (l : Line) → Reached p ls → next plan root capacity p l ≡ Some q → Reached q (ls ++ l ∷ [])
  reached_next p q ls (Workers t) at_unread h =
      let go = given (nat_lt 0 t && nat_le t 16) (named t) q h in
      let parts = and_parts (nat_lt 0 t) (nat_le t 16) go.0 in
      subst (λ z. Reached z (Workers t ∷ [])) go.1 (at_named (ltb-true 0 t parts.0) (leb-true t 16 parts.1))
  reached_next p q ls (Window first count) at_unread h = absurd (cc)
  reached_next p q ls (Did e) at_unread h = absurd (cc)
  reached_next p q ls (Workers u) (at_named {t = t} some most) h = absurd (cc)
  reached_next p q ls (Window first count) (at_named {t = t} some most) h =
      let go = given (is_window plan root capacity first count) (begun plan root capacity t [] first count) q h in
      subst (λ z. Reached z (Workers t ∷ Window first count ∷ [])) go.1
      (at_inside (without_events plan root capacity first count) _ some most none_finished (record { bounds = go.0; runs = refl }))
  reached_next p q ls (Did e) (at_named {t = t} some most) h = absurd (cc)
  reached_next p q ls (Workers u) (at_inside {t = t} v s some most before run) h = absurd (cc)
  reached_next p q ls (Window first count) (at_inside {t = t} {vs = vs} {cache = cache} v s some most before run) h =
      let go = given (is_finished s && is_window plan root capacity first count) (begun plan root capacity t s.cache first count) q h in
      let parts = and_parts (is_finished s) (is_window plan root capacity first count) go.0 in
      let new = without_events plan root capacity first count in
      let done : AreFinished plan root capacity t (vs ++ v ∷ []) s.cache = also v s before run parts.0 in
      subst (λ z. Reached z (journal_lines t (vs ++ v ∷ []) ++ Window first count ∷ [])) go.1
      (subst (Reached (begun plan root capacity t s.cache first count)) (lines_more t (vs ++ v ∷ []) new)
      (at_inside new _ some most done (record { bounds = parts.1; runs = refl })))
  reached_next p q ls (Did e) (at_inside {t = t} {vs = vs} {cache = cache} v s some most before run) h =
      let m = in_window (machine_of plan root capacity t) cache v in
      let go = given (allowed m s e) (inside t m (change m s e)) q h in
      let longer = record v { events = v.events ++ e ∷ [] } in
      let more : after_window (machine_of plan root capacity t) (places plan root capacity t) cache longer ≡ Some (change m s e)
      = replay_push m (start_of m cache (places plan root capacity t)) s v.events e run.runs go.0 in
      subst (λ z. Reached z (journal_lines t (vs ++ v ∷ []) ++ Did e ∷ [])) go.1
      (subst (Reached (inside t m (change m s e))) (sym (event_more t vs v e)) (at_inside longer (change m s e) some most before (record { bounds = run.bounds; runs = more })))

  reached_all : (p q : Progress) (ls ms : List Line) → Reached p ls → follow plan root capacity p ms ≡ Some q → Reached q (ls ++ ms)
  reached_all p q ls [] at h = let same : p ≡ q = cc in subst (λ z. Reached z (ls ++ [])) same (subst (Reached p) (sym (append-nil ls)) at)
  reached_all p q ls (l ∷ ms) at h =
      let go = bound (next plan root capacity p l) (λ r. follow plan root capacity r ms) q h in
      subst (Reached q) (append_assoc ls (l ∷ []) ms) (reached_all go.0 q (ls ++ l ∷ []) ms (reached_next p go.0 ls l at go.1) go.2)

  of_reached : (q : Progress) (ls : List Line) → Reached q ls → (ls ≡ [] → ⊥) → AllFit ls → IsJournal plan root capacity (lines_text ls)
  of_reached q ls at_unread some fits = absurd (some refl)
  of_reached q ls (at_named {t = t} low high) some fits = record { workers = t; some = low; most = high; windows = []; fits = fits; text_is = refl; runs = no_window }
  of_reached q ls (at_inside {t = t} {vs = vs} v s low high before run) some fits =
      record { workers = t; some = low; most = high; windows = vs ++ v ∷ []; fits = fits; text_is = refl; runs = last v s before run }

  -- lines that follow one another are a journal
  pub journal_of : (q : Progress) (ls : List Line) → follow plan root capacity unread ls ≡ Some q → (ls ≡ [] → ⊥) → AllFit ls → IsJournal plan root capacity (lines_text ls)
  journal_of q ls h some fits = of_reached q ls (reached_all unread q [] ls at_unread h) some fits

  -- FRONTS

  pub follow-append : (p q r : Progress) (ls ms : List Line) → follow plan root capacity p ls ≡ Some q → follow plan root capacity q ms ≡ Some r → follow plan root capacity p (ls ++ ms) ≡ Some r
  follow-append p q r [] ms h k = let same : p ≡ q = cc in subst (λ z. follow plan root capacity z ms ≡ Some r) (sym same) k
  follow-append p q r (l ∷ ls) ms h k =
      let go = bound (next plan root capacity p l) (λ z. follow plan root capacity z ls) q h in
      rw go.1 (follow-append go.0 q r ls ms go.2 k)

  pub follow_front : (p r : Progress) (ls ms : List Line) → follow plan root capacity p (ls ++ ms) ≡ Some r → (q : Progress) × (follow plan root capacity p ls ≡ Some q) × (follow plan root capacity q ms ≡ Some r)
  follow_front p r [] ms h = (p, refl, h)
  follow_front p r (l ∷ ls) ms h =
      let go = bound (next plan root capacity p l) (λ z. follow plan root capacity z (ls ++ ms)) r h in
      let ih = follow_front go.0 r ls ms go.2 in
      (ih.0, ap (option_and_then (λ z. follow plan root capacity z ls)) go.1 ∙ ih.1, ih.2)

  -- A JOURNAL'S LINES FOLLOW ONE ANOTHER

  follow_events : (t : ℕ) (m : Machine (Unit {0})) (s r : State (Unit {0})) (es : List Event) → replay m s es ≡ Some r → follow plan root capacity (inside t m s) (map Did es) ≡ Some (inside t m r)
  follow_events t m s r [] ran = let same : s ≡ r = cc in ap (λ z. Some (inside t m z)) same
  follow_events t m s r (e ∷ es) ran = ⊎_elim
      (λ (h : allowed m s e ≡ true). rw h (follow_events t m (change m s e) r es (rw h at ran)))
      (λ (h : allowed m s e ≡ false). let none : None ≡ Some r = rw h at ran in absurd (cc)) (test (allowed m s e))

  -- a window may begin with this cache
  abbrev Opens : ℕ → KeyCache → Progress → Type 0
  Opens t cache p = (first count : ℕ) → is_window plan root capacity first count ≡ true → next plan root capacity p (Window first count) ≡ Some (begun plan root capacity t cache first count)

  opens_named : (t : ℕ) → Opens t [] (named t)
  opens_named t first count h = rw h refl

  opens_inside : (t : ℕ) (m : Machine (Unit {0})) (s : State (Unit {0})) → is_finished s ≡ true → Opens t s.cache (inside t m s)
  opens_inside t m s done first count h = rw done (rw h refl)

  -- a window after others
  follow_window : (t : ℕ) (vs : List WindowEvents) (cache : KeyCache) (v : WindowEvents) (s : State (Unit {0})) (p : Progress) → follow plan root capacity unread (journal_lines t vs) ≡ Some p → Opens t cache p → IsRunTo plan root capacity t cache v s
      → follow plan root capacity unread (journal_lines t (vs ++ v ∷ [])) ≡ Some (inside t (in_window (machine_of plan root capacity t) cache v) s)
  follow_window t vs cache v s p before opens run =
      let m = in_window (machine_of plan root capacity t) cache v in
      let events = follow_events t m (start_of m cache (places plan root capacity t)) s v.events run.runs in
      let all : follow plan root capacity p (window_lines v) ≡ Some (inside t m s) = ap (option_and_then (λ z. follow plan root capacity z (map Did v.events))) (opens v.first v.count run.bounds) ∙ events in
      subst (λ ls. follow plan root capacity unread ls ≡ Some (inside t m s)) (sym (lines_more t vs v)) (follow-append unread p _ (journal_lines t vs) (window_lines v) before all)

  record Left (t : ℕ) (vs : List WindowEvents) (cache : KeyCache) : Type 0 where
    progress : Progress
    follows : follow plan root capacity unread (journal_lines t vs) ≡ Some progress
    opens : Opens t cache progress

  named_first : (t : ℕ) → 0 < t → t ≤ 16 → follow plan root capacity unread (Workers t ∷ []) ≡ Some (named t)
  named_first t low high = rw (lt-ltb 0 t low) (rw (le-leb t 16 high) refl)

  left_by : (t : ℕ) → 0 < t → t ≤ 16 → (vs : List WindowEvents) (cache : KeyCache) → AreFinished plan root capacity t vs cache → Left t vs cache
  left_by t low high vs cache none_finished = record { progress = named t; follows = named_first t low high; opens = opens_named t }
  left_by t low high vs cache (also {windows = before} {cache = old} v s first run finished) =
      let left = left_by t low high before old first in
      let m = in_window (machine_of plan root capacity t) old v in
      record {
        progress = inside t m s;
        follows = follow_window t before old v s left.progress left.follows left.opens run;
        opens = opens_inside t m s finished;
      }

  pub follows_all : (t : ℕ) → 0 < t → t ≤ 16 → (vs : List WindowEvents) → AreWindows plan root capacity t vs → (q : Progress) × (follow plan root capacity unread (journal_lines t vs) ≡ Some q)
  follows_all t low high vs no_window = (named t, named_first t low high)
  follows_all t low high vs (last {windows = before} {cache = old} v s first run) =
      let left = left_by t low high before old first in
      (inside t (in_window (machine_of plan root capacity t) old v) s, follow_window t before old v s left.progress left.follows left.opens run)
