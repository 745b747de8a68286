-- What a loop has kept so far, and what the parts of a walk fetch.
use Rattle.std.proofs.Common.{◌≡◌, ℕ, ◌+◌, List, [], ◌∷◌, ◌++◌, length, None, IfNone, Result, Ok, Err, OnOk, ap, arith}
use Rattle.std.specs.Prelude.{pos, ◌-ℤ◌}
use Rattle.std.proofs.lemmas.Int.{ints}
use Rattle.std.proofs.lemmas.List.{length-append}
use Rattle.avs_values.specs.Values.{Text}
use Rattle.avs_meaning.specs.Meaning.{start}
use Rattle.avs_meaning.specs.State.{State}
use Rattle.avs_meaning.specs.declared.state.SourceClip.{SourceClip}
use Rattle.avs_state.specs.States.{state_of}
use Rattle.avs_state.specs.declared.host.Host as host
use Rattle.avs_state.specs.declared.run_state.RunState.{RunState}
use Rattle.avs_state.specs.Stops.{in_text}
use Rattle.avs_state.specs.declared.stop.Stop.{Stop}
use Rattle.avs_state.specs.Walks.{Keeps, unasked, stop_in}

abbrev pub Kept : {H : Type 0} → host.Ghosts H → RunState → H → RunState → H → Type 0
Kept h old before new now = Keeps h old before None new now

-- a clip that was opened was fetched
pub one_fetched : {H X : Type 0} (h : host.Ghosts H) (old new : RunState) (before now : H) (clip : SourceClip) (here : Text) (r : Result X Stop) → h.fetched now ≡ h.fetched before + 1
    → OnOk r ((state_of new).opened ≡ (state_of old).opened ++ clip ∷ []) → (state_of new).imports ≡ (state_of old).imports → IfNone (stop_in (in_text here r)) (unasked h new now ≡ unasked h old before)
one_fetched h old new before now clip here (Err stop) fetched opened imports = tt
one_fetched h old new before now clip here (Ok x) fetched opened imports =
    let more = ap length opened in
    let one = length-append (state_of old).opened (clip ∷ []) in
    omega (arith, ints, fetched, imports, more, one)

-- at the end each file that was fetched is a clip or an import
pub all_fetched : (before now imports : ℕ) (first last : State) (opened : List SourceClip) → first ≡ start → last.opened ≡ opened → imports ≡ last.imports
    → pos now -ℤ pos (length last.opened + last.imports) ≡ pos before -ℤ pos (length first.opened + first.imports) → now ≡ before + (length opened + imports)
all_fetched before now imports first last opened fresh given counted kept =
    let none = ap (λ (s : State). length s.opened) fresh in
    let unread = ap (λ (s : State). s.imports) fresh in
    let all = ap length given in
    omega (arith, ints, none, unread, all, counted, kept)
