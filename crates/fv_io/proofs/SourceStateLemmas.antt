-- What a state gives is what it tells.
use Rattle.std.proofs.Common.{◌≡◌, ℕ, ◌+◌, ◌<◌, ◌≤◌, List, ◌++◌, length, take, drop, Option, Some, None, is_none, Bool, true, false, cond, ◌∙◌, ap, arith, unwrap_or, ◌==◌}
use Rattle.std.proofs.lemmas.List.{take_at, length-take-le, length-drop}
use Rattle.fv_io.specs.Told.{Reads}
use Rattle.fv_io.specs.SourceState.{SourceState, bytes_now, told_bytes}

same : (first told : List ℕ) (later : Option (List ℕ)) (unwound : Bool) → cond (is_none later) (Some first) None ≡ Some told → cond unwound first (unwrap_or later first) ≡ told
same first told None true is = cc
same first told None false is = cc
same first told (Some later) unwound is = absurd (let no : ⊥ = cc in no)

-- told bytes are the bytes that it gives now
pub bytes_now-told : (state : SourceState) (told : List ℕ) → told_bytes state ≡ Some told → bytes_now state ≡ told
bytes_now-told state told is = same state.first told state.later (state.rewinds == 0) is

-- bytes from the place on are what a read gives
pub reads : (bytes told piece rest : List ℕ) (place count : ℕ) → bytes ≡ told → piece ≡ take count (drop place bytes) → place + count ≤ length bytes → (count ≡ 0 → 0 < length (piece ++ rest) → length bytes ≤ place)
    → Reads told place count (piece ++ rest)
reads bytes told piece rest place count same is inside ended =
    let size : length (take count (drop place bytes)) ≡ count = length-take-le count (drop place bytes) (omega (arith, length-drop place bytes)) in
    record {
      given = take_at piece rest count (ap length is ∙ size) ∙ is ∙ ap (λ (l : List ℕ). take count (drop place l)) same;
      ended = λ nothing some. let e = ended nothing some in omega (arith, ap length same, e);
    }
