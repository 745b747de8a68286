-- The stops of a journal that grows.
use Rattle.std.proofs.Common.{◌≡◌, ℕ, Bool, true, false, ◌||◌, List, [], ◌∷◌, ◌++◌, Option, Some, None, refl, sym, ap, ◌∙◌}
use Rattle.fv_plane.specs.declared.key.Key.{Key}
use Rattle.serve_machine.specs.declared.event.Event.{Event}
use Rattle.serve_machine.specs.declared.event.Event.TheVariants.{Publish, Fail}
use Rattle.serve_machine.specs.declared.event.WindowStop.{WindowStop}
use Rattle.serve_machine.specs.SerialRun.{eviction}
use Rattle.serve_machine.specs.Machine.{kept_stop, stop_of, earlier, first_stop, is_read, has_read, is_changed, has_changed}
use Rattle.serve_machine.proofs.ClosingLemmas.{first_stop-append}

-- no event of these is a failure
abbrev pub AreQuiet : List Event → Type 0
AreQuiet [] = Unit {0}
AreQuiet (e ∷ es) = (stop_of e ≡ None) × AreQuiet es

quiet_none : (fs : List Event) → AreQuiet fs → first_stop fs ≡ None
quiet_none [] q = refl
quiet_none (e ∷ es) q = ap (λ o. earlier o (first_stop es)) q.0 ∙ quiet_none es q.1

earlier_none : (o : Option WindowStop) → earlier o None ≡ o
earlier_none None = refl
earlier_none (Some why) = refl

pub first_quiet : (es fs : List Event) → AreQuiet fs → first_stop (es ++ fs) ≡ first_stop es
first_quiet es fs q = first_stop-append es fs ∙ (ap (earlier (first_stop es)) (quiet_none fs q) ∙ earlier_none (first_stop es))

kept_earlier : (o : Option WindowStop) (why : WindowStop) → Some (kept_stop o why) ≡ earlier o (Some why)
kept_earlier None why = refl
kept_earlier (Some first) why = refl

pub first_fail : (es : List Event) (w : ℕ) (why : WindowStop) → Some (kept_stop (first_stop es) why) ≡ first_stop (es ++ Fail w why ∷ [])
first_fail es w why = kept_earlier (first_stop es) why ∙ sym (first_stop-append es (Fail w why ∷ []))

joined_or : (a b c : Bool) → (a || (b || c)) ≡ ((a || b) || c)
joined_or true b c = refl
joined_or false b c = refl

or_false : (a : Bool) → (a || false) ≡ a
or_false true = refl
or_false false = refl

pub read_append : (i : ℕ) (es fs : List Event) → has_read i (es ++ fs) ≡ (has_read i es || has_read i fs)
read_append i [] fs = refl
read_append i (e ∷ es) fs = ap (λ b. is_read i (stop_of e) || b) (read_append i es fs) ∙ joined_or (is_read i (stop_of e)) (has_read i es) (has_read i fs)

read_quiet : (i : ℕ) (fs : List Event) → AreQuiet fs → has_read i fs ≡ false
read_quiet i [] q = refl
read_quiet i (e ∷ es) q = ap (λ o. is_read i o || has_read i es) q.0 ∙ read_quiet i es q.1

pub read_same : (i : ℕ) (es fs : List Event) → AreQuiet fs → has_read i (es ++ fs) ≡ has_read i es
read_same i es fs q = read_append i es fs ∙ (ap (λ b. has_read i es || b) (read_quiet i fs q) ∙ or_false (has_read i es))

pub changed_append : (es fs : List Event) → has_changed (es ++ fs) ≡ (has_changed es || has_changed fs)
changed_append [] fs = refl
changed_append (e ∷ es) fs = ap (λ b. is_changed (stop_of e) || b) (changed_append es fs) ∙ joined_or (is_changed (stop_of e)) (has_changed es) (has_changed fs)

changed_quiet : (fs : List Event) → AreQuiet fs → has_changed fs ≡ false
changed_quiet [] q = refl
changed_quiet (e ∷ es) q = ap (λ o. is_changed o || has_changed es) q.0 ∙ changed_quiet es q.1

pub changed_same : (es fs : List Event) → AreQuiet fs → has_changed (es ++ fs) ≡ has_changed es
changed_same es fs q = changed_append es fs ∙ (ap (λ b. has_changed es || b) (changed_quiet fs q) ∙ or_false (has_changed es))

pub eviction_quiet : (w : ℕ) (gone : Option Key) (k : Key) → AreQuiet (eviction w gone ++ Publish w k ∷ [])
eviction_quiet w None k = (refl, tt)
eviction_quiet w (Some j) k = (refl, (refl, tt))

-- where there is no stop, no read was refused
unstopped_after : (i : ℕ) (o : Option WindowStop) (es : List Event) → (first_stop es ≡ None → has_read i es ≡ false) → earlier o (first_stop es) ≡ None
    → (is_read i o || has_read i es) ≡ false
unstopped_after i None es later h = later h
unstopped_after i (Some why) es later h = absurd (cc)

pub unstopped : (i : ℕ) (es : List Event) → first_stop es ≡ None → has_read i es ≡ false
unstopped i [] h = refl
unstopped i (e ∷ es) h = unstopped_after i (stop_of e) es (unstopped i es) h
