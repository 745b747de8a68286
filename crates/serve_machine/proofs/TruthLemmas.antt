-- Truth values, and values that are there.
use Rattle.std.proofs.Common.{◌≡◌, ◌⊎◌, ℕ, Bool, true, false, not, ◌||◌, Option, Some, None, refl, sym, ap, inl, inr, ⊎_elim}
use Rattle.std.specs.Prelude.{is_some}
use Rattle.std.proofs.lemmas.Bool.{eqb-true}
use Rattle.frame_cache.proofs.CallerLemmas.{absent}
use Rattle.serve_machine.specs.Machine.{is_open, is_some_and, is_by}

pub not_true : (a : Bool) → not a ≡ true → a ≡ false
not_true true h = sym h
not_true false h = refl

pub either : (a b : Bool) → (a || b) ≡ true → (a ≡ true) ⊎ (b ≡ true)
either true b h = inl refl
either false b h = inr h

pub or_true : (a b : Bool) → (a ≡ true) ⊎ (b ≡ true) → (a || b) ≡ true
or_true true b h = refl
or_true false b h = ⊎_elim (λ (e : false ≡ true). absurd (cc)) (λ (e : b ≡ true). e) h

pub or_left : (a b : Bool) → (a || b) ≡ false → a ≡ false
or_left true b h = absurd (cc)
or_left false b h = refl

pub or_right : (a b : Bool) → (a || b) ≡ false → b ≡ false
or_right true b h = absurd (cc)
or_right false b h = h

pub some_same : {X : Type 0} {x y : X} → Some x ≡ Some y → x ≡ y
some_same e = cc

pub some_value : {A : Type 0} → (o : Option A) → is_some o ≡ true → (x : A) × (o ≡ Some x)
some_value None h = absurd (cc)
some_value (Some x) h = (x, refl)

pub none_there : {A : Type 0} → (o : Option A) → not (is_some o) ≡ true → o ≡ None
none_there o h = absent o (not_true (is_some o) h)

pub by_there : (w : ℕ) (o : Option ℕ) → is_by w o ≡ true → o ≡ Some w
by_there w None h = absurd (cc)
by_there w (Some v) h = ap Some (eqb-true v w h)

pub open_none : {A : Type 0} → (o : Option (Option A)) → is_some_and is_open o ≡ true → o ≡ Some None
open_none None h = absurd (cc)
open_none (Some None) h = refl
open_none (Some (Some x)) h = absurd (cc)

pub held_some : (w : ℕ) (o : Option (Option ℕ)) → is_some_and (is_by w) o ≡ true → o ≡ Some (Some w)
held_some w None h = absurd (cc)
held_some w (Some holder) h = ap Some (by_there w holder h)
