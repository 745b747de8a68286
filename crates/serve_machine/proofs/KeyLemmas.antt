-- Tests of keys.
use Rattle.std.proofs.Common.{◌≡◌, ◌⊎◌, Bool, true, false, ◌&&◌, refl, inl, inr, eq-eqb}
use Rattle.std.proofs.lemmas.Bool.{eqb-true}
use Rattle.fv_plane.specs.declared.key.Key.{Key}
use Rattle.serve_machine.specs.Events.{same_key}

pub test : (b : Bool) → (b ≡ true) ⊎ (b ≡ false)
test true = inl refl
test false = inr refl

pub left_true : (a b : Bool) → (a && b) ≡ true → a ≡ true
left_true true b h = refl
left_true false b h = h

pub right_true : (a b : Bool) → (a && b) ≡ true → b ≡ true
right_true true b h = h
right_true false b h = absurd (cc)

pub same_keys : (a b : Key) → same_key a b ≡ true → a ≡ b
same_keys a b h =
    let node : a.node ≡ b.node = eqb-true a.node b.node (left_true _ _ h) in
    let n : a.n ≡ b.n = eqb-true a.n b.n (right_true _ _ h) in
    λ i. record { node = node i; n = n i }

pub key_itself : (k : Key) → same_key k k ≡ true
key_itself k = rw (eq-eqb k.node k.node refl) (eq-eqb k.n k.n refl)
