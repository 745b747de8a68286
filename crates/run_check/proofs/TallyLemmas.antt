-- What a tally counts after a change.
use Rattle.std.proofs.Common.{◌≡◌, ◌⊎◌, ℕ, Bool, true, false, cond, Option, Some, Result, Ok, Err, OnOk, refl, ap, ◌∙◌, inl, inr, ⊎_elim}
use Rattle.std.specs.Prelude.{◌==◌, if◌then◌else◌, unwrap_or}
use Rattle.std.proofs.lemmas.Bool.{and_parts, eqb-true}
use Rattle.run_check.specs.declared.tally.Seat.{Seat}
use Rattle.run_check.specs.declared.tally.Tally.{Tally}
use Rattle.run_check.specs.Tallies.{same_seat, count_at}

pub test : (b : Bool) → (b ≡ true) ⊎ (b ≡ false)
test true = inl refl
test false = inr refl

pub same_seats : (a b : Seat) → same_seat a b ≡ true → a ≡ b
same_seats a b h =
    let parts = and_parts (a.worker == b.worker) (a.node == b.node) h in
    let p : a.worker ≡ b.worker = eqb-true a.worker b.worker parts.0 in
    let q : a.node ≡ b.node = eqb-true a.node b.node parts.1 in
    λ i. record { worker = p i; node = q i }

-- a number is put
pub put_at : (b : Bool) (count : ℕ) (old new : Option ℕ) → new ≡ cond b (Some count) old → unwrap_or new 0 ≡ (if b then count else unwrap_or old 0)
put_at true count old new h = ap (λ (o : Option ℕ). unwrap_or o 0) h
put_at false count old new h = ap (λ (o : Option ℕ). unwrap_or o 0) h

-- the number of a seat is put
pub counted : (f : ℕ → ℕ) (old new : Tally) (seat : Seat) → ((q : Seat) → count_at new q ≡ (if same_seat seat q then f (count_at old seat) else count_at old q)) → (q : Seat) → count_at new q ≡ (if same_seat seat q then f (count_at old q) else count_at old q)
counted f old new seat h q = ⊎_elim
    (λ (e : same_seat seat q ≡ true). h q ∙ rw e (ap (λ (s : Seat). f (count_at old s)) (same_seats seat q e)))
    (λ (e : same_seat seat q ≡ false). h q ∙ rw e refl) (test (same_seat seat q))

pub on_ok : {T E P Q : Type 0} (r : Result T E) → OnOk r P → (P → Q) → OnOk r Q
on_ok (Ok x) p f = f p
on_ok (Err e) p f = tt
