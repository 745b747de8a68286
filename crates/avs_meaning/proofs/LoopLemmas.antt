-- A loop has enough turns with as many as there are units.
use Rattle.std.proofs.Common.{◌≡◌, ◌∙◌, ℕ, zero, suc, ◌≤◌, ◌<◌, ℤ, Bool, true, false, Ok, Err, if◌then◌else◌, refl, sym, ap, arith}
use Rattle.avs_values.specs.Values.{Text}
use Rattle.avs_values.specs.declared.value.Value.TheVariants as v
use Rattle.avs_meaning.proofs.UnitLemmas.{Leaves, Spends, then_leaves}
use Rattle.avs_meaning.proofs.ExecutionUnits.{advance_leaves}
use Rattle.avs_meaning.specs.Faults.{script}
use Rattle.avs_meaning.specs.Statements.{Flow, on, back, go_on, ends, turns, Turn, goes_to, stops, continues, advance, turned, turn, counts, is_past}
use Rattle.avs_meaning.specs.State.{State, Outcome, Run, and_then, ◌>>=◌, ◌>>◌, fails, pay, spend}
use Rattle.avs_meaning.specs.declared.fault.ScriptKind.TheVariants as k

-- Fewer than so many units are left.
abbrev pub LeavesLess : {X : Type 0} → ℕ → Outcome X → Type 0
LeavesLess n (Ok ended) = ended.1.units < n
LeavesLess n (Err fault) = Unit {0}

less : {X : Type 0} (m n : ℕ) (o : Outcome X) → m < n → Leaves m o → LeavesLess n o
less m n (Ok ended) more few = omega (arith, more, few)
less m n (Err fault) more few = tt

paid_less : (units n : ℕ) (here : Text) (line : ℕ) (body : Run Flow) → Spends body → (s : State) → units ≤ n → LeavesLess n (and_then (pay units here line s) (λ _. body))
paid_less zero n here line body spends s few = tt
paid_less (suc m) n here line body spends s few = less m n (body (record s { units = m })) few (spends m (record s { units = m }) (omega arith))

-- a turn
abbrev pub turn_of : Text → ℕ → Run Flow → Run Flow
turn_of here line body = spend here line >> body

pub turn_less : (here : Text) (line : ℕ) (body : Run Flow) → Spends body → (n : ℕ) (s : State) → s.units ≤ n → LeavesLess n (turn_of here line body s)
turn_less here line body spends n s few = paid_less s.units n here line body spends s few

unpaid : (units : ℕ) (here : Text) (line : ℕ) (body : Run Flow) (s : State) → units ≤ 0 → and_then (pay units here line s) (λ _. body) ≡ Err (script k.StepLimit here line)
unpaid zero here line body s few = refl
unpaid (suc m) here line body s few = absurd (omega arith)

turn_unpaid : (here : Text) (line : ℕ) (body : Run Flow) (s : State) → s.units ≤ 0 → turn_of here line body s ≡ Err (script k.StepLimit here line)
turn_unpaid here line body s few = unpaid s.units here line body s few

-- what goes on alike after an outcome that leaves so many units
same_after : {X Y : Type 0} (n : ℕ) (o : Outcome X) (f g : X → Run Y) → Leaves n o → ((x : X) (s : State) → s.units ≤ n → f x s ≡ g x s) → and_then o f ≡ and_then o g
same_after n (Ok ended) f g few same = same ended.0 ended.1 few
same_after n (Err fault) f g few same = refl

same_below : {X Y : Type 0} (n : ℕ) (o : Outcome X) (f g : X → Run Y) → LeavesLess n o → ((x : X) (s : State) → s.units < n → f x s ≡ g x s) → and_then o f ≡ and_then o g
same_below n (Ok ended) f g few same = same ended.0 ended.1 few
same_below n (Err fault) f g few same = refl

both_same : {X : Type 0} (holds : Bool) (f f' g g' : Run X) (s : State) → f s ≡ f' s → g s ≡ g' s → (if holds then f else g) s ≡ (if holds then f' else g') s
both_same true f f' g g' s first second = first
both_same false f f' g g' s first second = second

flow_same : (flow : Flow) (f g : Run Flow) (s : State) → f s ≡ g s → go_on f flow s ≡ go_on g flow s
flow_same (on x) f g s same = same
flow_same (back x) f g s same = refl

-- ---- `while`

module _ (here : Text) (condition : Run Bool) (line : ℕ) (body : Run Flow) (tests : Spends condition) (spends : Spends body) where
  no_turn : (m j : ℕ) (s : State) → m ≤ 0 → s.units ≤ m → turns here 0 condition line body s ≡ turns here (suc j) condition line body s
  no_turn m j s none few = same_after m (condition s) _ _ (tests m s few) (λ holds t fewer.
      both_same holds (fails k.StepLimit here line) (turn_of here line body >>= go_on (turns here j condition line body)) ends ends t
      (sym (ap (λ o. and_then o (go_on (turns here j condition line body))) (turn_unpaid here line body t (omega arith)))) refl)

  same_turns : (i j m : ℕ) → m ≤ i → m ≤ j → (s : State) → s.units ≤ m → turns here i condition line body s ≡ turns here j condition line body s
  same_turns zero zero m le le' s few = refl
  same_turns zero (suc j) m le le' s few = no_turn m j s le few
  same_turns (suc i) zero m le le' s few = sym (no_turn m i s le' few)
  same_turns (suc i) (suc j) m le le' s few = same_after m (condition s) _ _ (tests m s few) (λ holds t fewer.
      both_same holds (turn_of here line body >>= go_on (turns here i condition line body)) (turn_of here line body >>= go_on (turns here j condition line body)) ends ends t
      (same_below m (turn_of here line body t) _ _ (turn_less here line body spends m t fewer) (λ flow w fewest.
      flow_same flow (turns here i condition line body) (turns here j condition line body) w (same_turns i j w.units (omega (arith, fewest, le)) (omega (arith, fewest, le')) w (omega arith))))
      refl)

  -- the loop, with as many turns as there are units
  abbrev pub loop : Run Flow
  loop s = turns here s.units condition line body s

  -- Its condition, and then a turn and the loop again, or nothing.
  pub unrolled : (s : State) → loop s ≡ and_then (condition s) (λ holds. if holds then (turn_of here line body >>= go_on loop) else ends)
  unrolled s = same_turns s.units (suc s.units) s.units (omega arith) (omega arith) s (omega arith)
      ∙ same_after s.units (condition s) _ _ (tests s.units s (omega arith)) (λ holds t few.
      both_same holds (turn_of here line body >>= go_on (turns here s.units condition line body)) (turn_of here line body >>= go_on loop) ends ends t
      (same_below s.units (turn_of here line body t) _ _ (turn_less here line body spends s.units t few) (λ flow w fewer.
      flow_same flow (turns here s.units condition line body) loop w (same_turns s.units w.units w.units (omega (arith, fewer)) (omega arith) w (omega arith))))
      refl)

-- ---- `for`

module _ (here word : Text) (last by : ℤ) (line : ℕ) (body : Run Flow) (spends : Spends body) where
  past : (i : ℤ) (s : State) → is_past last by i ≡ true → turn here word i last by line body s ≡ Ok (stops (on v.Undefined), s)
  unfolding turn
  past i s is = rw is

  inside : (i : ℤ) (s : State) → is_past last by i ≡ false → turn here word i last by line body s ≡ and_then (turn_of here line body s) (turned here word by line)
  unfolding turn
  inside i s is = rw is

  turned_leaves : (flow : Flow) (n : ℕ) (s : State) → s.units < n → LeavesLess n (turned here word by line flow s)
  turned_leaves (on x) n s few =
      less s.units n (turned here word by line (on x) s) few (then_leaves s.units (advance here word by line s) _ (advance_leaves here word by line s.units s (omega arith)) (λ _ t fewer. fewer))
  turned_leaves (back x) n s few = few

  then_less : (n : ℕ) (o : Outcome Flow) → LeavesLess n o → LeavesLess n (and_then o (turned here word by line))
  then_less n (Ok ended) few = turned_leaves ended.0 n ended.1 few
  then_less n (Err fault) few = tt

  continued_same : (t : Turn) (f g : ℤ → Run Flow) (s : State) → ((i : ℤ) → f i s ≡ g i s) → continues f t s ≡ continues g t s
  continued_same (goes_to i) f g s same = same i
  continued_same (stops flow) f g s same = refl

  no_count : (holds : Bool) (j m : ℕ) (i : ℤ) (s : State) → is_past last by i ≡ holds → m ≤ 0 → s.units ≤ m → counts here 0 word i last by line body s ≡ counts here (suc j) word i last by line body s
  no_count true j m i s is none few = rw (is, past i s is)
  no_count false j m i s is none few = rw (is, inside i s is, turn_unpaid here line body s (omega (arith, none, few)))

  same_counts : (p q m : ℕ) → m ≤ p → m ≤ q → (i : ℤ) (s : State) → s.units ≤ m → counts here p word i last by line body s ≡ counts here q word i last by line body s
  same_counts zero zero m le le' i s few = refl
  same_counts zero (suc q) m le le' i s few = no_count (is_past last by i) q m i s refl le few
  same_counts (suc p) zero m le le' i s few = sym (no_count (is_past last by i) p m i s refl le' few)
  same_counts (suc p) (suc q) m le le' i s few =
      elim (is_past last by i) as (λ holds. is_past last by i ≡ holds → counts here (suc p) word i last by line body s ≡ counts here (suc q) word i last by line body s) [
        | true ↦ λ is. rw (past i s is)
        | false ↦ λ is. rw (inside i s is) (same_below m (and_then (turn_of here line body s) (turned here word by line)) _ _ (then_less m (turn_of here line body s) (turn_less here line body spends m s few)) (λ t w fewer.
            continued_same t (λ next. counts here p word next last by line body) (λ next. counts here q word next last by line body) w
            (λ next. same_counts p q w.units (omega (arith, fewer, le)) (omega (arith, fewer, le')) next w (omega arith))))
      ]
      refl

  -- the turns from a number on, as many as there are units
  abbrev pub count : ℤ → Run Flow
  count i s = counts here s.units word i last by line body s

  pub counted_past : (i : ℤ) (s : State) → is_past last by i ≡ true → count i s ≡ Ok (on v.Undefined, s)
  counted_past i s is = same_counts s.units (suc s.units) s.units (omega arith) (omega arith) i s (omega arith) ∙ rw (past i s is)

  pub counted : (i : ℤ) (s : State) → is_past last by i ≡ false → count i s ≡ and_then (and_then (turn_of here line body s) (turned here word by line)) (continues count)
  counted i s is = same_counts s.units (suc s.units) s.units (omega arith) (omega arith) i s (omega arith)
      ∙ rw (inside i s is) (same_below s.units (and_then (turn_of here line body s) (turned here word by line)) _ _ (then_less s.units (turn_of here line body s) (turn_less here line body spends s.units s (omega arith))) (λ t w fewer.
      continued_same t (λ next. counts here s.units word next last by line body) count w
      (λ next. same_counts s.units w.units w.units (omega (arith, fewer)) (omega arith) next w (omega arith))))
