-- What a seat and a turn keep of their place at the table.
use Rattle.std.specs.Prelude.{◌≡◌, ℕ, ◌^◌, ◌<◌, [], ◌∷◌, Option, None, IsSome}
use Rattle.atomic_table.specs.Seated.{TableId}
use Rattle.atomic_table.specs.Table.{Me}
use Rattle.turn_lock.specs.declared.view.View.{View}
use Rattle.turn_lock.specs.declared.view.Stage.TheVariants.{Rests, Holds}
use Rattle.turn_lock.specs.Entries.{entries_of}
use Rattle.turn_lock.specs.TurnRule.{ticket_of}

-- the table of a lock has two words and a slot
pub record IsLockTable (table : TableId) : Type 0 where
  pub words : table.words ≡ 2
  pub slots : table.slots ≡ 1

-- the numbers that a seat keeps at run time are those of its view, and the next one fits too
pub record IsNumbered {E T : Type 0} (number next : ℕ) (v : View E T) : Type 0 where
  pub number_is : number ≡ v.number
  pub next_is : next ≡ v.next
  pub limited : v.limit < 2 ^ 32
  pub live : IsSome v.tag

module _ {V E T : Type 0} where
  -- a seat without a turn holds no slot
  pub record IsResting (number next : ℕ) (me : Me (Option V) (View E T)) : Type 0 where
    pub numbered : IsNumbered number next me.0
    pub stage : me.0.stage ≡ Rests
    pub empty : me.1 ≡ []

  -- a turn holds the slot, which is empty while the value is out
  pub record IsHolding (by : E → ℕ) (number next : ℕ) (me : Me (Option V) (View E T)) : Type 0 where
    pub numbered : IsNumbered number next me.0
    pub stage : me.0.stage ≡ Holds (ticket_of me.0.stage)
    pub out : me.1 ≡ (0, None) ∷ []
    pub own_seen : entries_of by me.0.number me.0.seen ≡ me.0.own
