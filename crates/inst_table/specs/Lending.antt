-- What a lease ends as, once the loan of its instance has ended.
use Rattle.std.specs.Borrow.{Fml, RattleType, MutBor, Lends}
use Rattle.inst_table.specs.Lent.{Lent}
use Rattle.inst_table.specs.contracts.lease.Lease.{the_row}

-- the same place, with the last value that was written
abbrev pub LendsValue : (R : RattleType) → MutBor (Lent R.Denot) → MutBor R.Denot → Fml
LendsValue R lease loan = Lends (the_row R) R lease loan (λ value. record { place = lease.now.place; value = value })
