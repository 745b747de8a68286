-- Which places are out.
use Rattle.std.specs.Prelude.{◌≡◌, ℕ, not, List, map, Option, None}
use Rattle.std.specs.HashMap.{get}
use Rattle.std.specs.Map.{lookup}
use Rattle.inst_table.specs.declared.place.Place.{Place}
use Rattle.inst_table.specs.Places.{same_place}
use Rattle.serve_machine.specs.Law.{worker_at}
use Rattle.serve_machine.specs.Machine.{is_open, is_by}
use Rattle.run_check.specs.declared.leases.Leases.{Leases}
use Rattle.run_check.specs.Claims.{number_by}
use Rattle.run_check.specs.Tallies.{count_at}

-- each place with the worker that has its instance
abbrev pub Holders : Type 0
Holders = List (Place × Option ℕ)

abbrev pub free : List Place → Holders
free places = map (λ p. (p, None)) places

-- the places of a worker
abbrev pub number_held : ℕ → Holders → ℕ
number_held w places = number_by (λ (e : Place × Option ℕ). is_by w e.1) places

-- the places that are out
abbrev pub number_out : Holders → ℕ
number_out places = number_by (λ (e : Place × Option ℕ). not (is_open e.1)) places

pub record AreLeases (l : Leases) (places : Holders) : Type 0 where
  pub out : (p : Place) → get same_place l.out p ≡ worker_at (lookup (same_place p) places)
  pub held : (w : ℕ) → count_at l.held (record { worker = w; node = 0 }) ≡ number_held w places
  pub total : l.total ≡ number_out places
