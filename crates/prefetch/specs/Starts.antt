-- What a window and a render need of a core before they begin.
use Rattle.std.specs.Prelude.{◌≡◌, ℕ, ◌+◌, ◌<◌, ◌≤◌, [], length}
use Rattle.clip_graph.specs.Plan.{IsPlan}
use Rattle.serve_core.specs.CoreValue.{CoreValue}
use Rattle.serve_core.specs.Kept.{leases_out}
use Rattle.prefetch.specs.Windows.{frames_at}

-- a window may have so many outputs
pub record IsWindowSize (count : ℕ) : Type 0 where
  pub some : 0 < count
  pub few : count ≤ 32

module _ {I : Type 0} (c : CoreValue I) where
  -- the core is between windows, and has cached nothing
  pub record IsAtRest : Type 0 where
    pub between : c.fixed.count ≡ 0
    pub unclaimed : c.claims ≡ []
    pub unlent : leases_out c.table ≡ 0
    pub empty : c.cache ≡ []

  -- a window of so many outputs from a number on may begin
  pub record MayBegin (first count : ℕ) : Type 0 where
    pub between : c.fixed.count ≡ 0
    pub is_plan : IsPlan c.fixed.plan
    pub root : c.fixed.root < length c.fixed.plan
    pub workers : 0 < c.fixed.workers
    pub size : IsWindowSize count
    pub numbers : first + count ≤ frames_at c.fixed.plan c.fixed.root
