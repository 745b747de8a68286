-- Which list of claims is kept.
use Rattle.std.specs.Prelude.{◌≡◌, ℕ, ◌+◌, ◌==◌, Bool, ◌&&◌, cond, List, [], ◌∷◌, length}
use Rattle.std.specs.HashMap.{get, hash_map_len}
use Rattle.fv_plane.specs.declared.key.Key.{Key}
use Rattle.frame_cache.specs.Cached.{same_key, at_key, Differ}
use Rattle.run_check.specs.declared.claims.Claims.{Claims}
use Rattle.run_check.specs.Tallies.{count_at}

-- how many pass a test
abbrev pub number_by : {X : Type 0} → (X → Bool) → List X → ℕ
number_by p [] = 0
number_by p (x ∷ xs) = cond (p x) 1 0 + number_by p xs

-- the claims of a worker on frames of a node
abbrev pub number_at : ℕ → ℕ → List (Key × ℕ) → ℕ
number_at w i claims = number_by (λ (c : Key × ℕ). c.1 == w && (c.0).node == i) claims

-- all of its claims
abbrev pub number_of : ℕ → List (Key × ℕ) → ℕ
number_of w claims = number_by (λ (c : Key × ℕ). c.1 == w) claims

pub record AreClaims (c : Claims) (claims : List (Key × ℕ)) : Type 0 where
  pub by_key : (k : Key) → get same_key c.by_key k ≡ at_key k claims
  pub at_node : (w i : ℕ) → count_at c.at_node (record { worker = w; node = i }) ≡ number_at w i claims
  pub of_worker : (w : ℕ) → count_at c.of_worker (record { worker = w; node = 0 }) ≡ number_of w claims
  pub number : hash_map_len c.by_key ≡ length claims
  pub differ : Differ claims
