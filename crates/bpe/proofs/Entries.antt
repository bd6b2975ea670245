-- Entries are in order by rank, then by place. Assumes nothing.
use mathlib.Core.Path.{◌≡◌}
use mathlib.Core.Logic.{◌⊎◌, inl, inr}
use Prim.Native.Nat.{ℕ, ◌^◌, ◌≤◌, ◌<◌}
use native.Mathlib.Omega.{arith}
use Rattle.bpe.specs.Look.{entry}
use Rattle.token.proofs.Cases.{by_equal}

-- by rank, then by place
pub entry_order : (r p k a : ℕ) → p < 2 ^ 32 → a < 2 ^ 32 → entry r p ≤ entry k a → (r < k) ⊎ ((r ≡ k) × (p ≤ a))
entry_order r p k a lp la h = by_equal r k (λ e. inr (e, omega arith)) (λ n. inl (omega arith))

pub entry_same : (r p k a : ℕ) → p < 2 ^ 32 → a < 2 ^ 32 → entry r p ≡ entry k a → (r ≡ k) × (p ≡ a)
entry_same r p k a lp la h = omega arith
