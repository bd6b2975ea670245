-- What required_capacity answers, and what with_at_least makes of it. Assumes nothing.
use mathlib.Core.Path.{◌≡◌, refl}
use mathlib.Core.Bool.{◌&&◌}
use mathlib.Core.List.{List}
use lib.Dec.{eqb}
use Prim.Native.Nat.{ℕ}
use native.Mathlib.Omega.{arith}
use Rattle.token.specs.Refusals.{Verdict, fine, refused}
use Rattle.pretoken_cache.specs.Table.{slots, shaped}
use Rattle.pretoken_cache.specs.Calls.{keeping, guarded, emptied, unfit, sized, refuses, over_asked, unless, required, reset, with_at_least}

-- what an answer says of the verdict before it
unless_sized : (v : Verdict) {a b : ℕ} → sized a ≡ unless v (sized b) → (fine ≡ v) × (a ≡ b)
unless_sized fine {a} {b} e = (refl, cc)
unless_sized (refused k p) {a} {b} e = absurd (let z : ◌≡◌ {A = ℕ} 0 1 = cc in omega arith)

unless_refuses : (v : Verdict) (b : ℕ) {k p : ℕ} → refuses k p ≡ unless v (sized b) → refused k p ≡ v
unless_refuses fine b {k} {p} e = absurd (let z : ◌≡◌ {A = ℕ} 0 1 = cc in omega arith)
unless_refuses (refused k' p') b {k} {p} e = let i : k ≡ k' = cc in let j : p ≡ p' = cc in cc

-- what is made by it: a table of the required slots, emptied
module _ (words : List ℕ) (n asked : ℕ) where
  pub made_of : (cap : ℕ) → sized cap ≡ required n asked → with_at_least words n asked ≡ reset 0 words cap
  unfolding required with_at_least
  made_of cap e = let (f, i) = unless_sized (over_asked n asked) e in rw (← f, i)

  pub made_refused : (k p : ℕ) → refuses k p ≡ required n asked → with_at_least words n asked ≡ keeping words 0 (refuses k p)
  unfolding required with_at_least
  made_refused k p e = let i = unless_refuses (over_asked n asked) _ e in rw (← i)
