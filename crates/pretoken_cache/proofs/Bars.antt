-- The refusals that come first, and what is right once none of them is. Assumes nothing.
use mathlib.Core.Path.{◌≡◌, refl}
use mathlib.Core.Bool.{Bool, true, false}
use Prim.Native.Nat.{ℕ, ◌≤◌, ◌<◌}
use native.Mathlib.Omega.{arith}
use lib.Dec.{ltb}
use borrow.Author.Tests.{ltb-false, lt-ltb, le-ltb}
use Rattle.token.specs.Refusals.{Verdict, fine, refused}
use Rattle.pretoken_cache.specs.declared.Name.{Name}
use Rattle.pretoken_cache.specs.Limits.{most_slots, most_asked}
use Rattle.pretoken_cache.specs.Slot.{keyless}
use Rattle.pretoken_cache.specs.Calls.{done, refuses, unfit, zero_key, over_asked, first_of}
use Rattle.token.proofs.Cases.{by_test}

-- ---- 1 and 2

-- a refusal is not fine
not_fine : {A : Type 0} {k p : ℕ} → fine ≡ refused k p → A
not_fine {A} {k} {p} e = absurd (let z : ◌≡◌ {A = ℕ} 0 1 = cc in omega arith)

pub refuses≢done : {A : Type 0} {k p : ℕ} → refuses k p ≡ done → A
refuses≢done {A} {k} {p} e = absurd (let z : ◌≡◌ {A = ℕ} 0 1 = cc in omega arith)

module _ (count : ℕ) (b : Bool) where
  pub unfit_1 : most_slots < count → refused 1 0 ≡ unfit count b
  unfolding unfit
  unfit_1 l = rw (lt-ltb most_slots count l)

  pub unfit_2 : count ≤ most_slots → b ≡ false → refused 2 0 ≡ unfit count b
  unfolding unfit
  unfit_2 l s = rw (le-ltb most_slots count l, s)

  fit : fine ≡ unfit count b → (count ≤ most_slots) × (b ≡ true)
  unfolding unfit
  fit e =
      by_test (ltb most_slots count) (λ d. not_fine (rw d at e))
      (λ d. by_test b (λ s. (ltb-false most_slots count d, s)) (λ s. not_fine (rw (d, s) at e)))

-- ---- 7

keyed : (m : Name) → fine ≡ zero_key m → keyless m ≡ false
unfolding zero_key
keyed m e = by_test (keyless m) (λ d. not_fine (rw d at e)) (λ d. d)

-- ---- 1, of the capacity rule

pub over_asked_n : (n asked : ℕ) → n ≤ most_asked → most_asked < asked → refused 1 0 ≡ over_asked n asked
unfolding over_asked
over_asked_n n asked l r = rw (le-ltb most_asked n l, lt-ltb most_asked asked r)

-- ---- the first of two

pub first_refused : {k p : ℕ} {u : Verdict} (v : Verdict) → refused k p ≡ u → refused k p ≡ first_of u v
first_refused v e = rw (← e)

-- nothing is wrong with a cache of so many entries in words of this shape, nor with the name
pub record Open (count : ℕ) (b : Bool) (m : Name) : Type 0 where
  pub few : count ≤ most_slots
  pub fits : b ≡ true
  pub key : keyless m ≡ false

pub opened : (count : ℕ) (b : Bool) (m : Name) → fine ≡ first_of (unfit count b) (zero_key m) → Open count b m
opened count b m e =
    let (p, q) = both_fine (unfit count b) e in
    let (l, s) = fit count b p in
    record { few = l; fits = s; key = keyed m q }
  where
    both_fine : (u : Verdict) {v : Verdict} → fine ≡ first_of u v → (fine ≡ u) × (fine ≡ v)
    both_fine fine e = (refl, e)
    both_fine (refused k p) e = not_fine e
