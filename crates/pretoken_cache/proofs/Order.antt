-- The walk of a name goes over all pairs of a table. Assumes nothing.
use mathlib.Core.Path.{◌≡◌, refl, ap, ◌∙◌, subst}
use mathlib.Core.Logic.{inl, inr}
use mathlib.Core.List.{List, ◌∷◌}
use Prim.Native.Nat.{ℕ, zero, suc, ◌+◌, ◌-◌, ◌*◌, ◌/◌, ◌%◌, ◌<◌}
use native.Mathlib.Nat.{mod-lt, mod_self, mod-eq_of_lt, mod-add-mod, add-mod_right, add-zero}
use native.Mathlib.Omega.{arith}
use lib.Dec.{eqb, ltb}
use borrow.Author.Tests.{eqb-true, eqb-false, ltb-true, ltb-false}
use Rattle.pretoken_cache.specs.Walk.{around}
use Rattle.pretoken_cache.specs.Table.{home, order}
use Rattle.token.proofs.Cases.{by_test}
use Rattle.pretoken_cache.proofs.Walks.{All, In}
use Rattle.pretoken_cache.proofs.Table.{Orders}
use Rattle.pretoken_cache.proofs.Sizes.{Size}

-- an even slot of n
pub record Even (n i : ℕ) : Type 0 where
  pub inside : i < n
  pub even : i % 2 ≡ 0

module _ {n : ℕ} (z : Size n) where
  pub home_even : (h : ℕ) → Even n (home n h)
  unfolding home
  home_even h = record { inside = omega (arith, mod-lt h {m = n} (omega (arith, z.least))); even = omega arith }

  -- two on, wrapping
  pub even_next : {i : ℕ} → Even n i → Even n ((i + 2) % n)
  even_next {i} e =
      by_test (eqb (i + 2) n)
      (λ d. let r : (i + 2) % n ≡ 0 = ap (λ (x : ℕ). x % n) (eqb-true (i + 2) n d) ∙ mod_self n in
      record { inside = omega (arith, z.least); even = omega arith })
      (λ d. let d = eqb-false (i + 2) n d in
      let l : i + 2 < n = omega (arith, e.inside, e.even, z.even) in
      let r : (i + 2) % n ≡ i + 2 = mod-eq_of_lt l in
      record { inside = omega arith; even = omega (arith, e.even) })

  around_inside : (k : ℕ) {i : ℕ} → Even n i → All (λ j. j + 1 < n) (around n k i)
  unfolding around
  around_inside zero e = tt
  around_inside (suc k) e = (omega (arith, e.inside, e.even, z.even), around_inside k (even_next e))

  around_nth : (k j : ℕ) {i : ℕ} → Even n i → j < k → In ((i + 2 * j) % n) (around n k i)
  unfolding around
  around_nth zero j e l = absurd (omega arith)
  around_nth (suc k) zero {i} e l = inl (ap (λ (x : ℕ). x % n) (add-zero i) ∙ mod-eq_of_lt e.inside)
  around_nth (suc k) (suc j) {i} e l =
      let r : ((i + 2) % n + 2 * j) % n ≡ (i + 2 * suc j) % n = mod-add-mod (i + 2) n (2 * j) ∙ ap (λ (x : ℕ). x % n) (omega arith) in
      inr (subst (λ (x : ℕ). In x (around n k ((i + 2) % n))) r (around_nth k j (even_next e) (omega arith)))

  -- half the slot count of pairs are all the pairs
  around_onto : {i t : ℕ} → Even n i → Even n t → In t (around n (n / 2) i)
  around_onto {i} {t} e f =
      by_test (ltb t i)
      (λ d. let l = ltb-true t i d in
      let j = (t + n - i) / 2 in
      let a : i + 2 * j ≡ t + n = omega (arith, e.inside, e.even, f.even, z.even) in
      let r : (i + 2 * j) % n ≡ t = ap (λ (x : ℕ). x % n) a ∙ add-mod_right t n ∙ mod-eq_of_lt f.inside in
      subst (λ (x : ℕ). In x (around n (n / 2) i)) r (around_nth (n / 2) j e (omega (arith, z.even))))
      (λ d. let l = ltb-false t i d in
      let j = (t - i) / 2 in
      let a : i + 2 * j ≡ t = omega (arith, e.even, f.even) in
      let r : (i + 2 * j) % n ≡ t = ap (λ (x : ℕ). x % n) a ∙ mod-eq_of_lt f.inside in
      subst (λ (x : ℕ). In x (around n (n / 2) i)) r (around_nth (n / 2) j e (omega (arith, z.even, f.inside, f.even))))

  pub orders : Orders (λ m. order n m.h) n
  unfolding order
  orders = record {
    inside = λ m. around_inside (n / 2) (home_even m.h);
    onto = λ m s l.
        let t : Even n (s - s % 2) = record { inside = omega arith; even = omega arith } in
        (s - s % 2, around_onto (home_even m.h) t, by_test (eqb (s % 2) 0) (λ d. inl (omega (arith, eqb-true (s % 2) 0 d))) (λ d. inr (omega (arith, eqb-false (s % 2) 0 d))));
  }

  -- the walk begins at home
  pub order_home : (h : ℕ) → (l : List ℕ) × (order n h ≡ home n h ∷ l)
  unfolding order around
  order_home h = go (n / 2) (omega (arith, z.least))
    where
      go : (k : ℕ) → 0 < k → (l : List ℕ) × (around n k (home n h) ≡ home n h ∷ l)
      go zero l = absurd (omega arith)
      go (suc k) l = (around n k ((home n h + 2) % n), refl)
