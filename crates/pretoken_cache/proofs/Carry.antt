-- Old entries carried into an empty table, slot by slot. Assumes nothing.
use mathlib.Core.Path.{◌≡◌, refl, sym, ap, ◌∙◌}
use mathlib.Core.Logic.{◌≢◌}
use mathlib.Core.Bool.{cond}
use mathlib.Core.List.{List}
use mathlib.Core.Option.{Option, none}
use Prim.Native.Nat.{ℕ, suc, ◌≤◌, ◌<◌}
use native.Mathlib.Omega.{arith}
use lib.Dec.{eqb, ltb}
use borrow.Author.Tests.{eqb-true, eqb-false, ltb-true, ltb-false, lt-ltb, le-ltb}
use Rattle.pretoken_cache.specs.declared.Name.{Name}
use Rattle.pretoken_cache.specs.declared.Value.{Value}
use Rattle.pretoken_cache.specs.Slot.{Slot, free, held}
use Rattle.pretoken_cache.specs.Walk.{Walk, hit, empty, full}
use Rattle.token.proofs.Cases.{by_test}
use Rattle.pretoken_cache.proofs.Names.{not_same, one_name, not_free}
use Rattle.pretoken_cache.proofs.Table.{value_in, value_of, Maps, Orders, finds, Rep, hit_held}

-- what a walk found among the first k slots
abbrev pub before : ℕ → (ℕ → Slot) → Walk → Option Value
before k t (hit s) = cond (ltb s k) (value_in (t s)) none
before k t (empty s) = none
before k t full = none

before_zero : (t : ℕ → Slot) (w : Walk) → before 0 t w ≡ none
before_zero t (hit s) = rw (le-ltb s 0 (omega arith))
before_zero t (empty s) = refl
before_zero t full = refl

before_suc : (t : ℕ → Slot) (k : ℕ) (w : Walk) → w ≢ hit k → before (suc k) t w ≡ before k t w
before_suc t k (hit s) n =
    by_test (ltb s k) (λ e. rw (e, lt-ltb s (suc k) (omega (arith, ltb-true s k e))))
    (λ e. rw (e, le-ltb s (suc k) (differ s (ltb-false s k e) n)))
  where
    differ : (s : ℕ) → k ≤ s → hit s ≢ hit k → suc k ≤ s
    differ s l n = by_test (eqb s k) (λ e. absurd (n (ap hit (eqb-true s k e)))) (λ e. omega (arith, eqb-false s k e))
before_suc t k (empty s) n = refl
before_suc t k full n = refl

-- the map of an old table's first k slots
module _ (order : Name → List ℕ) (n : ℕ) (o : Orders order n) (t : ℕ → Slot) (f : Name → Option Value) (r : Rep order n t f) where
  abbrev pub part : ℕ → Name → Option Value
  part k m = before k t (finds order n t m)

  pub part_zero : (m : Name) → part 0 m ≡ none
  part_zero m = before_zero t (finds order n t m)

  pub part_all : (m : Name) → part n m ≡ f m
  part_all m = all (finds order n t m) refl ∙ r.reads m
    where
      all : (w : Walk) → finds order n t m ≡ w → before n t w ≡ value_of t w
      all (hit s) e = rw (lt-ltb s n (hit_held order n o t m e).2)
      all (empty s) e = refl
      all full e = refl

  -- slot k is empty
  pub part_free : (k : ℕ) → t k ≡ free → (m : Name) → part k m ≡ part (suc k) m
  part_free k h m = sym (before_suc t k (finds order n t m) (λ e. not_free h (hit_held order n o t m e).1))

  -- slot k holds m
  module _ (k : ℕ) (l : k < n) {m : Name} {v : Value} (h : t k ≡ held m v) where
    pub part_new : part k m ≡ none
    part_new = rw (r.met k m v l h, le-ltb k k (omega arith))

    pub part_held : Maps (part k) (part (suc k)) m v
    part_held = record {
      on = rw (r.met k m v l h, lt-ltb k (suc k) (omega arith), h);
      off = λ q d. before_suc t k (finds order n t q) (λ e. not_same q m d (one_name (hit_held order n o t q e).1 h));
    }
