-- The laws of the plain map: what is read after a store, its size, and that each name is there once. Assumes nothing.
use mathlib.Core.Path.{◌≡◌, refl, sym, ap, ◌∙◌}
use mathlib.Core.Bool.{false, cond}
use mathlib.Core.List.{[], ◌∷◌}
use mathlib.Core.Option.{Option, none, some}
use Prim.Native.Nat.{ℕ, suc}
use native.Mathlib.Omega.{arith}
use lib.ListN.{length}
use Rattle.pretoken_cache.specs.declared.Name.{Name}
use Rattle.pretoken_cache.specs.declared.Value.{Value}
use Rattle.pretoken_cache.specs.Slot.{same}
use Rattle.pretoken_cache.specs.Plain.{Entries, lookup, store, Once}
use Rattle.token.proofs.Cases.{by_test}
use Rattle.pretoken_cache.proofs.Names.{same_refl, by_name, not_same}
use Rattle.pretoken_cache.proofs.Table.{Maps}

-- what is not there is not there with a value
pub not_none : {A : Type 0} {f : Option Value} {v : Value} → f ≡ none → f ≡ some v → A
not_none {A} {f} {v} p q = absurd (let z : ◌≡◌ {A = ℕ} 0 1 = cc in omega arith)

module _ (m : Name) (v : Value) where
  store_on : (es : Entries) → lookup (store m v es) m ≡ some v
  unfolding lookup store
  store_on [] = rw (same_refl m)
  store_on (e ∷ es) = by_test (same m e.0) (λ d. rw (d, same_refl m)) (λ d. rw d (rw d (store_on es)))

  store_off : (n : Name) → same n m ≡ false → (es : Entries) → lookup (store m v es) n ≡ lookup es n
  unfolding lookup store
  store_off n d [] = rw d
  store_off n d (e ∷ es) =
      by_name m e.0 (λ i. rw (← i, same_refl m, d)) (λ i. rw i (ap (cond (same n e.0) (some e.1)) (store_off n d es)))

  pub store_maps : (es : Entries) → Maps (lookup es) (lookup (store m v es)) m v
  store_maps es = record { on = store_on es; off = λ n d. store_off n d es }

  -- a new name makes the map longer
  pub store_longer : (es : Entries) → lookup es m ≡ none → length (store m v es) ≡ suc (length es)
  unfolding lookup store
  store_longer [] h = refl
  store_longer (e ∷ es) h = by_test (same m e.0) (λ d. not_none {v = e.1} h (rw d)) (λ d. rw d (ap suc (store_longer es (rw d at h))))

  -- an old one does not
  pub store_as_long : (es : Entries) {u : Value} → lookup es m ≡ some u → length (store m v es) ≡ length es
  unfolding lookup store
  store_as_long [] h = not_none refl h
  store_as_long (e ∷ es) h = by_test (same m e.0) (λ d. rw d) (λ d. rw d (ap suc (store_as_long es (rw d at h))))

  pub store_once : (es : Entries) → Once es → Once (store m v es)
  unfolding lookup store
  store_once [] o = (refl, tt)
  store_once (e ∷ es) o =
      by_name m e.0
      (λ i. rw (i, same_refl e.0) o)
      (λ i. rw i (store_off e.0 (other e.0 i) es ∙ o.0, store_once es o.1))
    where
      other : (n : Name) → same m n ≡ false → same n m ≡ false
      other n d = by_name n m (λ i. absurd (not_same m n d (sym i))) (λ d. d)
