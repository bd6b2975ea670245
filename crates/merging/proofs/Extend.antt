-- A lookup with more rules, all later, goes on from where the first one ends. Assumes nothing.
use mathlib.Core.Path.{◌≡◌, refl, sym, ap, ◌∙◌}
use mathlib.Core.Logic.{◌⊎◌, inl, inr, ⊎_elim}
use mathlib.Core.List.{List, [], ◌∷◌}
use Prim.Native.Nat.{ℕ, zero, suc, ◌<◌}
use native.Mathlib.Omega.{arith}
use lib.ListN.{length}
use Rattle.merging.specs.Merging.{nothing, rule, Lookup, ask, Best, once, merging, merge, Extends}
use Rattle.merging.proofs.Answer.{by_answer, no_rule}
use Rattle.merging.proofs.Best.{best_sound, by_best}
use Rattle.merging.proofs.Merge.{once_at, once_none, merge_join}

-- what is asked at j is the same for every lookup: nothing, or a pair
pub asks : (row : List ℕ) (j : ℕ) → ((look : Lookup) → ask look row j ≡ nothing) ⊎ ((a : ℕ) × (b : ℕ) × ((look : Lookup) → ask look row j ≡ look a b))
asks [] j = inl (λ look. refl)
asks (a ∷ []) zero = inl (λ look. refl)
asks (a ∷ b ∷ row) zero = inr (a, b, λ look. refl)
asks (a ∷ row) (suc j) = asks row j

module _ (look look' : Lookup) (x : Extends look look') where
  ask_same : (row : List ℕ) (j : ℕ) {p m : ℕ} → ask look row j ≡ rule p m → ask look' row j ≡ rule p m
  ask_same row j {p} {m} f =
      ⊎_elim (λ n. no_rule (n look) f) (λ (a, b, e). e look' ∙ x.same a b p m (sym (e look) ∙ f)) (asks row j)

  ask_after : (row : List ℕ) (j i : ℕ) {q n p m : ℕ} → ask look row j ≡ nothing → ask look' row j ≡ rule q n → ask look row i ≡ rule p m → p < q
  ask_after row j i {q} {n} {p} {m} e f g =
      ⊎_elim (λ k. no_rule (k look') f)
      (λ (a, b, k). ⊎_elim (λ l. no_rule (l look) g)
      (λ (c, d, l). omega (arith, x.after a b q n (sym (k look) ∙ e) (sym (k look') ∙ f) c d p m (sym (l look) ∙ g))) (asks row i))
      (asks row j)

  -- the best pair stays the best
  pub best_extends : {row : List ℕ} {i p m : ℕ} → Best look row i p m → Best look' row i p m
  best_extends {row} {i} {p} {m} h = record {
    asked = ask_same row i h.asked;
    least = λ j q n f. by_answer (ask look row j) (λ e. inl (ask_after row j i e f h.asked))
        (λ q' n' e. h.least j q n (e ∙ (cc (ask_same row j e, f))));
  }

  extend_merging : (k : ℕ) (row : List ℕ) → merge look' (merging k look row) ≡ merge look' row
  extend_merging zero row = refl
  extend_merging (suc k) row =
      extend_merging k (once look row)
      ∙ by_best look row (λ e. ap (merge look') (once_none look row e))
      (λ i p m e. ap (merge look') (once_at look row e) ∙ merge_join look' row (best_extends (best_sound look row e)))

  -- demand 3, the longer list
  pub merge_extends : (row : List ℕ) → merge look' row ≡ merge look' (merge look row)
  unfolding merge
  merge_extends row = sym (extend_merging (length row) row)
