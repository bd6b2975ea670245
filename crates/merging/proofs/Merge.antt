-- `merge` ends stuck, is reached by merges of the best pair, and is their only end; merges in two parts. Assumes nothing.
use mathlib.Core.Path.{◌≡◌, refl, sym, ap, ◌∙◌}
use mathlib.Core.List.{List, [], ◌∷◌}
use Prim.Native.Nat.{ℕ, zero, suc, ◌+◌, ◌-◌, ◌≤◌, ◌<◌}
use native.Mathlib.Nat.{zero-add, suc-add, add-sub_of_le}
use native.Mathlib.Omega.{arith}
use lib.ListN.{length}
use Rattle.merging.specs.Merging.{rule, Lookup, ask, join, Best, Stuck, none, at, best, once, merging, merge, step, Merges, done, more}
use Rattle.merging.proofs.Answer.{no_rule}
use Rattle.merging.proofs.Best.{best_sound, best_stuck, best_complete, stuck_best, by_best}

pub length_join : (i m : ℕ) (row : List ℕ) → suc i < length row → suc (length (join i m row)) ≡ length row
length_join i m [] h = omega arith
length_join zero m (a ∷ []) h = omega arith
length_join zero m (a ∷ b ∷ row) h = refl
length_join (suc i) m (a ∷ row) h = ap suc (length_join i m row (omega arith))

module _ (look : Lookup) where
  -- a pair that has a rule is in the row
  pub ask_bound : (row : List ℕ) (j : ℕ) {q n : ℕ} → ask look row j ≡ rule q n → suc j < length row
  ask_bound [] j e = no_rule refl e
  ask_bound (a ∷ []) zero e = no_rule refl e
  ask_bound (a ∷ b ∷ row) zero e = omega arith
  ask_bound (a ∷ row) (suc j) e = omega (arith, ask_bound row j e)

  pub once_at : (row : List ℕ) {i p m : ℕ} → best look row ≡ at i p m → once look row ≡ join i m row
  once_at row e = rw e

  pub once_none : (row : List ℕ) → best look row ≡ none → once look row ≡ row
  once_none row e = rw e

  -- a merge makes the row shorter by one
  pub once_shorter : (row : List ℕ) {i p m : ℕ} → best look row ≡ at i p m → suc (length (once look row)) ≡ length row
  once_shorter row {i} {p} {m} e = rw e (length_join i m row (ask_bound row i (best_sound look row e).asked))

  pub once_length : (row : List ℕ) → length (once look row) ≤ length row
  once_length row = by_best look row (λ e. omega (arith, ap length (once_none row e))) (λ i p m e. omega (arith, once_shorter row e))

  pub merging_stuck : (k : ℕ) (row : List ℕ) → best look row ≡ none → merging k look row ≡ row
  merging_stuck zero row e = refl
  merging_stuck (suc k) row e = rw e (merging_stuck k row e)

  -- as many merges as the row has ids are enough
  pub merging_ends : (k : ℕ) (row : List ℕ) → length row ≤ k → best look (merging k look row) ≡ none
  merging_ends zero [] h = refl
  merging_ends zero (a ∷ row) h = absurd (omega arith)
  merging_ends (suc k) row h =
      by_best look row (λ e. ap (best look) (merging_stuck (suc k) row e) ∙ e)
      (λ i p m e. merging_ends k (once look row) (omega (arith, once_shorter row e)))

  -- j merges and then k are j + k merges
  pub merging_add : (j k : ℕ) (row : List ℕ) → merging (j + k) look row ≡ merging k look (merging j look row)
  merging_add zero k row = rw zero-add
  merging_add (suc j) k row = rw suc-add (merging_add j k (once look row))

  -- more merges than the row has ids change nothing
  pub merging_enough : (k : ℕ) (row : List ℕ) → length row ≤ k → merging k look row ≡ merge look row
  unfolding merge
  merging_enough k row h =
      ap (λ (n : ℕ). merging n look row) (sym (add-sub_of_le h)) ∙ merging_add (length row) (k - length row) row
      ∙ merging_stuck (k - length row) (merge look row) (merging_ends (length row) row (omega arith))

  -- it ends stuck
  pub merge_stuck : (row : List ℕ) → Stuck look (merge look row)
  unfolding merge
  merge_stuck row = best_stuck look (merge look row) (merging_ends (length row) row (omega arith))

  pub merge_once : (row : List ℕ) → merge look (once look row) ≡ merge look row
  merge_once row = sym (merging_enough (length row) (once look row) (once_length row)) ∙ merging_enough (suc (length row)) row (omega arith)

  -- a merge of the best pair leaves the answer as it is
  pub merge_join : (row : List ℕ) {i p m : ℕ} → Best look row i p m → merge look (join i m row) ≡ merge look row
  merge_join row h = ap (merge look) (sym (once_at row (best_complete look row h))) ∙ merge_once row

  -- so do any number of merges
  pub merging_merge : (k : ℕ) (row : List ℕ) → merge look (merging k look row) ≡ merge look row
  merging_merge zero row = refl
  merging_merge (suc k) row = merging_merge k (once look row) ∙ merge_once row

  -- a row in which no pair has a rule is its own answer
  -- a row of no id and one of a single id stay
  pub short_stays : (merge look [] ≡ []) × ((a : ℕ) → merge look (a ∷ []) ≡ a ∷ [])
  unfolding merge
  short_stays = (refl, λ a. refl)

  pub stuck_merge : (row : List ℕ) → Stuck look row → merge look row ≡ row
  unfolding merge
  stuck_merge row s = merging_stuck (length row) row (stuck_best look row s)

  pub merges_merging : (k : ℕ) (row : List ℕ) → Stuck look (merging k look row) → Merges look row (merging k look row)
  merges_merging zero row s = done s
  merges_merging (suc k) row s =
      by_best look row (λ e. rw (merging_stuck (suc k) row e) (done (best_stuck look row e)))
      (λ i p m e. rw e (more (step (best_sound look row e)) (rw e at (merges_merging k (once look row) s))))

  -- it is reached by merges of the best pair
  pub merges_merge : (row : List ℕ) → Merges look row (merge look row)
  unfolding merge
  merges_merge row = merges_merging (length row) row (merge_stuck row)

  -- and it is their only end
  pub merges_unique : {row end : List ℕ} → Merges look row end → end ≡ merge look row
  merges_unique (done s) = sym (stuck_merge _ s)
  merges_unique (more (step h) r) = merges_unique r ∙ merge_join _ h
