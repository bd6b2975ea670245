-- The starts: one for each symbol of the answer, rising, the first at 0. Assumes nothing.
use mathlib.Core.Path.{◌≡◌, refl, ap, ◌∙◌}
use mathlib.Core.List.{List, [], ◌∷◌}
use Prim.Native.Nat.{ℕ, zero, suc, ◌<◌}
use native.Mathlib.Omega.{arith}
use lib.ListN.{length}
use Rattle.merging.specs.Merging.{Lookup, join, best, once, merging, merge, without, count, thinned, starting, starts, Rising}
use Rattle.merging.proofs.Best.{best_sound, by_best}
use Rattle.merging.proofs.Merge.{ask_bound, once_shorter}
use Rattle.merging.proofs.Rows.{length_without, in_without, in_count, length_count}

rising_without : (i : ℕ) (ss : List ℕ) → Rising ss → Rising (without i ss)
rising_without i [] h = tt
rising_without zero (s ∷ ss) h = h.1
rising_without (suc i) (s ∷ ss) h = (λ t x. h.0 t (in_without t i ss x), rising_without i ss h.1)

rising_count : (s n : ℕ) → Rising (count s n)
rising_count s zero = tt
rising_count s (suc n) = (λ t x. omega (arith, in_count t (suc s) n x), rising_count (suc s) n)

module _ (look : Lookup) where
  length_thinned : (row ss : List ℕ) → length ss ≡ length row → length (thinned (best look row) ss) ≡ length (once look row)
  length_thinned row ss h =
      by_best look row (λ e. rw e h)
      (λ i p m e.
      let l : suc i < length row = ask_bound look row i (best_sound look row e).asked in
      ap (λ f. length (thinned f ss)) e ∙ (omega (arith, length_without (suc i) ss (omega arith), once_shorter look row e)))

  length_starting : (k : ℕ) (row ss : List ℕ) → length ss ≡ length row → length (starting k look row ss) ≡ length (merging k look row)
  length_starting zero row ss h = h
  length_starting (suc k) row ss h = length_starting k (once look row) (thinned (best look row) ss) (length_thinned row ss h)

  rising_starting : (k : ℕ) (row ss : List ℕ) → Rising ss → Rising (starting k look row ss)
  rising_starting zero row ss h = h
  rising_starting (suc k) row ss h =
      rising_starting k (once look row) (thinned (best look row) ss) (by_best look row (λ e. rw e h) (λ i p m e. rw e (rising_without (suc i) ss h)))

  head_starting : (k : ℕ) (row : List ℕ) (s : ℕ) (ss : List ℕ) → (ss' : List ℕ) × (starting k look row (s ∷ ss) ≡ s ∷ ss')
  head_starting zero row s ss = (ss, refl)
  head_starting (suc k) row s ss =
      by_best look row (λ e. rw e (head_starting k row s ss)) (λ i p m e. rw e (head_starting k (join i m row) s (without i ss)))

  -- as many as the answer has symbols
  pub length_starts : (row : List ℕ) → length (starts look row) ≡ length (merge look row)
  unfolding merge starts
  length_starts row = length_starting (length row) row (count 0 (length row)) (length_count 0 (length row))

  -- rising
  pub rising_starts : (row : List ℕ) → Rising (starts look row)
  unfolding starts
  rising_starts row = rising_starting (length row) row (count 0 (length row)) (rising_count 0 (length row))

  -- the first start of a row that has an id is 0
  pub head_starts : (a : ℕ) (row : List ℕ) → (ss : List ℕ) × (starts look (a ∷ row) ≡ 0 ∷ ss)
  unfolding starts
  head_starts a row = head_starting (length (a ∷ row)) (a ∷ row) 0 (count 1 (length row))
