-- A table that holds its slots answers as the plain lookup. Assumes nothing.
use Rattle.std.proofs.Common.{arith, eqb, false, Result, Ok, Err, ◌≡◌, refl, sym, ap, ◌∙◌, ◌≢◌, List, ℕ, length, Bor, eq-eqb, ne_eqb}
use Rattle.std.specs.Result.{result_unwrap_or}
use Rattle.token.specs.declared.Refusal.{Refusal}
use Rattle.token.proofs.Cases.{by_test}
use Rattle.pairs.specs.Table.{shaped}
use Rattle.pairs.specs.Steps.{Fits, Checks}
use Rattle.pairs.proofs.Size.{sized_shaped}
use Rattle.pairs.proofs.Ranks.{rank_shape}
use Rattle.pairs.specs.Calls.{refuses, ranking_of}
use Rattle.pairs.specs.Held.{held_mask, held_shift, holds, held_rank, Held}
use Rattle.pairs.specs.declared.PairRankTable.{PairRankTable}

module _ (s : List ℕ) {m y : ℕ} (fit : Fits s m y) where
  its_mask : held_mask (length s) ≡ m
  its_mask = grind (arith, sized_shaped fit.size, fit.mask_is)

  its_shift : held_shift (length s) ≡ y
  its_shift = grind (arith, sized_shaped fit.size, fit.shift_is)

module _ (s : List ℕ) (mask by a b : ℕ) where
  -- slots that are no table are refused in any case
  pub no_table : shaped (length s) ≡ false → refuses 2 0 ≡ held_rank s mask by a b
  unfolding held_rank
  no_table e = by_test (holds (length s) mask by) (λ h. rw h (rank_shape s a b e)) (λ h. rw h)

  module _ {m y : ℕ} (fit : Fits s m y) where
    pub other_mask : mask ≢ m → refuses 2 0 ≡ held_rank s mask by a b
    unfolding held_rank
    other_mask d = simp (its_mask s fit, ne_eqb mask m d)

    pub other_shift : by ≢ y → refuses 2 0 ≡ held_rank s mask by a b
    unfolding held_rank
    other_shift d = by_test (eqb mask m) (λ e. simp (its_mask s fit, its_shift s fit, e, ne_eqb by y d)) (λ e. simp (its_mask s fit, e))

    pub same_held : mask ≡ m → by ≡ y → ranking_of s a b ≡ held_rank s mask by a b
    unfolding held_rank
    same_held e f = simp (its_mask s fit, its_shift s fit, eq-eqb mask m e, eq-eqb by y f)

pub ruleset holding = (no_table, other_mask, other_shift, same_held)

-- the table of some slots, or else the one that refuses every pair
pub held_of : (s : Bor (List ℕ)) (r : Result PairRankTable Refusal) → Checks s r → Held s (result_unwrap_or r (record { slots = s; mask = 0; shift = 0 }))
held_of s (Ok t) h = record { slots = h.slots; mask = sym (its_mask s.now h.fits); shift = sym (its_shift s.now h.fits) }
held_of s (Err f) h = record { slots = refl; mask = rw h.0; shift = rw h.0 }

-- a lookup by the table of some slots is the plain lookup over them, whatever they hold
pub held_looks : (s : Bor (List ℕ)) (t : PairRankTable) → Held s t
    → (a b : ℕ) → held_rank t.slots.now t.mask t.shift a b ≡ ranking_of s.now a b
unfolding held_rank
held_looks s t h a b =
    ap (λ (x : Bor (List ℕ)). held_rank x.now t.mask t.shift a b) h.slots
    ∙ rw (eq-eqb t.mask (held_mask (length s.now)) h.mask, eq-eqb t.shift (held_shift (length s.now)) h.shift)
