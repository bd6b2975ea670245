-- The ways out of a lookup. Assumes nothing.
use Rattle.std.proofs.Common.{◌+◌, ◌≢◌, get_or, mod-lt, arith, ◌≡◌, refl, sym, ap, ◌∙◌, false, List, ℕ, ◌-◌, ◌≤◌, ◌<◌, length, bit_and, lt-ltb, le-ltb}
use Rattle.token.specs.Limits.{top}
use Rattle.merging.specs.Merging.{nothing}
use Rattle.merging.specs.Lists.{rule_of}
use Rattle.pairs.specs.Limits.{vacant}
use Rattle.pairs.specs.Key.{key, key_in, merged_in, shift, home}
use Rattle.pairs.specs.Walk.{Walk, hit, empty, full, walk}
use Rattle.pairs.specs.Table.{answer_at, look, shaped, Sized}
use Rattle.pairs.specs.Calls.{ranks, refuses, ranking_of}
use Rattle.pairs.specs.Steps.{Fits, Shifts}
use Rattle.pairs.proofs.Walks.{Walks, turn_over, turn_hit, turn_end, turn_next, way, hit_inside, empty_inside}
use Rattle.pairs.proofs.Size.{homes, masked, shift_small, sized_shaped}

pub rank_shape : (s : List ℕ) (a b : ℕ) → shaped (length s) ≡ false → refuses 2 0 ≡ ranking_of s a b
unfolding ranking_of
rank_shape s a b e = rw e

-- the slots are a table, and the shift is theirs
pub fitting : (s : List ℕ) {by : ℕ} → Sized (length s) → by ≡ shift (length s) → Fits s (length s - 1) by
fitting s z e = record { size = z; mask_is = refl; shift_is = e }

-- ---- what a walk needs of a table

pub fits_shift : {s : List ℕ} {mask by : ℕ} → Fits s mask by → Shifts by
fits_shift fit = rw fit.shift_is (shift_small fit.size)

pub fits_home : {s : List ℕ} {mask by : ℕ} → Fits s mask by → (k : ℕ) → home by k < length s
fits_home fit k = rw fit.shift_is (homes fit.size k)

-- the mask leads to a slot of the table
pub fits_inside : {s : List ℕ} {mask by : ℕ} → Fits s mask by → (i : ℕ) → bit_and i mask < length s
fits_inside fit i = rw (fit.mask_is, masked fit.size i) (mod-lt i (let l = fit.size.least in omega arith))

pub fits_next : {s : List ℕ} {mask by : ℕ} → Fits s mask by → (k n i : ℕ) → 0 < n → key_in (get_or s i 0) ≢ k → get_or s i 0 ≢ vacant
    → walk s k n i ≡ walk s k (n - 1) (bit_and (i + 1) mask)
fits_next {s} fit k n i p d e = rw (fit.mask_is, masked fit.size (i + 1)) (turn_next s k i n p d e)

pub ruleset walking = (turn_over, turn_hit, turn_end, fits_shift, fits_home, fits_inside, fits_next)

-- ---- what a lookup answers

module _ (s : List ℕ) {mask by : ℕ} (fit : Fits s mask by) where
  ways : (k f : ℕ) {w : Walk} → w ≡ walk s k f (home by k) → Walks s k f (home by k) w
  ways k f e = way f (home by k) (sym e)

  -- a walk stops at a slot of the table
  pub hit_below : (k f : ℕ) {i : ℕ} → hit i ≡ walk s k f (home by k) → i < length s
  hit_below k f e = hit_inside (fits_home fit k) (ways k f e)

  pub empty_below : (k f : ℕ) {i : ℕ} → empty i ≡ walk s k f (home by k) → i < length s
  empty_below k f e = empty_inside (fits_home fit k) (ways k f e)

  pub here : (k f : ℕ) {w : Walk} → w ≡ walk s k f (home by k) → w ≡ walk s k f (home (shift (length s)) k)
  here k f e = e ∙ ap (λ (d : ℕ). walk s k f (home d k)) fit.shift_is

  module _ (a b : ℕ) where
    pub rank_first : top < a → refuses 3 0 ≡ ranking_of s a b
    unfolding ranking_of
    rank_first l = rw (sized_shaped fit.size, lt-ltb top a l)

    pub rank_second : a ≤ top → top < b → refuses 3 1 ≡ ranking_of s a b
    unfolding ranking_of
    rank_second l m = rw (sized_shaped fit.size, le-ltb top a l, lt-ltb top b m)

    -- the walk of the pair's key stopped at w
    pub rank_found : a ≤ top → b ≤ top → {k : ℕ} {w : Walk} → k ≡ key a b → w ≡ walk s k (length s) (home by k) → ranks (answer_at s w) ≡ ranking_of s a b
    unfolding ranking_of look
    rank_found l m {k} e i = rw (sized_shaped fit.size, le-ltb top a l, le-ltb top b m, here k (length s) i, e)

    module _ (la : a ≤ top) (lb : b ≤ top) {k : ℕ} (e : k ≡ key a b) where
      pub rank_hit : {i m : ℕ} → hit i ≡ walk s k (length s) (home by k) → m ≡ merged_in (get_or s i 0) → ranks (rule_of m) ≡ ranking_of s a b
      rank_hit w f = rw f (rank_found la lb e w)

      pub rank_empty : {i : ℕ} → empty i ≡ walk s k (length s) (home by k) → ranks nothing ≡ ranking_of s a b
      rank_empty w = rank_found la lb e w

      pub rank_full : full ≡ walk s k (length s) (home by k) → ranks nothing ≡ ranking_of s a b
      rank_full w = rank_found la lb e w

pub ruleset ranking = (rank_first, rank_second, rank_hit, rank_empty, rank_full, hit_below)
