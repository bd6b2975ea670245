-- The capacity rule ends, and what it gives: a power of two that is enough, and not too many slots. Assumes nothing.
use mathlib.Core.Path.{◌≡◌, refl, sym, ap, ◌∙◌}
use mathlib.Core.Bool.{Bool, true, false}
use Prim.Native.Nat.{ℕ, zero, suc, ◌+◌, ◌*◌, ◌^◌, ◌≤◌, ◌<◌, max}
use native.Mathlib.Omega.{arith}
use lib.Count.{ones, ones_in}
use lib.Dec.{ltb}
use lib.Pow.{pow_pos, pow_mono}
use borrow.Author.Tests.{ltb-true, ltb-false, lt-ltb, le-ltb}
use Rattle.std.specs.Int.{IsNextPowerOfTwo}
use Rattle.pretoken_cache.specs.Limits.{most_slots, floor_slots, most_asked}
use Rattle.pretoken_cache.specs.Table.{laden}
use Rattle.pretoken_cache.specs.Capacity.{doubled, doublings, power_from, required}
use Rattle.token.proofs.Cases.{by_test}
use Rattle.pretoken_cache.proofs.Sizes as sizes
use Rattle.pretoken_cache.proofs.Sizes.{Size, ones_double}

-- ---- doubling

module _ (small : ℕ → Bool) where
  stopped : (k cap : ℕ) → small cap ≡ false → doubled small k cap ≡ cap
  unfolding doubled
  stopped zero cap s = refl
  stopped (suc k) cap s = rw s

  went_on : (k cap : ℕ) → small cap ≡ true → doubled small (suc k) cap ≡ doubled small k (2 * cap)
  unfolding doubled
  went_on k cap s = rw s

  doubled_le : (k cap : ℕ) → cap ≤ doubled small k cap
  unfolding doubled
  doubled_le zero cap = omega arith
  doubled_le (suc k) cap = by_test (small cap) (λ s. rw s (omega (arith, doubled_le k (2 * cap)))) (λ s. rw s (omega arith))

-- a power that is below the most slots has a doubling left
power_low : (j : ℕ) → 2 ^ j < most_slots → j < doublings
power_low j l = by_test (ltb j doublings) (λ e. ltb-true j doublings e) (λ e. absurd (omega (arith, pow_mono (ltb-false j doublings e))))

-- doubling from one power of two to a larger one, where that is enough and nothing below it is
module _ (small : ℕ → Bool) (j : ℕ) (enough : small (2 ^ j) ≡ false) (few : (i : ℕ) → i < j → small (2 ^ i) ≡ true) where
  doubled_to : (k i : ℕ) → i ≤ j → j ≤ i + k → doubled small k (2 ^ i) ≡ 2 ^ j
  doubled_to zero i l r = let e : i ≡ j = omega arith in stopped small 0 (2 ^ i) (rw e enough) ∙ ap (λ (x : ℕ). 2 ^ x) e
  doubled_to (suc k) i l r =
      by_test (ltb i j)
      (λ t. let e : 2 * 2 ^ i ≡ 2 ^ suc i = omega arith in
      let t = ltb-true i j t in
      went_on small k (2 ^ i) (few i t) ∙ rw e (doubled_to k (suc i) (omega arith) (omega arith)))
      (λ t. let t = ltb-false i j t in let e : i ≡ j = omega arith in stopped small (suc k) (2 ^ i) (rw e enough) ∙ ap (λ (x : ℕ). 2 ^ x) e)

-- ---- where it ends

pub record Ends (small : ℕ → Bool) (goal : ℕ) : Type 0 where
  pub power : ℕ
  pub is_power : goal ≡ 2 ^ power
  pub low : power ≤ doublings
  pub enough : small goal ≡ false

-- where all that is too small is below the most slots
module _ (small : ℕ → Bool) (below : (s : ℕ) → small s ≡ true → s < most_slots) where
  here : (k j : ℕ) → j ≤ doublings → small (2 ^ j) ≡ false → Ends small (doubled small k (2 ^ j))
  here k j l s = rw (stopped small k (2 ^ j) s) (record { power = j; is_power = refl; low = l; enough = s })

  ends : (k j : ℕ) → j ≤ doublings → doublings ≤ j + k → Ends small (doubled small k (2 ^ j))
  ends zero j l r = by_test (small (2 ^ j)) (λ s. absurd (omega (arith, power_low j (below (2 ^ j) s)))) (here zero j l)
  ends (suc k) j l r =
      by_test (small (2 ^ j))
      (λ s. let e : 2 * 2 ^ j ≡ 2 ^ suc j = omega arith in
      rw (went_on small k (2 ^ j) s, e) (ends k (suc j) (power_low j (below (2 ^ j) s)) (omega arith)))
      (here (suc k) j l)

-- ---- the rule

module _ {x : ℕ} (l : x ≤ most_asked) where
  pub below_x : (s : ℕ) → ltb s x ≡ true → s < most_slots
  below_x s e = omega (arith, ltb-true s x e)

  power_ends : Ends (λ s. ltb s x) (power_from x)
  unfolding power_from
  power_ends = ends (λ s. ltb s x) below_x doublings 0 (omega arith) (omega arith)

module _ {n : ℕ} (l : n ≤ most_asked) where
  pub below_n : (s : ℕ) → laden s n ≡ true → s < most_slots
  unfolding laden
  below_n s e = omega (arith, ltb-true (s * 3) ((n + 1) * 4) e)

ones_power : (j : ℕ) → ones (2 ^ j) ≡ 1
unfolding ones ones_in
ones_power zero = refl
ones_power (suc j) = let e : 2 ^ suc j ≡ 2 * 2 ^ j = omega arith in rw e (ones_double (2 ^ j) ∙ ones_power j)

-- what the rule gives: a size of tables, no fewer slots than asked nor than the floor, and room for n entries and a new one
pub record Enough (n asked cap : ℕ) : Type 0 where
  pub size : Size cap
  pub as_asked : asked ≤ cap
  pub as_floor : floor_slots ≤ cap
  pub load : (n + 1) * 4 ≤ cap * 3

pub required_enough : (n asked : ℕ) → n ≤ most_asked → asked ≤ most_asked → Enough n asked (required n asked)
unfolding required laden
required_enough n asked l r =
    let x = max asked floor_slots in
    let p = power_ends (let m : max asked floor_slots ≤ most_asked = omega arith in m) in
    let d : Ends (λ s. laden s n) (required n asked) = rw p.is_power (ends (λ s. laden s n) (below_n l) doublings p.power p.low (omega arith)) in
    let up = doubled_le (λ s. laden s n) doublings (power_from x) in
    let le : x ≤ power_from x = ltb-false (power_from x) x p.enough in
    record {
      size = sizes.size (required n asked) (rw d.is_power (ones_power d.power)) (omega arith) (omega (arith, d.is_power, pow_mono d.low));
      as_asked = omega arith;
      as_floor = omega arith;
      load = ltb-false (required n asked * 3) ((n + 1) * 4) d.enough;
    }

-- ---- the loops that double

-- the doubling of `cap`, a power of two, leads to `goal`, and the doublings that are left are enough
pub record Doubles (small : ℕ → Bool) (goal cap : ℕ) : Type 0 where
  pub power : ℕ
  pub left : ℕ
  pub is_power : cap ≡ 2 ^ power
  pub low : power ≤ doublings
  pub reach : doublings ≤ power + left
  pub rest : doubled small left cap ≡ goal

-- the next power of two is where doubling from 1 ends
next_power : (x : ℕ) → 1 ≤ x → x ≤ most_asked → {p : ℕ} → IsNextPowerOfTwo x p → p ≡ power_from x
unfolding power_from
next_power x pos most {p} ((j, e), l, u) =
    let low : j ≤ doublings = by_test (ltb doublings j) (λ t. absurd (omega (arith, pow_mono (ltb-true doublings j t)))) (λ t. ltb-false doublings j t) in
    e ∙ sym (doubled_to (λ s. ltb s x) j (le-ltb (2 ^ j) x (omega arith)) (λ i t. lt-ltb (2 ^ i) x (omega (arith, pow_mono t))) doublings 0 (omega arith) (omega arith))

-- it begins at the next power of two of the larger number
pub required_start : (n asked : ℕ) → asked ≤ most_asked → {x p : ℕ} → x ≡ max asked floor_slots → IsNextPowerOfTwo x p → Doubles (λ s. laden s n) (required n asked) p
unfolding required
required_start n asked r {x} {p} e s =
    let m : x ≤ most_asked = omega arith in
    let p = power_ends m in
    rw (next_power x (omega arith) m s) (record { power = p.power; left = doublings; is_power = p.is_power; low = p.low; reach = omega arith; rest = rw e refl })

module _ {small : ℕ → Bool} {goal cap : ℕ} (d : Doubles small goal cap) where
  pub doubles_most : (1 ≤ cap) × (cap ≤ most_slots)
  doubles_most = (omega (arith, d.is_power, pow_pos d.power), omega (arith, d.is_power, pow_mono d.low))

  pub doubles_on : small cap ≡ true → cap < most_slots → Doubles small goal (cap * 2)
  doubles_on s l = go (power_low d.power (omega (arith, d.is_power))) d.left d.reach d.rest
    where
      go : d.power < doublings → (k : ℕ) → doublings ≤ d.power + k → doubled small k cap ≡ goal → Doubles small goal (cap * 2)
      go b zero r e = absurd (omega arith)
      go b (suc k) r e = record {
        power = suc d.power;
        left = k;
        is_power = omega (arith, d.is_power);
        low = b;
        reach = omega arith;
        rest = ap (doubled small k) (omega arith) ∙ sym (went_on small k cap s) ∙ e;
      }

  pub doubles_over : small cap ≡ false → cap ≡ goal
  doubles_over s = sym (stopped small d.left cap s) ∙ d.rest
