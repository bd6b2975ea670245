-- Powers of two, masks, and the shapes of tables. Assumes nothing.
use mathlib.Core.Path.{◌≡◌, refl, sym, ap, ◌∙◌}
use mathlib.Core.Bool.{true, ◌&&◌}
use mathlib.Core.List.{List}
use Prim.Native.Nat.{ℕ, zero, suc, ◌+◌, ◌-◌, ◌*◌, ◌/◌, ◌%◌, ◌^◌, ◌≤◌, ◌<◌}
use native.Mathlib.Numerals.{add-one}
use native.Mathlib.Omega.{arith}
use lib.Bits.{bit_and, and_mask, and_shr, and_high}
use lib.Count.{ones, ones_step}
use lib.Dec.{eqb, leb}
use lib.ListN.{length}
use borrow.Author.Tests.{eqb-true, eqb-false, leb-true, eq-eqb, le-leb}
use Rattle.std.proofs.lemmas.Nat.{zero_from_ones}
use Rattle.token.specs.Sizes.{power_within}
use Rattle.pretoken_cache.specs.Limits.{least_slots, most_slots}
use Rattle.pretoken_cache.specs.Slot.{width}
use Rattle.pretoken_cache.specs.Table.{slots, proper, shaped, home, pair_mask}
use Rattle.token.proofs.Cases.{by_test}
use Rattle.pretoken_cache.proofs.Bools.{both}

-- ---- one set bit

ones_0 : ones 0 ≡ 0
unfolding ones
ones_0 = refl

-- one set bit: a power of two
power_of : (j n : ℕ) → n < 2 ^ j → ones n ≡ 1 → (k : ℕ) × (n ≡ 2 ^ k)
power_of zero n h e = let z : n ≡ 0 = omega arith in let o = ap ones z ∙ ones_0 in absurd (omega arith)
power_of (suc j) n h e =
    by_test (eqb (n % 2) 0)
    (λ d. let even = eqb-true (n % 2) 0 d in
    let (k, i) = power_of j (n / 2) (omega arith) (omega (arith, ones_step n)) in
    (suc k, omega arith))
    (λ d. let odd = eqb-false (n % 2) 0 d in
    let z : n / 2 ≡ 0 = zero_from_ones (n / 2) (omega (arith, ones_step n)) in
    (0, omega arith))

even_of : (n : ℕ) → 2 ≤ n → ones n ≡ 1 → n % 2 ≡ 0
even_of n l e =
    by_test (eqb (n % 2) 0) (λ d. eqb-true (n % 2) 0 d)
    (λ d. let odd = eqb-false (n % 2) 0 d in
    omega (arith, zero_from_ones (n / 2) (omega (arith, ones_step n))))

-- ---- a power of two from the least to the most

pub record Size (n : ℕ) : Type 0 where
  pub one : ones n ≡ 1
  pub least : least_slots ≤ n
  pub most : n ≤ most_slots
  pub even : n % 2 ≡ 0

pub size : (n : ℕ) → ones n ≡ 1 → least_slots ≤ n → n ≤ most_slots → Size n
size n o l m = record { one = o; least = l; most = m; even = even_of n l o }

pub ones_double : (n : ℕ) → ones (2 * n) ≡ ones n
ones_double n = let e : 2 * n / 2 ≡ n = omega arith in omega (arith, ones_step (2 * n), ap ones e)

pub size_double : {n : ℕ} → Size n → 2 * n ≤ most_slots → Size (2 * n)
size_double {n} h m = size (2 * n) (ones_double n ∙ h.one) (omega (arith, h.least)) m

pub proper_size : (n : ℕ) → proper n ≡ true → Size n
unfolding proper power_within
proper_size n e =
    let (ab, c) = both (eqb (ones n) 1 && leb least_slots n) (leb n most_slots) e in
    let (a, b) = both (eqb (ones n) 1) (leb least_slots n) ab in
    size n (eqb-true (ones n) 1 a) (leb-true least_slots n b) (leb-true n most_slots c)

pub size_proper : {n : ℕ} → Size n → proper n ≡ true
unfolding proper power_within
size_proper {n} h = rw (eq-eqb (ones n) 1 h.one, le-leb least_slots n h.least, le-leb n most_slots h.most)

-- ---- the words of so many slots

pub slots_are : (words : List ℕ) {n : ℕ} → length words ≡ width * n → slots words ≡ n
unfolding slots
slots_are words e = omega arith

pub shape : (words : List ℕ) → shaped words ≡ true → (length words ≡ width * slots words) × Size (slots words)
unfolding shaped
shape words e =
    let (a, b) = both (eqb (length words) (width * slots words)) (proper (slots words)) e in
    (eqb-true (length words) (width * slots words) a, proper_size (slots words) b)

pub slots_most : (words : List ℕ) → shaped words ≡ true → slots words ≤ most_slots
slots_most words e = (shape words e).1.most

pub shape_is : (words : List ℕ) {n : ℕ} → length words ≡ width * n → Size n → shaped words ≡ true
unfolding shaped
shape_is words {n} e h = rw (slots_are words e, eq-eqb (length words) (width * n) e, size_proper h)

-- a shape is one of the length
pub shaped_as : (a b : List ℕ) → length a ≡ length b → shaped b ≡ true → shaped a ≡ true
unfolding shaped slots
shaped_as a b e s = rw e s

-- ---- masks

module _ {n : ℕ} (z : Size n) where
  -- n is twice a power of two
  half : (k : ℕ) × (n ≡ 2 ^ suc k)
  half =
      let o : ones (n / 2) ≡ 1 = omega (arith, ones_step n, z.one, z.even) in
      let (k, e) = power_of 64 (n / 2) (omega (arith, z.most)) o in
      (k, omega (arith, e, z.even))

  pub mask_mod : (x : ℕ) → bit_and x (n - 1) ≡ x % n
  mask_mod x = let (k, e) = half in rw e (and_mask x (suc k))

  -- h masked to an even slot
  pub mask_home : (h : ℕ) → bit_and h (pair_mask n) ≡ home n h
  unfolding home
  mask_home h =
      let (k, e) = half in
      let top : 2 ^ (k + 1) - 2 ^ 1 ≡ n - 2 = omega (arith, ap (λ (x : ℕ). 2 ^ x) (add-one k)) in
      let low : (n - 1) / 2 ^ 1 ≡ 2 ^ k - 1 = omega arith in
      let a : bit_and h (n - 1) / 2 ^ 1 ≡ h / 2 ^ 1 % 2 ^ k = and_shr h (n - 1) 1 ∙ ap (bit_and (h / 2 ^ 1)) low ∙ and_mask (h / 2 ^ 1) k in
      let b : bit_and h (n - 2) ≡ h / 2 ^ 1 % 2 ^ k * 2 ^ 1 = ap (bit_and h) (sym top) ∙ and_high h k 1 in
      omega (arith, a, b, mask_mod h)
