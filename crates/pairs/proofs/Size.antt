-- What the tests of a size say: homes are slots, and a wanted size is a shape that lookup takes. Assumes nothing.
use Rattle.std.proofs.Common.{◌≡◌, sym, ap, ◌∙◌, subst, true, false, ◌&&◌, not, ℕ, suc, ◌-◌, ◌*◌, ◌/◌, ◌%◌, ◌^◌, ◌≤◌, ◌<◌, mod-lt, pow-suc, arith, bit_and, eqb, leb, pow_mono, pow_pos, eq-eqb, eqb-true, le-leb, leb-true, leb-false}
use mathlib.Core.Bool.{false≢true}
use lib.Bits.{and_mask}
use lib.Count.{ones, count_trailing_zeros, trailing_le}
use borrow.Author.Tests.{not-true}
use Rattle.std.proofs.lemmas.Bool.{and_parts}
use Rattle.token.specs.Sizes.{power_within}
use Rattle.pairs.specs.Limits.{factor, most_rules, least_slots, most_slots}
use Rattle.pairs.specs.Key.{shift, home}
use Rattle.pairs.specs.Table.{shaped, Sized, enough, wanted}
use Rattle.pairs.proofs.Power.{one_set, zeros_pos, home_lt}
use Rattle.token.proofs.Cases.{by_test}

pub is_power : {n : ℕ} → Sized n → n ≡ 2 ^ count_trailing_zeros 64 n
is_power {n} z = let l = z.most in one_set 64 n (omega arith) z.power

-- the shift is from 1 to 63
pub shift_small : {n : ℕ} → Sized n → shift n < 64
unfolding shift
shift_small {n} z = let l = z.most in let h = z.least in omega (arith, zeros_pos n (omega arith) (omega arith) z.power, trailing_le 64 n)

-- a home is a slot
pub homes : {n : ℕ} → Sized n → (k : ℕ) → home (shift n) k < n
unfolding shift home
homes {n} z k =
    let t = count_trailing_zeros 64 n in
    let back : 64 - (64 - t) ≡ t = omega (arith, trailing_le 64 n) in
    subst (λ (m : ℕ). home (64 - t) k < m) (ap (λ (x : ℕ). 2 ^ x) back ∙ sym (is_power z))
    (home_lt ((k * factor) % 2 ^ 64) (64 - t) (mod-lt (k * factor) (pow_pos 64)) (omega arith))

pub shaped_sized : (n : ℕ) → shaped n ≡ true → Sized n
unfolding shaped power_within
shaped_sized n e =
    let (ab, c) = and_parts (eqb (ones n) 1 && leb least_slots n) (leb n most_slots) e in
    let (a, b) = and_parts (eqb (ones n) 1) (leb least_slots n) ab in
    record { power = eqb-true (ones n) 1 a; least = leb-true least_slots n b; most = leb-true n most_slots c }

pub sized_shaped : {n : ℕ} → Sized n → shaped n ≡ true
unfolding shaped power_within
sized_shaped {n} z = rw (eq-eqb (ones n) 1 z.power, le-leb least_slots n z.least, le-leb n most_slots z.most)

-- a power of two whose half is below a power of two is at most that
at_most : (n k j : ℕ) → n ≡ 2 ^ k → n / 2 < 2 ^ j → n ≤ 2 ^ j
at_most n k j e h =
    by_test (leb k j)
    (λ l. rw e (pow_mono (leb-true k j l)))
    (λ l. let up : 2 ^ suc j ≤ 2 ^ k = pow_mono (leb-false k j l) in omega (arith, pow-suc 2 j))

-- of two powers of two the smaller is at most half the larger
below_half : (m n j k : ℕ) → m ≡ 2 ^ j → n ≡ 2 ^ k → m < n → m ≤ n / 2
below_half m n j k a b l =
    by_test (leb k j)
    (λ h. absurd (let p = pow_mono (leb-true k j h) in omega arith))
    (λ h. let p : 2 ^ suc j ≤ 2 ^ k = pow_mono (leb-false k j h) in omega (arith, pow-suc 2 j))

half_small : (rules h : ℕ) → rules ≤ most_rules → enough rules h ≡ false → h < 2 ^ 18
half_small rules h few e =
    by_test (leb least_slots h)
    (λ a. let b = leb-false (2 * rules) h (rw a at e) in omega arith)
    (λ a. let b = leb-false least_slots h a in omega arith)

pub wanted_sized : (rules n : ℕ) → rules ≤ most_rules → wanted rules n ≡ true → Sized n
unfolding wanted
wanted_sized rules n few e =
    let (ab, c) = and_parts (eqb (ones n) 1 && enough rules n) (not (enough rules (n / 2))) e in
    let (a, b) = and_parts (eqb (ones n) 1) (enough rules n) ab in
    let (least, twice) = and_parts (leb least_slots n) (leb (2 * rules) n) b in
    let half : n / 2 < 2 ^ 18 = half_small rules (n / 2) few (not-true (enough rules (n / 2)) c) in
    let one = eqb-true (ones n) 1 a in
    record { power = one; least = leb-true least_slots n least; most = at_most n (count_trailing_zeros 64 n) 18 (one_set 64 n (omega arith) one) half }

-- a wanted size is the smallest power of two that is enough
pub wanted_smallest : (rules n m : ℕ) → n < 2 ^ 64 → m < 2 ^ 64 → wanted rules n ≡ true → ones m ≡ 1 → enough rules m ≡ true → n ≤ m
unfolding wanted
wanted_smallest rules n m ln lm e one fit =
    let (ab, c) = and_parts (eqb (ones n) 1 && enough rules n) (not (enough rules (n / 2))) e in
    let (a, b) = and_parts (eqb (ones n) 1) (enough rules n) ab in
    let short = not-true (enough rules (n / 2)) c in
    let (least, twice) = and_parts (leb least_slots m) (leb (2 * rules) m) fit in
    let pn = one_set 64 n ln (eqb-true (ones n) 1 a) in
    let pm = one_set 64 m lm one in
    by_test (leb n m) (λ l. leb-true n m l) (λ l.
    let big = leb-false n m l in
    let half : m ≤ n / 2 = below_half m n (count_trailing_zeros 64 m) (count_trailing_zeros 64 n) pm pn big in
    let lo = leb-true least_slots m least in
    let tw = leb-true (2 * rules) m twice in
    let yes : enough rules (n / 2) ≡ true = rw (le-leb least_slots (n / 2) (omega arith), le-leb (2 * rules) (n / 2) (omega arith)) in
    absurd (false≢true (sym short ∙ yes)))

-- the mask wraps as the size does
pub masked : {n : ℕ} → Sized n → (i : ℕ) → bit_and i (n - 1) ≡ i % n
masked {n} z i =
    let e = is_power z in
    ap (λ (x : ℕ). bit_and i (x - 1)) e ∙ and_mask i (count_trailing_zeros 64 n) ∙ ap (λ (x : ℕ). i % x) (sym e)
