-- Names and slots: when two names are one, what a walk sees, and what a slot holds after a store. Of the lemmas only these know a
-- slot's layout. Assumes nothing.
use mathlib.Core.Path.{◌≡◌, refl, sym, ◌∙◌}
use mathlib.Core.Logic.{◌≢◌, ◌⊎◌, inl, inr}
use mathlib.Core.Bool.{true, false, ◌&&◌, false≢true}
use mathlib.Core.List.{List, [], ◌∷◌}
use Prim.Native.Nat.{ℕ, zero, suc, ◌+◌, ◌*◌, ◌≤◌, ◌<◌}
use native.Mathlib.Nat.{add-zero}
use native.Mathlib.Omega.{arith}
use lib.Dec.{eqb, ltb}
use lib.ListN.{length, get_or, set, length-set, replicate}
use lib.Seq.{sets, length-sets, get_or-set_same, get_or-set_other}
use borrow.Author.Tests.{eqb-true, eq-eqb, ltb-true, ltb-false}
use Rattle.pretoken_cache.specs.declared.Name.{Name}
use Rattle.pretoken_cache.specs.declared.Value.{Value}
use Rattle.pretoken_cache.specs.Slot.{same, keyless, width, row, word, name_at, value_at, Slot, free, held, slot_at, put}
use Rattle.pretoken_cache.specs.Walk.{vacant, mine, other}
use Rattle.pretoken_cache.specs.Table.{sight, blind, weight}
use Rattle.token.proofs.Cases.{by_test}
use Rattle.pretoken_cache.proofs.Bools.{both}
use Rattle.pretoken_cache.proofs.Walks.{Wrote, vacant≢mine, other≢mine, vacant≢other}

-- ---- one name

name_eq : (m n : Name) → m.high ≡ n.high → m.low ≡ n.low → m.h ≡ n.h → m ≡ n
name_eq m n p q r =
    let e : ◌≡◌ {A = Name} (record { high = m.high; low = m.low; h = m.h }) (record { high = n.high; low = n.low; h = n.h }) = rw (p, q, r) in
    e

pub same_eq : (m n : Name) → same m n ≡ true → m ≡ n
unfolding same
same_eq m n e =
    let (ab, c) = both (eqb m.high n.high && eqb m.low n.low) (eqb m.h n.h) e in
    let (a, b) = both (eqb m.high n.high) (eqb m.low n.low) ab in
    name_eq m n (eqb-true m.high n.high a) (eqb-true m.low n.low b) (eqb-true m.h n.h c)

pub same_refl : (m : Name) → same m m ≡ true
unfolding same
same_refl m = rw (eq-eqb m.high m.high refl, eq-eqb m.low m.low refl, eq-eqb m.h m.h refl)

pub by_name : {A : Type 0} (m n : Name) → (m ≡ n → A) → (same m n ≡ false → A) → A
by_name m n f g = by_test (same m n) (λ e. f (same_eq m n e)) g

pub not_same : (m n : Name) → same m n ≡ false → m ≢ n
not_same m n e i = false≢true (sym e ∙ rw i (same_refl n))

-- a slot holds one name
pub one_name : {x : Slot} {m n : Name} {v u : Value} → x ≡ held m v → x ≡ held n u → m ≡ n
one_name {x} {m} {n} {v} {u} e f = cc

pub not_free : {A : Type 0} {x : Slot} {m : Name} {v : Value} → x ≡ free → x ≡ held m v → A
not_free {A} {x} {m} {v} e f = absurd (let z : ◌≡◌ {A = ℕ} 0 1 = cc in omega arith)

-- ---- what a walk sees

pub see_mine : (m : Name) (v : Value) → sight m (held m v) ≡ mine
unfolding sight
see_mine m v = rw (same_refl m)

pub see_other : (m n : Name) (v : Value) → same m n ≡ false → sight m (held n v) ≡ other
unfolding sight
see_other m n v e = rw e

-- the value is not looked at
pub see_name : (n m : Name) (v u : Value) → sight n (held m v) ≡ sight n (held m u)
unfolding sight
see_name n m v u = refl

pub see_free : (m : Name) → sight m free ≡ vacant
unfolding sight
see_free m = refl

pub is_mine : (m : Name) (x : Slot) → sight m x ≡ mine → (v : Value) × (x ≡ held m v)
unfolding sight
is_mine m free e = absurd (vacant≢mine e)
is_mine m (held n v) e = by_name m n (λ i. (v, rw i)) (λ d. absurd (other≢mine (rw d at e)))

pub is_free : (m : Name) (x : Slot) → sight m x ≡ vacant → x ≡ free
unfolding sight
is_free m free e = refl
is_free m (held n v) e = by_test (same m n) (λ d. absurd (vacant≢mine (sym (rw d at e)))) (λ d. absurd (vacant≢other (sym (rw d at e))))

pub blind_see : (m : Name) (x : Slot) → sight m x ≢ mine → blind x ≡ sight m x
unfolding sight blind
blind_see m free n = refl
blind_see m (held k v) n = by_test (same m k) (λ d. absurd (n (rw d))) (λ d. rw d)

pub blind≢mine : (x : Slot) → blind x ≢ mine
unfolding blind
blind≢mine free = vacant≢mine
blind≢mine (held n v) = other≢mine

pub weight_free : weight free ≡ 0
unfolding weight
weight_free = refl

pub weight_held : (m : Name) (v : Value) → weight (held m v) ≡ 1
unfolding weight
weight_held m v = refl

pub is_weightless : (x : Slot) → weight x ≡ 0 → x ≡ free
unfolding weight
is_weightless free e = refl
is_weightless (held m v) e = absurd (omega arith)

pub weight_le : (x : Slot) → weight x ≤ 1
unfolding weight
weight_le free = omega arith
weight_le (held m v) = omega arith

-- ---- a row of stores

sets_off : (vs l : List ℕ) (i k : ℕ) → (k < i) ⊎ (i + length vs ≤ k) → get_or (sets l i vs) k 0 ≡ get_or l k 0
sets_off [] l i k h = refl
sets_off (a ∷ vs) l i k (inl h) = sets_off vs (set l i a) (suc i) k (inl (omega arith)) ∙ get_or-set_other l i k a 0 (omega arith)
sets_off (a ∷ vs) l i k (inr h) = sets_off vs (set l i a) (suc i) k (inr (omega arith)) ∙ get_or-set_other l i k a 0 (omega arith)

sets_on : (vs l : List ℕ) (i j : ℕ) → j < length vs → i + length vs ≤ length l → get_or (sets l i vs) (i + j) 0 ≡ get_or vs j 0
sets_on [] l i j h k = absurd (omega arith)
sets_on (a ∷ vs) l i zero h k = rw add-zero (sets_off vs (set l i a) (suc i) i (inl (omega arith)) ∙ get_or-set_same l i a 0 (omega arith))
sets_on (a ∷ vs) l i (suc j) h k =
    let e : i + suc j ≡ suc i + j = omega arith in
    rw e (sets_on vs (set l i a) (suc i) j (omega arith) (omega (arith, length-set l i a)))

-- ---- what a slot holds after a store

row_length : (m : Name) (v : Value) → length (row m v) ≡ width
unfolding row
row_length m v = refl

module _ (words : List ℕ) (s : ℕ) (m : Name) (v : Value) where
  pub length_put : length (put words s m v) ≡ length words
  unfolding put
  length_put = length-sets words (width * s) (row m v)

  word_on : (j : ℕ) → j < width → width * s + width ≤ length words → word (put words s m v) s j ≡ get_or (row m v) j 0
  unfolding put
  word_on j h f = sets_on (row m v) words (width * s) j (omega (arith, row_length m v)) (omega (arith, row_length m v))

  word_off : (k j : ℕ) → j < width → k ≢ s → word (put words s m v) k j ≡ word words k j
  unfolding put
  word_off k j h d =
      sets_off (row m v) words (width * s) (width * k + j)
      (by_test (ltb k s) (λ e. inl (omega (arith, ltb-true k s e))) (λ e. inr (omega (arith, ltb-false k s e, row_length m v))))

  slot_on : keyless m ≡ false → width * s + width ≤ length words → slot_at (put words s m v) s ≡ held m v
  unfolding slot_at name_at value_at row
  slot_on key fit =
      let w : (j : ℕ) → j < width → word (put words s m v) s j ≡ get_or (row m v) j 0 = λ j l. word_on j l fit in
      rw (w 0 (omega arith), w 1 (omega arith), w 2 (omega arith), w 3 (omega arith), w 4 (omega arith), key)

  slot_off : (k : ℕ) → k ≢ s → slot_at (put words s m v) k ≡ slot_at words k
  unfolding slot_at name_at value_at
  slot_off k d =
      let w : (j : ℕ) → j < width → word (put words s m v) k j ≡ word words k j = λ j l. word_off k j l d in
      rw (w 0 (omega arith), w 1 (omega arith), w 2 (omega arith), w 3 (omega arith), w 4 (omega arith))

  -- slot s holds what was stored there, and the others are as they were
  pub put_wrote : keyless m ≡ false → width * s + width ≤ length words → Wrote (slot_at words) (slot_at (put words s m v)) s (held m v)
  put_wrote key fit = record { on = slot_on key fit; off = slot_off }

-- a slot that is taken: its value, and that it has a key
module _ (words : List ℕ) (s : ℕ) {m : Name} {v : Value} (e : slot_at words s ≡ held m v) where
  pub value_held : value_at words s ≡ v
  unfolding slot_at
  value_held = by_test (keyless (name_at words s)) (λ d. not_free refl (rw d at e)) (λ d. cc (rw d at e))

  pub key_held : keyless m ≡ false
  unfolding slot_at
  key_held = by_test (keyless (name_at words s)) (λ d. not_free refl (rw d at e)) (λ d. cc (rw d at e))

-- ---- words that are all zero

zeros : (k i : ℕ) → ◌≡◌ {A = ℕ} (get_or (replicate k 0) i 0) 0
zeros zero i = refl
zeros (suc k) zero = refl
zeros (suc k) (suc i) = zeros k i

pub all_free : (k s : ℕ) → slot_at (replicate k 0) s ≡ free
unfolding slot_at name_at keyless
all_free k s = rw (zeros k (width * s + 0), zeros k (width * s + 1))
