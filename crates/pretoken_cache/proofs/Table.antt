-- A table of slots that are found by walks stands for a map, for any order of probing. Assumes nothing.
use mathlib.Core.Path.{◌≡◌, refl, sym, ap, ◌∙◌, fun_ext}
use mathlib.Core.Logic.{◌≢◌, ◌⊎◌, inl, inr, ⊎_elim}
use mathlib.Core.Bool.{false}
use mathlib.Core.List.{List}
use mathlib.Core.Option.{Option, none, some}
use Prim.Native.Nat.{ℕ, zero, suc, ◌+◌, ◌≤◌, ◌<◌}
use native.Mathlib.Omega.{arith}
use lib.Dec.{eqb}
use borrow.Author.Tests.{eqb-true, eqb-false}
use Rattle.pretoken_cache.specs.declared.Name.{Name}
use Rattle.pretoken_cache.specs.declared.Value.{Value}
use Rattle.pretoken_cache.specs.Slot.{same, Slot, free, held}
use Rattle.pretoken_cache.specs.Walk.{Sight, vacant, Walk, hit, empty, full, walk}
use Rattle.pretoken_cache.specs.Table.{sight, blind, weight, taken}
use Rattle.token.proofs.Cases.{by_test}
use Rattle.pretoken_cache.proofs.Walks.{Wrote, All, In, Walks, walks, walk_is, stops, crowded, blindly, meets, meets_still, vacant≢other}
use Rattle.pretoken_cache.proofs.Names.{by_name, not_same, one_name, not_free, see_mine, see_other, see_name, see_free, is_mine, is_free, blind_see, blind≢mine, weight_free, weight_held, is_weightless, weight_le}

-- ---- the taken slots

taken_same : (t t' : ℕ → Slot) (n : ℕ) → ((s : ℕ) → s < n → weight (t' s) ≡ weight (t s)) → taken t' n ≡ taken t n
unfolding taken
taken_same t t' zero h = refl
taken_same t t' (suc n) h = omega (arith, h n (omega arith), taken_same t t' n (λ s l. h s (omega arith)))

pub taken_more : (t t' : ℕ → Slot) (e n : ℕ) {m : Name} {v : Value} → Wrote t t' e (held m v) → t e ≡ free → e < n → taken t' n ≡ taken t n + 1
unfolding taken
taken_more t t' e zero w f l = absurd (omega arith)
taken_more t t' e (suc n) {m} {v} w f l =
    by_test (eqb e n)
    (λ i. let i = eqb-true e n i in
    omega (arith, taken_same t t' n (λ s k. ap weight (w.off s (omega arith))), weight_free, weight_held m v, ap weight (rw i at f), ap weight (rw i at w.on)))
    (λ i. let d = eqb-false e n i in
    omega (arith, ap weight (w.off n (λ j. d (sym j))), taken_more t t' e n w f (omega arith)))

pub taken_over : (t t' : ℕ → Slot) (e n : ℕ) {m : Name} {v u : Value} → Wrote t t' e (held m v) → t e ≡ held m u → taken t' n ≡ taken t n
taken_over t t' e n {m} {v} {u} w h =
    taken_same t t' n (λ s l. by_test (eqb s e)
    (λ j. let j = eqb-true s e j in rw (j, w.on, h) (weight_held m v ∙ sym (weight_held m u)))
    (λ j. ap weight (w.off s (eqb-false s e j))))

pub taken_le : (t : ℕ → Slot) (n : ℕ) → taken t n ≤ n
unfolding taken
taken_le t zero = omega arith
taken_le t (suc n) = omega (arith, weight_le (t n), taken_le t n)

-- not all are taken: one is empty
pub some_free : (t : ℕ → Slot) (n : ℕ) → taken t n < n → (s : ℕ) × (s < n) × (t s ≡ free)
unfolding taken
some_free t zero h = absurd (omega arith)
some_free t (suc n) h =
    by_test (eqb (weight (t n)) 0)
    (λ e. (n, omega arith, is_weightless (t n) (eqb-true (weight (t n)) 0 e)))
    (λ e. let d = eqb-false (weight (t n)) 0 e in
    let (s, l, f) = some_free t n (omega arith) in
    (s, omega arith, f))

pub none_taken : (t : ℕ → Slot) (n : ℕ) → ((s : ℕ) → t s ≡ free) → taken t n ≡ 0
unfolding taken
none_taken t zero h = refl
none_taken t (suc n) h = omega (arith, ap weight (h n), weight_free, none_taken t n h)

-- ---- the map

abbrev pub value_in : Slot → Option Value
value_in free = none
value_in (held m v) = some v

-- what a walk found
abbrev pub value_of : (ℕ → Slot) → Walk → Option Value
value_of t (hit s) = value_in (t s)
value_of t (empty s) = none
value_of t full = none

-- g is f but at the name m, where it is v
pub record Maps (f g : Name → Option Value) (m : Name) (v : Value) : Type 0 where
  pub on : g m ≡ some v
  pub off : (n : Name) → same n m ≡ false → g n ≡ f n

wrote_see : {t t' : ℕ → Slot} {e : ℕ} {x : Slot} (m : Name) → Wrote t t' e x → Wrote (λ s. sight m (t s)) (λ s. sight m (t' s)) e (sight m x)
wrote_see m w = record { on = ap (sight m) w.on; off = λ s d. ap (sight m) (w.off s d) }

-- by cases on a walk
pub by_walk : {A : Type 0} (w : Walk) → ((s : ℕ) → w ≡ hit s → A) → ((e : ℕ) → w ≡ empty e → A) → (w ≡ full → A) → A
by_walk (hit s) f g h = f s refl
by_walk (empty e) f g h = g e refl
by_walk full f g h = h refl

pub not_empty : {A : Type 0} {w : Walk} {s e : ℕ} → w ≡ hit s → w ≡ empty e → A
not_empty {A} {w} {s} {e} a b = absurd (let z : ◌≡◌ {A = ℕ} 0 1 = cc in omega arith)

not_round : {A : Type 0} {w : Walk} {s : ℕ} → w ≡ hit s → w ≡ full → A
not_round {A} {w} {s} a b = absurd (let z : ◌≡◌ {A = ℕ} 0 1 = cc in omega arith)

-- the walk of m goes over the pairs `order m`: they are inside n slots, and each slot is in one
module _ (order : Name → List ℕ) (n : ℕ) where
  pub record Orders : Type 0 where
    pub inside : (m : Name) → All (λ i. i + 1 < n) (order m)
    pub onto : (m : Name) (s : ℕ) → s < n → (i : ℕ) × In i (order m) × ((s ≡ i) ⊎ (s ≡ i + 1))

  abbrev pub finds : (ℕ → Slot) → Name → Walk
  finds t m = walk (λ s. sight m (t s)) (order m)

  -- each stored name is met by its own walk
  abbrev pub Met : (ℕ → Slot) → Type 0
  Met t = (s : ℕ) (m : Name) (v : Value) → s < n → t s ≡ held m v → finds t m ≡ hit s

  -- the table t stands for the map f
  pub record Rep (t : ℕ → Slot) (f : Name → Option Value) : Type 0 where
    pub met : Met t
    pub reads : (m : Name) → value_of t (finds t m) ≡ f m

  module _ (o : Orders) where
    way : (t : ℕ → Slot) (m : Name) {w : Walk} → finds t m ≡ w → Walks (λ s. sight m (t s)) (order m) w
    way t m e = rw e at (walks {see = λ s. sight m (t s)} (order m))

    -- a walk that hits has met its name
    pub hit_held : (t : ℕ → Slot) (m : Name) {s : ℕ} → finds t m ≡ hit s → (v : Value) × (t s ≡ held m v) × (s < n)
    hit_held t m {s} e =
        let (a, b) = stops n (o.inside m) (way t m e) in
        let (v, h) = is_mine m (t s) a in
        (v, h, b)

    pub empty_free : (t : ℕ → Slot) (m : Name) {e : ℕ} → finds t m ≡ empty e → (t e ≡ free) × (e < n)
    empty_free t m {e} i = let (a, b) = stops n (o.inside m) (way t m i) in (is_free m (t e) a, b)

    -- where not all is taken, no walk goes round
    pub not_full : (t : ℕ → Slot) (m : Name) → taken t n < n → finds t m ≢ full
    not_full t m l e =
        let (s, k, f) = some_free t n l in
        let (i, b, at) = o.onto m s k in
        let (p, q) = crowded i (way t m e) b in
        let v : sight m (t s) ≡ vacant = ap (sight m) f ∙ see_free m in
        ⊎_elim (λ j. vacant≢other (sym (rw j at v) ∙ p)) (λ j. vacant≢other (sym (rw j at v) ∙ q)) at

    reads_some : (t : ℕ → Slot) → Met t → (s : ℕ) (m : Name) (v : Value) → s < n → t s ≡ held m v → value_of t (finds t m) ≡ some v
    reads_some t k s m v l h = rw (k s m v l h, h)

    reads_none : (t : ℕ → Slot) (m : Name) → ((s : ℕ) (v : Value) → s < n → t s ≢ held m v) → value_of t (finds t m) ≡ none
    reads_none t m h =
        by_walk (finds t m) (λ s e. let (v, i, l) = hit_held t m e in absurd (h s v l i)) (λ s e. rw e) (λ e. rw e)

    -- a name is stored, or it is not
    stored_or : (t : ℕ → Slot) → Met t → (m : Name) → ((s : ℕ) × (v : Value) × (s < n) × (t s ≡ held m v)) ⊎ ((s : ℕ) (v : Value) → s < n → t s ≢ held m v)
    stored_or t k m =
        by_walk (finds t m) (λ s e. let (v, i, l) = hit_held t m e in inl (s, v, l, i)) (λ s e. inr (λ i v l h. not_empty (k i m v l h) e)) (λ e. inr (λ i v l h. not_round (k i m v l h) e))

    -- a write of the name m
    module _ {t t' : ℕ → Slot} {f g : Name → Option Value} {e : ℕ} {m : Name} {v : Value} (r : Rep t f) (w : Wrote t t' e (held m v)) (c : Maps f g m v) where
      -- at a slot that held no other name
      written : e < n → ((n : Name) (u : Value) → same n m ≡ false → t e ≢ held n u) → Met t' → Rep t' g
      written l h k = record { met = k; reads = λ n. by_name n m (λ i. rw i (reads_some t' k e m v l w.on ∙ sym c.on)) (else n) }
        where
          else : (n : Name) → same n m ≡ false → value_of t' (finds t' n) ≡ g n
          else n d =
              ⊎_elim
              (λ (s, u, b, i). reads_some t' k s n u b (w.off s (λ j. h n u d (rw j at i)) ∙ i) ∙ sym (reads_some t r.met s n u b i))
              (λ no. reads_none t' n (λ s u b i. no s u b (sym (w.off s (λ j. not_same n m d (one_name (rw j at i) w.on))) ∙ i)) ∙ sym (reads_none t n no))
              (stored_or t r.met n)
              ∙ r.reads n
              ∙ sym (c.off n d)

      -- a new name, at the empty slot of its walk
      pub rep_new : finds t m ≡ empty e → Rep t' g
      rep_new i = written (empty_free t m i).1 (λ n u d h. not_free (empty_free t m i).0 h) met
        where
          met : Met t'
          met s n u l h =
              by_test (eqb s e)
              (λ j. let j = eqb-true s e j in
              rw (j, one_name (rw j at h) w.on) (walk_is (meets (rw (see_mine m v) at (wrote_see m w)) (way t m i))))
              (λ j. let b = sym (w.off s (eqb-false s e j)) ∙ h in
              by_name n m (λ a. not_empty {e = e} (r.met s n u l b) (rw a i))
              (λ d. walk_is (meets_still (ap (sight n) (empty_free t m i).0 ∙ see_free n) (rw (see_other n m v d) at (wrote_see n w)) (way t n (r.met s n u l b)))))

      -- an old name, at its slot
      pub rep_old : finds t m ≡ hit e → Rep t' g
      rep_old i = written (hit_held t m i).2 (λ n u d h. not_same n m d (one_name h (hit_held t m i).1)) met
        where
          sights : (n : Name) → ◌≡◌ {A = ℕ → Sight} (λ s. sight n (t' s)) (λ s. sight n (t s))
          sights n = fun_ext λ s. by_test (eqb s e) (λ j. let j = eqb-true s e j in rw (j, w.on, (hit_held t m i).1) (see_name n m v (hit_held t m i).0)) (λ j. ap (sight n) (w.off s (eqb-false s e j)))

          met : Met t'
          met s n u l h = rw (sights n) (by_test (eqb s e) (λ j. let j = eqb-true s e j in rw (j, one_name (rw j at h) w.on) i) (λ j. r.met s n u l (sym (w.off s (eqb-false s e j)) ∙ h)))

    -- a walk that looks for no match stops at the same empty slot
    pub blind_empty : (t : ℕ → Slot) (m : Name) {e : ℕ} → finds t m ≡ empty e → walk (λ s. blind (t s)) (order m) ≡ empty e
    blind_empty t m i = walk_is (blindly (λ s. blind_see m (t s)) (λ s. blind≢mine (t s)) (way t m i))

    -- a walk hits exactly where the map has the name
    pub found_some : {t : ℕ → Slot} {f : Name → Option Value} → Rep t f → (m : Name) {s : ℕ} → finds t m ≡ hit s → (v : Value) × (t s ≡ held m v) × (f m ≡ some v)
    found_some {t} r m e = let (v, h, l) = hit_held t m e in (v, h, sym (r.reads m) ∙ reads_some t r.met _ m v l h)

    pub found_none : {t : ℕ → Slot} {f : Name → Option Value} → Rep t f → (m : Name) {e : ℕ} → finds t m ≡ empty e → f m ≡ none
    found_none {t} r m e = sym (r.reads m) ∙ rw e

    pub goes_empty : {t : ℕ → Slot} {f : Name → Option Value} → Rep t f → (m : Name) → f m ≡ none → taken t n < n → (e : ℕ) × (finds t m ≡ empty e)
    goes_empty {t} r m i l =
        by_walk (finds t m) (λ s e. let (v, h, j) = found_some r m e in absurd (let z : ◌≡◌ {A = ℕ} 0 1 = cc in omega arith))
        (λ s e. (s, e)) (λ e. absurd (not_full t m l e))

    -- an empty table stands for the map with no entry
    pub rep_none : (t : ℕ → Slot) → ((s : ℕ) → t s ≡ free) → Rep t (λ m. none)
    rep_none t h = record { met = λ s m v l i. not_free (h s) i; reads = λ m. reads_none t m (λ s v l i. not_free (h s) i) }

  pub rep_as : {t : ℕ → Slot} {f g : Name → Option Value} → Rep t f → ((m : Name) → f m ≡ g m) → Rep t g
  rep_as r h = record { met = r.met; reads = λ m. r.reads m ∙ h m }
