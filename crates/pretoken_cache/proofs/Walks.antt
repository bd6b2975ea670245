-- Walks in general: what a walk says of where it stops, and what a write does to it. Assumes nothing.
use mathlib.Core.Path.{◌≡◌, refl, sym, ◌∙◌}
use mathlib.Core.Logic.{◌≢◌, ◌⊎◌, inl, inr}
use mathlib.Core.List.{List, [], ◌∷◌}
use Prim.Native.Nat.{ℕ, ◌+◌, ◌<◌}
use native.Mathlib.Omega.{arith}
use Rattle.pretoken_cache.specs.Walk.{Sight, vacant, mine, other, Walk, hit, empty, full, pair, walk}

-- g is f but at e, where it is x
pub record Wrote {A : Type 0} (f g : ℕ → A) (e : ℕ) (x : A) : Type 0 where
  pub on : g e ≡ x
  pub off : (s : ℕ) → s ≢ e → g s ≡ f s

abbrev pub All : (ℕ → Type 0) → List ℕ → Type 0
All P [] = Unit {0}
All P (i ∷ l) = P i × All P l

abbrev pub In : ℕ → List ℕ → Type 0
In s [] = ⊥
In s (i ∷ l) = (s ≡ i) ⊎ In s l

pub vacant≢mine : vacant ≢ mine
vacant≢mine e = let z : ◌≡◌ {A = ℕ} 0 1 = cc in omega arith

pub other≢mine : other ≢ mine
other≢mine e = let z : ◌≡◌ {A = ℕ} 0 1 = cc in omega arith

pub vacant≢other : vacant ≢ other
vacant≢other e = let z : ◌≡◌ {A = ℕ} 0 1 = cc in omega arith

-- the ways of a walk
pub data Walks (see : ℕ → Sight) : List ℕ → Walk → Type 0 where
  over : Walks see [] full
  first : {i : ℕ} {l : List ℕ} → see i ≡ mine → Walks see (i ∷ l) (hit i)
  second : {i : ℕ} {l : List ℕ} → see i ≢ mine → see (i + 1) ≡ mine → Walks see (i ∷ l) (hit (i + 1))
  third : {i : ℕ} {l : List ℕ} → see i ≡ vacant → see (i + 1) ≢ mine → Walks see (i ∷ l) (empty i)
  fourth : {i : ℕ} {l : List ℕ} → see i ≡ other → see (i + 1) ≡ vacant → Walks see (i ∷ l) (empty (i + 1))
  next : {i : ℕ} {l : List ℕ} {w : Walk} → see i ≡ other → see (i + 1) ≡ other → Walks see l w → Walks see (i ∷ l) w

pair_second : (x : Sight) (i : ℕ) (w : Walk) → x ≢ mine → pair x mine i w ≡ hit (i + 1)
pair_second vacant i w h = refl
pair_second mine i w h = absurd (h refl)
pair_second other i w h = refl

pair_third : (y : Sight) (i : ℕ) (w : Walk) → y ≢ mine → pair vacant y i w ≡ empty i
pair_third vacant i w h = refl
pair_third mine i w h = absurd (h refl)
pair_third other i w h = refl

-- where a walk stops, among n slots
abbrev pub Stops : (ℕ → Sight) → ℕ → Walk → Type 0
Stops see n (hit s) = (see s ≡ mine) × (s < n)
Stops see n (empty s) = (see s ≡ vacant) × (s < n)
Stops see n full = Unit {0}

module _ {see : ℕ → Sight} where
  -- a walk is what its way says
  pub walk_is : {l : List ℕ} {w : Walk} → Walks see l w → walk see l ≡ w
  unfolding walk
  walk_is over = refl
  walk_is (first p) = rw p
  walk_is (second {i} {l} n p) = rw p (pair_second (see i) i (walk see l) n)
  walk_is (third {i} {l} p n) = rw p (pair_third (see (i + 1)) i (walk see l) n)
  walk_is (fourth p r) = rw (p, r)
  walk_is (next p r h) = rw (p, r) (walk_is h)

  ways : (x y : Sight) {i : ℕ} {l : List ℕ} {w : Walk} → see i ≡ x → see (i + 1) ≡ y → Walks see l w → Walks see (i ∷ l) (pair x y i w)
  ways mine y p r h = first p
  ways vacant mine p r h = second (λ e. vacant≢mine (sym p ∙ e)) r
  ways other mine p r h = second (λ e. other≢mine (sym p ∙ e)) r
  ways vacant vacant p r h = third p (λ e. vacant≢mine (sym r ∙ e))
  ways vacant other p r h = third p (λ e. other≢mine (sym r ∙ e))
  ways other vacant p r h = fourth p r
  ways other other p r h = next p r h

  pub walks : (l : List ℕ) → Walks see l (walk see l)
  unfolding walk
  walks [] = over
  walks (i ∷ l) = ways (see i) (see (i + 1)) refl refl (walks l)

  pub stops : (n : ℕ) {l : List ℕ} {w : Walk} → All (λ i. i + 1 < n) l → Walks see l w → Stops see n w
  stops n a over = tt
  stops n a (first p) = (p, omega arith)
  stops n a (second d p) = (p, omega arith)
  stops n a (third p d) = (p, omega arith)
  stops n a (fourth p r) = (r, omega arith)
  stops n a (next p r h) = stops n a.1 h

  -- a walk that does not stop meets no empty slot
  pub crowded : (i : ℕ) {l : List ℕ} → Walks see l full → In i l → (see i ≡ other) × (see (i + 1) ≡ other)
  crowded i over b = absurd b
  crowded i (next p r h) (inl e) = rw e (p, r)
  crowded i (next p r h) (inr b) = crowded i h b

  pub empty_vacant : {l : List ℕ} {e : ℕ} → Walks see l (empty e) → see e ≡ vacant
  empty_vacant (third p n) = p
  empty_vacant (fourth p r) = r
  empty_vacant (next p r h) = empty_vacant h

  -- what the first pair meets, a longer walk meets
  pub at_once : {i s : ℕ} (l : List ℕ) → Walks see (i ∷ []) (hit s) → Walks see (i ∷ l) (hit s)
  at_once l (first p) = first p
  at_once l (second n p) = second n p
  at_once {i = i} {s = s} l (next _ _ h) = elim h [ ]

  -- the first empty slot, with no look for matches
  pub blindly : {blind : ℕ → Sight} → ((s : ℕ) → see s ≢ mine → blind s ≡ see s) → ((s : ℕ) → blind s ≢ mine)
      → {l : List ℕ} {e : ℕ} → Walks see l (empty e) → Walks blind l (empty e)
  blindly b n (third {i} p m) = third (b i (λ e. vacant≢mine (sym p ∙ e)) ∙ p) (n (i + 1))
  blindly b n (fourth {i} p r) = fourth (b i (λ e. other≢mine (sym p ∙ e)) ∙ p) (b (i + 1) (λ e. vacant≢mine (sym r ∙ e)) ∙ r)
  blindly b n (next {i} p r h) =
      next (b i (λ e. other≢mine (sym p ∙ e)) ∙ p) (b (i + 1) (λ e. other≢mine (sym r ∙ e)) ∙ r) (blindly b n h)

-- ---- an empty slot e is written

module _ {see see' : ℕ → Sight} where
  -- a slot that was not empty is as it was
  as_was : {e : ℕ} {x : Sight} → see e ≡ vacant → Wrote see see' e x → {s : ℕ} {y : Sight} → see s ≡ y → vacant ≢ y → see' s ≡ y
  as_was v w {s} {y} p n = w.off s (λ i. n (sym v ∙ (rw i at p))) ∙ p

  -- the walk that stopped there meets it
  pub meets : {e : ℕ} {l : List ℕ} → Wrote see see' e mine → Walks see l (empty e) → Walks see' l (hit e)
  meets w (third p n) = first w.on
  meets w (fourth p r) = second (λ e. other≢mine (sym (as_was r w p vacant≢other) ∙ e)) w.on
  meets w (next p r h) = let v = empty_vacant h in next (as_was v w p vacant≢other) (as_was v w r vacant≢other) (meets w h)

  -- a walk for another name that met its slot meets it still
  pub meets_still : {e : ℕ} {l : List ℕ} {s : ℕ} → see e ≡ vacant → Wrote see see' e other → Walks see l (hit s) → Walks see' l (hit s)
  meets_still v w (first p) = first (as_was v w p vacant≢mine)
  meets_still v w (second {i} n p) =
      second (λ e. n (sym (w.off i (λ j. other≢mine (sym w.on ∙ (rw j at e)))) ∙ e)) (as_was v w p vacant≢mine)
  meets_still v w (next p r h) = next (as_was v w p vacant≢other) (as_was v w r vacant≢other) (meets_still v w h)
