-- Walks in general: the ways one goes, more fuel, and what a store into an empty slot does to it. Assumes nothing.
use Rattle.std.proofs.Common.{◌≡◌, refl, sym, ap, ◌∙◌, ◌≢◌, List, ℕ, zero, suc, ◌+◌, ◌-◌, ◌%◌, ◌≤◌, ◌<◌, mod-lt, arith, length, get_or, set, length-set, get_or-set_same, get_or-set_other, eq-eqb, ne_eqb}
use Rattle.token.proofs.Cases.{by_equal}
use Rattle.pairs.specs.Limits.{vacant}
use Rattle.pairs.specs.Key.{key_in}
use Rattle.pairs.specs.Walk.{Walk, hit, empty, full, walk}

-- by cases on a walk
pub by_walk : {A : Type 0} (w : Walk) → ((i : ℕ) → w ≡ hit i → A) → ((i : ℕ) → w ≡ empty i → A) → (w ≡ full → A) → A
by_walk (hit i) f g h = f i refl
by_walk (empty i) f g h = g i refl
by_walk full f g h = h refl

pub hit_empty : {A : Type 0} {w : Walk} {i j : ℕ} → w ≡ hit i → w ≡ empty j → A
hit_empty a b = cc

pub hit_full : {A : Type 0} {w : Walk} {i : ℕ} → w ≡ hit i → w ≡ full → A
hit_full a b = cc

-- the ways of a walk over the slots s for the key k: its fuel, where it stands, where it stops
pub data Walks (s : List ℕ) (k : ℕ) : ℕ → ℕ → Walk → Type 0 where
  over : {i : ℕ} → Walks s k zero i full
  met : {f i : ℕ} → key_in (get_or s i 0) ≡ k → Walks s k (suc f) i (hit i)
  ends : {f i : ℕ} → key_in (get_or s i 0) ≢ k → get_or s i 0 ≡ vacant → Walks s k (suc f) i (empty i)
  next : {f i : ℕ} {w : Walk} → key_in (get_or s i 0) ≢ k → get_or s i 0 ≢ vacant → Walks s k f ((i + 1) % length s) w → Walks s k (suc f) i w

module _ {s : List ℕ} {k : ℕ} where
  -- a walk is what its way says
  pub walk_is : {f i : ℕ} {w : Walk} → Walks s k f i w → walk s k f i ≡ w
  unfolding walk
  walk_is over = refl
  walk_is (met {f} {i} e) = rw (eq-eqb (key_in (get_or s i 0)) k e)
  walk_is (ends {f} {i} d e) = rw (ne_eqb (key_in (get_or s i 0)) k d, eq-eqb (get_or s i 0) vacant e)
  walk_is (next {f} {i} d e h) = rw (ne_eqb (key_in (get_or s i 0)) k d, ne_eqb (get_or s i 0) vacant e) (walk_is h)

  pub walks : (f i : ℕ) → Walks s k f i (walk s k f i)
  unfolding walk
  walks zero i = over
  walks (suc f) i =
      by_equal (key_in (get_or s i 0)) k
      (λ e. rw (eq-eqb (key_in (get_or s i 0)) k e) (met e))
      (λ d. by_equal (get_or s i 0) vacant
      (λ e. rw (ne_eqb (key_in (get_or s i 0)) k d, eq-eqb (get_or s i 0) vacant e) (ends d e))
      (λ e. rw (ne_eqb (key_in (get_or s i 0)) k d, ne_eqb (get_or s i 0) vacant e) (next d e (walks f ((i + 1) % length s)))))

  pub way : (f i : ℕ) {w : Walk} → walk s k f i ≡ w → Walks s k f i w
  way f i e = rw e at (walks f i)

  -- where it stops
  pub hit_key : {f i j : ℕ} → Walks s k f i (hit j) → key_in (get_or s j 0) ≡ k
  hit_key (met e) = e
  hit_key (next d e h) = hit_key h

  pub empty_vacant : {f i j : ℕ} → Walks s k f i (empty j) → get_or s j 0 ≡ vacant
  empty_vacant (ends d e) = e
  empty_vacant (next d e h) = empty_vacant h

  pub hit_inside : {f i j : ℕ} → i < length s → Walks s k f i (hit j) → j < length s
  hit_inside l (met e) = l
  hit_inside {f} {i} l (next d e h) = hit_inside (mod-lt (i + 1) (omega arith)) h

  pub empty_inside : {f i j : ℕ} → i < length s → Walks s k f i (empty j) → j < length s
  empty_inside l (ends d e) = l
  empty_inside {f} {i} l (next d e h) = empty_inside (mod-lt (i + 1) (omega arith)) h

  -- with more fuel it hits what it hit
  pub longer : {f i j : ℕ} (g : ℕ) → f ≤ g → Walks s k f i (hit j) → Walks s k g i (hit j)
  longer zero l (met e) = absurd (omega arith)
  longer zero l (next d e h) = absurd (omega arith)
  longer (suc g) l (met e) = met e
  longer {i = i} {j = j} (suc g) l (next {f = f} d e h) = next d e (longer {f = f} g (omega arith) h)

-- ---- one turn of the code's loop, by what its tests said

module _ (s : List ℕ) (k i : ℕ) where
  pub turn_over : (n : ℕ) → n ≡ 0 → walk s k n i ≡ full
  turn_over n e = rw e (walk_is over)

  pub turn_hit : (n : ℕ) → 0 < n → key_in (get_or s i 0) ≡ k → walk s k n i ≡ hit i
  turn_hit zero p h = absurd (omega arith)
  turn_hit (suc n) p h = walk_is (met h)

  pub turn_end : (n : ℕ) → 0 < n → key_in (get_or s i 0) ≢ k → get_or s i 0 ≡ vacant → walk s k n i ≡ empty i
  turn_end zero p d e = absurd (omega arith)
  turn_end (suc n) p d e = walk_is (ends d e)

  pub turn_next : (n : ℕ) → 0 < n → key_in (get_or s i 0) ≢ k → get_or s i 0 ≢ vacant → walk s k n i ≡ walk s k (n - 1) ((i + 1) % length s)
  turn_next zero p d e = absurd (omega arith)
  turn_next (suc n) p d e =
      let back : suc n - 1 ≡ n = omega arith in
      rw back (walk_is (next d e (walks n ((i + 1) % length s))))

-- ---- an empty slot p gets the word x

module _ (s : List ℕ) (x : ℕ) where
  off : (p i : ℕ) → get_or s p 0 ≡ vacant → get_or s i 0 ≢ vacant → get_or (set s p x) i 0 ≡ get_or s i 0
  off p i v d = get_or-set_other s p i x 0 (λ e. d (ap (λ (n : ℕ). get_or s n 0) e ∙ v))

  -- the walk that stopped there meets it
  pub meets : {k f i p : ℕ} → p < length s → key_in x ≡ k → Walks s k f i (empty p) → Walks (set s p x) k f i (hit p)
  meets {k} {f} {i} {p} l e (ends d v) = met (ap key_in (get_or-set_same s p x 0 l) ∙ e)
  meets {k} {f} {i} {p} l e (next {f = g} d v h) =
      let o = off p i (empty_vacant h) v in
      next {f = g} {i = i} {w = hit p} (rw o d) (rw o v) (rw (length-set s p x) (meets l e h))

  -- a walk for another key meets what it met
  pub meets_still : {k f i j : ℕ} (p : ℕ) → get_or s p 0 ≡ vacant → key_in vacant ≢ k → Walks s k f i (hit j) → Walks (set s p x) k f i (hit j)
  meets_still {k} {f} {i} p free u (met e) = met {i = i} (rw (off p i free (λ v. u (ap key_in (sym v) ∙ e))) e)
  meets_still {k} {f} {i} {j} p free u (next {f = g} d v h) =
      let o = off p i free v in
      next {f = g} {i = i} {w = hit j} (rw o d) (rw o v) (rw (length-set s p x) (meets_still p free u h))
