-- Rows that are put together of two: what is asked, joined and taken away in either. Assumes nothing.
use mathlib.Core.Path.{◌≡◌, refl, sym, ap, ◌∙◌}
use mathlib.Core.Logic.{◌⊎◌, inl, inr, ⊎_elim}
use mathlib.Core.List.{List, [], ◌∷◌, ◌++◌}
use Prim.Native.Nat.{ℕ, zero, suc, ◌+◌, ◌≤◌, ◌<◌, zero-le, suc-le-suc}
use native.Mathlib.Nat.{zero-add, suc-add, add-zero, add-suc}
use native.Mathlib.Omega.{arith}
use lib.ListN.{length, get_or}
use Rattle.merging.specs.Merging.{Lookup, ask, join, Best, Stuck, without, count, In}
use Rattle.merging.proofs.Answer.{by_answer, no_rule}
use Rattle.merging.proofs.Best.{before_places}
use Rattle.merging.proofs.Merge.{ask_bound}

pub lt_or_le : (a b : ℕ) → (a < b) ⊎ (b ≤ a)
lt_or_le zero zero = inr zero-le
lt_or_le zero (suc b) = inl (omega arith)
lt_or_le (suc a) zero = inr zero-le
lt_or_le (suc a) (suc b) = ⊎_elim (λ p. inl (suc-le-suc p)) (λ q. inr (suc-le-suc q)) (lt_or_le a b)

-- ---- `ask` and `join` in the left part and in the right part

pub join_left : (i m : ℕ) (u v : List ℕ) → suc i < length u → join i m (u ++ v) ≡ join i m u ++ v
join_left i m [] v h = absurd (omega arith)
join_left zero m (a ∷ []) v h = absurd (omega arith)
join_left zero m (a ∷ b ∷ u) v h = refl
join_left (suc i) m (a ∷ u) v h = ap (λ (r : List ℕ). a ∷ r) (join_left i m u v (omega arith))

pub join_right : (i m : ℕ) (u v : List ℕ) → join (length u + i) m (u ++ v) ≡ u ++ join i m v
join_right i m [] v = rw zero-add
join_right i m (a ∷ u) v = rw suc-add (ap (λ (r : List ℕ). a ∷ r) (join_right i m u v))

module _ (look : Lookup) where
  pub ask_left : (u v : List ℕ) (j : ℕ) → suc j < length u → ask look (u ++ v) j ≡ ask look u j
  ask_left [] v j h = absurd (omega arith)
  ask_left (a ∷ []) v zero h = absurd (omega arith)
  ask_left (a ∷ b ∷ u) v zero h = refl
  ask_left (a ∷ u) v (suc j) h = ask_left u v j (omega arith)

  pub ask_right : (u v : List ℕ) (j : ℕ) → ask look (u ++ v) (length u + j) ≡ ask look v j
  ask_right [] v j = rw zero-add
  ask_right (a ∷ u) v j = rw suc-add (ask_right u v j)

  pub stuck_left : (u v : List ℕ) → Stuck look (u ++ v) → Stuck look u
  stuck_left u v s j = by_answer (ask look u j) (λ e. e) (λ p m e. no_rule (s j) (ask_left u v j (ask_bound look u j e) ∙ e))

  pub stuck_right : (u v : List ℕ) → Stuck look (u ++ v) → Stuck look v
  stuck_right u v s j = sym (ask_right u v j) ∙ s (length u + j)

  pub best_left : (u v : List ℕ) {i p m : ℕ} → suc i < length u → Best look (u ++ v) i p m → Best look u i p m
  best_left u v {i} {p} {m} l h = record {
    asked = sym (ask_left u v i l) ∙ h.asked;
    least = λ j q n f. h.least j q n (ask_left u v j (ask_bound look u j f) ∙ f);
  }

  pub best_right : (u v : List ℕ) {i p m : ℕ} → Best look (u ++ v) (length u + i) p m → Best look v i p m
  best_right u v {i} {p} {m} h = record {
    asked = sym (ask_right u v i) ∙ h.asked;
    least = λ j q n f. before_places (omega arith) (h.least (length u + j) q n (ask_right u v j ∙ f));
  }

-- ---- `without` and `In`

pub without_left : (i : ℕ) (s t : List ℕ) → i < length s → without i (s ++ t) ≡ without i s ++ t
without_left i [] t h = absurd (omega arith)
without_left zero (x ∷ s) t h = refl
without_left (suc i) (x ∷ s) t h = ap (λ (r : List ℕ). x ∷ r) (without_left i s t (omega arith))

pub without_right : (i : ℕ) (s t : List ℕ) → without (length s + i) (s ++ t) ≡ s ++ without i t
without_right i [] t = rw zero-add
without_right i (x ∷ s) t = rw suc-add (ap (λ (r : List ℕ). x ∷ r) (without_right i s t))

pub length_without : (i : ℕ) (s : List ℕ) → i < length s → suc (length (without i s)) ≡ length s
length_without i [] h = absurd (omega arith)
length_without zero (x ∷ s) h = refl
length_without (suc i) (x ∷ s) h = ap suc (length_without i s (omega arith))

pub in_without : (c : ℕ) (i : ℕ) (s : List ℕ) → In c (without i s) → In c s
in_without c i [] h = h
in_without c zero (x ∷ s) h = inr h
in_without c (suc i) (x ∷ s) h = ⊎_elim (λ e. inl e) (λ r. inr (in_without c i s r)) h

pub in_append : (c : ℕ) (s t : List ℕ) → In c (s ++ t) → In c s ⊎ In c t
in_append c [] t h = inr h
in_append c (x ∷ s) t h = ⊎_elim (λ e. inl (inl e)) (λ r. ⊎_elim (λ a. inl (inr a)) (λ b. inr b) (in_append c s t r)) h

pub getD_in : (s : List ℕ) (j : ℕ) → j < length s → In (get_or s j 0) s
getD_in [] j l = absurd (omega arith)
getD_in (x ∷ s) zero l = inl (omega arith)
getD_in (x ∷ s) (suc j) l = inr (getD_in s j (omega arith))

-- the one place of c
pub place_of : (c j : ℕ) (s t : List ℕ) → j < length (s ++ c ∷ t) → get_or (s ++ c ∷ t) j 0 ≡ c → ¬ In c s → ¬ In c t → j ≡ length s
place_of c zero [] t l e f g = refl
place_of c (suc j) [] t l e f g = absurd (g (rw e at (getD_in t j (omega arith))))
place_of c zero (x ∷ s) t l e f g = absurd (f (inl (omega arith)))
place_of c (suc j) (x ∷ s) t l e f g = ap suc (place_of c j s t (omega arith) e (λ k. f (inr k)) g)

pub in_count : (c s n : ℕ) → In c (count s n) → (s ≤ c) × (c < s + n)
in_count c s zero h = absurd h
in_count c s (suc n) h = ⊎_elim (λ e. omega arith) (λ r. let k = in_count c (suc s) n r in omega arith) h

pub length_count : (s n : ℕ) → length (count s n) ≡ n
length_count s zero = refl
length_count s (suc n) = ap suc (length_count (suc s) n)

pub count_add : (s m n : ℕ) → count s (m + n) ≡ count s m ++ count (s + m) n
count_add s zero n = rw (zero-add, add-zero)
count_add s (suc m) n = rw (suc-add m n, add-suc s m, ← (suc-add s m)) (ap (λ (r : List ℕ). s ∷ r) (count_add (suc s) m n))
