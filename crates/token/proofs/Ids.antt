-- Which numbers of a row are too large. Assumes nothing.
use Rattle.std.proofs.Common.{◌≡◌, ℕ, zero, suc, ◌<◌, ◌≤◌, ltb, List, [], ◌∷◌, length, get_or, Option, None, Some, MatchOption, refl, sym, arith, ltb-true, ltb-false, le-ltb, lt-ltb}
use Rattle.std.proofs.lemmas.Option.{none-some, same_Some}
use Rattle.token.specs.Limits.{top}
use Rattle.token.specs.Ids.{Legal, first_too_large, index_in}
use Rattle.token.proofs.Cases.{by_test}

-- what a search for the first number that is too large says: nothing is too large, or i is, and nothing before it
abbrev pub IsFirst : List ℕ → Option ℕ → Type 0
IsFirst row r =
    MatchOption r ((k : ℕ) → k < length row → get_or row k 0 ≤ top)
    (λ i. (i < length row) × (top < get_or row i 0) × ((k : ℕ) → k < i → get_or row k 0 ≤ top))

none_is : (row : List ℕ) → ((k : ℕ) → k < length row → get_or row k 0 ≤ top) → first_too_large row ≡ length row
none_is [] h = refl
none_is (x ∷ row) h = rw (le-ltb top x (h 0 (omega arith)), none_is row (λ k l. h (suc k) (omega arith)))

some_is : (row : List ℕ) (i : ℕ) → i < length row → top < get_or row i 0 → ((k : ℕ) → k < i → get_or row k 0 ≤ top) → first_too_large row ≡ i
some_is [] i l t h = absurd (omega arith)
some_is (x ∷ row) zero l t h = rw (lt-ltb top x t) refl
some_is (x ∷ row) (suc i) l t h = rw (le-ltb top x (h 0 (omega arith)), some_is row i (omega arith) t (λ k l. h (suc k) (omega arith)))

-- it is the index of the definition
pub first_by : (row : List ℕ) (r : Option ℕ) → IsFirst row r → r ≡ index_in row (first_too_large row)
first_by row None h = rw (none_is row h, le-ltb (length row) (length row) (omega arith))
first_by row (Some i) h = rw (some_is row i h.0 h.1 h.2, lt-ltb i (length row) h.0)

-- where none is too large, every number is an id
pub legal : (row : List ℕ) → length row ≤ first_too_large row → Legal row
legal [] h = tt
legal (x ∷ row) h =
    by_test (ltb top x)
    (λ e. absurd (let z : suc (length row) ≤ 0 = rw e at h in omega arith))
    (λ e. (ltb-false top x e, legal row (let z : suc (length row) ≤ suc (first_too_large row) = rw e at h in omega arith)))

pub legal_by : (row : List ℕ) {at : ℕ} → at ≡ first_too_large row → length row ≤ at → Legal row
legal_by row e h = legal row (rw e at h)

-- and the other way round
pub legal_all : (row : List ℕ) → Legal row → first_too_large row ≡ length row
legal_all [] l = refl
legal_all (x ∷ row) l = rw (le-ltb top x l.0, legal_all row l.1)

pub legal_at : (row : List ℕ) → Legal row → (i : ℕ) → i < length row → get_or row i 0 ≤ top
legal_at [] s i l = absurd (omega arith)
legal_at (x ∷ row) s zero l = s.0
legal_at (x ∷ row) s (suc i) l = legal_at row s.1 i (omega arith)

-- ---- what the call's answer says

module _ (row : List ℕ) where
  pub found_first : {i : ℕ} → Some i ≡ index_in row (first_too_large row) → (i ≡ first_too_large row) × (i < length row)
  found_first {i} e =
      by_test (ltb (first_too_large row) (length row))
      (λ t. let s : i ≡ first_too_large row = same_Some _ _ (rw t at e) in (s, rw s (ltb-true (first_too_large row) (length row) t)))
      (λ t. absurd (none-some i (sym (rw t at e))))

  pub found_none : None ≡ index_in row (first_too_large row) → Legal row
  found_none e =
      by_test (ltb (first_too_large row) (length row))
      (λ t. absurd (none-some _ (rw t at e)))
      (λ t. legal row (ltb-false (first_too_large row) (length row) t))
