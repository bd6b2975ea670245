-- Ends that fall, or stop elsewhere than at the byte count, one end at a time. Assumes nothing.
use Rattle.std.proofs.Common.{◌≡◌, ℕ, zero, suc, ◌+◌, ◌-◌, ◌≤◌, ◌<◌, Bool, true, false, not, ◌||◌, eqb, ltb, List, [], ◌∷◌, length, get_or, slice_get, unwrap_or, drop, MatchBool, refl, sym, ap, ◌∙◌, true≢false, add-one, arith, drop-cons, lt-ltb, le-ltb, ltb-false, eqb-true}
use Rattle.std.proofs.lemmas.Option.{unwrap_or-slice_get}
use borrow.Author.Tests.{not-false}
use Rattle.token.proofs.Cases.{by_test}
use Rattle.remap.specs.Vocabulary.{falls, last, misshapen}

-- ---- what the code finds

falls_nowhere : (before : ℕ) (ends : List ℕ) → ((k : ℕ) → k < length ends → get_or (before ∷ ends) k 0 ≤ get_or ends k 0) → falls before ends ≡ false
falls_nowhere before [] h = refl
falls_nowhere before (end ∷ ends) h = rw (le-ltb end before (h 0 (omega arith))) (falls_nowhere end ends (λ k l. h (suc k) (omega arith)))

falls_at : (before : ℕ) (ends : List ℕ) (k : ℕ) → k < length ends → get_or ends k 0 < get_or (before ∷ ends) k 0 → falls before ends ≡ true
falls_at before [] k l h = absurd (omega arith)
falls_at before (end ∷ ends) zero l h = rw (lt-ltb end before h)
falls_at before (end ∷ ends) (suc k) l h = by_test (ltb end before) (λ t. rw t) (λ t. rw t (falls_at end ends k (omega arith) h))

rising : (ends : List ℕ) → ((k : ℕ) → k + 1 < length ends → get_or ends k 0 ≤ get_or ends (k + 1) 0)
    → (k : ℕ) → k < length ends → get_or (0 ∷ ends) k 0 ≤ get_or ends k 0
rising ends h zero l = omega arith
rising ends h (suc k) l = rw add-one at (h k (omega arith))

-- what a test of neighbours says: no end is below the one before it, or one is
pub falls_by : (ends : List ℕ) (r : Bool)
    → MatchBool r ((k : ℕ) → k + 1 < length ends → get_or ends k 0 ≤ get_or ends (k + 1) 0)
    ((k : ℕ) × (k + 1 < length ends) × (get_or ends (k + 1) 0 < get_or ends k 0))
    → not r ≡ falls 0 ends
falls_by ends true h = sym (falls_nowhere 0 ends (rising ends h))
falls_by ends false h = sym (falls_at 0 ends (suc h.0) (rw add-one at h.1) (rw add-one at h.2))

last_after : (before : ℕ) (ends : List ℕ) → last before ends ≡ get_or (before ∷ ends) (length ends) 0
last_after before [] = refl
last_after before (end ∷ ends) = last_after end ends

-- what the code reads as the last end
pub last_at : (ends : List ℕ) → unwrap_or (slice_get ends (length ends - 1)) 0 ≡ last 0 ends
last_at [] = refl
last_at (end ∷ ends) =
    unwrap_or-slice_get (end ∷ ends) (length (end ∷ ends) - 1) 0 ∙ ap (λ (i : ℕ). get_or (end ∷ ends) i 0) (omega arith) ∙ sym (last_after end ends)

-- ---- nothing wrong from an end on

-- the same after the end `before`
abbrev pub bad : ℕ → ℕ → List ℕ → Bool
bad count before ends = falls before ends || not (eqb (last before ends) count)

pub bad_all : (count : ℕ) (ends : List ℕ) → misshapen count ends ≡ bad count 0 ends
unfolding misshapen
bad_all count ends = refl

module _ (count before : ℕ) (ends : List ℕ) (i : ℕ) (l : i < length ends) where
  pub bad_later : before ≤ get_or ends i 0 → bad count before (drop i ends) ≡ bad count (get_or ends i 0) (drop (i + 1) ends)
  bad_later h = rw (add-one, drop-cons ends i 0 l, le-ltb (get_or ends i 0) before h)

  -- where nothing is wrong, the next end is no lower
  pub rises : bad count before (drop i ends) ≡ false → before ≤ get_or ends i 0
  rises e =
      by_test (ltb (get_or ends i 0) before)
      (λ t. absurd (true≢false (rw (drop-cons ends i 0 l, t) at e)))
      (λ t. ltb-false (get_or ends i 0) before t)

-- where nothing is wrong, no end is past the byte count
pub at_most : (count before : ℕ) (ends : List ℕ) → bad count before ends ≡ false → before ≤ count
at_most count before [] e = omega (arith, eqb-true before count (not-false (eqb before count) e))
at_most count before (end ∷ ends) e =
    by_test (ltb end before)
    (λ t. absurd (true≢false (rw t at e)))
    (λ t. let f : bad count end ends ≡ false = rw t at e in omega (arith, ltb-false end before t, at_most count end ends f))
