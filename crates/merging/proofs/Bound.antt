-- Lookups that agree on ids up to a bound merge rows of such ids alike, and the answer is again such a row. Assumes nothing.
use mathlib.Core.Path.{◌≡◌, refl, ◌∙◌}
use mathlib.Core.List.{List, [], ◌∷◌}
use Prim.Native.Nat.{ℕ, zero, suc, ◌≤◌}
use native.Mathlib.Omega.{arith}
use lib.ListN.{length}
use Rattle.merging.specs.Merging.{rule, Lookup, ask, join, best, once, merging, merge, AllUpTo, StaysUpTo, AgreeUpTo}
use Rattle.merging.proofs.Answer.{no_rule}
use Rattle.merging.proofs.Best.{best_sound, by_best}

module _ (t : ℕ) where
  join_up_to : (i m : ℕ) (row : List ℕ) → m ≤ t → AllUpTo t row → AllUpTo t (join i m row)
  join_up_to i m [] h l = tt
  join_up_to zero m (a ∷ []) h l = l
  join_up_to zero m (a ∷ b ∷ row) h l = (h, l.1.1)
  join_up_to (suc i) m (a ∷ row) h l = (l.0, join_up_to i m row h l.1)

  module _ (look : Lookup) (stays : StaysUpTo t look) where
    ask_up_to : (row : List ℕ) (i : ℕ) {p m : ℕ} → AllUpTo t row → ask look row i ≡ rule p m → m ≤ t
    ask_up_to [] i l e = no_rule refl e
    ask_up_to (a ∷ []) zero l e = no_rule refl e
    ask_up_to (a ∷ b ∷ row) zero l e = omega (arith, stays a b _ _ l.0 l.1.0 e)
    ask_up_to (a ∷ row) (suc i) l e = ask_up_to row i l.1 e

    once_up_to : (row : List ℕ) → AllUpTo t row → AllUpTo t (once look row)
    once_up_to row l =
        by_best look row (λ e. rw e l) (λ i p m e. rw e (join_up_to i m row (ask_up_to row i l (best_sound look row e).asked) l))

    pub merging_up_to : (k : ℕ) (row : List ℕ) → AllUpTo t row → AllUpTo t (merging k look row)
    merging_up_to zero row l = l
    merging_up_to (suc k) row l = merging_up_to k (once look row) (once_up_to row l)

    -- the answer has no larger ids
    pub merge_up_to : (row : List ℕ) → AllUpTo t row → AllUpTo t (merge look row)
    unfolding merge
    merge_up_to row l = merging_up_to (length row) row l

    module _ (look' : Lookup) (agree : AgreeUpTo t look look') where
      best_agree : (row : List ℕ) → AllUpTo t row → best look row ≡ best look' row
      best_agree [] l = refl
      best_agree (a ∷ []) l = refl
      best_agree (a ∷ b ∷ row) l = rw (agree a b l.0 l.1.0, best_agree (b ∷ row) l.1)

      pub merging_agree : (k : ℕ) (row : List ℕ) → AllUpTo t row → merging k look row ≡ merging k look' row
      merging_agree zero row l = refl
      merging_agree (suc k) row l = merging_agree k (once look row) (once_up_to row l) ∙ rw (best_agree row l)

      -- the answer is the same
      pub merge_agree : (row : List ℕ) → AllUpTo t row → merge look row ≡ merge look' row
      unfolding merge
      merge_agree row l = merging_agree (length row) row l
