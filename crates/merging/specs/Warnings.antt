-- Two other ways to merge, and a weaker premise of demand 3: each is wrong, and a theorem shows it. Assumes nothing.
use Rattle.std.specs.Prelude.{◌&&◌, cond, List, [], ◌∷◌, ℕ, zero, suc, ◌≤◌, eqb, length, get_or}
use Rattle.merging.specs.Merging.{Answer, nothing, rule, Lookup, Found, none, at, later, best, joined}
use Rattle.merging.specs.Lists.{Rule}

-- k times the same
abbrev pub times : ℕ → (List ℕ → List ℕ) → List ℕ → List ℕ
times zero f row = row
times (suc k) f row = times k f (f row)

-- ---- left to right what fits

-- the leftmost pair that has a rule, whatever its priority
abbrev pub fits : Answer → Found → Found
fits nothing f = later f
fits (rule p m) f = at 0 p m

abbrev pub leftmost : Lookup → List ℕ → Found
leftmost look [] = none
leftmost look (a ∷ []) = none
leftmost look (a ∷ b ∷ row) = fits (look a b) (leftmost look (b ∷ row))

abbrev pub left_to_right : Lookup → List ℕ → List ℕ
left_to_right look row = times (length row) (λ r. joined (leftmost look r) r) row

-- ---- every copy of the best pair in a round

-- m in place of every copy of the pair a b, from left to right
abbrev pub sweep : ℕ → ℕ → ℕ → List ℕ → List ℕ
sweep a b m [] = []
sweep a b m (x ∷ []) = x ∷ []
sweep a b m (x ∷ y ∷ row) = cond (eqb x a && eqb y b) (m ∷ sweep a b m row) (x ∷ sweep a b m (y ∷ row))

abbrev pub swept : Found → List ℕ → List ℕ
swept none row = row
swept (at i p m) row = sweep (get_or row i 0) (get_or row (suc i) 0) m row

abbrev pub in_rounds : Lookup → List ℕ → List ℕ
in_rounds look row = times (length row) (λ r. swept (best look r) r) row

-- ---- at least in place of strictly above

-- each rule that the longer list adds has a merged id at least as large as every merged id of the first list
abbrev pub AddsAtLeast : List ℕ → List ℕ → Type 0
AddsAtLeast list longer = (a b m : ℕ) → Rule longer a b m → ¬ Rule list a b m → (c d n : ℕ) → Rule list c d n → n ≤ m
