-- Lists of rules, their lookup, and what makes one list longer than another. Assumes nothing.
use Rattle.std.specs.Prelude.{◌≡◌, ◌⊎◌, ◌&&◌, cond, List, [], ◌∷◌, ℕ, ◌<◌, eqb}
use Rattle.merging.specs.Merging.{Answer, nothing, rule, Lookup}

-- a list is a flat row of triples (left, right, merged): it has the rule (a, b) → m
abbrev pub Rule : List ℕ → ℕ → ℕ → ℕ → Type 0
Rule (x ∷ y ∷ n ∷ list) a b m = ((x ≡ a) × (y ≡ b) × (n ≡ m)) ⊎ Rule list a b m
Rule (x ∷ y ∷ []) a b m = ⊥
Rule (x ∷ []) a b m = ⊥
Rule [] a b m = ⊥

-- no pair has two rules
abbrev pub Distinct : List ℕ → Type 0
Distinct (x ∷ y ∷ n ∷ list) = ((m : ℕ) → ¬ Rule list x y m) × Distinct list
Distinct (x ∷ y ∷ []) = Unit {0}
Distinct (x ∷ []) = Unit {0}
Distinct [] = Unit {0}

-- the merged id is the priority too
abbrev pub rule_of : ℕ → Answer
rule_of m = rule m m

-- the merged id of the pair's first rule, and nothing where the pair has none
abbrev pub look_of : List ℕ → Lookup
look_of (x ∷ y ∷ m ∷ list) a b = cond (eqb x a && eqb y b) (rule_of m) (look_of list a b)
look_of (x ∷ y ∷ []) a b = nothing
look_of (x ∷ []) a b = nothing
look_of [] a b = nothing

-- ---- a longer list

-- it keeps the rules of the first list
abbrev pub Keeps : List ℕ → List ℕ → Type 0
Keeps list longer = (a b m : ℕ) → Rule list a b m → Rule longer a b m

-- each rule that it adds has a merged id strictly above every merged id of the first list
abbrev pub AddsAbove : List ℕ → List ℕ → Type 0
AddsAbove list longer = (a b m : ℕ) → Rule longer a b m → ¬ Rule list a b m → (c d n : ℕ) → Rule list c d n → n < m
