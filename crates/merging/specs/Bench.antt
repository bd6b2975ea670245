-- The bench sheet's lines that are proved from the rules: one table under one claim. Assumes nothing.
use Rattle.std.specs.Prelude.{◌≡◌, List, [], ◌∷◌, ◌++◌, ℕ, ◌≤◌}
use Rattle.merging.specs.Merging.{merge}
use Rattle.merging.specs.Lists.{Rule, Distinct, look_of, Keeps, AddsAbove}

-- the sheet's list: (1, 2) → 10, (2, 3) → 9, (1, 9) → 12, (10, 3) → 11, (5, 5) → 8, (8, 5) → 7
abbrev pub A : List ℕ
A =
    1 ∷ 2 ∷ 10
    ∷ 2 ∷ 3 ∷ 9
    ∷ 1 ∷ 9 ∷ 12
    ∷ 10 ∷ 3 ∷ 11
    ∷ 5 ∷ 5 ∷ 8
    ∷ 8 ∷ 5 ∷ 7
    ∷ []

-- under these rules the row becomes the answer
abbrev pub Gives : List ℕ → List ℕ → List ℕ → Type 0
Gives rules row answer = merge (look_of rules) row ≡ answer

-- inside demand 3: its premises hold of the two lists
pub record Inside (list longer : List ℕ) : Type 0 where
  pub distinct : Distinct longer
  pub keeps : Keeps list longer
  pub above : AddsAbove list longer

-- outside demand 3: the longer list repeats no pair and keeps the rules, but it adds (a, b) → m,
-- which is not above (c, d) → n of the list, so that one premise fails. On the row the equation fails too
pub record Outside (list longer row : List ℕ) (a b m c d n : ℕ) : Type 0 where
  pub distinct : Distinct longer
  pub keeps : Keeps list longer
  pub added : Rule longer a b m
  pub new : ¬ Rule list a b m
  pub old : Rule list c d n
  pub not_above : m ≤ n
  pub fails : ¬ AddsAbove list longer
  pub differs : ¬ (merge (look_of longer) row ≡ merge (look_of longer) (merge (look_of list) row))

-- the claim: each line of the table, in the sheet's order
abbrev pub Sheet : Type 0
Sheet =
    Gives A [] []
    × Gives A (7 ∷ []) (7 ∷ [])
    × Gives A (1 ∷ 2 ∷ []) (10 ∷ [])
    × Gives A (1 ∷ 2 ∷ 3 ∷ []) (12 ∷ [])
    × Gives A (5 ∷ 5 ∷ 5 ∷ []) (7 ∷ [])
    × Gives A (5 ∷ 5 ∷ 5 ∷ 5 ∷ []) (7 ∷ 5 ∷ [])
    × Gives A (1 ∷ 2 ∷ 1 ∷ 2 ∷ []) (10 ∷ 10 ∷ [])
    × Gives A (4 ∷ 6 ∷ []) (4 ∷ 6 ∷ [])
    × Gives (A ++ 12 ∷ 5 ∷ 20 ∷ []) (1 ∷ 2 ∷ 3 ∷ 5 ∷ []) (20 ∷ [])
    × Gives A (1 ∷ 2 ∷ 3 ∷ 5 ∷ []) (12 ∷ 5 ∷ [])
    × Inside A (A ++ 12 ∷ 5 ∷ 20 ∷ [])
    × Gives (A ++ 3 ∷ 5 ∷ 6 ∷ []) (1 ∷ 2 ∷ 3 ∷ 5 ∷ []) (10 ∷ 6 ∷ [])
    × Outside A (A ++ 3 ∷ 5 ∷ 6 ∷ []) (1 ∷ 2 ∷ 3 ∷ 5 ∷ []) 3 5 6 1 9 12
    × Gives (A ++ 3 ∷ 1 ∷ 12 ∷ []) (3 ∷ 1 ∷ 9 ∷ []) (12 ∷ 9 ∷ [])
    × Gives A (3 ∷ 1 ∷ 9 ∷ []) (3 ∷ 12 ∷ [])
    × Outside A (A ++ 3 ∷ 1 ∷ 12 ∷ []) (3 ∷ 1 ∷ 9 ∷ []) 3 1 12 1 9 12
