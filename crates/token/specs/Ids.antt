-- Rows of ids: which numbers are ids, and which rows are accepted. Assumes nothing.
use Rattle.std.specs.Prelude.{ℕ, suc, ◌≤◌, cond, List, [], ◌∷◌, length, nat_lt, Option, None, Some}
use Rattle.token.specs.Limits.{top, most_row}

-- every number of the row is an id
abbrev pub Legal : List ℕ → Type 0
Legal [] = Unit {0}
Legal (x ∷ row) = (x ≤ top) × Legal row

-- the index of the first number that is too large for an id, or the length
abbrev pub first_too_large : List ℕ → ℕ
first_too_large [] = 0
first_too_large (x ∷ row) = cond (nat_lt top x) 0 (suc (first_too_large row))

-- an index, where the row has it
abbrev pub index_in : List ℕ → ℕ → Option ℕ
index_in row i = cond (nat_lt i (length row)) (Some i) None

-- a row that merging takes
pub record AcceptedRow (row : List ℕ) : Type 0 where
  pub few : length row ≤ most_row
  pub ids : Legal row
