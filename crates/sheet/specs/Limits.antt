-- How long the rows of the sheet are. Assumes nothing.
use Rattle.std.specs.Prelude.{ℕ}

-- the longest row that is given, and the fillers that make a row long
abbrev pub most_given : ℕ
most_given = 33
