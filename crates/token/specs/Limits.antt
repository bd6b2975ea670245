-- The numbers that bound ids, rows and vocabularies, each once. Assumes nothing.
use Rattle.std.specs.Prelude.{ℕ}

-- the largest id
abbrev pub top : ℕ
top = 2097151

-- none, where an id is asked for
abbrev pub no_id : ℕ
no_id = 4294967295

-- the most ids of a row
abbrev pub most_row : ℕ
most_row = 65536

-- the most entries of a vocabulary
abbrev pub most_entries : ℕ
most_entries = 2097152
