-- How much the demonstration reads. Assumes nothing.
use Rattle.std.specs.Prelude.{ℕ}

abbrev pub most : ℕ
most = 4096
