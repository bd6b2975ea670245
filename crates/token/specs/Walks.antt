-- Where a walk over the slots of a table stops. Assumes nothing.
use Rattle.std.specs.Prelude.{ℕ}
use Rattle.token.specs.declared.Stop.{Stop}
use Rattle.token.specs.declared.Stop.TheVariants as stop

-- at what it sought, at an empty slot, or nowhere
pub data Walk : Type 0 where
  hit empty : ℕ → Walk
  full : Walk

-- the code's stop as the definitions'
abbrev pub walked : Stop → Walk
walked (stop.Hit s) = hit s
walked (stop.Empty s) = empty s
walked stop.Full = full
