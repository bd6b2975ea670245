-- The table of refusals: the number and the place of each. Assumes nothing.
use Rattle.std.specs.Prelude.{ℕ, Result, Ok, Err}
use Rattle.token.specs.declared.Refusal.{Refusal}
use Rattle.token.specs.declared.Refusal.TheVariants.{CountTooLarge, WrongShape, IdTooLarge, PairRepeated, TooFar, ByteMissing, KeyZero, AlreadyStored, LoadLimit, NoEmptySlot, OtherSlot}

abbrev pub number : Refusal → ℕ
number CountTooLarge = 1
number WrongShape = 2
number (IdTooLarge i) = 3
number (PairRepeated r) = 4
number (TooFar r) = 5
number (ByteMissing b) = 6
number KeyZero = 7
number (AlreadyStored s) = 8
number LoadLimit = 9
number NoEmptySlot = 10
number (OtherSlot s) = 11

-- 0 where the table names none
abbrev pub place : Refusal → ℕ
place CountTooLarge = 0
place WrongShape = 0
place (IdTooLarge i) = i
place (PairRepeated r) = r
place (TooFar r) = r
place (ByteMissing b) = b
place KeyZero = 0
place (AlreadyStored s) = s
place LoadLimit = 0
place NoEmptySlot = 0
place (OtherSlot s) = s

-- what a call says of what it was given: nothing is wrong with it, or the table's number and place
pub data Verdict : Type 0 where
  fine : Verdict
  refused : ℕ → ℕ → Verdict

-- a refusal as the table has it
abbrev pub verdict : Refusal → Verdict
verdict f = refused (number f) (place f)

-- the code's answer as the table has it
abbrev pub told : {A : Type 0} → Result A Refusal → Verdict
told (Ok x) = fine
told (Err f) = verdict f
