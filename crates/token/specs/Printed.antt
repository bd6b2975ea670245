-- How a refusal prints. Assumes nothing.
use Rattle.std.specs.Prelude.{List, ℕ, ◌++◌, codes, decimal}
use Rattle.token.specs.declared.Refusal.{Refusal}
use Rattle.token.specs.Refusals.{number, place}

-- its number and its place
abbrev pub refusal_text : Refusal → List ℕ
refusal_text f = codes "refused by " ++ (decimal (number f) ++ (codes " at " ++ decimal (place f)))
