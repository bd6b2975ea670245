-- A vocabulary as it is lent: the bytes of all entries, and the end of each. Assumes nothing.
use Rattle.std.specs.Prelude.{Bool, false, not, ◌||◌, List, [], ◌∷◌, ℕ, eqb, ltb}
use Rattle.std.proofs.Math.Seq.{slice}

-- the entries after the end `before`, each from the end before it to its own
abbrev pub entries : List ℕ → ℕ → List ℕ → List (List ℕ)
entries bytes before [] = []
entries bytes before (end ∷ ends) = slice before end bytes ∷ entries bytes end ends

-- the first entry starts at 0
abbrev pub vocabulary : List ℕ → List ℕ → List (List ℕ)
vocabulary bytes ends = entries bytes 0 ends

-- an end is below the one before it
abbrev pub falls : ℕ → List ℕ → Bool
falls before [] = false
falls before (end ∷ ends) = ltb end before || falls end ends

-- the last end; with no ends, the one before
abbrev pub last : ℕ → List ℕ → ℕ
last before [] = before
last before (end ∷ ends) = last end ends

-- ends that fall, or a last end other than the byte count; with no ends, a count other than 0
unfoldable pub misshapen : ℕ → List ℕ → Bool
misshapen count ends = falls 0 ends || not (eqb (last 0 ends) count)
