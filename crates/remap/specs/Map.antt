-- The map of a vocabulary: the id of each byte, the lowest byte that lacks one, and what differs from the identity. Assumes nothing.
use Rattle.std.specs.Prelude.{Bool, false, not, cond, ◌||◌, List, [], ◌∷◌, map, ℕ, zero, suc, eqb}
use Rattle.remap.specs.Utf8.{utf8}

-- so many values has a byte
abbrev pub all_bytes : ℕ
all_bytes = 256

-- what a search finds
pub data Found : Type 0 where
  nothing : Found
  found : ℕ → Found

-- is the entry this byte alone?
abbrev pub is_byte : ℕ → List ℕ → Bool
is_byte b [] = false
is_byte b (x ∷ []) = eqb x b
is_byte b (x ∷ y ∷ entry) = false

-- the number of the first entry that is this byte alone, where the first entry has number i
abbrev pub id_from : ℕ → List (List ℕ) → ℕ → Found
id_from i [] b = nothing
id_from i (entry ∷ vocab) b = cond (is_byte b entry) (found i) (id_from (suc i) vocab b)

-- f at b and the numbers after it, n in all
abbrev pub each : {A : Type 0} → (ℕ → A) → ℕ → ℕ → List A
each f b zero = []
each f b (suc n) = f b ∷ each f (suc b) n

-- the first entry of one byte gives that byte its id: for all bytes in order
unfoldable pub ids_of : List (List ℕ) → List Found
ids_of vocab = each (id_from 0 vocab) 0 all_bytes

-- the lowest byte of UTF-8 that has no id, where the first id is byte b's
abbrev pub missing : ℕ → List Found → Found
missing b [] = nothing
missing b (nothing ∷ ids) = cond (utf8 b) (found b) (missing (suc b) ids)
missing b (found i ∷ ids) = missing (suc b) ids

-- what a missing byte maps to
abbrev pub filler : ℕ
filler = 0

-- the id that was found, or the filler
abbrev pub or_filler : Found → ℕ
or_filler nothing = filler
or_filler (found i) = i

-- the map of all bytes in order
abbrev pub map_of : List Found → List ℕ
map_of ids = map or_filler ids

-- does the map differ from the identity, where its first id is byte b's?
abbrev pub differs : ℕ → List ℕ → Bool
differs b [] = false
differs b (id ∷ ids) = not (eqb id b) || differs (suc b) ids
