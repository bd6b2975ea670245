-- What the inner functions promise. Assumes nothing.
use Rattle.std.specs.Prelude.{◌≡◌, Bool, false, cond, ◌&&◌, List, map, ℕ, ◌≤◌, eqb, length, get_or, set, Option, None, Some, Err}
use Rattle.token.specs.Limits.{no_id, most_entries}
use Rattle.token.specs.declared.Refusal.{Refusal}
use Rattle.remap.specs.Utf8.{utf8}
use Rattle.remap.specs.Vocabulary.{misshapen}
use Rattle.remap.specs.Map.{Found, nothing, found}
use Rattle.remap.specs.Calls.{zeros}
use Rattle.remap.specs.declared.Remapped.{Remapped}

-- the answer of a refused call
abbrev pub refused_by : Refusal → Remapped
refused_by why = record { map = record { mapping = zeros }; differs = false; verdict = Err why }

-- a map while it is made: none stands where there is no id yet
abbrev pub read : ℕ → Found
read x = cond (eqb x no_id) nothing (found x)

-- the same for all bytes in order
abbrev pub read_all : List ℕ → List Found
read_all m = map read m

-- the first id of a byte stays
abbrev pub give : List ℕ → ℕ → ℕ → List ℕ
give m b id = cond (eqb (get_or m b 0) no_id) (set m b id) m

-- a byte of UTF-8 has no id yet
abbrev pub lacks : ℕ → ℕ → Bool
lacks b id = eqb id no_id && utf8 b

-- the code's answer as what was found
abbrev pub told_missing : Option ℕ → Found
told_missing (Some b) = found b
told_missing None = nothing

-- a vocabulary that is not refused 1 or 2
pub record Scannable (bytes ends : List ℕ) : Type 0 where
  pub few : length ends ≤ most_entries
  pub whole : misshapen (length bytes) ends ≡ false
