-- What `from_byte_vocab` promises. Assumes nothing.
use Rattle.std.specs.Prelude.{◌≡◌, Bool, false, cond, List, ℕ, ltb, length, replicate, Result, Ok, Err}
use Rattle.token.specs.declared.Refusal.{Refusal}
use Rattle.token.specs.Limits.{most_entries}
pub use Rattle.token.specs.Refusals.{told}
use Rattle.token.specs.Refusals.{Verdict, fine, refused, verdict}
use Rattle.remap.specs.Vocabulary.{vocabulary, misshapen}
use Rattle.remap.specs.Map.{all_bytes, Found, nothing, found, ids_of, missing, map_of, differs}
use Rattle.remap.specs.declared.Remapped.{Remapped}

-- where a byte of UTF-8 has no entry, the lowest such byte is named
abbrev pub lacking : Found → Verdict
lacking nothing = fine
lacking (found b) = refused 6 b

-- the id of each byte, as the lent vocabulary gives it
abbrev pub ids : List ℕ → List ℕ → List Found
ids bytes ends = ids_of (vocabulary bytes ends)

-- 1 for too many entries, 2 for a wrong shape, 6 for a missing byte: the first that applies
unfoldable pub verdict_of : List ℕ → List ℕ → Verdict
verdict_of bytes ends =
    cond (ltb most_entries (length ends)) (refused 1 0)
    (cond (misshapen (length bytes) ends) (refused 2 0)
    (lacking (missing 0 (ids bytes ends))))

-- the map that is all 0
abbrev pub zeros : List ℕ
zeros = replicate all_bytes 0

-- a refused map is all 0
abbrev pub map_under : Verdict → List ℕ → List ℕ
map_under fine m = m
map_under (refused k p) m = zeros

-- and its flag is off
abbrev pub flag_under : Verdict → Bool → Bool
flag_under fine flag = flag
flag_under (refused k p) flag = false

-- the verdict, the map and the flag that the vocabulary has
pub record Remaps (bytes ends : List ℕ) (r : Remapped) : Type 0 where
  pub says : told r.verdict ≡ verdict_of bytes ends
  pub maps : r.map.mapping ≡ map_under (verdict_of bytes ends) (map_of (ids bytes ends))
  pub flags : r.differs ≡ flag_under (verdict_of bytes ends) (differs 0 (map_of (ids bytes ends)))
