-- What the two calls answer and leave, refusals included, as functions of what they are given. Assumes nothing.
use Rattle.std.specs.Prelude.{◌≡◌, Bool, not, cond, ◌&&◌, ◌||◌, List, ◌++◌, map, ℕ, ◌*◌, ◌-◌, ltb, eqb, length, get_or, drop, replicate, Result, Ok, Err}
use Rattle.token.specs.Limits.{no_id, most_row}
use Rattle.token.specs.Ids.{first_too_large}
use Rattle.token.specs.Refusals.{Verdict, fine, refused, verdict}
use Rattle.merging.specs.Merging.{Lookup, merge}
use Rattle.pairs.specs.Table.{look, shaped}
use Rattle.bpe.specs.Limits.{most_small, map_length}
use Rattle.token.specs.declared.Refusal.{Refusal}

-- ---- what is refused

-- scratch is too short for n ids: the lengths of the three rows. Up to 32 ids it is not looked at
abbrev pub cramped : ℕ → ℕ → ℕ → ℕ → Bool
cramped n next prev heap = ltb most_small n && (ltb next n || (ltb prev n || ltb heap (2 * n)))

-- the table has no shape of a table, or scratch is too short
abbrev pub unfit : ℕ → ℕ → ℕ → ℕ → ℕ → Bool
unfit slots n next prev heap = not (shaped slots) || cramped n next prev heap

-- the first refusal that applies: a count above its bound, a buffer of the wrong shape, an id that is too large
abbrev pub first_of : Bool → Bool → List ℕ → Verdict
first_of large wrong ids =
    cond large (refused 1 0)
    (cond wrong (refused 2 0)
    (cond (ltb (first_too_large ids) (length ids)) (refused 3 (first_too_large ids)) fine))

-- for a row of ids
unfoldable pub row_verdict : List ℕ → List ℕ → List ℕ → List ℕ → List ℕ → Verdict
row_verdict slots row next prev heap =
    first_of (ltb most_row (length row))
    (unfit (length slots) (length row) (length next) (length prev) (length heap))
    row

-- the ids of bytes, through a map
abbrev pub through : List ℕ → List ℕ → List ℕ
through ids bytes = map (λ (b : ℕ). get_or ids b 0) bytes

-- for bytes, whose ids go into a row of exactly as many places. What the row held does not matter
unfoldable pub bytes_verdict : List ℕ → List ℕ → List ℕ → List ℕ → List ℕ → List ℕ → List ℕ → Verdict
bytes_verdict slots ids bytes row next prev heap =
    first_of (ltb most_row (length bytes) || ltb most_row (length row))
    (not (eqb (length row) (length bytes)) || (not (eqb (length ids) map_length) || unfit (length slots) (length bytes) (length next) (length prev) (length heap)))
    (through ids bytes)

-- ---- what is answered and left

-- the answer, then none up to the end of the row
abbrev pub merged_row : Lookup → List ℕ → List ℕ
merged_row look ids = merge look ids ++ replicate (length ids - length (merge look ids)) no_id

-- the first k places are zero, the rest is unchanged
abbrev pub zeroed : ℕ → List ℕ → List ℕ
zeroed k l = replicate k 0 ++ drop k l

-- so many places of each link row are used for n ids, and twice as many of the heap
abbrev pub used : ℕ → ℕ
used n = cond (ltb most_small n) n 0

-- a refused call leaves a row as it was
abbrev pub left_by : Verdict → List ℕ → List ℕ → List ℕ
left_by fine old new = new
left_by (refused k p) old new = old

-- what a call says: how many ids the answer has, or the table's number and place
pub data Told : Type 0 where
  counted : ℕ → Told
  refuses : Verdict → Told

abbrev pub told : Result ℕ Refusal → Told
told (Ok c) = counted c
told (Err f) = refuses (verdict f)

abbrev pub tells : Verdict → ℕ → Told
tells fine c = counted c
tells (refused k p) c = refuses (refused k p)

-- what merging `ids` under a lookup promises: its answer, and each lent row at exit
pub record Merges (v : Verdict) (look : Lookup) (ids row next prev heap : List ℕ) (r : Result ℕ Refusal) (row' next' prev' heap' : List ℕ) : Type 0 where
  pub answer : told r ≡ tells v (length (merge look ids))
  pub row_is : row' ≡ left_by v row (merged_row look ids)
  pub next_is : next' ≡ left_by v next (zeroed (used (length ids)) next)
  pub prev_is : prev' ≡ left_by v prev (zeroed (used (length ids)) prev)
  pub heap_is : heap' ≡ left_by v heap (zeroed (2 * used (length ids)) heap)

-- what `bpe_merge_symbols_by_rank` promises
abbrev pub MergesRow : List ℕ → List ℕ → List ℕ → List ℕ → List ℕ → Result ℕ Refusal → List ℕ → List ℕ → List ℕ → List ℕ → Type 0
MergesRow slots row next prev heap r row' next' prev' heap' =
    Merges (row_verdict slots row next prev heap) (look slots) row row next prev heap r row' next' prev' heap'

-- what `simple_bpe_merge` promises
abbrev pub MergesBytes : List ℕ → List ℕ → List ℕ → List ℕ → List ℕ → List ℕ → List ℕ → Result ℕ Refusal → List ℕ → List ℕ → List ℕ → List ℕ → Type 0
MergesBytes slots ids bytes row next prev heap r row' next' prev' heap' =
    Merges (bytes_verdict slots ids bytes row next prev heap) (look slots) (through ids bytes) row next prev heap r row' next' prev' heap'
