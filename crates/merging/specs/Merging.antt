-- The rule of merging a row of ids, under any lookup: as a relation, as a function, and where the symbols of the answer start. Assumes nothing.
use Rattle.std.specs.Prelude.{◌≡◌, ◌⊎◌, cond, List, [], ◌∷◌, ℕ, zero, suc, ◌≤◌, ◌<◌, ltb, length}

-- ---- lookups

-- what a lookup answers for a pair of ids: there is no rule, or the rule's priority and the id that the pair is merged to
pub data Answer : Type 0 where
  nothing : Answer
  rule : ℕ → ℕ → Answer

-- nothing is asked of a lookup: a merged id may be smaller than its parts, and two pairs may share one
abbrev pub Lookup : Type 0
Lookup = ℕ → ℕ → Answer

-- ---- the rule, as a relation

-- what the lookup answers for the neighbours at i and i + 1 of the row: nothing where the row has no such pair
abbrev pub ask : Lookup → List ℕ → ℕ → Answer
ask look [] i = nothing
ask look (a ∷ []) zero = nothing
ask look (a ∷ b ∷ row) zero = look a b
ask look (a ∷ row) (suc i) = ask look row i

-- the row with m in place of its neighbours at i and i + 1
abbrev pub join : ℕ → ℕ → List ℕ → List ℕ
join i m [] = []
join zero m (a ∷ []) = a ∷ []
join zero m (a ∷ b ∷ row) = m ∷ row
join (suc i) m (a ∷ row) = a ∷ join i m row

-- priority p at place i comes before priority q at place j, or is it: the smallest first, the leftmost among equals
abbrev pub Before : ℕ → ℕ → ℕ → ℕ → Type 0
Before p i q j = (p < q) ⊎ ((p ≡ q) × (i ≤ j))

-- the pair at i is the one to merge: its rule is (p, m), and it comes before every other pair that has a rule
pub record Best (look : Lookup) (row : List ℕ) (i p m : ℕ) : Type 0 where
  pub asked : ask look row i ≡ rule p m
  pub least : (j q n : ℕ) → ask look row j ≡ rule q n → Before p i q j

-- no pair has a rule
abbrev pub Stuck : Lookup → List ℕ → Type 0
Stuck look row = (j : ℕ) → ask look row j ≡ nothing

-- one merge, of the best pair
pub data Step (look : Lookup) : List ℕ → List ℕ → Type 0 where
  step : {row : List ℕ} {i p m : ℕ} → Best look row i p m → Step look row (join i m row)

-- merges, one after the other, until no pair has a rule
pub data Merges (look : Lookup) : List ℕ → List ℕ → Type 0 where
  done : {row : List ℕ} → Stuck look row → Merges look row row
  more : {row next end : List ℕ} → Step look row next → Merges look next end → Merges look row end

-- ---- the rule, as a function

-- where the best pair is, with its rule
pub data Found : Type 0 where
  none : Found
  at : ℕ → ℕ → ℕ → Found

-- the same pair, in a row with one more id in front
abbrev pub later : Found → Found
later none = none
later (at i p m) = at (suc i) p m

-- the pair at 0 against the best of the pairs from 1 on, which wins only by a smaller priority
abbrev pub pick : Answer → Found → Found
pick nothing f = later f
pick (rule p m) none = at 0 p m
pick (rule p m) (at i q n) = cond (ltb q p) (at (suc i) q n) (at 0 p m)

-- the best pair of the row
abbrev pub best : Lookup → List ℕ → Found
best look [] = none
best look (a ∷ []) = none
best look (a ∷ b ∷ row) = pick (look a b) (best look (b ∷ row))

-- the row with the pair that was found merged
abbrev pub joined : Found → List ℕ → List ℕ
joined none row = row
joined (at i p m) row = join i m row

-- one merge, if a pair has a rule
abbrev pub once : Lookup → List ℕ → List ℕ
once look row = joined (best look row) row

-- at most k merges
abbrev pub merging : ℕ → Lookup → List ℕ → List ℕ
merging zero look row = row
merging (suc k) look row = merging k look (once look row)

-- as many merges as there can be: each makes the row shorter by one
unfoldable pub merge : Lookup → List ℕ → List ℕ
merge look row = merging (length row) look row

-- ---- where the symbols of the answer start

-- the n numbers from s on
abbrev pub count : ℕ → ℕ → List ℕ
count s zero = []
count s (suc n) = s ∷ count (suc s) n

-- the row without its element i
abbrev pub without : ℕ → List ℕ → List ℕ
without i [] = []
without zero (s ∷ ss) = ss
without (suc i) (s ∷ ss) = s ∷ without i ss

-- a merge at i makes one symbol of two: it starts where the first of them did, and the start of the second is gone
abbrev pub thinned : Found → List ℕ → List ℕ
thinned none ss = ss
thinned (at i p m) ss = without (suc i) ss

-- the start places after at most k merges of a row whose symbols start at ss
abbrev pub starting : ℕ → Lookup → List ℕ → List ℕ → List ℕ
starting zero look row ss = ss
starting (suc k) look row ss = starting k look (once look row) (thinned (best look row) ss)

-- the start places of the answer's symbols, in the given row, where each id starts at its own index
unfoldable pub starts : Lookup → List ℕ → List ℕ
starts look row = starting (length row) look row (count 0 (length row))

-- c is one of the numbers
abbrev pub In : ℕ → List ℕ → Type 0
In c [] = ⊥
In c (s ∷ ss) = (c ≡ s) ⊎ In c ss

-- each number is smaller than all after it
abbrev pub Rising : List ℕ → Type 0
Rising [] = Unit {0}
Rising (s ∷ ss) = ((t : ℕ) → In t ss → s < t) × Rising ss

-- ---- a lookup with more rules

-- the second has the rules of the first, and each rule that it adds comes after all of the first by its priority
pub record Extends (look look' : Lookup) : Type 0 where
  pub same : (a b p m : ℕ) → look a b ≡ rule p m → look' a b ≡ rule p m
  pub after : (a b q n : ℕ) → look a b ≡ nothing → look' a b ≡ rule q n → (c d p m : ℕ) → look c d ≡ rule p m → p < q

-- ---- ids up to a bound

-- every number of the row is at most t
abbrev pub AllUpTo : ℕ → List ℕ → Type 0
AllUpTo t [] = Unit {0}
AllUpTo t (x ∷ row) = (x ≤ t) × AllUpTo t row

-- a pair of ids up to t is merged to an id up to t
abbrev pub StaysUpTo : ℕ → Lookup → Type 0
StaysUpTo t look = (a b p m : ℕ) → a ≤ t → b ≤ t → look a b ≡ rule p m → m ≤ t

-- both answer the same for every pair of ids up to t
abbrev pub AgreeUpTo : ℕ → Lookup → Lookup → Type 0
AgreeUpTo t look look' = (a b : ℕ) → a ≤ t → b ≤ t → look a b ≡ look' a b
