-- Places of a row, linked both ways. `end` is the next of a place that has none, `before` the prev of the first place. Assumes nothing.
use Rattle.std.specs.Prelude.{◌≡◌, ◌⊎◌, Option, Some, None, Bool, true, false, List, [], ◌∷◌, ◌++◌, map, ℕ, zero, suc, ◌+◌, ◌-◌, ◌≤◌, ◌<◌, eqb, length, get_or, replicate}
use Rattle.std.specs.Borrow.{MutBor}
use Rattle.token.specs.Limits.{no_id}
use Rattle.merging.specs.Merging.{Lookup, merging, In}

-- from k on nothing changes
abbrev pub Past : ℕ → List ℕ → List ℕ → Type 0
Past k l l' = (i : ℕ) → k ≤ i → get_or l' i 0 ≡ get_or l i 0

-- ---- links

-- P of each of n places and its next
abbrev pub Each : ℕ → ℕ → List ℕ → (ℕ → ℕ → Type 0) → Type 0
Each end n next P = (i : ℕ) → i < n → (get_or next i 0 ≡ end → ⊥) → P i (get_or next i 0)

-- a next is a place past it
abbrev pub Rises : ℕ → ℕ → List ℕ → Type 0
Rises end n next = Each end n next (λ a b. (a < b) × (b < n))

-- a prev is a place
abbrev pub Backs : ℕ → ℕ → List ℕ → Type 0
Backs before n prev = Each before n prev (λ a b. b < n)

-- what a link says: a place, or that there is none
abbrev pub IsPlace : ℕ → ℕ → Option ℕ → Type 0
IsPlace end x None = x ≡ end
IsPlace end x (Some q) = (x ≡ q) × (q ≡ end → ⊥)

-- a lent row is still the same one, and as long
abbrev pub Stays : {A : Type 0} → MutBor (List A) → MutBor (List A) → Type 0
Stays w w' = (w'.ghost_name ≡ w.ghost_name) × (length w'.now ≡ length w.now)

-- each of n places is linked to the next and to the one before
pub record Fresh (before end n : ℕ) (next prev : List ℕ) : Type 0 where
  pub nexts : (i : ℕ) → i + 1 < n → get_or next i 0 ≡ i + 1
  pub last : (i : ℕ) → i + 1 ≡ n → get_or next i 0 ≡ end
  pub first : get_or prev 0 0 ≡ before
  pub prevs : (i : ℕ) → i + 1 < n → get_or prev (i + 1) 0 ≡ i

-- how many of the first n places have a next
abbrev pub unless : Bool → ℕ
unless true = 0
unless false = 1

abbrev pub links : ℕ → ℕ → List ℕ → ℕ
links end zero next = 0
links end (suc n) [] = 0
links end (suc n) (x ∷ next) = unless (eqb x end) + links end n next

-- q, which was next to p, is taken out, and there is one link less
pub record Cut (end : ℕ) (next prev : List ℕ) (p q : ℕ) (next' prev' : List ℕ) : Type 0 where
  pub here : get_or next' p 0 ≡ get_or next q 0
  pub gone : get_or next' q 0 ≡ end
  pub others : (i : ℕ) → (i ≡ p → ⊥) → (i ≡ q → ⊥) → get_or next' i 0 ≡ get_or next i 0
  pub back : (get_or next q 0 ≡ end → ⊥) → get_or prev' (get_or next q 0) 0 ≡ p
  pub lefts : (i : ℕ) → (i ≡ get_or next q 0 → ⊥) → get_or prev' i 0 ≡ get_or prev i 0
  pub same : get_or next q 0 ≡ end → prev' ≡ prev
  pub fewer : (n : ℕ) → p < n → q < n → (get_or next p 0 ≡ end → ⊥) → links end n next' + 1 ≡ links end n next

-- ---- the places that are linked

-- P of each two neighbours, E of the last
abbrev pub Chain : (ℕ → ℕ → Type 0) → (ℕ → Type 0) → List ℕ → Type 0
Chain P E [] = Unit {0}
Chain P E (p ∷ []) = E p
Chain P E (p ∷ q ∷ ps) = P p q × Chain P E (q ∷ ps)

abbrev pub Any : ℕ → Type 0
Any p = Unit {0}

-- a and b are linked, and in order
pub record Linked (next prev : List ℕ) (a b : ℕ) : Type 0 where
  pub right : get_or next a 0 ≡ b
  pub left : get_or prev b 0 ≡ a
  pub rise : a < b

abbrev pub Last : ℕ → List ℕ → ℕ → Type 0
Last end next p = get_or next p 0 ≡ end

-- what stands at the places
abbrev pub symbols : List ℕ → List ℕ → List ℕ
symbols row ps = map (λ (i : ℕ). get_or row i 0) ps

-- The picture that both paths share, after some merges of the given row: the live places, linked both ways from 0 on, hold what is merged so
-- far, and every other place has no next.
pub record Live (before end : ℕ) (look : Lookup) (given : List ℕ) (n : ℕ) (row next prev : List ℕ) : Type 0 where
  pub live : List ℕ
  pub steps : ℕ
  pub first : get_or live 0 1 ≡ 0
  pub start : get_or prev 0 0 ≡ before
  pub linked : Chain (Linked next prev) (Last end next) live
  pub inside : (a : ℕ) → In a live → a < n
  pub rest : (i : ℕ) → i < n → In i live ⊎ (get_or next i 0 ≡ end)
  pub done : merging steps look given ≡ symbols row live

-- ---- the end

-- the places that are linked from 0 on, seen by their nexts
pub record Walk (end n : ℕ) (next live : List ℕ) : Type 0 where
  pub first : get_or live 0 1 ≡ 0
  pub follows : Chain (λ a b. get_or next a 0 ≡ b) (Last end next) live
  pub inside : (a : ℕ) → In a live → a < n

-- what P says of each of n places: nothing, or a place past it
abbrev pub Climbs : (ℕ → Option ℕ → Type 0) → ℕ → Type 0
Climbs P n = (i q : ℕ) → i < n → P i (Some q) → (i < q) × (q < n)

-- what P says of each of n places is what its link says
abbrev pub Reads : (ℕ → Option ℕ → Type 0) → ℕ → ℕ → List ℕ → Type 0
Reads P end n next = (i : ℕ) (r : Option ℕ) → i < n → P i r → IsPlace end (get_or next i 0) r

-- what stands at those places is at the front, and none behind it
pub record Compacted (end : ℕ) (row next row' : List ℕ) (count : ℕ) : Type 0 where
  pub front : (live : List ℕ) → Walk end (length row) next live
      → (count ≡ length live) × (row' ≡ symbols row live ++ replicate (length row - count) no_id)
