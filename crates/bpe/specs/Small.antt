-- Merging a short row by a scan of ranks: what each function does. Assumes nothing.
use Rattle.std.specs.Prelude.{◌≡◌, List, ℕ, ◌+◌, ◌≤◌, ◌<◌, length, get_or, set, Option, None, Some}
use Rattle.token.specs.Limits.{no_id}
use Rattle.merging.specs.Merging.{Lookup, merge}
use Rattle.bpe.specs.Limits.{most_small, no_place}
use Rattle.bpe.specs.Calls.{merged_row}
use Rattle.bpe.specs.Look.{look_by, rank_at, entry}
use Rattle.bpe.specs.Links.{Each, Fresh, Cut, Live}
use Rattle.bpe.specs.declared.heap.Entry.{Entry}
use Rattle.bpe.specs.declared.small.Pair.{Pair}

-- the arrays have room for the longest short row
pub record Sized (next prev ranks : List ℕ) : Type 0 where
  pub next_long : length next ≡ most_small
  pub prev_long : length prev ≡ most_small
  pub ranks_long : length ranks ≡ most_small

-- each place has the rank of its pair, a place without a next none
pub record Ranked (rk : ℕ → ℕ → ℕ) (n : ℕ) (row next ranks : List ℕ) : Type 0 where
  pub pairs : Each n n next (λ a b. get_or ranks a 0 ≡ rank_at rk row a b)
  pub none : (i : ℕ) → i < n → get_or next i 0 ≡ n → get_or ranks i 0 ≡ no_id

-- the links and ranks of a row before its first merge
pub record Linked8 (rk : ℕ → ℕ → ℕ) (row next prev ranks : List ℕ) : Type 0 where
  pub sized : Sized next prev ranks
  pub fresh : Fresh no_place (length row) (length row) next prev
  pub pairs : (i : ℕ) → i + 1 < length row → get_or ranks i 0 ≡ rank_at rk row i (i + 1)
  pub last : (i : ℕ) → i + 1 ≡ length row → get_or ranks i 0 ≡ no_id

-- the entry e is the least of those of the first n ranks
pub record Picked (ranks : List ℕ) (n : ℕ) (e : Entry) : Type 0 where
  pub some : e.merged < no_id
  pub inside : e.place < n
  pub was : get_or ranks e.place 0 ≡ e.merged
  pub least : (i : ℕ) → i < n → entry e.merged e.place ≤ entry (get_or ranks i 0) i

-- what a search for the least rank answers: its entry, or that no place has a rank
abbrev pub Picks : List ℕ → ℕ → Option Entry → Type 0
Picks ranks n None = (i : ℕ) → i < n → no_id ≤ get_or ranks i 0
Picks ranks n (Some e) = Picked ranks n e

-- what is around the pair at a place
pub record IsPair (next prev : List ℕ) (p : Pair) : Type 0 where
  pub right : p.right ≡ get_or next p.at 0
  pub after : p.after ≡ get_or next p.right 0
  pub left : p.left ≡ get_or prev p.at 0

-- where the four places may be: the outer two may be none
pub record Placed (n : ℕ) (p : Pair) : Type 0 where
  pub few : n ≤ most_small
  pub rise : p.at < p.right
  pub inside : p.right < n
  pub after : (p.after ≡ n → ⊥) → (p.right < p.after) × (p.after < n)
  pub left : p.left < n → p.left < p.at

-- the rank of the pair of a and b, none where b is no place
pub record Between (rk : ℕ → ℕ → ℕ) (row : List ℕ) (a b r : ℕ) : Type 0 where
  pub pair : b < length row → r ≡ rank_at rk row a b
  pub none : length row ≤ b → r ≡ no_id

-- p is before b, if b is a place
pub record Backed (n : ℕ) (prev : List ℕ) (b p : ℕ) (prev' : List ℕ) : Type 0 where
  pub long : length prev' ≡ length prev
  pub here : b < n → get_or prev' b 0 ≡ p
  pub none : n ≤ b → prev' ≡ prev
  pub others : (i : ℕ) → (i ≡ b → ⊥) → get_or prev' i 0 ≡ get_or prev i 0

-- the pairs that the merged symbol is in have their ranks, and the place that went has none
pub record Reranked (rk : ℕ → ℕ → ℕ) (row ranks : List ℕ) (p : Pair) (ranks' : List ℕ) : Type 0 where
  pub long : length ranks' ≡ length ranks
  pub gone : get_or ranks' p.right 0 ≡ no_id
  pub here : Between rk row p.at p.after (get_or ranks' p.at 0)
  pub left : p.left < length row → get_or ranks' p.left 0 ≡ rank_at rk row p.left p.at
  pub others : (i : ℕ) → (i ≡ p.at → ⊥) → (i ≡ p.right → ⊥) → (i ≡ p.left → ⊥) → get_or ranks' i 0 ≡ get_or ranks i 0

-- what one merge wants
pub record Ready8 (row next prev ranks : List ℕ) (p : Pair) : Type 0 where
  pub sized : Sized next prev ranks
  pub pair : IsPair next prev p
  pub placed : Placed (length row) p

-- the pair was merged to the id m, and e is the next entry
pub record Joined8 (rk : ℕ → ℕ → ℕ) (row next prev ranks : List ℕ) (p : Pair) (m : ℕ) (row' next' prev' ranks' : List ℕ) (e : Option Entry) : Type 0 where
  pub sized : Sized next' prev' ranks'
  pub row_is : row' ≡ set row p.at m
  pub cut : Cut (length row) next prev p.at p.right next' prev'
  pub ranked : Reranked rk row' ranks p ranks'
  pub picked : Picks ranks' (length row) e

-- the run on its way, from the given row, with the entry of the pair to merge next
pub record Scanning (rk mg : ℕ → ℕ → ℕ) (given row next prev ranks : List ℕ) (e : Option Entry) : Type 0 where
  pub sized : Sized next prev ranks
  pub lives : Live no_place (length given) (look_by rk mg) given (length given) row next prev
  pub ranked : Ranked rk (length given) row next ranks
  pub picked : Picks ranks (length given) e

-- what the whole does
pub record MergedShort (look : Lookup) (row : List ℕ) (count : ℕ) (row' : List ℕ) : Type 0 where
  pub count_is : count ≡ length (merge look row)
  pub row_is : row' ≡ merged_row look row
