-- Merging a long row with a heap: what each function does. Assumes nothing.
use Rattle.std.specs.Prelude.{◌≡◌, ◌⊎◌, cond, List, ℕ, ◌+◌, ◌*◌, ◌/◌, ◌%◌, ◌^◌, ◌≤◌, ◌<◌, eqb, length, get_or, set}
use Rattle.token.specs.Limits.{no_id, most_row}
use Rattle.merging.specs.Merging.{Lookup, merge}
use Rattle.bpe.specs.Limits.{most_small}
use Rattle.bpe.specs.Calls.{merged_row, zeroed}
use Rattle.bpe.specs.Look.{look_by, rank_at, entry}
use Rattle.bpe.specs.Links.{Each, unless, links, Cut, symbols, Live, Stays}
use Rattle.bpe.specs.Heap.{Member}
use Rattle.bpe.specs.declared.heap.Entry.{Entry}
use Rattle.bpe.specs.declared.heap.Heap.{Heap}
use Rattle.bpe.specs.declared.links.Links.{Links}

-- the memory is large enough for n ids
pub record Room (n : ℕ) (row next prev heap : List ℕ) : Type 0 where
  pub some : 2 ≤ n
  pub few : n ≤ most_row
  pub row_long : length row ≡ n
  pub next_long : n ≤ length next
  pub prev_long : n ≤ length prev
  pub heap_long : 2 * n ≤ length heap

-- an entry of a rule, at one of n places
abbrev pub IsEntry : ℕ → ℕ → Type 0
IsEntry n x = (x % 2 ^ 32 < n) × (x / 2 ^ 32 < no_id)

-- the next and the prev of a place, or none
abbrev pub next_at : Links → ℕ → ℕ
next_at l p = get_or l.next.now p 0

abbrev pub prev_at : Links → ℕ → ℕ
prev_at l p = get_or l.prev.now p 0

abbrev pub Holds : Heap → ℕ → Type 0
Holds h x = Member h.words.now h.len x

-- if the pair of a and b has a rule, it is queued
abbrev pub Queued : (ℕ → ℕ → ℕ) → List ℕ → Heap → ℕ → ℕ → Type 0
Queued rk row h a b = (rank_at rk row a b ≡ no_id → ⊥) → Holds h (entry (rank_at rk row a b) a)

-- so many entries are queued for the places a and b: one if their pair has a rule
abbrev pub offers : (ℕ → ℕ → ℕ) → List ℕ → ℕ → ℕ → ℕ
offers rk row a b = unless (eqb (rank_at rk row a b) no_id)

pub record Offered (rk : ℕ → ℕ → ℕ) (row : List ℕ) (h : Heap) (a b : ℕ) (h' : Heap) : Type 0 where
  pub old : (x : ℕ) → Holds h x → Holds h' x
  pub new : Queued rk row h' a b
  pub only : (x : ℕ) → Holds h' x → Holds h x ⊎ IsEntry (length row) x
  pub grew : h'.len ≡ h.len + offers rk row a b

-- what a turn at p, and the queueing around it, want: each place of the row has its links, and two more entries fit
pub record Ready (row : List ℕ) (l : Links) (h : Heap) (p : ℕ) : Type 0 where
  pub long : length l.next.now ≡ length row
  pub place : p < length row
  pub fits : h.len + 2 ≤ length h.words.now

-- so many entries are queued for a place and its link x: none if x is no place
abbrev pub offers_at : ℕ → ℕ → ℕ
offers_at x k = cond (eqb x no_id) 0 k

-- both pairs of p are queued if they have rules
pub record Requeued (rk : ℕ → ℕ → ℕ) (row : List ℕ) (l : Links) (h : Heap) (p : ℕ) (h' : Heap) : Type 0 where
  pub old : (x : ℕ) → Holds h x → Holds h' x
  pub left : (prev_at l p ≡ no_id → ⊥) → Queued rk row h' (prev_at l p) p
  pub right : (next_at l p ≡ no_id → ⊥) → Queued rk row h' p (next_at l p)
  pub only : (x : ℕ) → Holds h' x → Holds h x ⊎ IsEntry (length row) x
  pub grew : h'.len ≡ h.len + (offers_at (prev_at l p) (offers rk row (prev_at l p) p) + offers_at (next_at l p) (offers rk row p (next_at l p)))

-- a popped entry was stale
pub record Dropped (rk : ℕ → ℕ → ℕ) (row : List ℕ) (l : Links) (h : Heap) (e : Entry) (row' : List ℕ) (l' : Links) (h' : Heap) : Type 0 where
  pub stale : (next_at l e.place ≡ no_id) ⊎ (rank_at rk row e.place (next_at l e.place) ≡ e.merged → ⊥)
  pub row_is : row' ≡ row
  pub links_is : l' ≡ l
  pub heap_is : h' ≡ h

-- its pair was merged
pub record Joined (rk mg : ℕ → ℕ → ℕ) (row : List ℕ) (l : Links) (h : Heap) (e : Entry) (row' : List ℕ) (l' : Links) (h' : Heap) : Type 0 where
  pub linked : next_at l e.place ≡ no_id → ⊥
  pub ranked : rank_at rk row e.place (next_at l e.place) ≡ e.merged
  pub row_is : row' ≡ set row e.place (rank_at mg row e.place (next_at l e.place))
  pub cut : Cut no_id l.next.now l.prev.now e.place (next_at l e.place) l'.next.now l'.prev.now
  pub queued : Requeued rk row' l' h e.place h'

abbrev pub Turned : (ℕ → ℕ → ℕ) → (ℕ → ℕ → ℕ) → List ℕ → Links → Heap → Entry → List ℕ → Links → Heap → Type 0
Turned rk mg row l h e row' l' h' = Dropped rk row l h e row' l' h' ⊎ Joined rk mg row l h e row' l' h'

-- The run on its way, from the given row: every pair of live places that has a rule is queued, and a push always fits.
pub record Going (rk mg : ℕ → ℕ → ℕ) (given row : List ℕ) (l : Links) (h : Heap) : Type 0 where
  pub row_long : length row ≡ length given
  pub long : length l.next.now ≡ length given
  pub heap_long : 2 * length given ≤ length h.words.now
  pub lives : Live no_id no_id (look_by rk mg) given (length given) row l.next.now l.prev.now
  pub queued : Each no_id (length given) l.next.now (Queued rk row h)
  pub entries : (x : ℕ) → Holds h x → IsEntry (length given) x
  pub room : h.len + links no_id (length given) l.next.now < 2 * length given

-- the run is at its end
pub record Drained (rk mg : ℕ → ℕ → ℕ) (given row : List ℕ) (l : Links) : Type 0 where
  pub lives : Live no_id no_id (look_by rk mg) given (length given) row l.next.now l.prev.now
  pub done : symbols row lives.live ≡ merge (look_by rk mg) given

-- every pair of the row that has a rule is queued
pub record Seeded (rk : ℕ → ℕ → ℕ) (row : List ℕ) (h : Heap) : Type 0 where
  pub queued : (i : ℕ) → i + 1 < length row → Queued rk row h i (i + 1)
  pub entries : (x : ℕ) → Holds h x → IsEntry (length row) x
  pub bound : h.len < length row

-- the links and the heap are still in the rows that they were lent
abbrev pub Stay : Links → Heap → Links → Heap → Type 0
Stay l h l' h' = Stays l.next l'.next × Stays l.prev l'.prev × Stays h.words h'.words

-- a row that is accepted, with scratch if it is long
pub record Fit (row next prev heap : List ℕ) : Type 0 where
  pub few : length row ≤ most_row
  pub next_long : most_small < length row → length row ≤ length next
  pub prev_long : most_small < length row → length row ≤ length prev
  pub heap_long : most_small < length row → 2 * length row ≤ length heap

-- what the whole does, with scratch for k ids
pub record MergedWith (k : ℕ) (look : Lookup) (row next prev heap : List ℕ) (count : ℕ) (row' next' prev' heap' : List ℕ) : Type 0 where
  pub count_is : count ≡ length (merge look row)
  pub row_is : row' ≡ merged_row look row
  pub next_is : next' ≡ zeroed k next
  pub prev_is : prev' ≡ zeroed k prev
  pub heap_is : heap' ≡ zeroed (2 * k) heap
