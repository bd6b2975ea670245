-- The calls: what each answers, and the words and the count that it leaves. Assumes nothing.
use Rattle.std.specs.Prelude.{Bool, true, false, ◌&&◌, cond, List, ℕ, zero, suc, ◌+◌, ◌*◌, eqb, ltb, length, replicate}
use Rattle.token.specs.Refusals.{Verdict, fine, refused}
use Rattle.pretoken_cache.specs.declared.Name.{Name}
use Rattle.pretoken_cache.specs.declared.Value.{Value}
use Rattle.pretoken_cache.specs.Limits.{most_slots, most_asked}
use Rattle.pretoken_cache.specs.Slot.{keyless, Slot, free, held, slot_at, value_at, put}
use Rattle.pretoken_cache.specs.Walk.{Walk, hit, empty, full}
use Rattle.pretoken_cache.specs.Table.{pair_mask, slots, shaped, seek, near, first_empty, taken, laden}
use Rattle.pretoken_cache.specs.Capacity as capacities

pub data Answer : Type 0 where
  -- the name's value
  found : Value → Answer
  -- the first empty slot
  missing : ℕ → Answer
  done : Answer
  -- so many slots
  sized : ℕ → Answer
  -- a view with this pair mask
  views : ℕ → Answer
  -- val and ext, and whether the name was met
  probed : ℕ → ℕ → Bool → Answer
  -- number and place
  refuses : ℕ → ℕ → Answer

-- of a call that may change what it is lent
pub record Outcome : Type 0 where
  pub answer : Answer
  pub words : List ℕ
  pub count : ℕ

-- ---- refusals, ascending by number

-- 1: an entry count above its bound; then 2: words of the wrong shape
unfoldable pub unfit : ℕ → Bool → Verdict
unfit count shape = cond (ltb most_slots count) (refused 1 0) (cond shape fine (refused 2 0))

-- 7: a key that is zero
unfoldable pub zero_key : Name → Verdict
zero_key m = cond (keyless m) (refused 7 0) fine

-- 1: an argument of the capacity rule above its bound
unfoldable pub over_asked : ℕ → ℕ → Verdict
over_asked n asked = cond (ltb most_asked n) (refused 1 0) (cond (ltb most_asked asked) (refused 1 0) fine)

abbrev pub first_of : Verdict → Verdict → Verdict
first_of fine v = v
first_of (refused k p) v = refused k p

-- the answer, unless the call is refused
abbrev pub unless : Verdict → Answer → Answer
unless fine a = a
unless (refused k p) a = refuses k p

-- an answer that leaves words and count as they were
abbrev pub keeping : List ℕ → ℕ → Answer → Outcome
keeping words count a = record { answer = a; words = words; count = count }

-- the outcome, unless the call is refused
abbrev pub guarded : Verdict → List ℕ → ℕ → Outcome → Outcome
guarded fine words count o = o
guarded (refused k p) words count o = keeping words count (refuses k p)

-- ---- get_or_slot

unfoldable pub gotten : List ℕ → Walk → Answer
gotten words (hit s) = found (value_at words s)
gotten words (empty s) = missing s
gotten words full = refuses 10 0

unfoldable pub get : ℕ → List ℕ → Name → Answer
get count words m = unless (first_of (unfit count (shaped words)) (zero_key m)) (gotten words (seek words m))

-- ---- insert, insert_at, replace

-- a new name, where its walk stopped: 8, 9, 10 and 11; `right` says whether a slot will do
unfoldable pub placed : (ℕ → Bool) → ℕ → List ℕ → Name → Value → Walk → Outcome
placed right count words m v (hit s) = keeping words count (refuses 8 s)
placed right count words m v (empty s) =
    cond (laden (slots words) count) (keeping words count (refuses 9 0))
    (cond (right s) (record { answer = done; words = put words s m v; count = count + 1 }) (keeping words count (refuses 11 s)))
placed right count words m v full =
    cond (laden (slots words) count) (keeping words count (refuses 9 0)) (keeping words count (refuses 10 0))

-- a stored name is overwritten at any load
unfoldable pub replaced : ℕ → List ℕ → Name → Value → Walk → Outcome
replaced count words m v (hit s) = record { answer = done; words = put words s m v; count = count }
replaced count words m v (empty s) = placed (λ e. true) count words m v (empty s)
replaced count words m v full = placed (λ e. true) count words m v full

unfoldable pub insert : ℕ → List ℕ → Name → Value → Outcome
insert count words m v =
    guarded (first_of (unfit count (shaped words)) (zero_key m)) words count (placed (λ e. true) count words m v (seek words m))

unfoldable pub insert_at : ℕ → List ℕ → ℕ → Name → Value → Outcome
insert_at count words s m v =
    guarded (first_of (unfit count (shaped words)) (zero_key m)) words count (placed (λ e. eqb e s) count words m v (seek words m))

unfoldable pub replace : ℕ → List ℕ → Name → Value → Outcome
replace count words m v =
    guarded (first_of (unfit count (shaped words)) (zero_key m)) words count (replaced count words m v (seek words m))

-- ---- clear, reset_to_capacity, with_at_least, and the capacities

abbrev pub emptied : List ℕ → Outcome
emptied words = record { answer = done; words = replicate (length words) 0; count = 0 }

unfoldable pub clear : ℕ → List ℕ → Outcome
clear count words = guarded (unfit count (shaped words)) words count (emptied words)

-- words of exactly n slots
unfoldable pub reset : ℕ → List ℕ → ℕ → Outcome
reset count words n = guarded (unfit count (shaped words && eqb (slots words) n)) words count (emptied words)

unfoldable pub capacity : List ℕ → Answer
capacity words = cond (shaped words) (sized (slots words)) (refuses 2 0)

unfoldable pub required : ℕ → ℕ → Answer
required n asked = unless (over_asked n asked) (sized (capacities.required n asked))

-- words of exactly the required slots; no count goes in, and 0 comes back
unfoldable pub with_at_least : List ℕ → ℕ → ℕ → Outcome
with_at_least words n asked = guarded (over_asked n asked) words 0 (reset 0 words (capacities.required n asked))

-- ---- grow

-- an entry goes into the first empty slot of its walk
unfoldable pub seated : List ℕ → Name → Value → Walk → List ℕ
seated words m v (hit s) = words
seated words m v (empty s) = put words s m v
seated words m v full = words

unfoldable pub moved : Slot → List ℕ → List ℕ
moved free words = words
moved (held m v) words = seated words m v (first_empty words m.h)

-- the entries of the first n old slots, in slot order
unfoldable pub carried : List ℕ → ℕ → List ℕ → List ℕ
carried old zero words = words
carried old (suc n) words = moved (slot_at old n) (carried old n words)

-- a lent table of exactly twice the slots
unfoldable pub fits : List ℕ → List ℕ → Bool
fits words into = shaped words && shaped into && eqb (length into) (2 * length words)

-- the words that it leaves are those of the lent table, emptied first; the old table stays
unfoldable pub grow : ℕ → List ℕ → List ℕ → Outcome
grow count words into =
    guarded (unfit count (fits words into)) into count
    (record { answer = done; words = carried words (slots words) (replicate (length into) 0); count = taken (slot_at words) (slots words) })

-- ---- probe_view and probe_pair

unfoldable pub view : ℕ → List ℕ → Answer
view count words = unless (unfit count (shaped words)) (views (pair_mask (slots words)))

-- the view is one of these words
unfoldable pub viewed : ℕ → List ℕ → Bool
viewed mask words = shaped words && eqb mask (pair_mask (slots words))

unfoldable pub glimpsed : List ℕ → Walk → Answer
glimpsed words (hit s) = probed (value_at words s).val (value_at words s).ext true
glimpsed words (empty s) = probed 0 0 false
glimpsed words full = probed 0 0 false

unfoldable pub probe : ℕ → List ℕ → Name → Answer
probe mask words m = unless (first_of (cond (viewed mask words) fine (refused 2 0)) (zero_key m)) (glimpsed words (near words m))
