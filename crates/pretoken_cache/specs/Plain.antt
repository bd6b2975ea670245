-- A plain map from names to values, with the refusals of a table that holds it. It knows no slot. Assumes nothing.
use Rattle.std.specs.Prelude.{◌≡◌, Bool, true, ◌&&◌, cond, List, [], ◌∷◌, ℕ, ◌*◌, eqb, leb, ltb, length}
use Rattle.std.proofs.Math.Option.{Option, none, some}
use Rattle.pretoken_cache.specs.declared.Name.{Name}
use Rattle.pretoken_cache.specs.declared.Value.{Value}
use Rattle.pretoken_cache.specs.Limits.{most_slots, most_asked}
use Rattle.pretoken_cache.specs.Slot.{same, keyless, width}
use Rattle.pretoken_cache.specs.Table.{proper, laden, pair_mask}
use Rattle.pretoken_cache.specs.Capacity.{required}

-- ---- the map

abbrev pub Entries : Type 0
Entries = List (Name × Value)

-- what is stored under m
unfoldable pub lookup : Entries → Name → Option Value
lookup [] m = none
lookup (e ∷ es) m = cond (same m e.0) (some e.1) (lookup es m)

-- v under m: the entry of m is overwritten, or one is added
unfoldable pub store : Name → Value → Entries → Entries
store m v [] = (m, v) ∷ []
store m v (e ∷ es) = cond (same m e.0) ((m, v) ∷ es) (e ∷ store m v es)

-- each name once
abbrev pub Once : Entries → Type 0
Once [] = Unit {0}
Once (e ∷ es) = (lookup es e.0 ≡ none) × Once es

-- the entries, and how many slots their table has: 2 and 9 speak of these
pub record Map : Type 0 where
  pub slots : ℕ
  pub entries : Entries

-- how many entries a map has
abbrev pub size : Map → ℕ
size map = length map.entries

-- the map of a fresh table
abbrev pub nothing_in : ℕ → Map
nothing_in n = record { slots = n; entries = [] }

-- ---- what is asked of it

-- What no map can know comes with the question: `right`, whether the proposed slot is the first empty one of the name's walk, and `near`,
-- whether the name stands in its home pair. `into` is the number of words of a lent row.
pub data Ask : Type 0 where
  get : Name → Ask
  insert : Name → Value → Ask
  insert_at : (right : Bool) → Name → Value → Ask
  replace : Name → Value → Ask
  grow : (into : ℕ) → Ask
  clear : Ask
  reset : (n into : ℕ) → Ask
  with_at_least : (n asked into : ℕ) → Ask
  capacity : Ask
  view : Ask
  probe : (mask : ℕ) (near : Bool) → Name → Ask

-- the answers, without slots and places; a refusal has its number
pub data Reply : Type 0 where
  found : Value → Reply
  missing : Reply
  done : Reply
  sized : ℕ → Reply
  views : ℕ → Reply
  refuses : ℕ → Reply

-- what it replies, and the map after it
pub record Step : Type 0 where
  pub reply : Reply
  pub map : Map

-- a reply that leaves the map as it was
abbrev pub still : Map → Reply → Step
still map r = record { reply = r; map = map }

-- done: the map has these entries, in a table of n slots
abbrev pub becomes : ℕ → Entries → Step
becomes n es = record { reply = done; map = record { slots = n; entries = es } }

-- a key that is zero is refused
abbrev pub named : Map → Name → Step → Step
named map m step = cond (keyless m) (still map (refuses 7)) step

abbrev pub read : Option Value → Reply
read none = missing
read (some v) = found v

-- a new name: a stored one, one too many, and another slot than the right one are refused
abbrev pub added : Bool → Map → Name → Value → Option Value → Step
added right map m v (some u) = still map (refuses 8)
added right map m v none =
    cond (laden map.slots (size map)) (still map (refuses 9))
    (cond right (becomes map.slots (store m v map.entries)) (still map (refuses 11)))

-- a stored name is overwritten at any load
abbrev pub renewed : Map → Name → Value → Option Value → Step
renewed map m v (some u) = becomes map.slots (store m v map.entries)
renewed map m v none = added true map m v none

-- a map with no entry, in a lent row of n slots
abbrev pub anew : Map → ℕ → ℕ → Step
anew map n into = cond (proper n && eqb into (width * n)) (becomes n []) (still map (refuses 2))

-- each question. Growing takes a row of twice the slots, as far as there are such tables.
unfoldable pub plain : Map → Ask → Step
plain map (get m) = named map m (still map (read (lookup map.entries m)))
plain map (insert m v) = named map m (added true map m v (lookup map.entries m))
plain map (insert_at right m v) = named map m (added right map m v (lookup map.entries m))
plain map (replace m v) = named map m (renewed map m v (lookup map.entries m))
plain map (grow into) =
    cond (leb (2 * map.slots) most_slots && eqb into (width * (2 * map.slots))) (becomes (2 * map.slots) map.entries) (still map (refuses 2))
plain map clear = becomes map.slots []
plain map (reset n into) = anew map n into
plain map (with_at_least n asked into) =
    cond (ltb most_asked n) (still map (refuses 1)) (cond (ltb most_asked asked) (still map (refuses 1)) (anew map (required n asked) into))
plain map capacity = still map (sized map.slots)
plain map view = still map (views (pair_mask map.slots))
plain map (probe mask near m) =
    cond (eqb mask (pair_mask map.slots)) (named map m (still map (cond near (read (lookup map.entries m)) missing))) (still map (refuses 2))

-- ---- a run of questions: each is asked of the map that the one before left

-- what is seen of a call: its reply, and the count after it
pub data Seen : Type 0 where
  sees : Reply → ℕ → Seen

unfoldable pub plainly : Map → List Ask → List Seen
plainly map [] = []
plainly map (a ∷ asks) =
    let step = plain map a in
    sees step.reply (size step.map) ∷ plainly step.map asks

-- the map that the last one left
unfoldable pub map_after : Map → List Ask → Map
map_after map [] = map
map_after map (a ∷ asks) = map_after (plain map a).map asks
