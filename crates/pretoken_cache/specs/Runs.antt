-- Runs of calls over a table: each call gets the table (after growing, the larger) and the count that the call before left. Assumes nothing.
use Rattle.std.specs.Prelude.{◌≡◌, ◌≢◌, Bool, true, false, cond, List, [], ◌∷◌, ℕ, eqb, length, replicate}
use Rattle.pretoken_cache.specs.declared.Name.{Name}
use Rattle.pretoken_cache.specs.declared.Value.{Value}
use Rattle.pretoken_cache.specs.Walk.{Walk, hit, empty, full}
use Rattle.pretoken_cache.specs.Table.{shaped, seek, near}
use Rattle.pretoken_cache.specs.Calls as calls
use Rattle.pretoken_cache.specs.Calls.{Answer, Outcome, keeping}
use Rattle.pretoken_cache.specs.Plain as plain
use Rattle.pretoken_cache.specs.Plain.{Reply, Ask, Seen, sees}

-- a fresh table is all zero
pub record Fresh (words : List ℕ) : Type 0 where
  pub shape : shaped words ≡ true
  pub zero : words ≡ replicate (length words) 0

-- every call that is given words. `into` is the row that is lent beside the table.
pub data Call : Type 0 where
  get : Name → Call
  insert : Name → Value → Call
  insert_at : (slot : ℕ) → Name → Value → Call
  replace : Name → Value → Call
  grow : (into : List ℕ) → Call
  clear : Call
  reset : (n : ℕ) (into : List ℕ) → Call
  with_at_least : (n asked : ℕ) (into : List ℕ) → Call
  capacity : Call
  view : Call
  probe : (mask : ℕ) → Name → Call

-- the call was done
abbrev pub is_done : Answer → Bool
is_done (calls.found v) = false
is_done (calls.missing s) = false
is_done calls.done = true
is_done (calls.sized n) = false
is_done (calls.views mask) = false
is_done (calls.probed v e met) = false
is_done (calls.refuses k p) = false

-- where the call was done, the lent row is the table from then on
abbrev pub onto : List ℕ → ℕ → Outcome → Outcome
onto words count o = cond (is_done o.answer) o (keeping words count o.answer)

unfoldable pub call : Call → ℕ → List ℕ → Outcome
call (get m) count words = keeping words count (calls.get count words m)
call (insert m v) count words = calls.insert count words m v
call (insert_at s m v) count words = calls.insert_at count words s m v
call (replace m v) count words = calls.replace count words m v
call (grow into) count words = onto words count (calls.grow count words into)
call clear count words = calls.clear count words
call (reset n into) count words = onto words count (calls.reset count into n)
call (with_at_least n asked into) count words = onto words count (calls.with_at_least into n asked)
call capacity count words = keeping words count (calls.capacity words)
call view count words = keeping words count (calls.view count words)
call (probe mask m) count words = keeping words count (calls.probe mask words m)

-- an answer without its slot or place
abbrev pub forget : Answer → Reply
forget (calls.found v) = plain.found v
forget (calls.missing s) = plain.missing
forget calls.done = plain.done
forget (calls.sized n) = plain.sized n
forget (calls.views mask) = plain.views mask
forget (calls.probed v e true) = plain.found (record { val = v; ext = e })
forget (calls.probed v e false) = plain.missing
forget (calls.refuses k p) = plain.refuses k

-- what is seen of each call
unfoldable pub run : ℕ → List ℕ → List Call → List Seen
run count words [] = []
run count words (c ∷ cs) =
    let o = call c count words in
    sees (forget o.answer) o.count ∷ run o.count o.words cs

-- the count and the table that the last call left
unfoldable pub after : ℕ → List ℕ → List Call → ℕ × List ℕ
after count words [] = (count, words)
after count words (c ∷ cs) = let o = call c count words in after o.count o.words cs

-- ---- the same calls, as a map is asked

-- the walk stops at this empty slot
abbrev pub ends : Walk → ℕ → Bool
ends (hit e) s = false
ends (empty e) s = eqb e s
ends full s = false

-- the walk meets the name
abbrev pub meets : Walk → Bool
meets (hit s) = true
meets (empty s) = false
meets full = false

-- the question of a call on these words
unfoldable pub ask : Call → List ℕ → Ask
ask (get m) words = plain.get m
ask (insert m v) words = plain.insert m v
ask (insert_at s m v) words = plain.insert_at (ends (seek words m) s) m v
ask (replace m v) words = plain.replace m v
ask (grow into) words = plain.grow (length into)
ask clear words = plain.clear
ask (reset n into) words = plain.reset n (length into)
ask (with_at_least n asked into) words = plain.with_at_least n asked (length into)
ask capacity words = plain.capacity
ask view words = plain.view
ask (probe mask m) words = plain.probe mask (meets (near words m)) m

-- the questions of a run
unfoldable pub asked : ℕ → List ℕ → List Call → List Ask
asked count words [] = []
asked count words (c ∷ cs) = let o = call c count words in ask c words ∷ asked o.count o.words cs

-- ---- no refusal 10

abbrev pub NoTen : List Seen → Type 0
NoTen [] = Unit {0}
NoTen (sees r count ∷ l) = (r ≢ plain.refuses 10) × NoTen l
