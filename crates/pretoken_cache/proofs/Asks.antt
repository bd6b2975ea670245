-- What the plain map says of itself: no reply is 10, each name stays once, and a probe shows what it has. Assumes nothing.
use mathlib.Core.Path.{◌≡◌, ap}
use mathlib.Core.Logic.{◌≢◌}
use mathlib.Core.Bool.{Bool, true, ◌&&◌}
use mathlib.Core.List.{List, [], ◌∷◌}
use mathlib.Core.Option.{Option, none, some}
use Prim.Native.Nat.{ℕ, ◌*◌}
use native.Mathlib.Omega.{arith}
use lib.Dec.{eqb, leb, ltb}
use Rattle.pretoken_cache.specs.declared.Name.{Name}
use Rattle.pretoken_cache.specs.declared.Value.{Value}
use Rattle.pretoken_cache.specs.Limits.{most_slots, most_asked}
use Rattle.pretoken_cache.specs.Slot.{width, keyless}
use Rattle.pretoken_cache.specs.Table.{proper, laden, pair_mask}
use Rattle.pretoken_cache.specs.Capacity.{required}
use Rattle.pretoken_cache.specs.Plain as plain
use Rattle.pretoken_cache.specs.Plain.{lookup, store, Once, Map, size, Ask, Reply, Step, still, becomes, named, read, added, renewed, anew, plainly, map_after}
use Rattle.pretoken_cache.specs.Runs.{NoTen}
use Rattle.token.proofs.Cases.{by_test}
use Rattle.pretoken_cache.proofs.Entries.{store_once}

-- a probe shows what the map has
pub shown : (map : Map) (mask : ℕ) (near : Bool) (m : Name) {u : Value} → (plain.plain map (plain.probe mask near m)).reply ≡ plain.found u → lookup map.entries m ≡ some u
unfolding plain.plain
shown map mask near m {u} e =
    by_test (eqb mask (pair_mask map.slots))
    (λ q. by_test (keyless m) (λ d. refuses≢found (rw (q, d) at e))
    (λ d. by_test near (λ i. value_is (lookup map.entries m) (rw (q, d, i) at e)) (λ i. missing≢found (rw (q, d, i) at e))))
    (λ q. refuses≢found (rw q at e))
  where
    refuses≢found : {A : Type 0} {k : ℕ} → plain.refuses k ≡ plain.found u → A
    refuses≢found {A} {k} i = absurd (let z : ◌≡◌ {A = ℕ} 0 1 = cc in omega arith)

    missing≢found : {A : Type 0} → plain.missing ≡ plain.found u → A
    missing≢found i = absurd (let z : ◌≡◌ {A = ℕ} 0 1 = cc in omega arith)

    value_is : (f : Option Value) → read f ≡ plain.found u → f ≡ some u
    value_is none i = missing≢found i
    value_is (some v) i = let k : v ≡ u = cc in ap some k

-- the number of a refusal
abbrev number : Reply → ℕ
number (plain.found v) = 0
number plain.missing = 0
number plain.done = 0
number (plain.sized n) = 0
number (plain.views mask) = 0
number (plain.refuses k) = k

-- what holds of every step that can be taken holds of the step of any question
module _ (map : Map) (P : Step → Type 0)
    (stays : (r : Reply) → number r ≢ 10 → P (still map r))
    (stores : (m : Name) (v : Value) → P (becomes map.slots (store m v map.entries)))
    (grows : P (becomes (2 * map.slots) map.entries))
    (anews : (n : ℕ) → P (becomes n [])) where
  names : (m : Name) {s : Step} → P s → P (named map m s)
  names m p = by_test (keyless m) (λ d. rw d (stays (plain.refuses 7) (omega arith))) (λ d. rw d p)

  reads : (f : Option Value) → P (still map (read f))
  reads none = stays plain.missing (omega arith)
  reads (some v) = stays (plain.found v) (omega arith)

  adds : (right : Bool) (m : Name) (v : Value) (f : Option Value) → P (added right map m v f)
  adds right m v (some u) = stays (plain.refuses 8) (omega arith)
  adds right m v none =
      by_test (laden map.slots (size map)) (λ d. rw d (stays (plain.refuses 9) (omega arith)))
      (λ d. rw d (by_test right (λ i. rw i (stores m v)) (λ i. rw i (stays (plain.refuses 11) (omega arith)))))

  renews : (m : Name) (v : Value) (f : Option Value) → P (renewed map m v f)
  renews m v (some u) = stores m v
  renews m v none = adds true m v none

  resets : (n into : ℕ) → P (anew map n into)
  resets n into = by_test (proper n && eqb into (width * n)) (λ d. rw d (anews n)) (λ d. rw d (stays (plain.refuses 2) (omega arith)))

  each_step : (a : Ask) → P (plain.plain map a)
  unfolding plain.plain
  each_step (plain.get m) = names m (reads (lookup map.entries m))
  each_step (plain.insert m v) = names m (adds true m v (lookup map.entries m))
  each_step (plain.insert_at right m v) = names m (adds right m v (lookup map.entries m))
  each_step (plain.replace m v) = names m (renews m v (lookup map.entries m))
  each_step (plain.grow into) =
      by_test (leb (2 * map.slots) most_slots && eqb into (width * (2 * map.slots))) (λ d. rw d grows) (λ d. rw d (stays (plain.refuses 2) (omega arith)))
  each_step plain.clear = anews map.slots
  each_step (plain.reset n into) = resets n into
  each_step (plain.with_at_least n asks into) =
      by_test (ltb most_asked n) (λ d. rw d (stays (plain.refuses 1) (omega arith)))
      (λ d. rw d (by_test (ltb most_asked asks) (λ e. rw e (stays (plain.refuses 1) (omega arith))) (λ e. rw e (resets (required n asks) into))))
  each_step plain.capacity = stays (plain.sized map.slots) (omega arith)
  each_step plain.view = stays (plain.views (pair_mask map.slots)) (omega arith)
  each_step (plain.probe mask near m) =
      by_test (eqb mask (pair_mask map.slots))
      (λ q. rw q (names m (by_test near (λ i. rw i (reads (lookup map.entries m))) (λ i. rw i (stays plain.missing (omega arith))))))
      (λ q. rw q (stays (plain.refuses 2) (omega arith)))

-- no step is refused with 10
step_ten : (map : Map) (a : Ask) → number (plain.plain map a).reply ≢ 10
step_ten map a = each_step map (λ s. number s.reply ≢ 10) (λ r d. d) (λ m v. omega arith) (omega arith) (λ n. omega arith) a

-- each name stays once
step_once : (map : Map) → Once map.entries → (a : Ask) → Once (plain.plain map a).map.entries
step_once map o a = each_step map (λ s. Once s.map.entries) (λ r d. o) (λ m v. store_once m v map.entries o) o (λ n. tt) a

-- a map is one: whatever is asked, no name is in it twice
pub stays_once : (map : Map) → Once map.entries → (asks : List Ask) → Once (map_after map asks).entries
unfolding map_after
stays_once map o [] = o
stays_once map o (a ∷ asks) = stays_once (plain.plain map a).map (step_once map o a) asks

pub plainly_ten : (asks : List Ask) (map : Map) → NoTen (plainly map asks)
unfolding plainly
plainly_ten [] map = tt
plainly_ten (a ∷ asks) map = (λ e. step_ten map a (ap number e), plainly_ten asks (plain.plain map a).map)
