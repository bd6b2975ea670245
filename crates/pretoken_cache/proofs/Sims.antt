-- A table and a map that go together, and each call keeps them so. Assumes nothing.
use mathlib.Core.Path.{◌≡◌, refl, sym, ◌∙◌}
use mathlib.Core.Bool.{Bool, true, false, ◌&&◌, cond}
use mathlib.Core.List.{List, []}
use mathlib.Core.Option.{none, some}
use Prim.Native.Nat.{ℕ, ◌+◌, ◌*◌, ◌≤◌, ◌<◌}
use native.Mathlib.Omega.{arith}
use lib.Dec.{eqb, leb, ltb}
use lib.ListN.{length, replicate}
use borrow.Author.Tests.{eqb-true, eq-eqb, leb-true, le-leb, ltb-false, le-ltb}
use Rattle.token.specs.Refusals.{fine, refused}
use Rattle.pretoken_cache.specs.declared.Name.{Name}
use Rattle.pretoken_cache.specs.declared.Value.{Value}
use Rattle.pretoken_cache.specs.Limits.{most_slots, most_asked}
use Rattle.pretoken_cache.specs.Slot.{width, keyless, slot_at, value_at, put}
use Rattle.pretoken_cache.specs.Walk.{hit, empty}
use Rattle.pretoken_cache.specs.Table.{slots, proper, shaped, seek, near, laden, pair_mask}
use Rattle.pretoken_cache.specs.Capacity.{required}
use Rattle.pretoken_cache.specs.Calls as calls
use Rattle.pretoken_cache.specs.Calls.{Answer, Outcome, unfit, zero_key, first_of, keeping, guarded, gotten, placed, replaced, fits, viewed, glimpsed, over_asked}
use Rattle.pretoken_cache.specs.Plain as plain
use Rattle.pretoken_cache.specs.Plain.{Entries, lookup, store, Map, size, nothing_in, Reply, Step, still, becomes, named, read, added, renewed, anew}
use Rattle.pretoken_cache.specs.Runs.{Call, get, insert, insert_at, replace, grow, clear, reset, with_at_least, capacity, view, probe, onto, call, forget, ends, meets, ask}
use Rattle.token.proofs.Cases.{by_test}
use Rattle.std.specs.Cmp.{both_ways}
use Rattle.pretoken_cache.proofs.Bools.{both}
use Rattle.pretoken_cache.proofs.Names.{value_held}
use Rattle.pretoken_cache.proofs.Table.{by_walk, finds, found_some, found_none, not_full}
use Rattle.pretoken_cache.proofs.Sizes.{Size, size_double, proper_size, size_proper, shape, shape_is, slots_are}
use Rattle.pretoken_cache.proofs.Order.{orders}
use Rattle.pretoken_cache.proofs.Words.{pairs, Stands, seek_is, near_seek, store_new, store_old, stands_none, stands_grown}
use Rattle.pretoken_cache.proofs.Entries.{store_maps, store_longer, store_as_long}

pub record Holds (count : ℕ) (words : List ℕ) (map : Map) : Type 0 where
  pub fit : Size map.slots
  pub stands : Stands words map.slots count (lookup map.entries)
  pub sized : size map ≡ count
  pub load : count * 4 ≤ map.slots * 3

-- an outcome and a step that go together
pub record Sim (o : Outcome) (s : Step) : Type 0 where
  pub says : forget o.answer ≡ s.reply
  pub holds : Holds o.count o.words s.map

-- words that are all zero go with the map that has no entry
pub holds_none : (words : List ℕ) {n : ℕ} → Size n → length words ≡ width * n → Holds 0 (replicate (length words) 0) (nothing_in n)
unfolding lookup
holds_none words z e = record { fit = z; stands = stands_none z words e; sized = refl; load = omega arith }

-- a lent row is a table of n slots
row_fits : (into : List ℕ) (n : ℕ) → shaped into && eqb (slots into) n ≡ proper n && eqb (length into) (width * n)
row_fits into n =
    both_ways (shaped into && eqb (slots into) n) (proper n && eqb (length into) (width * n))
    (λ e. let (a, b) = both (shaped into) (eqb (slots into) n) e in
    let (l, z) = shape into a in
    let i = eqb-true (slots into) n b in
    rw (size_proper (rw i at z), eq-eqb (length into) (width * n) (omega arith)))
    (λ e. let (a, b) = both (proper n) (eqb (length into) (width * n)) e in
    let l = eqb-true (length into) (width * n) b in
    rw (shape_is into l (proper_size n a), eq-eqb (slots into) n (slots_are into l)))

module _ {count : ℕ} {words : List ℕ} {map : Map} (h : Holds count words map) where
  abbrev n : ℕ
  n = map.slots

  abbrev es : Entries
  es = map.entries

  sim_still : {a : Answer} {r : Reply} → forget a ≡ r → Sim (keeping words count a) (still map r)
  sim_still e = record { says = e; holds = h }

  in_shape : shaped words ≡ true
  in_shape = shape_is words h.stands.whole h.fit

  slots_n : slots words ≡ n
  slots_n = slots_are words h.stands.whole

  few : count < n
  few = omega (arith, h.load, h.fit.least)

  -- the count is never refused
  may : (c : ℕ) (b : Bool) → c ≤ most_slots → unfit c b ≡ cond b fine (refused 2 0)
  unfolding unfit
  may c b l = rw (le-ltb most_slots c l)

  within : count ≤ most_slots
  within = omega (arith, few, h.fit.most)

  module _ (m : Name) where
    sought : seek words m ≡ finds (pairs n) n (slot_at words) m
    sought = seek_is h.fit words m h.stands.whole

    -- by the walk of m: it met what the map has, or it stopped at an empty slot and the map has nothing
    by_seek : {A : Type 0} → ((s : ℕ) (u : Value) → seek words m ≡ hit s → value_at words s ≡ u → lookup es m ≡ some u → A)
        → ((s : ℕ) → seek words m ≡ empty s → lookup es m ≡ none → A) → A
    by_seek f g =
        by_walk (finds (pairs n) n (slot_at words) m)
        (λ s e. let (u, i, j) = found_some (pairs n) n (orders h.fit) h.stands.rep m e in f s u (sought ∙ e) (value_held words s i) j)
        (λ s e. g s (sought ∙ e) (found_none (pairs n) n (orders h.fit) h.stands.rep m e))
        (λ e. absurd (not_full (pairs n) n (orders h.fit) (slot_at words) m (omega (arith, h.stands.counted, few)) e))

    sim_get : Sim (keeping words count (calls.get count words m)) (named map m (still map (read (lookup es m))))
    unfolding calls.get zero_key gotten
    sim_get =
        rw (may count (shaped words) within, in_shape)
        (by_test (keyless m) (λ d. rw d (sim_still refl))
        (λ d. rw d (by_seek (λ s u e i j. rw (e, i, j) (sim_still refl)) (λ s e j. rw (e, j) (sim_still refl)))))

    -- the refusals 1, 2 and 7
    sim_guarded : {o : Outcome} {s : Step} → (keyless m ≡ false → Sim o s) → Sim (guarded (first_of (unfit count (shaped words)) (zero_key m)) words count o) (named map m s)
    unfolding zero_key
    sim_guarded s =
        rw (may count (shaped words) within, in_shape) (by_test (keyless m) (λ d. rw d (sim_still refl)) (λ d. rw d (s d)))

    module _ (v : Value) (key : keyless m ≡ false) where
      sim_new : {s : ℕ} → seek words m ≡ empty s → lookup es m ≡ none → laden n count ≡ false
          → Sim (record { answer = calls.done; words = put words s m v; count = count + 1 }) (becomes n (store m v es))
      unfolding laden
      sim_new e j d = record {
        says = refl;
        holds = record {
          fit = h.fit;
          stands = store_new h.fit h.stands key (store_maps m v es) (sym sought ∙ e);
          sized = omega (arith, store_longer m v es j, h.sized);
          load = omega (arith, ltb-false (n * 3) ((count + 1) * 4) d);
        };
      }

      sim_old : {s : ℕ} {u : Value} → seek words m ≡ hit s → lookup es m ≡ some u
          → Sim (record { answer = calls.done; words = put words s m v; count = count }) (becomes n (store m v es))
      sim_old e j = record {
        says = refl;
        holds = record {
          fit = h.fit;
          stands = store_old h.fit h.stands key (store_maps m v es) (sym sought ∙ e);
          sized = store_as_long m v es j ∙ h.sized;
          load = h.load;
        };
      }

      sim_placed : (right : ℕ → Bool) (b : Bool) → ((s : ℕ) → seek words m ≡ empty s → right s ≡ b) → Sim (placed right count words m v (seek words m)) (added b map m v (lookup es m))
      unfolding placed
      sim_placed right b k =
          by_seek (λ s u e i j. rw (e, j) (sim_still refl))
          (λ s e j. rw (e, j, slots_n, h.sized, k s e)
          (by_test (laden n count) (λ d. rw d (sim_still refl))
          (λ d. rw d (by_test b (λ i. rw i (sim_new e j d)) (λ i. rw i (sim_still refl))))))

      sim_replaced : Sim (replaced count words m v (seek words m)) (renewed map m v (lookup es m))
      unfolding replaced
      sim_replaced =
          by_seek (λ s u e i j. rw (e, j) (sim_old e j))
          (λ s e j. rw (e, j) (rw (e, j) at (sim_placed (λ s. true) true (λ s e. refl))))

  sim_clear : Sim (calls.clear count words) (becomes n [])
  unfolding calls.clear
  sim_clear = rw (may count (shaped words) within, in_shape) (record { says = refl; holds = holds_none words h.fit h.stands.whole })

  -- a lent row is emptied
  sim_anew : (c : ℕ) → c ≤ most_slots → (k : ℕ) (into : List ℕ) → Sim (onto words count (calls.reset c into k)) (anew map k (length into))
  unfolding calls.reset
  sim_anew c l k into =
      rw (may c (shaped into && eqb (slots into) k) l, row_fits into k)
      (by_test (proper k && eqb (length into) (width * k))
      (λ e. let (a, b) = both (proper k) (eqb (length into) (width * k)) e in
      rw e (record { says = refl; holds = holds_none into (proper_size k a) (eqb-true (length into) (width * k) b) }))
      (λ e. rw e (sim_still refl)))

  sim_made : (k asks : ℕ) (into : List ℕ) → Sim (call (with_at_least k asks into) count words) (plain.plain map (plain.with_at_least k asks (length into)))
  unfolding call plain.plain calls.with_at_least over_asked
  sim_made k asks into =
      by_test (ltb most_asked k) (λ d. rw d (sim_still refl))
      (λ d. rw d (by_test (ltb most_asked asks) (λ e. rw e (sim_still refl)) (λ e. rw e (sim_anew 0 (omega arith) (required k asks) into))))

  -- a lent table fits if it has twice the slots, and not too many
  fits_is : (into : List ℕ) → fits words into ≡ leb (2 * n) most_slots && eqb (length into) (width * (2 * n))
  unfolding fits
  fits_is into =
      both_ways (fits words into) (leb (2 * n) most_slots && eqb (length into) (width * (2 * n)))
      (λ e. let (ab, c) = both (shaped words && shaped into) (eqb (length into) (2 * length words)) e in
      let l : length into ≡ width * (2 * n) = omega (arith, eqb-true (length into) (2 * length words) c, h.stands.whole) in
      let z = (shape into (both (shaped words) (shaped into) ab).1).1 in
      rw (le-leb (2 * n) most_slots (omega (arith, z.most, slots_are into l)), eq-eqb (length into) (width * (2 * n)) l))
      (λ e. let (a, b) = both (leb (2 * n) most_slots) (eqb (length into) (width * (2 * n))) e in
      let l = eqb-true (length into) (width * (2 * n)) b in
      rw (in_shape, shape_is into l (size_double h.fit (leb-true (2 * n) most_slots a)), eq-eqb (length into) (2 * length words) (omega (arith, h.stands.whole))))

  sim_grow : (into : List ℕ) → Sim (call (grow into) count words) (plain.plain map (plain.grow (length into)))
  unfolding call plain.plain calls.grow
  sim_grow into =
      rw (may count (fits words into) within, fits_is into)
      (by_test (leb (2 * n) most_slots && eqb (length into) (width * (2 * n)))
      (λ e. let (a, b) = both (leb (2 * n) most_slots) (eqb (length into) (width * (2 * n))) e in
      let z = size_double h.fit (leb-true (2 * n) most_slots a) in
      rw (e, slots_n, h.stands.counted)
      (record {
        says = refl;
        holds = record {
          fit = z;
          stands = stands_grown words into h.fit h.stands z (eqb-true (length into) (width * (2 * n)) b);
          sized = h.sized;
          load = omega (arith, h.load);
        };
      }))
      (λ e. rw e (sim_still refl)))

  sim_capacity : Sim (call capacity count words) (plain.plain map plain.capacity)
  unfolding call plain.plain calls.capacity
  sim_capacity = rw (in_shape, slots_n) (sim_still refl)

  sim_view : Sim (call view count words) (plain.plain map plain.view)
  unfolding call plain.plain calls.view
  sim_view = rw (may count (shaped words) within, in_shape, slots_n) (sim_still refl)

  -- the home pair only
  sim_probe : (mask : ℕ) (m : Name) → Sim (call (probe mask m) count words) (plain.plain map (plain.probe mask (meets (near words m)) m))
  unfolding call plain.plain calls.probe viewed zero_key glimpsed
  sim_probe mask m =
      rw (in_shape, slots_n)
      (by_test (eqb mask (pair_mask n))
      (λ q. rw q (by_test (keyless m) (λ d. rw d (sim_still refl))
      (λ d. rw d (by_walk (near words m)
      (λ s e. let k = near_seek h.fit words m h.stands.whole e in
      let (u, i, j) = found_some (pairs n) n (orders h.fit) h.stands.rep m (sym (sought m) ∙ k) in
      rw (e, value_held words s i, j) (sim_still refl))
      (λ s e. rw e (sim_still refl))
      (λ e. rw e (sim_still refl))))))
      (λ q. rw q (sim_still refl)))

  -- each call
  pub sim_call : (c : Call) → Sim (call c count words) (plain.plain map (ask c words))
  unfolding call plain.plain ask calls.insert calls.insert_at calls.replace
  sim_call (get m) = sim_get m
  sim_call (insert m v) = sim_guarded m (λ key. sim_placed m v key (λ s. true) true (λ s e. refl))
  sim_call (insert_at i m v) = sim_guarded m (λ key. sim_placed m v key (λ s. eqb s i) (ends (seek words m) i) (λ s e. rw e))
  sim_call (replace m v) = sim_guarded m (λ key. sim_replaced m v key)
  sim_call (grow into) = sim_grow into
  sim_call clear = sim_clear
  sim_call (reset k into) = sim_anew count within k into
  sim_call (with_at_least k asks into) = sim_made k asks into
  sim_call capacity = sim_capacity
  sim_call view = sim_view
  sim_call (probe mask m) = sim_probe mask m
