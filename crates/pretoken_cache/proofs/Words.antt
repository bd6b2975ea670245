-- Words that stand for a map, and what stores, growing and clearing make of them. Assumes nothing.
use mathlib.Core.Path.{◌≡◌, refl, sym, ap, ◌∙◌}
use mathlib.Core.Bool.{false}
use mathlib.Core.List.{List, [], ◌∷◌}
use mathlib.Core.Option.{Option, none}
use Prim.Native.Nat.{ℕ, zero, suc, ◌+◌, ◌*◌, ◌≤◌, ◌<◌}
use native.Mathlib.Omega.{arith}
use lib.ListN.{length, replicate, length-replicate}
use Rattle.pretoken_cache.specs.declared.Name.{Name}
use Rattle.pretoken_cache.specs.declared.Value.{Value}
use Rattle.pretoken_cache.specs.Slot.{width, keyless, Slot, free, held, slot_at, put}
use Rattle.pretoken_cache.specs.Walk.{hit, empty}
use Rattle.pretoken_cache.specs.Table.{order, home, sight, seek, near, first_empty, weight, taken}
use Rattle.pretoken_cache.specs.Calls.{seated, moved, carried}
use Rattle.pretoken_cache.proofs.Walks.{Wrote, walks, walk_is, at_once}
use Rattle.pretoken_cache.proofs.Names.{length_put, put_wrote, key_held, all_free, weight_free, weight_held}
use Rattle.pretoken_cache.proofs.Table.{Maps, Orders, finds, Rep, hit_held, empty_free, rep_new, rep_old, rep_none, rep_as, goes_empty, blind_empty, taken_more, taken_over, taken_le, none_taken}
use Rattle.pretoken_cache.proofs.Sizes.{Size, slots_are}
use Rattle.pretoken_cache.proofs.Order.{orders, order_home}
use Rattle.pretoken_cache.proofs.Carry.{part, part_zero, part_all, part_free, part_new, part_held}

-- the pairs of a name's walk among n slots
abbrev pub pairs : ℕ → Name → List ℕ
pairs n m = order n m.h

-- the words of n slots, count of them taken, stand for the map f
pub record Stands (words : List ℕ) (n count : ℕ) (f : Name → Option Value) : Type 0 where
  pub whole : length words ≡ width * n
  pub rep : Rep (pairs n) n (slot_at words) f
  pub counted : taken (slot_at words) n ≡ count

module _ {n : ℕ} (z : Size n) where
  o : Orders (pairs n) n
  o = orders z

  pub seek_is : (words : List ℕ) (m : Name) → length words ≡ width * n → seek words m ≡ finds (pairs n) n (slot_at words) m
  unfolding seek
  seek_is words m e = rw (slots_are words e)

  -- what the home pair meets, the whole walk meets
  pub near_seek : (words : List ℕ) (m : Name) {s : ℕ} → length words ≡ width * n → near words m ≡ hit s → seek words m ≡ hit s
  unfolding near seek
  near_seek words m w i =
      let (l, e) = order_home z m.h in
      rw (slots_are words w, e) (walk_is (at_once l (rw (rw (slots_are words w) at i) at (walks {see = λ s. sight m (slot_at words s)} (home n m.h ∷ [])))))

  -- a name that is not stored, where there is room: its walk stops at an empty slot
  pub absent : {words : List ℕ} {count : ℕ} {f : Name → Option Value} → Stands words n count f → (m : Name) → f m ≡ none → count < n
      → (e : ℕ) × (finds (pairs n) n (slot_at words) m ≡ empty e)
  absent h m i l = goes_empty (pairs n) n o h.rep m i (omega (arith, h.counted))

  -- with no look for matches, it stops there too
  first_empty_at : (words : List ℕ) (m : Name) → length words ≡ width * n → {e : ℕ} → finds (pairs n) n (slot_at words) m ≡ empty e → first_empty words m.h ≡ empty e
  unfolding first_empty
  first_empty_at words m w i = rw (slots_are words w) (blind_empty (pairs n) n o (slot_at words) m i)

  module _ {words : List ℕ} {count : ℕ} {f g : Name → Option Value} (h : Stands words n count f) {m : Name} {v : Value} (key : keyless m ≡ false) (c : Maps f g m v) where
    wrote : {e : ℕ} → e < n → Wrote (slot_at words) (slot_at (put words e m v)) e (held m v)
    wrote {e} l = put_wrote words e m v key (omega (arith, h.whole))

    pub store_new : {e : ℕ} → finds (pairs n) n (slot_at words) m ≡ empty e → Stands (put words e m v) n (count + 1) g
    store_new {e} i =
        let (a, l) = empty_free (pairs n) n o (slot_at words) m i in
        record {
          whole = length_put words e m v ∙ h.whole;
          rep = rep_new (pairs n) n o h.rep (wrote l) c i;
          counted = taken_more (slot_at words) (slot_at (put words e m v)) e n (wrote l) a l ∙ ap (λ (x : ℕ). x + 1) h.counted;
        }

    pub store_old : {s : ℕ} → finds (pairs n) n (slot_at words) m ≡ hit s → Stands (put words s m v) n count g
    store_old {s} i =
        let (u, a, l) = hit_held (pairs n) n o (slot_at words) m i in
        record {
          whole = length_put words s m v ∙ h.whole;
          rep = rep_old (pairs n) n o h.rep (wrote l) c i;
          counted = taken_over (slot_at words) (slot_at (put words s m v)) s n (wrote l) a ∙ h.counted;
        }

  -- ---- all words zero

  pub stands_none : (words : List ℕ) → length words ≡ width * n → Stands (replicate (length words) 0) n 0 (λ m. none)
  stands_none words e = record {
    whole = length-replicate (length words) 0 ∙ e;
    rep = rep_none (pairs n) n o (slot_at (replicate (length words) 0)) (all_free (length words));
    counted = none_taken (slot_at (replicate (length words) 0)) n (all_free (length words));
  }

-- ---- growing

module _ {n count : ℕ} {f : Name → Option Value} (old into : List ℕ) (z : Size n) (h : Stands old n count f) (z' : Size (2 * n)) (e : length into ≡ width * (2 * n)) where
  abbrev parts : ℕ → Name → Option Value
  parts k = part (pairs n) n (orders z) (slot_at old) f h.rep k

  -- one old slot more
  move : (k : ℕ) (x : Slot) (words : List ℕ) → k < n → slot_at old k ≡ x
      → Stands words (2 * n) (taken (slot_at old) k) (parts k) → Stands (moved x words) (2 * n) (taken (slot_at old) (suc k)) (parts (suc k))
  unfolding moved seated taken
  move k free words l i s = record {
    whole = s.whole;
    rep = rep_as (pairs (2 * n)) (2 * n) s.rep (part_free (pairs n) n (orders z) (slot_at old) f h.rep k i);
    counted = omega (arith, s.counted, ap weight i, weight_free);
  }
  move k (held m v) words l i s =
      let (a, j) = absent z' s m (part_new (pairs n) n (orders z) (slot_at old) f h.rep k l i) (omega (arith, taken_le (slot_at old) k)) in
      let t = store_new z' s (key_held old k i) (part_held (pairs n) n (orders z) (slot_at old) f h.rep k l i) j in
      rw (first_empty_at z' words m s.whole j) (record { whole = t.whole; rep = t.rep; counted = t.counted ∙ omega (arith, ap weight i, weight_held m v) })

  carry : (k : ℕ) → k ≤ n → Stands (carried old k (replicate (length into) 0)) (2 * n) (taken (slot_at old) k) (parts k)
  unfolding carried taken
  carry zero l =
      let s = stands_none z' into e in
      record {
        whole = s.whole;
        rep = rep_as (pairs (2 * n)) (2 * n) s.rep (λ m. sym (part_zero (pairs n) n (orders z) (slot_at old) f h.rep m));
        counted = s.counted;
      }
  carry (suc k) l = move k (slot_at old k) (carried old k (replicate (length into) 0)) l refl (carry k (omega arith))

  pub stands_grown : Stands (carried old n (replicate (length into) 0)) (2 * n) count f
  stands_grown =
      let s = carry n (omega arith) in
      record {
        whole = s.whole;
        rep = rep_as (pairs (2 * n)) (2 * n) s.rep (part_all (pairs n) n (orders z) (slot_at old) f h.rep);
        counted = s.counted ∙ h.counted;
      }
