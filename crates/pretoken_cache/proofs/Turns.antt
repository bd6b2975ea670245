-- A loop that walks: what is left of the walk at each turn. Assumes nothing.
use mathlib.Core.Path.{◌≡◌, refl, sym, ap, ◌∙◌}
use mathlib.Core.Logic.{◌≢◌}
use mathlib.Core.Bool.{Bool, true, false, ◌&&◌, cond, false≢true}
use mathlib.Core.List.{List, ◌∷◌}
use Prim.Native.Nat.{ℕ, zero, suc, ◌+◌, ◌-◌, ◌/◌, ◌%◌, ◌<◌}
use native.Mathlib.Omega.{arith}
use lib.Bits.{bit_and}
use Rattle.pretoken_cache.specs.declared.Name.{Name}
use Rattle.pretoken_cache.specs.Slot.{same, keyless, name_at, slot_at}
use Rattle.pretoken_cache.specs.Walk.{Sight, vacant, mine, other, Walk, hit, empty, full, walk, around}
use Rattle.pretoken_cache.specs.Table.{slots, shaped, order, sight, seek, blind, first_empty}
use Rattle.token.proofs.Cases.{by_test}
use Rattle.pretoken_cache.proofs.Walks.{Walks, first, second, third, fourth, next, walks, walk_is, vacant≢mine, other≢mine}
use Rattle.pretoken_cache.proofs.Names.{same_eq, blind≢mine}
use Rattle.pretoken_cache.proofs.Sizes.{Size, shape, mask_mod, mask_home}
use Rattle.pretoken_cache.proofs.Order.{Even, home_even, even_next}

-- ---- what the tests of a slot say, of its name n

module _ (words : List ℕ) (s : ℕ) (m : Name) {n : Name} (r : n ≡ name_at words s) where
  pub sees_mine : keyless m ≡ false → same m n ≡ true → sight m (slot_at words s) ≡ mine
  unfolding slot_at sight
  sees_mine k e = rw (← r) (rw (sym (ap keyless (same_eq m n e)) ∙ k, e))

  pub sees_not_mine : same m n ≡ false → sight m (slot_at words s) ≢ mine
  unfolding slot_at sight
  sees_not_mine e = rw (← r) (by_test (keyless n) (λ k. rw k vacant≢mine) (λ k. rw (k, e) other≢mine))

  sees_vacant : keyless n ≡ true → sight m (slot_at words s) ≡ vacant
  unfolding slot_at sight
  sees_vacant k = rw (← r, k)

  sees_other : keyless n ≡ false → same m n ≡ false → sight m (slot_at words s) ≡ other
  unfolding slot_at sight
  sees_other k e = rw (← r, k, e)

  -- with no look for matches

  blind_vacant : keyless n ≡ true → blind (slot_at words s) ≡ vacant
  unfolding slot_at blind
  blind_vacant k = rw (← r, k)

  blind_other : keyless n ≡ false → blind (slot_at words s) ≡ other
  unfolding slot_at blind
  blind_other k = rw (← r, k)

-- ---- the walk of a name m, which is sought or not

abbrev pub sees : Bool → List ℕ → Name → ℕ → Sight
sees b words m s = cond b (sight m (slot_at words s)) (blind (slot_at words s))

abbrev pub stops_at : Bool → List ℕ → Name → Walk
stops_at b words m = cond b (seek words m) (first_empty words m.h)

stops_by : (b : Bool) (words : List ℕ) (m : Name) → stops_at b words m ≡ walk (sees b words m) (order (slots words) m.h)
unfolding seek first_empty
stops_by true words m = refl
stops_by false words m = refl

module _ (words : List ℕ) (s : ℕ) (m : Name) {n : Name} (r : n ≡ name_at words s) where
  is_mine : (b : Bool) → keyless m ≡ false → b && same m n ≡ true → sees b words m s ≡ mine
  is_mine true k e = sees_mine words s m r k e
  is_mine false k e = absurd (false≢true e)

  is_not : (b : Bool) → b && same m n ≡ false → sees b words m s ≢ mine
  is_not true e = sees_not_mine words s m r e
  is_not false e = blind≢mine (slot_at words s)

  is_vacant : (b : Bool) → keyless n ≡ true → sees b words m s ≡ vacant
  is_vacant true k = sees_vacant words s m r k
  is_vacant false k = blind_vacant words s m r k

  is_other : (b : Bool) → keyless n ≡ false → b && same m n ≡ false → sees b words m s ≡ other
  is_other true k e = sees_other words s m r k e
  is_other false k e = blind_other words s m r k

-- ---- the turns

around_step : (n i left : ℕ) → 0 < left → around n left i ≡ i ∷ around n (left - 1) ((i + 2) % n)
unfolding around
around_step n i zero l = absurd (omega arith)
around_step n i (suc k) l = let e : suc k - 1 ≡ k = omega arith in rw e

-- at the pair of slot i, with `left` pairs to go, the walk that is left stops where the whole walk does
pub record Turn (b : Bool) (words : List ℕ) (m : Name) (i left : ℕ) : Type 0 where
  pub place : Even (slots words) i
  pub rest : walk (sees b words m) (around (slots words) left i) ≡ stops_at b words m

module _ (b : Bool) (words : List ℕ) (ok : shaped words ≡ true) (m : Name) where
  z : Size (slots words)
  z = (shape words ok).1

  pub turn_start : {n : ℕ} → n ≡ slots words → Turn b words m (bit_and m.h (n - 2)) (n / 2)
  unfolding order
  turn_start e = rw (e, mask_home z m.h) (record { place = home_even z m.h; rest = sym (stops_by b words m) })

  -- at a turn
  module _ {i left : ℕ} (t : Turn b words m i left) where
    pub turn_fits : i + 1 < slots words
    turn_fits = omega (arith, t.place.inside, t.place.even, z.even)

    pub turn_over : left ≡ 0 → full ≡ stops_at b words m
    unfolding around walk
    turn_over e = rw e at t.rest

    module _ (pos : 0 < left) where
      -- the walk that is left goes the way that is found
      goes : {v : Walk} → Walks (sees b words m) (i ∷ around (slots words) (left - 1) ((i + 2) % slots words)) v → v ≡ stops_at b words m
      goes h = sym (walk_is h) ∙ ap (walk (sees b words m)) (sym (around_step (slots words) i left pos)) ∙ t.rest

      -- by the names of the two slots
      module _ {n : Name} (r : n ≡ name_at words i) where
        pub turn_first : keyless m ≡ false → b && same m n ≡ true → hit i ≡ stops_at b words m
        turn_first k e = goes (first (is_mine words i m r b k e))

        module _ (e : b && same m n ≡ false) {n' : Name} (r' : n' ≡ name_at words (i + 1)) where
          pub turn_second : keyless m ≡ false → b && same m n' ≡ true → hit (i + 1) ≡ stops_at b words m
          turn_second k f = goes (second (is_not words i m r b e) (is_mine words (i + 1) m r' b k f))

          module _ (f : b && same m n' ≡ false) where
            pub turn_third : keyless n ≡ true → empty i ≡ stops_at b words m
            turn_third k = goes (third (is_vacant words i m r b k) (is_not words (i + 1) m r' b f))

            module _ (k : keyless n ≡ false) where
              pub turn_fourth : keyless n' ≡ true → empty (i + 1) ≡ stops_at b words m
              turn_fourth l = goes (fourth (is_other words i m r b k e) (is_vacant words (i + 1) m r' b l))

              pub turn_next : keyless n' ≡ false → Turn b words m (bit_and (i + 2) (slots words - 1)) (left - 1)
              turn_next l =
                  rw (mask_mod z (i + 2)) (record {
                    place = even_next z t.place;
                    rest = goes (next (is_other words i m r b k e) (is_other words (i + 1) m r' b l f) (walks (around (slots words) (left - 1) ((i + 2) % slots words))));
                  })
