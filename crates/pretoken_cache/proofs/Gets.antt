-- What a probe answers, by the two slots of the home pair. Assumes nothing.
use mathlib.Core.Path.{◌≡◌, refl, sym, ap, ◌∙◌}
use mathlib.Core.Logic.{◌≢◌}
use mathlib.Core.Bool.{true, false}
use mathlib.Core.List.{List, [], ◌∷◌}
use Prim.Native.Nat.{ℕ, ◌+◌, ◌<◌}
use native.Mathlib.Omega.{arith}
use lib.Bits.{bit_and}
use Rattle.pretoken_cache.specs.declared.Name.{Name}
use Rattle.pretoken_cache.specs.declared.Value.{Value}
use Rattle.pretoken_cache.specs.Slot.{same, keyless, name_at, value_at, slot_at}
use Rattle.pretoken_cache.specs.Walk.{Sight, mine, Walk}
use Rattle.pretoken_cache.specs.Table.{slots, shaped, home, sight, near, pair_mask}
use Rattle.pretoken_cache.specs.Calls.{probed, glimpsed}
use Rattle.pretoken_cache.proofs.Walks.{Walks, over, first, second, third, fourth, next, walks, walk_is}
use Rattle.pretoken_cache.proofs.Sizes.{Size, shape, mask_home}
use Rattle.pretoken_cache.proofs.Order.{home_even}
use Rattle.pretoken_cache.proofs.Turns.{sees_mine, sees_not_mine}

-- ---- the home pair

-- a pair with no match shows nothing
glimpsed_none : (words : List ℕ) {see : ℕ → Sight} {i : ℕ} {w : Walk} → Walks see (i ∷ []) w → see i ≢ mine → see (i + 1) ≢ mine → glimpsed words w ≡ probed 0 0 false
unfolding glimpsed
glimpsed_none words (first p) a b = absurd (a p)
glimpsed_none words (second n p) a b = absurd (b p)
glimpsed_none words (third p n) a b = refl
glimpsed_none words (fourth p r) a b = refl
glimpsed_none words (next p r over) a b = refl

-- what the two tests of the home pair say
module _ (words : List ℕ) (ok : shaped words ≡ true) (m : Name) {mask : ℕ} (e : mask ≡ pair_mask (slots words)) where
  z : Size (slots words)
  z = (shape words ok).1

  abbrev i : ℕ
  i = bit_and m.h mask

  at_home : i ≡ home (slots words) m.h
  at_home = ap (bit_and m.h) e ∙ mask_home z m.h

  pub home_fits : i + 1 < slots words
  home_fits = rw at_home (let h = home_even z m.h in omega (arith, h.inside, h.even, z.even))

  by_pair : {w : Walk} → Walks (λ s. sight m (slot_at words s)) (i ∷ []) w → glimpsed words w ≡ glimpsed words (near words m)
  unfolding near
  by_pair h = ap (glimpsed words) (sym (walk_is (rw at_home at h)))

  module _ {n : Name} (r : n ≡ name_at words i) where
    pub probe_first : keyless m ≡ false → same m n ≡ true → {v : Value} → v ≡ value_at words i → probed v.val v.ext true ≡ glimpsed words (near words m)
    unfolding glimpsed
    probe_first k a e = rw e (by_pair (first (sees_mine words i m r k a)))

    module _ (a : same m n ≡ false) {n' : Name} (r' : n' ≡ name_at words (i + 1)) where
      pub probe_second : keyless m ≡ false → same m n' ≡ true → {v : Value} → v ≡ value_at words (i + 1) → probed v.val v.ext true ≡ glimpsed words (near words m)
      unfolding glimpsed
      probe_second k b e = rw e (by_pair (second (sees_not_mine words i m r a) (sees_mine words (i + 1) m r' k b)))

      pub probe_none : same m n' ≡ false → probed 0 0 false ≡ glimpsed words (near words m)
      probe_none b =
          let h = walks {see = λ s. sight m (slot_at words s)} (i ∷ []) in
          sym (glimpsed_none words h (sees_not_mine words i m r a) (sees_not_mine words (i + 1) m r' b)) ∙ by_pair h
