-- What the code's tests say of a view. Assumes nothing.
use mathlib.Core.Path.{◌≡◌}
use mathlib.Core.Bool.{true, ◌&&◌}
use mathlib.Core.List.{List}
use Prim.Native.Nat.{ℕ, ◌+◌, ◌*◌}
use native.Mathlib.Omega.{arith}
use lib.Dec.{eqb, leb}
use lib.ListN.{length}
use borrow.Author.Tests.{eqb-true, eq-eqb, le-leb}
use Rattle.pretoken_cache.specs.Limits.{most_slots}
use Rattle.pretoken_cache.specs.Slot.{width}
use Rattle.pretoken_cache.specs.Table.{slots, proper, shaped, pair_mask}
use Rattle.pretoken_cache.specs.Calls.{viewed}
use Rattle.std.specs.Cmp.{both_ways}
use Rattle.pretoken_cache.proofs.Bools.{both}
use Rattle.pretoken_cache.proofs.Sizes.{Size, proper_size, size_proper, shape, shape_is, slots_are}

module _ (mask : ℕ) (words : List ℕ) where
  pub view_shape : viewed mask words ≡ true → (shaped words ≡ true) × (mask ≡ pair_mask (slots words))
  unfolding viewed
  view_shape e =
      let (a, b) = both (shaped words) (eqb mask (pair_mask (slots words))) e in
      (a, eqb-true mask (pair_mask (slots words)) b)

  -- a view is one of words of mask + 2 slots
  view_is : viewed mask words ≡ true → (length words ≡ width * (mask + 2)) × Size (mask + 2)
  view_is e =
      let (a, b) = view_shape e in
      let (l, z) = shape words a in
      let i : slots words ≡ mask + 2 = omega (arith, b, z.least) in
      (omega arith, rw i at z)

  -- it is seen with no division
  seen_by : length words ≡ width * (mask + 2) → Size (mask + 2) → viewed mask words ≡ true
  unfolding viewed
  seen_by l z = rw (shape_is words l z, eq-eqb mask (pair_mask (slots words)) (omega (arith, slots_are words l)))

  pub viewed_is : viewed mask words ≡ (leb mask most_slots && eqb (length words) (width * (mask + 2)) && proper (mask + 2))
  viewed_is =
      both_ways (viewed mask words) (leb mask most_slots && eqb (length words) (width * (mask + 2)) && proper (mask + 2))
      (λ e. let (a, z) = view_is e in rw (le-leb mask most_slots (omega (arith, z.most)), eq-eqb (length words) (width * (mask + 2)) a, size_proper z))
      (λ e. let (ab, c) = both (leb mask most_slots && eqb (length words) (width * (mask + 2))) (proper (mask + 2)) e in
      let (a, b) = both (leb mask most_slots) (eqb (length words) (width * (mask + 2))) ab in
      seen_by (eqb-true (length words) (width * (mask + 2)) b) (proper_size (mask + 2) c))
