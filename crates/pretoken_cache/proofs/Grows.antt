-- Growing, slot by slot. Assumes nothing.
use mathlib.Core.Path.{◌≡◌, refl}
use mathlib.Core.Bool.{true, ◌&&◌}
use mathlib.Core.List.{List}
use Prim.Native.Nat.{ℕ, ◌+◌, ◌*◌}
use native.Mathlib.Numerals.{add-one}
use native.Mathlib.Omega.{arith}
use lib.Dec.{eqb}
use lib.ListN.{length}
use borrow.Author.Tests.{eqb-true, eq-eqb}
use Rattle.pretoken_cache.specs.declared.Name.{Name}
use Rattle.pretoken_cache.specs.declared.Value.{Value}
use Rattle.pretoken_cache.specs.Slot.{Slot, free, held, slot_at}
use Rattle.pretoken_cache.specs.Walk.{Walk, hit, empty, full}
use Rattle.pretoken_cache.specs.Table.{shaped, slots, first_empty, weight, taken}
use Rattle.pretoken_cache.specs.Calls.{seated, moved, carried, fits}
use Rattle.std.specs.Cmp.{both_ways}
use Rattle.pretoken_cache.proofs.Bools.{both}
use Rattle.pretoken_cache.proofs.Names.{length_put}
use Rattle.pretoken_cache.proofs.Sizes.{shape, shaped_as}

-- a lent table fits by its slots
pub fits_is : (words into : List ℕ) → fits words into ≡ (shaped words && (shaped into && eqb (slots into) (2 * slots words)))
unfolding fits
fits_is words into =
    both_ways (fits words into) (shaped words && (shaped into && eqb (slots into) (2 * slots words)))
    (λ e. let (ab, c) = both (shaped words && shaped into) (eqb (length into) (2 * length words)) e in
    let (a, b) = both (shaped words) (shaped into) ab in
    rw (a, b, eq-eqb (slots into) (2 * slots words) (omega (arith, (shape words a).0, (shape into b).0, eqb-true (length into) (2 * length words) c))))
    (λ e. let (a, bc) = both (shaped words) (shaped into && eqb (slots into) (2 * slots words)) e in
    let (b, c) = both (shaped into) (eqb (slots into) (2 * slots words)) bc in
    rw (a, b, eq-eqb (length into) (2 * length words) (omega (arith, (shape words a).0, (shape into b).0, eqb-true (slots into) (2 * slots words) c))))

length_seated : (into : List ℕ) (m : Name) (v : Value) (w : Walk) → length (seated into m v w) ≡ length into
unfolding seated
length_seated into m v (hit s) = refl
length_seated into m v (empty s) = length_put into s m v
length_seated into m v full = refl

length_moved : (x : Slot) (into : List ℕ) → length (moved x into) ≡ length into
unfolding moved
length_moved free into = refl
length_moved (held m v) into = length_seated into m v (first_empty into m.h)

pub shaped_moved : (x : Slot) (into : List ℕ) → shaped into ≡ true → shaped (moved x into) ≡ true
shaped_moved x into f = shaped_as (moved x into) into (length_moved x into) f

pub carried_next : (old : List ℕ) (s : ℕ) (into : List ℕ) → carried old (s + 1) into ≡ moved (slot_at old s) (carried old s into)
unfolding carried
carried_next old s into = rw add-one

pub taken_next : (t : ℕ → Slot) (s : ℕ) → taken t (s + 1) ≡ weight (t s) + taken t s
unfolding taken
taken_next t s = rw add-one
