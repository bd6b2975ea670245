-- Sentences of the rules that follow from the definitions. Assumes nothing.
use mathlib.Core.Path.{◌≡◌, refl, ap}
use mathlib.Core.Bool.{false, ◌&&◌}
use mathlib.Core.List.{List}
use Prim.Native.Nat.{ℕ, ◌*◌}
use native.Mathlib.Omega.{arith}
use lib.Dec.{eqb}
use lib.ListN.{length}
use borrow.Author.Tests.{eqb-true, eq-eqb, le-ltb}
use Rattle.pretoken_cache.specs.declared.Name.{Name}
use Rattle.pretoken_cache.specs.declared.Value.{Value}
use Rattle.pretoken_cache.specs.Limits.{most_slots}
use Rattle.pretoken_cache.specs.Walk.{Walk, hit, empty, full}
use Rattle.pretoken_cache.specs.Table.{slots, shaped, seek, laden}
use Rattle.pretoken_cache.specs.Calls.{done, unfit, zero_key, placed, insert_at, fits}
use Rattle.token.proofs.Cases.{by_test}
use Rattle.pretoken_cache.proofs.Bools.{both}
use Rattle.pretoken_cache.proofs.Sizes.{shape}
use Rattle.pretoken_cache.proofs.Bars.{refuses≢done, Open}

-- ---- placing at a proposed slot

-- the name is absent and s is the first empty slot of its walk, and the load allows it
pub record Placeable (count : ℕ) (words : List ℕ) (s : ℕ) (m : Name) : Type 0 where
  pub absent : seek words m ≡ empty s
  pub room : laden (slots words) count ≡ false

-- past 1, 2 and 7, it succeeds exactly then
module _ (count : ℕ) (words : List ℕ) (s : ℕ) (m : Name) (v : Value) (o : Open count (shaped words) m) where
  past : insert_at count words s m v ≡ placed (λ e. eqb e s) count words m v (seek words m)
  unfolding insert_at unfit zero_key
  past = rw (le-ltb most_slots count o.few, o.fits, o.key)

  pub placed_if : Placeable count words s m → (insert_at count words s m v).answer ≡ done
  unfolding placed
  placed_if p = rw (past, p.absent, p.room, eq-eqb s s refl)

  only_if : (w : Walk) → (placed (λ e. eqb e s) count words m v w).answer ≡ done → (w ≡ empty s) × (laden (slots words) count ≡ false)
  unfolding placed
  only_if (hit i) e = refuses≢done e
  only_if (empty i) e =
      by_test (laden (slots words) count) (λ l. refuses≢done (rw l at e))
      (λ l. by_test (eqb i s) (λ q. (ap empty (eqb-true i s q), l)) (λ q. refuses≢done (rw (l, q) at e)))
  only_if full e = by_test (laden (slots words) count) (λ l. refuses≢done (rw l at e)) (λ l. refuses≢done (rw l at e))

  pub placed_only_if : (insert_at count words s m v).answer ≡ done → Placeable count words s m
  placed_only_if e = let (a, l) = only_if (seek words m) (rw past at e) in record { absent = a; room = l }

-- ---- growing

-- the largest table never grows
pub largest_stays : (words into : List ℕ) → slots words ≡ most_slots → fits words into ≡ false
unfolding fits
largest_stays words into e =
    by_test (fits words into)
    (λ f. let (ab, c) = both (shaped words && shaped into) (eqb (length into) (2 * length words)) f in
    let (a, b) = both (shaped words) (shaped into) ab in
    let (l, z) = shape into b in
    absurd (omega (arith, eqb-true (length into) (2 * length words) c, (shape words a).0, z.most)))
    (λ f. f)
