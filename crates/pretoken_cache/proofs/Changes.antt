-- What a store leaves. Assumes nothing.
use Rattle.std.proofs.Common.{◌≡◌, ℕ, ◌+◌, Bool, true, false, List, refl, Result, Ok}
use Rattle.token.specs.declared.Refusal.{Refusal}
use Rattle.pretoken_cache.specs.declared.Name.{Name}
use Rattle.pretoken_cache.specs.declared.ShortPretokenCache.{ShortPretokenCache}
use Rattle.pretoken_cache.specs.declared.Value.{Value}
use Rattle.pretoken_cache.specs.Slot.{put}
use Rattle.pretoken_cache.specs.Walk.{Walk, hit, empty}
use Rattle.pretoken_cache.specs.Table.{slots, laden}
use Rattle.pretoken_cache.specs.Calls.{placed, replaced}
use Rattle.pretoken_cache.specs.Told.{Does}

module _ (words : List ℕ) (count : ℕ) (m : Name) (v : Value) {w : Walk} {s : ℕ} {words' : List ℕ} {r : Result ShortPretokenCache Refusal} where
  -- a new name, at an empty slot that is right, below the load limit
  pub placed_right : (right : ℕ → Bool) → laden (slots words) count ≡ false → w ≡ empty s → right s ≡ true → words' ≡ put words s m v
      → r ≡ Ok (record { len = count + 1 }) → Does (placed right count words m v w) count r words'
  unfolding placed
  placed_right right l e f h done = rw (done, e, l, f) (record { answer = refl; counted = refl; left = h })

  -- a stored name is overwritten
  pub replaced_hit : w ≡ hit s → words' ≡ put words s m v → r ≡ Ok (record { len = count }) → Does (replaced count words m v w) count r words'
  unfolding replaced
  replaced_hit e h done = rw (done, e) (record { answer = refl; counted = refl; left = h })
