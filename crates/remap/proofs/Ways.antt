-- The ways out of `from_byte_vocab`: each keeps the promise. Assumes nothing.
use Rattle.std.proofs.Common.{◌≡◌, ℕ, ◌≤◌, ◌<◌, true, false, List, length, lt-ltb, le-ltb}
use Rattle.token.specs.Limits.{most_entries}
use Rattle.token.specs.Refusals.{verdict}
use Rattle.token.specs.declared.Refusal.{Refusal}
use Rattle.token.specs.declared.Refusal.TheVariants as refusal
use Rattle.remap.specs.Vocabulary.{misshapen}
use Rattle.remap.specs.Map.{found, missing}
use Rattle.remap.specs.Calls.{ids, verdict_of, Remaps}
use Rattle.remap.specs.Steps.{refused_by}
use Rattle.remap.specs.declared.Remapped.{Remapped}

module _ (bytes ends : List ℕ) where
  refuses : {r : Remapped} (why : Refusal) → verdict_of bytes ends ≡ verdict why → r ≡ refused_by why → Remaps bytes ends r
  refuses why v e = record { says = rw (e, v); maps = rw (e, v); flags = rw (e, v) }

  pub too_many : {r : Remapped} → most_entries < length ends → r ≡ refused_by refusal.CountTooLarge → Remaps bytes ends r
  unfolding verdict_of
  too_many h e = refuses refusal.CountTooLarge (rw (lt-ltb most_entries (length ends) h)) e

  pub wrong_shape : {r : Remapped} → length ends ≤ most_entries → misshapen (length bytes) ends ≡ true
      → r ≡ refused_by refusal.WrongShape → Remaps bytes ends r
  unfolding verdict_of
  wrong_shape few h e = refuses refusal.WrongShape (rw (le-ltb most_entries (length ends) few, h)) e

  pub lacks_byte : {r : Remapped} → length ends ≤ most_entries → misshapen (length bytes) ends ≡ false
      → (b : ℕ) → missing 0 (ids bytes ends) ≡ found b → r ≡ refused_by (refusal.ByteMissing b) → Remaps bytes ends r
  unfolding verdict_of
  lacks_byte few whole b h e = refuses (refusal.ByteMissing b) (rw (le-ltb most_entries (length ends) few, whole, h)) e
