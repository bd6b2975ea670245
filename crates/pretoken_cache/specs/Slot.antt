-- What a name is, and the words of a slot: of the definitions only these know a slot's layout. Assumes nothing.
use Rattle.std.specs.Prelude.{Bool, ◌&&◌, cond, List, [], ◌∷◌, ℕ, ◌+◌, ◌*◌, eqb, get_or}
use Rattle.std.proofs.lemmas.List.Edits.{sets}
use Rattle.pretoken_cache.specs.declared.Name.{Name}
use Rattle.pretoken_cache.specs.declared.Value.{Value}

-- ---- a name is key and h together

unfoldable pub same : Name → Name → Bool
same m n = eqb m.high n.high && eqb m.low n.low && eqb m.h n.h

-- both key words are zero
unfoldable pub keyless : Name → Bool
keyless m = eqb m.high 0 && eqb m.low 0

-- ---- a slot is so many words: key high, key low, val, ext, h

abbrev pub width : ℕ
width = 5

unfoldable pub row : Name → Value → List ℕ
row m v = m.high ∷ m.low ∷ v.val ∷ v.ext ∷ m.h ∷ []

-- word j of slot s
abbrev pub word : List ℕ → ℕ → ℕ → ℕ
word words s j = get_or words (width * s + j) 0

unfoldable pub name_at : List ℕ → ℕ → Name
name_at words s = record { high = word words s 0; low = word words s 1; h = word words s 4 }

unfoldable pub value_at : List ℕ → ℕ → Value
value_at words s = record { val = word words s 2; ext = word words s 3 }

pub data Slot : Type 0 where
  free : Slot
  held : Name → Value → Slot

-- empty means both key words zero
unfoldable pub slot_at : List ℕ → ℕ → Slot
slot_at words s = cond (keyless (name_at words s)) free (held (name_at words s) (value_at words s))

-- the words with an entry stored in slot s
unfoldable pub put : List ℕ → ℕ → Name → Value → List ℕ
put words s m v = sets words (width * s) (row m v)
