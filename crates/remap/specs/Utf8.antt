-- Which bytes a text of UTF-8 can have. Assumes nothing.
use Rattle.std.specs.Prelude.{Bool, false, not, ◌||◌, List, [], ◌∷◌, ℕ, eqb}

-- is the number in the list?
abbrev pub among : ℕ → List ℕ → Bool
among b [] = false
among b (x ∷ xs) = eqb b x || among b xs

-- C0, C1 and F5 to FF: the thirteen bytes that UTF-8 never uses (RFC 3629, section 1)
abbrev pub unused : List ℕ
unused = 0xC0 ∷ 0xC1 ∷ 0xF5 ∷ 0xF6 ∷ 0xF7 ∷ 0xF8 ∷ 0xF9 ∷ 0xFA ∷ 0xFB ∷ 0xFC ∷ 0xFD ∷ 0xFE ∷ 0xFF ∷ []

-- a byte of UTF-8
unfoldable pub utf8 : ℕ → Bool
utf8 b = not (among b unused)
