-- The thirteen bytes by ranges, and against the grammar of RFC 3629, each by one test at all bytes. Assumes nothing.
use Rattle.std.proofs.Common.{◌≡◌, refl, Bool, true, false, not, ◌&&◌, ◌||◌, ℕ, zero, suc, ◌<◌, arith, leb, ltb}
use mathlib.Core.Bool.{beq, false≢true}
use Rattle.token.proofs.Cases.{by_equal}
use Rattle.remap.specs.Utf8.{utf8}
use Rattle.remap.specs.Map.{all_bytes}

-- two tests agree at all numbers below n
abbrev agree : (ℕ → Bool) → (ℕ → Bool) → ℕ → Bool
agree f g zero = true
agree f g (suc n) = beq (f n) (g n) && agree f g n

both : (a b t : Bool) → (beq a b && t) ≡ true → (a ≡ b) × (t ≡ true)
both true true t e = (refl, e)
both false false t e = (refl, e)
both true false t e = absurd (false≢true e)
both false true t e = absurd (false≢true e)

agreed : (f g : ℕ → Bool) (n : ℕ) → agree f g n ≡ true → (b : ℕ) → b < n → f b ≡ g b
agreed f g zero e b l = absurd (omega arith)
agreed f g (suc n) e b l =
    let h = both (f n) (g n) (agree f g n) e in
    by_equal b n (λ e. rw e h.0) (λ ne. agreed f g n h.1 b (omega (arith, ne)))

-- below C0, or from C2 to F4
abbrev pub by_range : ℕ → Bool
by_range b = ltb b 0xC0 || not (ltb b 0xC2) && ltb b 0xF5

pub utf8_by_range : (b : ℕ) → b < all_bytes → utf8 b ≡ by_range b
unfolding utf8
utf8_by_range = agreed utf8 by_range all_bytes refl

-- from a to z
abbrev within : ℕ → ℕ → ℕ → Bool
within a z b = leb a b && leb b z

-- RFC 3629, section 4: the only byte of a form of one, the first of a form of two, three or four, or a tail
abbrev pub in_grammar : ℕ → Bool
in_grammar b = within 0x00 0x7F b || within 0xC2 0xDF b || within 0xE0 0xEF b || within 0xF0 0xF4 b || within 0x80 0xBF b

pub utf8_grammar : (b : ℕ) → b < all_bytes → utf8 b ≡ in_grammar b
unfolding utf8
utf8_grammar = agreed utf8 in_grammar all_bytes refl
