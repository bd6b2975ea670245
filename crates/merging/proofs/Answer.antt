-- Answers of a lookup: nothing is not a rule, and a rule is one. Assumes nothing.
use mathlib.Core.Path.{◌≡◌, refl}
use Prim.Native.Nat.{ℕ}
use native.Mathlib.Omega.{arith}
use Rattle.merging.specs.Merging.{Answer, nothing, rule}

-- by cases: there is no rule, or there is one
pub by_answer : {A : Type 0} (x : Answer) → (x ≡ nothing → A) → ((p m : ℕ) → x ≡ rule p m → A) → A
by_answer nothing f g = f refl
by_answer (rule p m) f g = g p m refl

-- no rule is not a rule
pub no_rule : {A : Type 0} {x : Answer} {p m : ℕ} → x ≡ nothing → x ≡ rule p m → A
no_rule {A} {x} {p} {m} e f = absurd (let z : ◌≡◌ {A = ℕ} 0 1 = cc in omega arith)

-- two places with the same answer have the same rule
pub same_rule : {x : Answer} {p m q n : ℕ} → x ≡ rule p m → x ≡ rule q n → (p ≡ q) × (m ≡ n)
same_rule {x} {p} {m} {q} {n} e f = ((cc), (cc))
