-- The invariant: what is gathered, with the product that is left, is the whole product. Assumes nothing.
use Rattle.std.proofs.Common.{◌≡◌, ℕ, ◌+◌, ◌*◌, ◌%◌, ◌^◌, sym, ap, ◌∙◌, add-zero, mod-eq_of_lt, one-mul, mul-zero, zero-mul, arith}
use lib.Bits.{bit_and, and_mask}
use Rattle.token.proofs.Mul.{turn}
use Rattle.token.proofs.low_product.Goals as goal
use Rattle.token.proofs.low_product.Goals.{then-y-eq1, else-y-eq1}

pub loop-y-init : goal.loop-y-init
loop-y-init c = (omega arith, ap (λ (n : ℕ). n % 2 ^ 64) (omega arith))

pub loop-y-preserved : goal.loop-y-preserved
loop-y-preserved c =
    let l = c.loop-y in
    let bit : bit_and l.y 1 ≡ l.y % 2 = and_mask l.y 1 in
    let acc : c.if-y-eq1.acc ≡ (l.acc + l.y % 2 * l.x) % 2 ^ 64 =
    elim c.if-y-eq1.branch [
      | then-y-eq1 w ↦
          let one : l.y % 2 ≡ 1 = sym bit ∙ w.if-y-eq1.true in
          w.acc-is
          ∙ ap (λ (n : ℕ). (l.acc + n) % 2 ^ 64) (sym (ap (λ (n : ℕ). n * l.x) one ∙ one-mul l.x))
      | else-y-eq1 w ↦
          let q = w.if-y-eq1.false in
          let none : l.y % 2 ≡ 0 = omega (arith, bit) in
          w.acc-is
          ∙ sym (ap (λ (n : ℕ). (l.acc + n) % 2 ^ 64) (ap (λ (n : ℕ). n * l.x) none ∙ zero-mul l.x)
          ∙ ap (λ (n : ℕ). n % 2 ^ 64) (add-zero l.acc)
          ∙ mod-eq_of_lt l.invariant.0)
    ] in (
      omega (arith, acc),
      simp acc (turn (2 ^ 64) l.acc l.x l.y ∙ l.invariant.1),
    )

pub returns : goal.returns
returns c =
    let l = c.loop-y in
    let z : l.y ≡ 0 = omega arith in
    sym (mod-eq_of_lt l.invariant.0)
    ∙ ap (λ (n : ℕ). n % 2 ^ 64) (sym (ap (λ (n : ℕ). l.acc + l.x * n) z ∙ ap (λ (n : ℕ). l.acc + n) (mul-zero l.x) ∙ add-zero l.acc))
    ∙ l.invariant.1
