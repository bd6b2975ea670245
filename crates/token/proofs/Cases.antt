-- Cases on a test and on an equation. Assumes nothing.
use Rattle.std.proofs.Common.{◌≡◌, ℕ, Bool, true, false, eqb, ◌≢◌, refl, eqb-true}
use borrow.Author.Tests.{eqb-false}

pub by_test : {A : Type 0} (t : Bool) → (t ≡ true → A) → (t ≡ false → A) → A
by_test true f g = f refl
by_test false f g = g refl

pub by_equal : {A : Type 0} (x y : ℕ) → (x ≡ y → A) → (x ≢ y → A) → A
by_equal x y f g = by_test (eqb x y) (λ e. f (eqb-true x y e)) (λ e. g (eqb-false x y e))
