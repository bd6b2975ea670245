-- No second outcome: what a promise says determines the answer. Assumes nothing.
use Rattle.std.proofs.Common.{◌≡◌, ℕ, ◌*◌, ◌%◌, ◌^◌, Bool, cond, eqb, leb, List, Option, sym, refl, ap, ◌∙◌, ap₂}
use Rattle.token.specs.declared.Refusal.{Refusal}
use Rattle.token.specs.declared.Refusal.TheVariants.{CountTooLarge, WrongShape, IdTooLarge, PairRepeated, TooFar, ByteMissing, KeyZero, AlreadyStored, LoadLimit, NoEmptySlot, OtherSlot}
use Rattle.token.specs.declared.TokenId.{TokenId}
use Rattle.token.specs.Limits.{top, no_id}
use Rattle.token.specs.Ids.{first_too_large, index_in}
use Rattle.token.specs.Sizes.{power_within}
use Rattle.token.specs.Refusals.{number, place, verdict}

-- two answers that are both the one that the promise gives are the same
pub only : {A : Type 0} {x y z : A} → x ≡ z → y ≡ z → x ≡ y
only p q = p ∙ sym q

-- ---- a refusal is its number and place

back : ℕ → ℕ → Refusal
back k p =
    cond (eqb k 1) CountTooLarge (cond (eqb k 2) WrongShape (cond (eqb k 3) (IdTooLarge p) (cond (eqb k 4) (PairRepeated p)
    (cond (eqb k 5) (TooFar p) (cond (eqb k 6) (ByteMissing p) (cond (eqb k 7) KeyZero (cond (eqb k 8) (AlreadyStored p)
    (cond (eqb k 9) LoadLimit (cond (eqb k 10) NoEmptySlot (OtherSlot p))))))))))

back_is : (f : Refusal) → back (number f) (place f) ≡ f
unfolding back
back_is CountTooLarge = refl
back_is WrongShape = refl
back_is (IdTooLarge i) = refl
back_is (PairRepeated r) = refl
back_is (TooFar r) = refl
back_is (ByteMissing b) = refl
back_is KeyZero = refl
back_is (AlreadyStored s) = refl
back_is LoadLimit = refl
back_is NoEmptySlot = refl
back_is (OtherSlot s) = refl

-- two refusals with the same number and place are the same
pub only_refusal : (f g : Refusal) → verdict f ≡ verdict g → f ≡ g
only_refusal f g e =
    let n : number f ≡ number g = cc in
    let p : place f ≡ place g = cc in
    sym (back_is f) ∙ ap₂ back n p ∙ back_is g

-- ---- the calls

only_id : (s t : TokenId) → s.0 ≡ t.0 → s ≡ t
only_id s t e = ap {B = TokenId} (λ (x : ℕ). record { 0 = x }) e

pub only_TokenId_new : (value : ℕ) (s t : TokenId) → s.0 ≡ value → t.0 ≡ value → s ≡ t
only_TokenId_new value s t p q = only_id s t (only p q)

pub only_TokenId_none : (s t : TokenId) → s.0 ≡ no_id → t.0 ≡ no_id → s ≡ t
only_TokenId_none s t p q = only_id s t (only p q)

pub only_TokenId_fits : (id : TokenId) (s t : Bool) → s ≡ leb id.0 top → t ≡ leb id.0 top → s ≡ t
only_TokenId_fits id s t p q = only p q

pub only_Refusal_number : (f : Refusal) (s t : ℕ) → s ≡ number f → t ≡ number f → s ≡ t
only_Refusal_number f s t p q = only p q

pub only_Refusal_place : (f : Refusal) (s t : ℕ) → s ≡ place f → t ≡ place f → s ≡ t
only_Refusal_place f s t p q = only p q

pub only_first_too_large : (row : List ℕ) (s t : Option ℕ) → s ≡ index_in row (first_too_large row) → t ≡ index_in row (first_too_large row) → s ≡ t
only_first_too_large row s t p q = only p q

pub only_low_product : (a b s t : ℕ) → s ≡ (a * b) % 2 ^ 64 → t ≡ (a * b) % 2 ^ 64 → s ≡ t
only_low_product a b s t p q = only p q

pub only_is_power_within : (n least most : ℕ) (s t : Bool) → s ≡ power_within least most n → t ≡ power_within least most n → s ≡ t
only_is_power_within n least most s t p q = only p q
