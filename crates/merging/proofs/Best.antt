-- `best` finds the best pair, and nothing exactly where no pair has a rule. Assumes nothing.
use mathlib.Core.Path.{◌≡◌, refl, subst}
use mathlib.Core.Logic.{inl, inr, ⊎_elim}
use mathlib.Core.Bool.{Bool, true, false, cond}
use mathlib.Core.List.{List, [], ◌∷◌}
use Prim.Native.Nat.{ℕ, zero, suc, ◌≤◌, ◌<◌}
use native.Mathlib.Nat.{eq-or-lt_of_le}
use native.Mathlib.Omega.{arith}
use borrow.Author.Tests.{ltb-true, ltb-false}
pub use Rattle.merging.proofs.Answer.{by_answer, no_rule, same_rule}
use Rattle.merging.specs.Merging.{Answer, nothing, rule, Lookup, ask, Before, Best, Stuck, Found, none, at, pick, best}

-- the first place comes before every place of no smaller priority
before_first : {p q j : ℕ} → p ≤ q → Before p 0 q j
before_first {p} {q} {j} h = ⊎_elim (λ e. inr (e, omega arith)) (λ l. inl l) (eq-or-lt_of_le h)

-- two that come before each other are one
before_antisym : {p i q j : ℕ} → Before p i q j → Before q j p i → (p ≡ q) × (i ≡ j)
before_antisym (inl g) (inl h) = omega arith
before_antisym (inl g) (inr h) = omega arith
before_antisym (inr g) (inl h) = omega arith
before_antisym (inr g) (inr h) = omega arith

-- the places may change, as long as they stay in order
pub before_places : {p q i j i' j' : ℕ} → (i ≤ j → i' ≤ j') → Before p i q j → Before p i' q j'
before_places f (inl l) = inl l
before_places f (inr (e, l)) = inr (e, f l)

module _ (look : Lookup) where
  -- what `best` has to be: the best pair, or nothing where no pair has a rule
  abbrev Right : List ℕ → Found → Type 0
  Right row none = Stuck look row
  Right row (at i p m) = Best look row i p m

  right_cond : (row : List ℕ) (t : Bool) (f g : Found) → (t ≡ true → Right row f) → (t ≡ false → Right row g) → Right row (cond t f g)
  right_cond row true f g x y = x refl
  right_cond row false f g x y = y refl

  module _ (a b : ℕ) (row : List ℕ) where
    stuck_cons : look a b ≡ nothing → Stuck look (b ∷ row) → Stuck look (a ∷ b ∷ row)
    stuck_cons e s zero = e
    stuck_cons e s (suc j) = s j

    -- the first pair is the best if no later one has a smaller priority
    best_first : (p m : ℕ) → look a b ≡ rule p m → ((j q n : ℕ) → ask look (b ∷ row) j ≡ rule q n → p ≤ q) → Best look (a ∷ b ∷ row) 0 p m
    best_first p m e rest = record { asked = e; least = least }
      where
        least : (j q n : ℕ) → ask look (a ∷ b ∷ row) j ≡ rule q n → Before p 0 q j
        least zero q n f = before_first (omega (arith, (same_rule e f).0))
        least (suc j) q n f = before_first (rest j q n f)

    -- the best of the later ones is the best if the first has a larger priority
    best_later : (i p m : ℕ) → Best look (b ∷ row) i p m → ((q n : ℕ) → look a b ≡ rule q n → p < q) → Best look (a ∷ b ∷ row) (suc i) p m
    best_later i p m s first = record { asked = s.asked; least = least }
      where
        least : (j q n : ℕ) → ask look (a ∷ b ∷ row) j ≡ rule q n → Before p (suc i) q j
        least zero q n f = inl (first q n f)
        least (suc j) q n f = before_places (omega arith) (s.least j q n f)

    right_pick : (x : Answer) (f : Found) → look a b ≡ x → Right (b ∷ row) f → Right (a ∷ b ∷ row) (pick x f)
    right_pick nothing none e s = stuck_cons e s
    right_pick nothing (at i p m) e s = best_later i p m s (λ q n f. no_rule e f)
    right_pick (rule p m) none e s = best_first p m e (λ j q n f. no_rule (s j) f)
    right_pick (rule p m) (at i q n) e s =
        right_cond (a ∷ b ∷ row) _ _ _
        (λ t. best_later i q n s (λ p' m' f. omega (arith, ltb-true q p t, (same_rule e f).0)))
        (λ t. best_first p m e (λ j q' n' f. let l = ltb-false q p t in ⊎_elim (λ k. omega arith) (λ k. omega arith) (s.least j q' n' f)))

  stuck_one : (a : ℕ) → Stuck look (a ∷ [])
  stuck_one a zero = refl
  stuck_one a (suc j) = refl

  right : (row : List ℕ) → Right row (best look row)
  right [] = λ j. refl
  right (a ∷ []) = stuck_one a
  right (a ∷ b ∷ row) = right_pick a b row (look a b) (best look (b ∷ row)) refl (right (b ∷ row))

  -- what `best` finds is the best pair, and where it finds nothing no pair has a rule
  pub best_sound : (row : List ℕ) {i p m : ℕ} → best look row ≡ at i p m → Best look row i p m
  best_sound row e = subst (Right row) e (right row)

  pub best_stuck : (row : List ℕ) → best look row ≡ none → Stuck look row
  best_stuck row e = subst (Right row) e (right row)

  -- and the other way round
  pub best_complete : (row : List ℕ) {i p m : ℕ} → Best look row i p m → best look row ≡ at i p m
  best_complete row {i} {p} {m} h = go (best look row) (right row)
    where
      go : (f : Found) → Right row f → f ≡ at i p m
      go none s = no_rule (s i) h.asked
      go (at j q n) s =
          let (e, k) = before_antisym (s.least i p m h.asked) (h.least j q n s.asked) in
          let r = rw k at s.asked in
          let v = same_rule h.asked r in
          cc

  pub stuck_best : (row : List ℕ) → Stuck look row → best look row ≡ none
  stuck_best row h = go (best look row) (right row)
    where
      go : (f : Found) → Right row f → f ≡ none
      go none s = refl
      go (at j q n) s = no_rule (h j) s.asked

  -- by cases: no pair has a rule, or one is the best
  pub by_best : {A : Type 0} (row : List ℕ) → (best look row ≡ none → A) → ((i p m : ℕ) → best look row ≡ at i p m → A) → A
  by_best {A} row f g = go (best look row) refl
    where
      go : (x : Found) → best look row ≡ x → A
      go none e = f e
      go (at i p m) e = g i p m e
