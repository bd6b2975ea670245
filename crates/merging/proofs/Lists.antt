-- A list's lookup says what its rules say; rules behind a list; lists of ids up to a bound. Assumes nothing.
use mathlib.Core.Path.{◌≡◌, refl}
use mathlib.Core.Logic.{◌↔◌, ◌⊎◌, inl, inr, ⊎_elim}
use mathlib.Core.Bool.{Bool, true, false, ◌&&◌}
use mathlib.Core.List.{List, [], ◌∷◌, ◌++◌}
use Prim.Native.Nat.{ℕ, ◌%◌, ◌≤◌, ◌<◌}
use native.Mathlib.Omega.{arith}
use lib.Dec.{eqb}
use lib.ListN.{length}
use borrow.Author.Tests.{eqb-true, eqb-false, eq-eqb}
use Rattle.merging.specs.Merging.{nothing, rule, AllUpTo, StaysUpTo}
use Rattle.merging.specs.Lists.{Rule, Distinct, rule_of, look_of, Keeps, AddsAbove}
use Rattle.merging.proofs.Answer.{by_answer, no_rule, same_rule}

-- ---- a list's lookup

-- by cases: x y is the pair a b, or it is not
by_pair : {A : Type 0} (x y a b : ℕ) → (x ≡ a → y ≡ b → eqb x a && eqb y b ≡ true → A) → (¬ ((x ≡ a) × (y ≡ b)) → eqb x a && eqb y b ≡ false → A) → A
by_pair {A} x y a b f g = go (eqb x a) (eqb y b) refl refl
  where
    go : (s t : Bool) → eqb x a ≡ s → eqb y b ≡ t → A
    go true true d e = f (eqb-true x a d) (eqb-true y b e) (rw (d, e))
    go true false d e = g (λ h. eqb-false y b e h.1) (rw (d, e))
    go false t d e = g (λ h. eqb-false x a d h.0) (rw d)

-- what is found is a rule of the list
pub found_rule : (list : List ℕ) (a b : ℕ) {p m : ℕ} → look_of list a b ≡ rule p m → (p ≡ m) × Rule list a b m
found_rule [] a b e = no_rule refl e
found_rule (x ∷ []) a b e = no_rule refl e
found_rule (x ∷ y ∷ []) a b e = no_rule refl e
found_rule (x ∷ y ∷ n ∷ list) a b {p} {m} e =
    by_pair x y a b
    (λ d f t. let (g, h) = same_rule {x = rule_of n} refl (rw t at e) in ((cc), inl (d, f, h)))
    (λ d t. let (g, h) = found_rule list a b (rw t at e) in (g, inr h))

-- where nothing is found the pair has no rule
pub none_found : (list : List ℕ) (a b : ℕ) → look_of list a b ≡ nothing → (m : ℕ) → ¬ Rule list a b m
none_found [] a b e m r = r
none_found (x ∷ []) a b e m r = r
none_found (x ∷ y ∷ []) a b e m r = r
none_found (x ∷ y ∷ n ∷ list) a b e m r =
    by_pair x y a b
    (λ d f t. no_rule (rw t at e) refl)
    (λ d t. ⊎_elim (λ k. d (k.0, k.1)) (none_found list a b (rw t at e) m) r)

-- where no pair has two rules, each rule is found
pub rule_found : (list : List ℕ) (a b m : ℕ) → Distinct list → Rule list a b m → look_of list a b ≡ rule_of m
rule_found [] a b m d r = absurd r
rule_found (x ∷ []) a b m d r = absurd r
rule_found (x ∷ y ∷ []) a b m d r = absurd r
rule_found (x ∷ y ∷ n ∷ list) a b m d (inl (e, f, g)) = rw (eq-eqb x a e, eq-eqb y b f, g)
rule_found (x ∷ y ∷ n ∷ list) a b m d (inr r) =
    by_pair x y a b (λ e f t. absurd (d.0 m (rw (← e, ← f) at r))) (λ e t. rw t (rule_found list a b m d.1 r))

-- lookup and rules say the same
pub look_of_rule : (list : List ℕ) → Distinct list → (a b m : ℕ) → Rule list a b m ↔ look_of list a b ≡ rule_of m
look_of_rule list d a b m = (rule_found list a b m d, λ e. (found_rule list a b e).1)

pub look_of_none : (list : List ℕ) (a b : ℕ) → ((m : ℕ) → ¬ Rule list a b m) ↔ look_of list a b ≡ nothing
look_of_none list a b = (λ f. by_answer (look_of list a b) (λ e. e) (λ p m e. absurd (f m (found_rule list a b e).1)), none_found list a b)

-- ---- rules behind a list

-- the rules of a list of whole triples and those behind it
pub append_rule : (list added : List ℕ) (a b m : ℕ) → length list % 3 ≡ 0 → Rule (list ++ added) a b m ↔ Rule list a b m ⊎ Rule added a b m
append_rule [] added a b m h = (λ r. inr r, ⊎_elim (λ r. absurd r) (λ r. r))
append_rule (x ∷ []) added a b m h = absurd (omega arith)
append_rule (x ∷ y ∷ []) added a b m h = absurd (omega arith)
append_rule (x ∷ y ∷ n ∷ list) added a b m h =
    let (f, g) = append_rule list added a b m (omega arith) in (
      ⊎_elim (λ e. inl (inl e)) (λ r. ⊎_elim (λ s. inl (inr s)) (λ s. inr s) (f r)),
      ⊎_elim (⊎_elim (λ e. inl e) (λ s. inr (g (inl s)))) (λ s. inr (g (inr s))),
    )

-- such a list is longer in the sense of demand 3 if the added rules have merged ids above its own
pub append_keeps : (list added : List ℕ) → length list % 3 ≡ 0 → Keeps list (list ++ added)
append_keeps list added whole a b m r = (append_rule list added a b m whole).1 (inl r)

pub append_above : (list added : List ℕ) → length list % 3 ≡ 0 → ((a b m c d n : ℕ) → Rule added a b m → Rule list c d n → n < m) → AddsAbove list (list ++ added)
append_above list added whole above a b m r new c d n s =
    ⊎_elim (λ k. absurd (new k)) (λ k. omega (arith, above a b m c d n k s)) ((append_rule list added a b m whole).0 r)

-- and no pair has two rules if none has in either and none has one in both
pub append_distinct : (list added : List ℕ) → length list % 3 ≡ 0 → Distinct list → Distinct added → ((a b m n : ℕ) → Rule list a b m → ¬ Rule added a b n) → Distinct (list ++ added)
append_distinct [] added whole d e apart = e
append_distinct (x ∷ []) added whole d e apart = absurd (omega arith)
append_distinct (x ∷ y ∷ []) added whole d e apart = absurd (omega arith)
append_distinct (x ∷ y ∷ n ∷ list) added whole d e apart = (
  λ m r. ⊎_elim (d.0 m) (apart x y n m (inl (refl, refl, refl))) ((append_rule list added x y m (omega arith)).0 r),
  append_distinct list added (omega arith) d.1 e (λ a b m k r. apart a b m k (inr r)),
)

-- ---- a list of ids up to a bound

-- has only such merged ids
pub rule_up_to : (t : ℕ) (list : List ℕ) (a b m : ℕ) → AllUpTo t list → Rule list a b m → m ≤ t
rule_up_to t [] a b m l r = absurd r
rule_up_to t (x ∷ []) a b m l r = absurd r
rule_up_to t (x ∷ y ∷ []) a b m l r = absurd r
rule_up_to t (x ∷ y ∷ n ∷ list) a b m l r = ⊎_elim (λ e. omega arith) (rule_up_to t list a b m l.1.1.1) r

-- and so has its lookup
pub list_stays : (t : ℕ) (list : List ℕ) → AllUpTo t list → StaysUpTo t (look_of list)
list_stays t list l a b p m la lb e = let (f, r) = found_rule list a b e in omega (arith, rule_up_to t list a b m l r)
