-- Each other way to merge differs, and each premise of demand 3 is needed. Assumes nothing.
use mathlib.Core.Path.{◌≡◌, refl, ap}
use mathlib.Core.Logic.{inr, ⊎_elim}
use mathlib.Core.List.{List, [], ◌∷◌, ◌++◌}
use Prim.Native.Nat.{ℕ, ◌<◌}
use native.Mathlib.Omega.{arith}
use lib.ListN.{length, take, drop}
use Rattle.merging.specs.Merging.{merge, Merges}
use Rattle.merging.specs.Lists.{Distinct, look_of, Keeps, AddsAbove}
use Rattle.merging.specs.Bench.{A}
use Rattle.merging.specs.Warnings.{left_to_right, in_rounds, AddsAtLeast}
use Rattle.merging.proofs.Merge.{merges_unique}
use Rattle.merging.proofs.Lists.{append_rule, append_keeps, rule_up_to}
use Rattle.merging.proofs.Bench.{first_id, distinct_more}

-- ---- other ways to merge

pub every_copy : (in_rounds (look_of A) (5 ∷ 5 ∷ 5 ∷ 5 ∷ []) ≡ 8 ∷ 8 ∷ []) × (merge (look_of A) (5 ∷ 5 ∷ 5 ∷ 5 ∷ []) ≡ 7 ∷ 5 ∷ [])
unfolding merge
every_copy = (refl, refl)

pub what_fits : (left_to_right (look_of A) (1 ∷ 2 ∷ 3 ∷ []) ≡ 11 ∷ []) × (merge (look_of A) (1 ∷ 2 ∷ 3 ∷ []) ≡ 12 ∷ [])
unfolding merge
what_fits = (refl, refl)

-- a row that is handed back untouched is no end of the merges
pub untouched : ¬ ((list row : List ℕ) → Merges (look_of list) row row)
unfolding merge
untouched claim = let z : ◌≡◌ {A = ℕ} 1 10 = ap first_id (merges_unique (look_of A) (claim A (1 ∷ 2 ∷ []))) in omega arith

-- ---- the premises of demand 3

-- strictly above: an added rule may not tie with a merged id of the list
pub tie_breaks : ¬ ((list longer : List ℕ) → Distinct longer → Keeps list longer → AddsAtLeast list longer
    → (row : List ℕ) → merge (look_of longer) row ≡ merge (look_of longer) (merge (look_of list) row))
unfolding merge
tie_breaks claim =
    let e = claim A (A ++ 3 ∷ 1 ∷ 12 ∷ []) (distinct_more 3 1 12 refl) (append_keeps A (3 ∷ 1 ∷ 12 ∷ []) refl)
    (λ a b m r new c d n s.
    let l = rule_up_to 12 A c d n (omega arith) s in
    ⊎_elim (λ k. absurd (new k)) (⊎_elim (λ k. omega arith) (λ k. absurd k)) ((append_rule A (3 ∷ 1 ∷ 12 ∷ []) a b m refl).0 r))
    (3 ∷ 1 ∷ 9 ∷ []) in
    let z : ◌≡◌ {A = ℕ} 12 3 = ap first_id e in omega arith

-- kept: a rule may not change
pub change_breaks : ¬ ((list longer : List ℕ) → Distinct longer → AddsAbove list longer
    → (row : List ℕ) → merge (look_of longer) row ≡ merge (look_of longer) (merge (look_of list) row))
unfolding merge
change_breaks claim =
    let e = claim (1 ∷ 2 ∷ 10 ∷ []) (1 ∷ 2 ∷ 11 ∷ []) ((λ m r. r), tt)
    (λ a b m r new c d n s. ⊎_elim (λ k. ⊎_elim (λ l. omega arith) (λ l. absurd l) s) (λ k. absurd k) r)
    (1 ∷ 2 ∷ []) in
    let z : ◌≡◌ {A = ℕ} 11 10 = ap first_id e in omega arith

-- distinct: a pair may not get a second rule
pub second_rule_breaks : ¬ ((list longer : List ℕ) → Keeps list longer → AddsAbove list longer
    → (row : List ℕ) → merge (look_of longer) row ≡ merge (look_of longer) (merge (look_of list) row))
unfolding merge
second_rule_breaks claim =
    let e = claim (1 ∷ 2 ∷ 10 ∷ []) (1 ∷ 2 ∷ 11 ∷ 1 ∷ 2 ∷ 10 ∷ []) (λ a b m r. inr r)
    (λ a b m r new c d n s. ⊎_elim (λ k. ⊎_elim (λ l. omega arith) (λ l. absurd l) s) (λ k. absurd (new k)) r)
    (1 ∷ 2 ∷ []) in
    let z : ◌≡◌ {A = ℕ} 11 10 = ap first_id e in omega arith

-- the cut is at a start place: not at any place
pub cut_breaks : ¬ ((list row : List ℕ) (c : ℕ) → c < length row → merge (look_of list) (take c row) ++ merge (look_of list) (drop c row) ≡ merge (look_of list) row)
unfolding merge
cut_breaks claim = let z : ◌≡◌ {A = ℕ} 1 10 = ap first_id (claim A (1 ∷ 2 ∷ []) 1 (omega arith)) in omega arith
