-- The bench sheet's claim, and start places in its rows. Assumes nothing.
use mathlib.Core.Path.{◌≡◌, refl, ap}
use mathlib.Core.Logic.{⊎_elim}
use mathlib.Core.List.{List, [], ◌∷◌, ◌++◌}
use Prim.Native.Nat.{ℕ, ◌≤◌}
use native.Mathlib.Omega.{arith}
use lib.ListN.{get_or, drop}
use Rattle.merging.specs.Merging.{nothing, merge, starts}
use Rattle.merging.specs.Lists.{Distinct, rule_of, look_of}
use Rattle.merging.specs.Bench.{A, Outside, Sheet}
use Rattle.merging.proofs.Lists.{found_rule, none_found, append_keeps, append_above, append_distinct, rule_up_to}

-- rows that differ here differ
abbrev pub first_id : List ℕ → ℕ
first_id row = get_or row 0 0

-- a rule in front of a list in which its pair has none
in_front : (x y n : ℕ) (list : List ℕ) → look_of list x y ≡ nothing → Distinct list → Distinct (x ∷ y ∷ n ∷ list)
in_front x y n list e d = (none_found list x y e, d)

distinct_A : Distinct A
distinct_A =
    in_front 1 2 10 (drop 3 A) refl (in_front 2 3 9 (drop 6 A) refl (in_front 1 9 12 (drop 9 A) refl
    (in_front 10 3 11 (drop 12 A) refl (in_front 5 5 8 (drop 15 A) refl (in_front 8 5 7 [] refl tt)))))

-- A and one rule more, of a pair that has none
module _ (a b m : ℕ) (new : look_of A a b ≡ nothing) where
  pub distinct_more : Distinct (A ++ a ∷ b ∷ m ∷ [])
  distinct_more =
      append_distinct A (a ∷ b ∷ m ∷ []) refl distinct_A ((λ n r. r), tt)
      (λ x y n k r. ⊎_elim (λ (e, f, g). none_found A a b new n (rw (← e, ← f) at r)) (λ z. z))

  outside_A : (row : List ℕ) (c d n : ℕ) → look_of (A ++ a ∷ b ∷ m ∷ []) a b ≡ rule_of m → look_of A c d ≡ rule_of n → m ≤ n
      → ¬ (merge (look_of (A ++ a ∷ b ∷ m ∷ [])) row ≡ merge (look_of (A ++ a ∷ b ∷ m ∷ [])) (merge (look_of A) row))
      → Outside A (A ++ a ∷ b ∷ m ∷ []) row a b m c d n
  outside_A row c d n added old le differs =
      let r = (found_rule (A ++ a ∷ b ∷ m ∷ []) a b added).1 in
      let s = (found_rule A c d old).1 in
      record {
        distinct = distinct_more;
        keeps = append_keeps A (a ∷ b ∷ m ∷ []) refl;
        added = r;
        new = none_found A a b new m;
        old = s;
        not_above = le;
        fails = λ above. omega (arith, above a b m r (none_found A a b new m) c d n s);
        differs = differs;
      }

-- each line is computed; for a remark only what it names is
pub sheet : Sheet
unfolding merge
sheet = (
  refl,
  refl,
  refl,
  refl,
  refl,
  refl,
  refl,
  refl,
  refl,
  refl,
  record {
    distinct = distinct_more 12 5 20 refl;
    keeps = append_keeps A (12 ∷ 5 ∷ 20 ∷ []) refl;
    above = append_above A (12 ∷ 5 ∷ 20 ∷ []) refl
        (λ a b m c d n r s. let l = rule_up_to 12 A c d n (omega arith) s in ⊎_elim (λ e. omega arith) (λ z. absurd z) r);
  },
  refl,
  outside_A 3 5 6 refl (1 ∷ 2 ∷ 3 ∷ 5 ∷ []) 1 9 12 refl refl (omega arith) (λ e. let z : ◌≡◌ {A = ℕ} 10 12 = ap first_id e in omega arith),
  refl,
  refl,
  outside_A 3 1 12 refl (3 ∷ 1 ∷ 9 ∷ []) 1 9 12 refl refl (omega arith) (λ e. let z : ◌≡◌ {A = ℕ} 12 3 = ap first_id e in omega arith),
)

-- where the symbols start in three of these rows
pub places : (starts (look_of A) (1 ∷ 2 ∷ 1 ∷ 2 ∷ []) ≡ 0 ∷ 2 ∷ [])
    × (starts (look_of A) (5 ∷ 5 ∷ 5 ∷ 5 ∷ []) ≡ 0 ∷ 3 ∷ [])
    × (starts (look_of A) (1 ∷ 2 ∷ 3 ∷ 5 ∷ []) ≡ 0 ∷ 3 ∷ [])
unfolding starts
places = (refl, refl, refl)
