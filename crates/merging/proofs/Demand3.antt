-- Demand 3, over lists of rules: the longer list, and the cut. Assumes nothing.
use mathlib.Core.Path.{◌≡◌}
use mathlib.Core.List.{List, ◌++◌}
use Prim.Native.Nat.{ℕ}
use native.Mathlib.Omega.{arith}
use lib.ListN.{take, drop}
use Rattle.merging.specs.Merging.{merge, starts, In, Extends}
use Rattle.merging.specs.Lists.{Distinct, look_of, Keeps, AddsAbove}
use Rattle.merging.proofs.Lists.{found_rule, none_found, rule_found}
use Rattle.merging.proofs.Extend.{merge_extends}
use Rattle.merging.proofs.Cut.{merge_cut}

longer_extends : (list longer : List ℕ) → Distinct longer → Keeps list longer → AddsAbove list longer → Extends (look_of list) (look_of longer)
longer_extends list longer distinct keeps above = record {
  same = λ a b p m e. let (f, r) = found_rule list a b e in rw f (rule_found longer a b m distinct (keeps a b m r));
  after = λ a b q n e f c d p m g.
      let (h, r) = found_rule longer a b f in
      let (k, s) = found_rule list c d g in
      omega (arith, above a b n r (none_found list a b e n) c d m s);
}

-- a list that keeps the rules of the first, and adds only rules whose merged ids are strictly above every merged id of the
-- first, gives for every row what it gives for the answer of the first. Of the first list nothing is asked
pub longer_list : (list longer : List ℕ) → Distinct longer → Keeps list longer → AddsAbove list longer
    → (row : List ℕ) → merge (look_of longer) row ≡ merge (look_of longer) (merge (look_of list) row)
longer_list list longer distinct keeps above row = merge_extends (look_of list) (look_of longer) (longer_extends list longer distinct keeps above) row

-- cut at the start place of a token of the answer, the two parts give the two parts of the answer
pub cut_row : (list row : List ℕ) (c : ℕ) → In c (starts (look_of list) row)
    → merge (look_of list) (take c row) ++ merge (look_of list) (drop c row) ≡ merge (look_of list) row
cut_row list row c w = merge_cut (look_of list) c row w
