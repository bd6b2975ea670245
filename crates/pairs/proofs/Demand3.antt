-- Demand 3, over lists that building accepts and rows that merging takes. Assumes nothing.
use Rattle.std.proofs.Common.{◌≡◌, sym, ap₂, ◌∙◌, ⊎_elim, List, [], ◌∷◌, ◌++◌, ℕ, suc, ◌/◌, ◌≤◌, arith, length, set, length-set, take, drop, replicate}
use lib.ListN.{length-replicate}
use Rattle.token.specs.Limits.{top}
use Rattle.token.specs.Ids.{Legal, AcceptedRow}
use Rattle.merging.specs.Merging.{nothing, merge, starts, In}
use Rattle.merging.specs.Lists.{Rule, Distinct, look_of, Keeps, AddsAbove}
use Rattle.merging.proofs.Answer.{no_rule}
use Rattle.merging.proofs.Demand3 as lists
use Rattle.pairs.specs.Limits.{vacant}
use Rattle.pairs.specs.Key.{key, packed}
use Rattle.pairs.specs.Walk.{near}
use Rattle.pairs.specs.Table.{look, slots, fill, filled}
use Rattle.pairs.specs.Calls.{Accepted, table_of}
use Rattle.pairs.proofs.Walks.{by_walk}
use Rattle.pairs.proofs.Size.{homes, wanted_sized}
use Rattle.pairs.proofs.Law.{Homes, Stands, not_slots, stands_more, look_before, look_new, look_old}
use Rattle.pairs.proofs.Accept.{accepted, none_stands, kept}

-- ---- an accepted list has no pair twice

-- the ids of a rule
rule_ids : (list : List ℕ) (a b m : ℕ) → Legal list → Rule list a b m → (a ≤ top) × (b ≤ top)
rule_ids [] a b m l r = absurd r
rule_ids (x ∷ []) a b m l r = absurd r
rule_ids (x ∷ y ∷ []) a b m l r = absurd r
rule_ids (x ∷ y ∷ n ∷ list) a b m (lx, (ly, (ln, l))) r =
    ⊎_elim (λ (p, q, e). (rw p at lx, rw q at ly)) (λ r. rule_ids list a b m l r) r

one_key : (x y a b : ℕ) → y ≤ top → b ≤ top → key x y ≡ key a b → (x ≡ a) × (y ≡ b)
one_key x y a b ly lb e = omega arith

-- rules that can be stored have no pair twice, and none that is stored already
record Fresh (list s : List ℕ) : Type 0 where
  new : (a b m : ℕ) → Rule list a b m → look s a b ≡ nothing
  distinct : Distinct list

fresh : (list s t : List ℕ) (r : ℕ) → Legal list → Homes (length s) → Stands s → fill r list s ≡ slots t → Fresh list s
fresh [] s t r l at_slots good e = record { new = λ a b m x. absurd x; distinct = tt }
fresh (x ∷ []) s t r l at_slots good e = record { new = λ a b m z. absurd z; distinct = tt }
fresh (x ∷ y ∷ []) s t r l at_slots good e = record { new = λ a b m z. absurd z; distinct = tt }
fresh (x ∷ y ∷ n ∷ list) s t r (lx, (ly, (ln, l))) at_slots good e =
    by_walk (near s (key x y))
    (λ i stop. not_slots {t = t} (rw stop at e))
    (λ p stop.
    let s' = set s p (packed x y n) in
    let rest = fresh list s' t (suc r) l (rw (length-set s p (packed x y n)) at_slots) (stands_more s at_slots good x y n p lx ly ln stop) (rw stop at e) in
    let here = look_new s at_slots good x y n p lx ly ln stop in
    record {
      new = λ a b m z. ⊎_elim
          (λ (f, g, h). rw (← f, ← g) (look_before s at_slots good x y n p lx ly ln stop))
          (λ z.
          let (la, lb) = rule_ids list a b m l z in
          let gone = rest.new a b m z in
          sym (look_old s at_slots good x y n p lx ly ln stop a b la lb
          (λ k. let (f, g) = one_key x y a b ly lb k in no_rule gone (ap₂ (look s') (sym f) (sym g) ∙ here)))
          ∙ gone)
          z;
      distinct = (λ m z. no_rule (rest.new x y m z) here, rest.distinct);
    })
    (λ stop. not_slots {t = t} (rw stop at e))

pub accepted_distinct : (list : List ℕ) (vocab n : ℕ) → Accepted list vocab n → Distinct list
unfolding filled
accepted_distinct list vocab n e =
    let x = accepted list vocab n e in
    let h = homes (wanted_sized (length list / 3) n x.few x.size) in
    (fresh list (replicate n vacant) (table_of list n) 0 x.ids (rw (length-replicate n vacant) h) (none_stands n) (kept (filled list n) n x.stored)).distinct

-- ---- the two sentences

-- under an accepted longer list that keeps the first's rules and adds only rules with merged ids strictly above all of the first's,
-- merging gives the same ids as merging under the first and then under the longer
pub longer_list : (list longer : List ℕ) (vocab n vocab' n' : ℕ) → Accepted list vocab n → Accepted longer vocab' n'
    → Keeps list longer → AddsAbove list longer
    → (row : List ℕ) → AcceptedRow row → merge (look_of longer) row ≡ merge (look_of longer) (merge (look_of list) row)
longer_list list longer vocab n vocab' n' x y keeps above row ok = lists.longer_list list longer (accepted_distinct longer vocab' n' y) keeps above row

-- a row cut at the start place of a token of its answer, merged as two pieces, gives that same answer, joined
pub cut_row : (list : List ℕ) (vocab n : ℕ) → Accepted list vocab n → (row : List ℕ) → AcceptedRow row
    → (c : ℕ) → In c (starts (look_of list) row)
    → merge (look_of list) (take c row) ++ merge (look_of list) (drop c row) ≡ merge (look_of list) row
cut_row list vocab n x row ok c w = lists.cut_row list row c w
