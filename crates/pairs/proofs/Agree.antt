-- Merging over a built table is merging over its list. Assumes nothing.
use Rattle.std.proofs.Common.{◌≡◌, refl, List, [], ◌∷◌, ℕ, ◌≤◌, arith}
use Rattle.token.specs.Limits.{top}
use Rattle.token.specs.Ids.{Legal}
use Rattle.merging.specs.Merging.{rule, merge, AllUpTo, StaysUpTo}
use Rattle.merging.specs.Lists.{look_of}
use Rattle.merging.proofs.Bound.{merge_agree}
use Rattle.merging.proofs.Answer.{no_rule, same_rule}
use Rattle.pairs.specs.Key.{key}
use Rattle.pairs.specs.Walk.{round}
use Rattle.pairs.specs.Table.{look}
use Rattle.pairs.specs.Calls.{Accepted, table_of}
use Rattle.pairs.proofs.Walks.{by_walk}
use Rattle.pairs.proofs.Accept.{accepted_look}

-- of any slots, a merged id is an id, and the priority
pub look_small : (s : List ℕ) (a b p m : ℕ) → look s a b ≡ rule p m → (p ≡ m) × (m ≤ top)
unfolding look
look_small s a b p m e =
    by_walk (round s (key a b))
    (λ i w. let (x, y) = same_rule (rw w at e) refl in omega arith)
    (λ i w. no_rule refl (rw w at e))
    (λ w. no_rule refl (rw w at e))

pub look_stays : (s : List ℕ) → StaysUpTo top (look s)
look_stays s a b p m la lb e = (look_small s a b p m e).1

-- a row of ids is a row of numbers up to the largest id, and such a row is one of ids
pub up_to_top : (row : List ℕ) → Legal row → AllUpTo top row
up_to_top [] l = tt
up_to_top (x ∷ row) l = (l.0, up_to_top row l.1)

pub legal_up_to : (row : List ℕ) → AllUpTo top row → Legal row
legal_up_to [] l = tt
legal_up_to (x ∷ row) l = (l.0, legal_up_to row l.1)

-- an accepted list merges a row of ids as its table does
pub table_merges : (list : List ℕ) (vocab n : ℕ) → Accepted list vocab n
    → (row : List ℕ) → Legal row → merge (look (table_of list n)) row ≡ merge (look_of list) row
table_merges list vocab n e row l = merge_agree top (look (table_of list n)) (look_stays (table_of list n)) (look_of list) (accepted_look list vocab n e) row (up_to_top row l)
