-- No second outcome: what the promise of each call determines. Assumes nothing.
use Rattle.std.proofs.Common.{◌≡◌, refl, ap, ap₂, ◌∙◌, Bool, List, ℕ, Bor, Option, Some, None, Result, Ok, Err}
use Rattle.token.specs.Refusals.{number, place, refused}
use Rattle.token.specs.declared.Refusal.{Refusal}
use Rattle.token.proofs.Only.{only, only_refusal}
use Rattle.pairs.specs.Table.{shaped}
use Rattle.pairs.specs.Calls.{told, Builds, Rank, refuses, ranking_of, says}
use Rattle.pairs.specs.Held.{held_rank, Held}
use Rattle.pairs.specs.Rank.{rank_of}
use Rattle.pairs.specs.declared.PairRankTable.{PairRankTable}

-- ---- no two answers are told or said alike

told_one : (r r' : Result (Unit {0}) Refusal) → told r ≡ told r' → r ≡ r'
told_one (Ok u) (Ok v) e = refl
told_one (Ok u) (Err g) e = cc
told_one (Err f) (Ok v) e = cc
told_one (Err f) (Err g) e = ap Err (only_refusal f g e)

refuses_one : (f g : Refusal) → refuses (number f) (place f) ≡ refuses (number g) (place g) → f ≡ g
refuses_one f g e =
    let n : number f ≡ number g = cc in
    let p : place f ≡ place g = cc in
    only_refusal f g (ap₂ refused n p)

says_one : (r r' : Result (Option ℕ) Refusal) → says r ≡ says r' → r ≡ r'
says_one (Ok (Some m)) (Ok (Some n)) e = cc
says_one (Ok (Some m)) (Ok None) e = cc
says_one (Ok (Some m)) (Err g) e = cc
says_one (Ok None) (Ok (Some n)) e = cc
says_one (Ok None) (Ok None) e = refl
says_one (Ok None) (Err g) e = cc
says_one (Err f) (Ok (Some n)) e = cc
says_one (Err f) (Ok None) e = cc
says_one (Err f) (Err g) e = ap Err (refuses_one f g e)

only_said : {x : Rank} (r r' : Result (Option ℕ) Refusal) → says r ≡ x → says r' ≡ x → r ≡ r'
only_said r r' p q = says_one r r' (only p q)

-- a table is its three parts
made : Bor (List ℕ) → ℕ → ℕ → PairRankTable
made s mask by = record { slots = s; mask = mask; shift = by }

whole : (t t' : PairRankTable) → t.slots ≡ t'.slots → t.mask ≡ t'.mask → t.shift ≡ t'.shift → t ≡ t'
unfolding made
whole t t' p q r =
    ap (λ (s : Bor (List ℕ)). made s t.mask t.shift) p
    ∙ ap (λ (m : ℕ). made t'.slots m t.shift) q
    ∙ ap (λ (y : ℕ). made t'.slots t'.mask y) r

-- ---- the calls

pub only_build : (list : List ℕ) (vocab : ℕ) (s : List ℕ) {r r' : Result (Unit {0}) Refusal} {t t' : List ℕ}
    → Builds list vocab s r t → Builds list vocab s r' t' → (r ≡ r') × (t ≡ t')
only_build list vocab s {r} {r'} x y = (told_one r r' (only x.answer y.answer), only x.left y.left)

pub only_shaped : (n : ℕ) (r r' : Bool) → r ≡ shaped n → r' ≡ shaped n → r ≡ r'
only_shaped n r r' p q = only p q

pub only_rank : (s : List ℕ) (a b : ℕ) (r r' : Result (Option ℕ) Refusal) → says r ≡ ranking_of s a b → says r' ≡ ranking_of s a b → r ≡ r'
only_rank s a b r r' p q = only_said r r' p q

pub only_rank_by_table : (s : List ℕ) (a b : ℕ) (r r' : Result (Option ℕ) Refusal) → says r ≡ ranking_of s a b → says r' ≡ ranking_of s a b → r ≡ r'
only_rank_by_table s a b r r' p q = only_said r r' p q

pub only_rank_or_none : (s : List ℕ) (a b r r' : ℕ) → r ≡ rank_of s a b → r' ≡ rank_of s a b → r ≡ r'
only_rank_or_none s a b r r' p q = only p q

pub only_PairRankTable_new : (s : Bor (List ℕ)) (t t' : PairRankTable) → Held s t → Held s t' → t ≡ t'
only_PairRankTable_new s t t' x y = whole t t' (only x.slots y.slots) (only x.mask y.mask) (only x.shift y.shift)

pub only_PairRankTable_rank : (t : PairRankTable) (a b : ℕ) (r r' : Result (Option ℕ) Refusal)
    → says r ≡ held_rank t.slots.now t.mask t.shift a b → says r' ≡ held_rank t.slots.now t.mask t.shift a b → r ≡ r'
only_PairRankTable_rank t a b r r' p q = only_said r r' p q
