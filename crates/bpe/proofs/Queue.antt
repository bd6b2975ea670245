-- Queueing pairs: one, those of a place, all of a row. Assumes nothing.
use mathlib.Core.Path.{◌≡◌, sym, ap, subst, ◌∙◌}
use mathlib.Core.Logic.{◌⊎◌, inl, inr, ⊎_elim}
use mathlib.Core.Bool.{Bool, true, false, cond}
use mathlib.Core.List.{List}
use Prim.Native.Nat.{ℕ, ◌+◌, ◌*◌, ◌^◌, ◌≤◌, ◌<◌}
use native.Mathlib.Omega.{arith}
use borrow.Author.Tests.{eq-eqb, ne_eqb}
use lib.Dec.{eqb}
use lib.ListN.{length, get_or}
use Rattle.token.specs.Limits.{no_id, most_row}
use Rattle.bpe.specs.Look.{rank_at, entry}
use Rattle.bpe.specs.Links.{unless}
use Rattle.bpe.specs.Heap.{Pushed}
use Rattle.bpe.specs.Long.{IsEntry, next_at, prev_at, Holds, Queued, offers, offers_at, Offered, Requeued}
use Rattle.bpe.specs.declared.heap.Heap.{Heap}
use Rattle.bpe.specs.declared.links.Links.{Links}
use Rattle.bpe.proofs.Linking.{unless_le}

-- ---- one pair

pub offers_le : (rk : ℕ → ℕ → ℕ) (row : List ℕ) (a b : ℕ) → offers rk row a b ≤ 1
offers_le rk row a b = unless_le (eqb (rank_at rk row a b) no_id)

pub offers_at_le : (x k : ℕ) → k ≤ 1 → offers_at x k ≤ 1
offers_at_le x k h = go (eqb x no_id)
  where
    go : (t : Bool) → cond t 0 k ≤ 1
    go true = omega arith
    go false = h

pub offered : (rk : ℕ → ℕ → ℕ) {row : List ℕ} {h h' : Heap} {r a b : ℕ} → r ≡ rank_at rk row a b → (r ≡ no_id → ⊥) → r < 2 ^ 32 → a < length row → length row ≤ most_row
    → Pushed h.words.now h.len (entry r a) h'.words.now h'.len → Offered rk row h a b h'
offered rk {row} {h} {h'} {r} {a} {b} e nr lr la few p = record {
  old = p.old;
  new = λ z. subst (λ (s : ℕ). Holds h' (entry s a)) e p.new;
  only = λ x y. ⊎_elim (λ f. inr (omega arith, omega arith)) (λ z. inl z) (p.only x y);
  grew = omega (arith, p.more, ap unless (ne_eqb (rank_at rk row a b) no_id (λ z. nr (e ∙ z))));
}

-- ---- both pairs of a place

-- the pair of a and b is queued, if the link x is a place
pub record OfferedAt (rk : ℕ → ℕ → ℕ) (x : ℕ) (row : List ℕ) (h : Heap) (a b : ℕ) (h' : Heap) : Type 0 where
  pub old : (y : ℕ) → Holds h y → Holds h' y
  pub new : (x ≡ no_id → ⊥) → Queued rk row h' a b
  pub only : (y : ℕ) → Holds h' y → Holds h y ⊎ IsEntry (length row) y
  pub grew : h'.len ≡ h.len + offers_at x (offers rk row a b)

module _ {rk : ℕ → ℕ → ℕ} {row : List ℕ} {h : Heap} where
  at_place : (x : ℕ) {a b : ℕ} {h' : Heap} → (x ≡ no_id → ⊥) → Offered rk row h a b h' → OfferedAt rk x row h a b h'
  at_place x n o = record { old = o.old; new = λ nx. o.new; only = o.only; grew = rw (ne_eqb x no_id n) o.grew }

  pub on_left : {x q p : ℕ} {h' : Heap} → (x ≡ q) × (q ≡ no_id → ⊥) → Offered rk row h q p h' → OfferedAt rk x row h x p h'
  on_left {x} {q} {p} {h'} (e, n) o = at_place x (λ z. n (sym e ∙ z)) (subst (λ (z : ℕ). Offered rk row h z p h') (sym e) o)

  pub on_right : {x q p : ℕ} {h' : Heap} → (x ≡ q) × (q ≡ no_id → ⊥) → Offered rk row h p q h' → OfferedAt rk x row h p x h'
  on_right {x} {q} {p} {h'} (e, n) o = at_place x (λ z. n (sym e ∙ z)) (subst (λ (z : ℕ). Offered rk row h p z h') (sym e) o)

  pub on_none : {x a b : ℕ} → x ≡ no_id → OfferedAt rk x row h a b h
  on_none {x} e = record { old = λ y m. m; new = λ n. absurd (n e); only = λ y m. inl m; grew = rw (eq-eqb x no_id e) (omega arith) }

  pub requeued : {l : Links} {h₁ h' : Heap} {p : ℕ} → OfferedAt rk (prev_at l p) row h (prev_at l p) p h₁ → OfferedAt rk (next_at l p) row h₁ p (next_at l p) h' → Requeued rk row l h p h'
  requeued l r = record {
    old = λ y m. r.old y (l.old y m);
    left = λ ne nn. r.old _ (l.new ne nn);
    right = r.new;
    only = λ y m. ⊎_elim (l.only y) (λ z. inr z) (r.only y m);
    grew = omega (arith, l.grew, r.grew);
  }

-- ---- the pairs of a row, up to i

pub record Seeding (rk : ℕ → ℕ → ℕ) (row : List ℕ) (h : Heap) (i : ℕ) : Type 0 where
  pub from : 1 ≤ i
  pub to : i ≤ length row
  pub small : h.len < i
  pub queued : (k : ℕ) → k + 1 < i → Queued rk row h k (k + 1)
  pub entries : (x : ℕ) → Holds h x → IsEntry (length row) x
