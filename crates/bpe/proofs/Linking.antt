-- Links in two rows or two small arrays: how many there are, how a row is linked, and how a place is taken out. Assumes nothing.
use mathlib.Core.Path.{◌≡◌, refl, ap, ◌∙◌}
use mathlib.Core.Bool.{Bool, true, false}
use mathlib.Core.List.{List, [], ◌∷◌}
use Prim.Native.Nat.{ℕ, zero, suc, ◌+◌, ◌≤◌, ◌<◌}
use native.Mathlib.Omega.{arith}
use borrow.Author.Tests.{eq-eqb, ne_eqb}
use lib.Dec.{eqb}
use lib.ListN.{length, get_or, set, length-set}
use lib.Seq.{get_or-set_same, get_or-set_other}
use Rattle.bpe.specs.Links.{unless, links, Cut}

-- ---- how many

pub unless_le : (t : Bool) → unless t ≤ 1
unless_le true = omega arith
unless_le false = omega arith

module _ (end : ℕ) where
  pub links_le : (n : ℕ) (l : List ℕ) → links end n l ≤ n
  links_le zero l = omega arith
  links_le (suc n) [] = omega arith
  links_le (suc n) (x ∷ l) = omega (arith, unless_le (eqb x end), links_le n l)

  links_set : (n : ℕ) (l : List ℕ) (i v : ℕ) → i < n → i < length l → links end n (set l i v) + unless (eqb (get_or l i 0) end) ≡ links end n l + unless (eqb v end)
  links_set zero l i v h k = absurd (omega arith)
  links_set (suc n) [] i v h k = absurd (omega arith)
  links_set (suc n) (x ∷ l) zero v h k = omega arith
  links_set (suc n) (x ∷ l) (suc i) v h k = omega (arith, links_set n l i v (omega arith) (omega arith))

-- ---- a place is taken out

-- what is to be known of the prevs: those of the place after q, if there is one
pub record Back (end : ℕ) (prev : List ℕ) (b p : ℕ) (prev' : List ℕ) : Type 0 where
  pub here : (b ≡ end → ⊥) → get_or prev' b 0 ≡ p
  pub lefts : (i : ℕ) → (i ≡ b → ⊥) → get_or prev' i 0 ≡ get_or prev i 0
  pub same : b ≡ end → prev' ≡ prev

pub cut : {end : ℕ} (next : List ℕ) {prev prev' : List ℕ} {p q : ℕ} → p < q → q < length next → Back end prev (get_or next q 0) p prev'
    → Cut end next prev p q (set (set next p (get_or next q 0)) q end) prev'
cut {end} next {prev} {prev'} {p} {q} pq lq b = record {
  here = get_or-set_other (set next p (get_or next q 0)) q p end 0 (λ e. omega arith) ∙ get_or-set_same next p (get_or next q 0) 0 (omega arith);
  gone = get_or-set_same (set next p (get_or next q 0)) q end 0 (simp length-set lq);
  others = λ i np nq. get_or-set_other (set next p (get_or next q 0)) q i end 0 nq ∙ get_or-set_other next p i (get_or next q 0) 0 np;
  back = b.here;
  lefts = b.lefts;
  same = b.same;
  fewer = λ n lp ln ne.
      omega (
        arith,
        links_set end n next p (get_or next q 0) lp (omega arith),
        links_set end n (set next p (get_or next q 0)) q end ln (simp length-set lq),
        ap (λ (z : ℕ). unless (eqb z end)) (get_or-set_other next p q (get_or next q 0) 0 (λ e. omega arith)),
        ap unless (ne_eqb (get_or next p 0) end ne),
        ap unless (eq-eqb end end refl),
      );
}

-- ---- the places of a row are linked, up to i

pub record Linking (before n : ℕ) (next prev : List ℕ) (i : ℕ) : Type 0 where
  pub from : 1 ≤ i
  pub to : i ≤ n
  pub next_room : n ≤ length next
  pub prev_room : n ≤ length prev
  pub nexts : (k : ℕ) → k + 1 < i → get_or next k 0 ≡ k + 1
  pub first : get_or prev 0 0 ≡ before
  pub prevs : (k : ℕ) → k + 1 < i → get_or prev (k + 1) 0 ≡ k

module _ {before n : ℕ} where
  pub link_start : {next : List ℕ} (prev : List ℕ) → 2 ≤ n → n ≤ length next → n ≤ length prev → Linking before n next (set prev 0 before) 1
  link_start {next} prev l ln lp = record {
    from = omega arith;
    to = omega arith;
    next_room = ln;
    prev_room = simp length-set lp;
    nexts = λ k h. absurd (omega arith);
    first = get_or-set_same prev 0 before 0 (omega arith);
    prevs = λ k h. absurd (omega arith);
  }
