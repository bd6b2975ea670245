-- What stands at the linked places is moved to the front, and none goes behind it. Assumes nothing.
use mathlib.Core.Path.{◌≡◌, refl, sym, ap, ap₂, subst, ◌∙◌}
use mathlib.Core.Logic.{inl, inr}
use Rattle.std.proofs.Common.{Option, Some, None}
use mathlib.Core.List.{List, [], ◌∷◌, ◌++◌, append_assoc}
use Prim.Native.Nat.{ℕ, ◌+◌, ◌-◌, ◌≤◌, ◌<◌}
use native.Mathlib.Numerals.{add-one}
use native.Mathlib.Omega.{arith}
use borrow.Rule.Slice.PartMut.{mid_of, put_mid}
use lib.ListN.{length, get_or, set, take, replicate, length-set, length-append}
use lib.Seq.{get_or-set_other, take-suc-set}
use Rattle.token.specs.Limits.{no_id}
use Rattle.merging.specs.Merging.{In}
use Rattle.bpe.specs.Links.{Chain, Last, symbols, Climbs, Reads, Walk, Compacted}
use Rattle.bpe.proofs.Chains.{in_right, chain_right, symbols_append}
use Rattle.bpe.proofs.Fills.{fill_tail}

pub record Packing (P : ℕ → Option ℕ → Type 0) (row₀ row : List ℕ) (count i : ℕ) : Type 0 where
  pub low : count ≤ i
  pub inside : i < length row₀
  pub long : length row ≡ length row₀
  pub rest : (k : ℕ) → count ≤ k → get_or row k 0 ≡ get_or row₀ k 0
  pub front : (end : ℕ) (next live : List ℕ) → Reads P end (length row₀) next → Walk end (length row₀) next live
      → (u : List ℕ) × (v : List ℕ) × (live ≡ u ++ i ∷ v) × (length u ≡ count) × (take count row ≡ symbols row₀ u)

module _ {P : ℕ → Option ℕ → Type 0} {row₀ : List ℕ} where
  pub pack_start : 0 < length row₀ → Packing P row₀ row₀ 0 0
  pack_start l = record {
    low = omega arith;
    inside = l;
    long = refl;
    rest = λ k h. refl;
    front = λ end next live reads w. go live w.first;
  }
    where
      go : (live : List ℕ) → get_or live 0 1 ≡ 0 → (u : List ℕ) × (v : List ℕ) × (live ≡ u ++ 0 ∷ v) × (length u ≡ 0) × (take 0 row₀ ≡ symbols row₀ u)
      go [] e = absurd (omega arith)
      go (a ∷ live) e = ([], live, ap (λ z. z ∷ live) e, refl, refl)

  module _ {row : List ℕ} {count i : ℕ} (p : Packing P row₀ row count i) where
    abbrev moved : List ℕ
    moved = set row count (get_or row i 0)

    -- one more
    pushed_on : (u : List ℕ) → length u ≡ count → take count row ≡ symbols row₀ u
        → (length (u ++ i ∷ []) ≡ count + 1) × (take (count + 1) moved ≡ symbols row₀ (u ++ i ∷ []))
    pushed_on u lu tk = (
      length-append u (i ∷ []) ∙ (omega arith),
      rw (add-one count) (take-suc-set row count (get_or row i 0) (omega (arith, p.low, p.inside, p.long)))
          ∙ ap₂ (λ (a : List ℕ) (b : ℕ). a ++ b ∷ []) tk (p.rest i p.low) ∙ sym (symbols_append row₀ u (i ∷ [])),
    )

    chain_here : (end : ℕ) (next live u v : List ℕ) → live ≡ u ++ i ∷ v → Walk end (length row₀) next live → Chain (λ a b. get_or next a 0 ≡ b) (Last end next) (i ∷ v)
    chain_here end next live u v e w =
        chain_right (λ a b. get_or next a 0 ≡ b) (Last end next) u i v (subst (λ (l : List ℕ). Chain (λ a b. get_or next a 0 ≡ b) (Last end next) l) e w.follows)

    pub pack_turn : {q : ℕ} → P i (Some q) → Climbs P (length row₀) → Packing P row₀ moved (count + 1) q
    pack_turn {q} s climbs =
        let w = climbs i q p.inside s in
        record {
          low = omega (arith, p.low);
          inside = w.1;
          long = simp length-set p.long;
          rest = λ k h. get_or-set_other row count k (get_or row i 0) 0 (λ e. omega arith) ∙ p.rest k (omega arith);
          front = λ end next live reads walk.
              let (u, v, e, lu, tk) = p.front end next live reads walk in
              let (f, n) = reads i (Some q) p.inside s in
              go end next live u v e f n (pushed_on u lu tk).0 (pushed_on u lu tk).1 (chain_here end next live u v e walk);
        }
      where
        go : (end : ℕ) (next live u v : List ℕ) → live ≡ u ++ i ∷ v → get_or next i 0 ≡ q → (q ≡ end → ⊥) → length (u ++ i ∷ []) ≡ count + 1
            → take (count + 1) moved ≡ symbols row₀ (u ++ i ∷ []) → Chain (λ a b. get_or next a 0 ≡ b) (Last end next) (i ∷ v)
            → (u : List ℕ) × (v : List ℕ) × (live ≡ u ++ q ∷ v) × (length u ≡ count + 1) × (take (count + 1) moved ≡ symbols row₀ u)
        go end next live u [] e f n lu tk c = absurd (n (sym f ∙ c))
        go end next live u (b ∷ v) e f n lu tk c =
            (u ++ i ∷ [], v, (e ∙ sym (append_assoc u (i ∷ []) (b ∷ v)) ∙ ap (λ (z : ℕ). (u ++ i ∷ []) ++ z ∷ v) (sym c.0 ∙ f)), lu, tk)

    pub pack_low : count < length row
    pack_low = omega (arith, p.low, p.inside, p.long)

    pack_end : P i None → {row' : List ℕ} → row' ≡ take (count + 1) moved ++ replicate (length row₀ - (count + 1)) no_id
        → (end : ℕ) (next : List ℕ) → length row₀ ≤ end → Reads P end (length row₀) next → Compacted end row₀ next row' (count + 1)
    pack_end s {row'} row_is end next few reads = record {
      front = λ live walk.
          let (u, v, e, lu, tk) = p.front end next live reads walk in
          go live u v e walk.inside (pushed_on u lu tk).0 (pushed_on u lu tk).1 (chain_here end next live u v e walk);
    }
      where
        go : (live u v : List ℕ) → live ≡ u ++ i ∷ v → ((a : ℕ) → In a live → a < length row₀) → length (u ++ i ∷ []) ≡ count + 1
            → take (count + 1) moved ≡ symbols row₀ (u ++ i ∷ [])
            → Chain (λ a b. get_or next a 0 ≡ b) (Last end next) (i ∷ v) → (count + 1 ≡ length live) × (row' ≡ symbols row₀ live ++ replicate (length row₀ - (count + 1)) no_id)
        go live u [] e ins lu tk c =
            (sym (ap length e ∙ lu), row_is ∙ ap (λ (l : List ℕ). l ++ replicate (length row₀ - (count + 1)) no_id) (tk ∙ ap (symbols row₀) (sym e)))
        go live u (q ∷ v) e ins lu tk c =
            let l : q < length row₀ = ins q (subst (λ (z : List ℕ). In q z) (sym e) (in_right u (i ∷ q ∷ v) q (inr (inl refl)))) in
            absurd (omega (arith, c.0, reads i None p.inside s))

    -- the part behind the answer, filled with none
    abbrev filled : List ℕ → List ℕ
    filled part = put_mid (count + 1) (length moved - (count + 1)) moved part

    moved_long : length moved ≡ length row₀
    moved_long = simp length-set p.long

    pub pack_filled : P i None → (part : List ℕ) → part ≡ replicate (length (mid_of (count + 1) (length moved - (count + 1)) moved)) no_id
        → (end : ℕ) (next : List ℕ) → length row₀ ≤ end → Reads P end (length row₀) next → Compacted end row₀ next (filled part) (count + 1)
    pack_filled s part e =
        pack_end s
        (fill_tail (count + 1) no_id moved part (omega (arith, moved_long, pack_low, p.long)) e ∙ ap (λ (k : ℕ). take (count + 1) moved ++ replicate (k - (count + 1)) no_id) moved_long)
