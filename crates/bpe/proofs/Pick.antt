-- Ranks as answers: the best pair of the places, and no pair. Assumes nothing.
use mathlib.Core.Path.{◌≡◌, refl, sym, ap, subst, ◌∙◌}
use mathlib.Core.Logic.{◌⊎◌, inl, inr, ⊎_elim}
use mathlib.Core.List.{List, [], ◌∷◌, ◌++◌}
use Prim.Native.Nat.{ℕ, zero, suc, ◌≤◌, ◌<◌}
use native.Mathlib.Omega.{arith}
use borrow.Author.Tests.{eq-eqb, ne_eqb}
use lib.ListN.{length, get_or}
use Rattle.merging.specs.Merging.{nothing, rule, ask, Before, Best, Stuck}
use Rattle.merging.proofs.Best.{no_rule, same_rule}
use Rattle.merging.proofs.Rows.{lt_or_le}
use Rattle.token.specs.Limits.{no_id}
use Rattle.bpe.specs.Look.{answer_of, look_by, rank_at, After}
use Rattle.bpe.specs.Links.{Chain, Any, Linked, Last, symbols}
use Rattle.token.proofs.Cases.{by_equal}
use Rattle.bpe.proofs.Chains.{chain_index}

pub answer_rule : (r k : ℕ) → (r ≡ no_id → ⊥) → answer_of r k ≡ rule r k
unfolding answer_of
answer_rule r k n = rw (ne_eqb r no_id n)

pub answer_none : (r k : ℕ) → r ≡ no_id → answer_of r k ≡ nothing
unfolding answer_of
answer_none r k f = rw (eq-eqb r no_id f)

pub rule_answer : (r i q k : ℕ) → answer_of r i ≡ rule q k → (q ≡ r) × (r ≡ no_id → ⊥)
rule_answer r i q k e = by_equal r no_id (λ f. no_rule (answer_none r i f) e) (λ n. let (a, b) = same_rule (answer_rule r i n) e in (sym a, n))

module _ (rk mg : ℕ → ℕ → ℕ) (row : List ℕ) where
  -- no pair has a rank: no pair has a rule
  pub chain_stuck : (ps : List ℕ) → Chain (λ a b. rank_at rk row a b ≡ no_id) Any ps → Stuck (look_by rk mg) (symbols row ps)
  chain_stuck [] c j = refl
  chain_stuck (a ∷ []) c zero = refl
  chain_stuck (a ∷ []) c (suc j) = refl
  chain_stuck (a ∷ b ∷ ps) c zero = answer_none (rank_at rk row a b) (rank_at mg row a b) c.0
  chain_stuck (a ∷ b ∷ ps) c (suc j) = chain_stuck (b ∷ ps) c.1 j

  asked : (m p : ℕ) (ps : List ℕ) → Chain (After rk row m p) Any ps → (j q k : ℕ) → ask (look_by rk mg) (symbols row ps) j ≡ rule q k
      → (m < q) ⊎ ((m ≡ q) × (p ≤ get_or ps j 0))
  asked m p [] c j q k e = no_rule refl e
  asked m p (a ∷ []) c zero q k e = no_rule refl e
  asked m p (a ∷ []) c (suc j) q k e = no_rule refl e
  asked m p (a ∷ b ∷ ps) c zero q k e =
      let (f, n) = rule_answer (rank_at rk row a b) (rank_at mg row a b) q k e in
      subst (λ (r : ℕ). (m < r) ⊎ ((m ≡ r) × (p ≤ a))) (sym f) (c.0 n)
  asked m p (a ∷ b ∷ ps) c (suc j) q k e = asked m p (b ∷ ps) c.1 j q k e

  ask_mid : (u : List ℕ) (p q : ℕ) (v : List ℕ) → ask (look_by rk mg) (symbols row (u ++ p ∷ q ∷ v)) (length u) ≡ answer_of (rank_at rk row p q) (rank_at mg row p q)
  ask_mid [] p q v = refl
  ask_mid (a ∷ u) p q v = ask_mid u p q v

  -- the pair at p, which none comes before, is the best
  pub best_after : (end : ℕ) (next prev : List ℕ) (u : List ℕ) (p q : ℕ) (v : List ℕ) (m : ℕ)
      → Chain (Linked next prev) (Last end next) (u ++ p ∷ q ∷ v) → Chain (After rk row m p) Any (u ++ p ∷ q ∷ v)
      → rank_at rk row p q ≡ m → (m ≡ no_id → ⊥) → Best (look_by rk mg) (symbols row (u ++ p ∷ q ∷ v)) (length u) m (rank_at mg row p q)
  best_after end next prev u p q v m c d r nn = record {
    asked = ask_mid u p q v ∙ ap (λ (z : ℕ). answer_of z (rank_at mg row p q)) r ∙ answer_rule m (rank_at mg row p q) nn;
    least = first;
  }
    where
      first : (j o k : ℕ) → ask (look_by rk mg) (symbols row (u ++ p ∷ q ∷ v)) j ≡ rule o k → Before m (length u) o j
      first j o k e =
          ⊎_elim (λ l. inl l)
          (λ (g, l). ⊎_elim
          (λ small. absurd (omega (arith, chain_index (Linked next prev) (Last end next) (λ a b l. l.rise) u p (q ∷ v) c j small)))
          (λ big. inr (g, big)) (lt_or_le j (length u)))
          (asked m p (u ++ p ∷ q ∷ v) d j o k e)
