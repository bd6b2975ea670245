-- Chains of places: taken apart, put together, and read. Assumes nothing.
use mathlib.Core.Path.{◌≡◌, refl, sym, ap, ◌∙◌}
use mathlib.Core.Logic.{inl, inr, ⊎_elim}
use mathlib.Core.List.{List, [], ◌∷◌, ◌++◌}
use Prim.Native.Nat.{ℕ, zero, suc, ◌+◌, ◌≤◌, ◌<◌}
use native.Mathlib.Omega.{arith}
use lib.ListN.{length, get_or}
use Rattle.merging.specs.Merging.{In, join, count}
use Rattle.bpe.specs.Links.{Chain, Any, symbols}
use Rattle.token.proofs.Cases.{by_equal}

-- ---- membership

pub in_mid : (u : List ℕ) (p : ℕ) (v : List ℕ) → In p (u ++ p ∷ v)
in_mid [] p v = inl refl
in_mid (a ∷ u) p v = inr (in_mid u p v)

pub in_right : (u v : List ℕ) (a : ℕ) → In a v → In a (u ++ v)
in_right [] v a x = x
in_right (b ∷ u) v a x = inr (in_right u v a x)

pub in_left : (u v : List ℕ) (a : ℕ) → In a u → In a (u ++ v)
in_left [] v a x = absurd x
in_left (b ∷ u) v a x = ⊎_elim (λ e. inl e) (λ y. inr (in_left u v a y)) x

-- by where it is: in u, it is p, or in v
pub in_parts : {A : Type 0} (u : List ℕ) (p : ℕ) (v : List ℕ) (a : ℕ) → In a (u ++ p ∷ v) → (In a u → A) → (a ≡ p → A) → (In a v → A) → A
in_parts [] p v a x f g h = ⊎_elim g h x
in_parts (b ∷ u) p v a x f g h = ⊎_elim (λ e. f (inl e)) (λ y. in_parts u p v a y (λ z. f (inr z)) g h) x

-- q taken out
pub in_out : (u : List ℕ) (p q : ℕ) (v : List ℕ) (a : ℕ) → (a ≡ q → ⊥) → In a (u ++ p ∷ q ∷ v) → In a (u ++ p ∷ v)
in_out u p q v a n x =
    in_parts u p (q ∷ v) a x (λ y. in_left u (p ∷ v) a y) (λ e. in_right u (p ∷ v) a (inl e))
    (λ y. in_right u (p ∷ v) a (inr (⊎_elim (λ e. absurd (n e)) (λ z. z) y)))

pub in_in : (u : List ℕ) (p q : ℕ) (v : List ℕ) (a : ℕ) → In a (u ++ p ∷ v) → In a (u ++ p ∷ q ∷ v)
in_in u p q v a x =
    in_parts u p v a x (λ y. in_left u (p ∷ q ∷ v) a y) (λ e. in_right u (p ∷ q ∷ v) a (inl e)) (λ y. in_right u (p ∷ q ∷ v) a (inr (inr y)))

-- ---- chains

module _ (P : ℕ → ℕ → Type 0) (E : ℕ → Type 0) where
  pub chain_tail : (a : ℕ) (ps : List ℕ) → Chain P E (a ∷ ps) → Chain P E ps
  chain_tail a [] c = tt
  chain_tail a (b ∷ ps) c = c.1

  pub chain_left : (u : List ℕ) (p : ℕ) (v : List ℕ) → Chain P E (u ++ p ∷ v) → Chain P Any (u ++ p ∷ [])
  chain_left [] p v c = tt
  chain_left (a ∷ []) p v c = (c.0, tt)
  chain_left (a ∷ b ∷ u) p v c = (c.0, chain_left (b ∷ u) p v c.1)

  pub chain_right : (u : List ℕ) (p : ℕ) (v : List ℕ) → Chain P E (u ++ p ∷ v) → Chain P E (p ∷ v)
  chain_right [] p v c = c
  chain_right (a ∷ []) p v c = c.1
  chain_right (a ∷ b ∷ u) p v c = chain_right (b ∷ u) p v c.1

  pub chain_join : (u : List ℕ) (p : ℕ) (v : List ℕ) → Chain P Any (u ++ p ∷ []) → Chain P E (p ∷ v) → Chain P E (u ++ p ∷ v)
  chain_join [] p v c d = d
  chain_join (a ∷ []) p v c d = (c.0, d)
  chain_join (a ∷ b ∷ u) p v c d = (c.0, chain_join (b ∷ u) p v c.1 d)

  -- a place of which E does not hold is not the last
  pub chain_at : (ps : List ℕ) → Chain P E ps → (p : ℕ) → In p ps → (E p → ⊥) → (u : List ℕ) × (q : ℕ) × (v : List ℕ) × (ps ≡ u ++ p ∷ q ∷ v)
  chain_at [] c p x n = absurd x
  chain_at (a ∷ []) c p x n = ⊎_elim (λ e. absurd (n (rw e c))) (λ y. absurd y) x
  chain_at (a ∷ b ∷ ps) c p x n =
      ⊎_elim (λ e. ([], b, ps, ap (λ (z : ℕ). z ∷ b ∷ ps) (sym e)))
      (λ y. let (u, q, v, e) = chain_at (b ∷ ps) c.1 p y n in (a ∷ u, q, v, ap (λ (l : List ℕ). a ∷ l) e)) x

  module _ (rise : (a b : ℕ) → P a b → a < b) where
    pub chain_above : (p : ℕ) (ps : List ℕ) → Chain P E (p ∷ ps) → (a : ℕ) → In a ps → p < a
    chain_above p [] c a x = absurd x
    chain_above p (q ∷ ps) c a x =
        let l = rise p q c.0 in ⊎_elim (λ e. omega arith) (λ y. omega (arith, chain_above q ps c.1 a y)) x

    pub chain_first : (p : ℕ) (ps : List ℕ) → Chain P E (p ∷ ps) → (a : ℕ) → In a (p ∷ ps) → p ≤ a
    chain_first p ps c a x = ⊎_elim (λ e. omega arith) (λ y. omega (arith, chain_above p ps c a y)) x

    pub chain_below : (u : List ℕ) (p : ℕ) (v : List ℕ) → Chain P E (u ++ p ∷ v) → (a : ℕ) → In a u → a < p
    chain_below [] p v c a x = absurd x
    chain_below (b ∷ u) p v c a x =
        ⊎_elim (λ e. omega (arith, chain_above b (u ++ p ∷ v) c p (in_mid u p v)))
        (λ y. chain_below u p v (chain_tail b (u ++ p ∷ v) c) a y) x

    -- the places rise with their indices
    pub chain_index : (u : List ℕ) (p : ℕ) (v : List ℕ) → Chain P E (u ++ p ∷ v) → (j : ℕ) → j < length u → get_or (u ++ p ∷ v) j 0 < p
    chain_index [] p v c j l = absurd (omega arith)
    chain_index (b ∷ u) p v c zero l = chain_above b (u ++ p ∷ v) c p (in_mid u p v)
    chain_index (b ∷ u) p v c (suc j) l = chain_index u p v (chain_tail b (u ++ p ∷ v) c) j (omega arith)

module _ (P Q : ℕ → ℕ → Type 0) (E F : ℕ → Type 0) where
  pub chain_map : (ps : List ℕ) → ((a b : ℕ) → In a ps → In b ps → P a b → Q a b) → ((a : ℕ) → In a ps → E a → F a) → Chain P E ps → Chain Q F ps
  chain_map [] f g c = tt
  chain_map (p ∷ []) f g c = g p (inl refl) c
  chain_map (p ∷ q ∷ ps) f g c =
      (f p q (inl refl) (inr (inl refl)) c.0, chain_map (q ∷ ps) (λ a b x y. f a b (inr x) (inr y)) (λ a x. g a (inr x)) c.1)

pub same_first : (u : List ℕ) (p q : ℕ) (v : List ℕ) (d : ℕ) → get_or (u ++ p ∷ q ∷ v) 0 d ≡ get_or (u ++ p ∷ v) 0 d
same_first [] p q v d = refl
same_first (a ∷ u) p q v d = refl

-- ---- what stands at the places

module _ (row row' : List ℕ) (p m : ℕ) (here : get_or row' p 0 ≡ m) (rest : (i : ℕ) → (i ≡ p → ⊥) → get_or row' i 0 ≡ get_or row i 0) where
  symbols_other : (ps : List ℕ) → ((a : ℕ) → In a ps → a ≡ p → ⊥) → symbols row' ps ≡ symbols row ps
  symbols_other [] n = refl
  symbols_other (a ∷ ps) n = rw (rest a (n a (inl refl)), symbols_other ps (λ b x. n b (inr x)))

  pub symbols_join : (u : List ℕ) (q : ℕ) (v : List ℕ) → ((a : ℕ) → In a u → a ≡ p → ⊥) → ((a : ℕ) → In a v → a ≡ p → ⊥)
      → symbols row' (u ++ p ∷ v) ≡ join (length u) m (symbols row (u ++ p ∷ q ∷ v))
  symbols_join [] q v n k = rw (here, symbols_other v k)
  symbols_join (a ∷ u) q v n k = rw (rest a (n a (inl refl)), symbols_join u q v (λ b x. n b (inr x)) k)

pub symbols_append : (row u v : List ℕ) → symbols row (u ++ v) ≡ symbols row u ++ symbols row v
symbols_append row [] v = refl
symbols_append row (a ∷ u) v = ap (λ (l : List ℕ). get_or row a 0 ∷ l) (symbols_append row u v)

-- ---- all places

pub chain_count : (P : ℕ → ℕ → Type 0) (E : ℕ → Type 0) (n : ℕ) → ((i : ℕ) → i + 1 < n → P i (suc i)) → ((i : ℕ) → i + 1 ≡ n → E i)
    → (k s : ℕ) → s + k ≡ n → Chain P E (count s k)
chain_count P E n f g zero s e = tt
chain_count P E n f g (suc zero) s e = g s e
chain_count P E n f g (suc (suc k)) s e = (f s (omega arith), chain_count P E n f g (suc k) (suc s) (omega arith))

pub in_all : (k s i : ℕ) → s ≤ i → i < s + k → In i (count s k)
in_all zero s i l h = omega arith
in_all (suc k) s i l h = by_equal i s (λ e. inl e) (λ ne. inr (in_all k (suc s) i (omega arith) (omega arith)))

pub first_count : (n : ℕ) → 2 ≤ n → get_or (count 0 n) 0 1 ≡ 0
first_count zero l = absurd (omega arith)
first_count (suc n) l = refl

symbols_shift : (x : ℕ) (row : List ℕ) (k s : ℕ) → symbols (x ∷ row) (count (suc s) k) ≡ symbols row (count s k)
symbols_shift x row zero s = refl
symbols_shift x row (suc k) s = ap (λ (l : List ℕ). get_or row s 0 ∷ l) (symbols_shift x row k (suc s))

pub symbols_all : (row : List ℕ) → symbols row (count 0 (length row)) ≡ row
symbols_all [] = refl
symbols_all (x ∷ row) = ap (λ (l : List ℕ). x ∷ l) (symbols_shift x row (length row) 0 ∙ symbols_all row)
