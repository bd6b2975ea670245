-- The picture that both paths share: what it says of a pair, that one merge keeps it, and that it ends with the answer. Assumes nothing.
use mathlib.Core.Path.{◌≡◌, refl, sym, ap, subst, ◌∙◌}
use mathlib.Core.Logic.{◌⊎◌, inl, inr, ⊎_elim}
use mathlib.Core.List.{List, [], ◌∷◌, ◌++◌}
use Prim.Native.Nat.{ℕ, suc, ◌≤◌, ◌<◌}
use native.Mathlib.Numerals.{add-one}
use native.Mathlib.Omega.{arith}
use lib.ListN.{length, get_or, set}
use lib.Seq.{get_or-set_same, get_or-set_other}
use Rattle.token.specs.Limits.{no_id}
use Rattle.merging.specs.Merging.{Lookup, Best, Stuck, once, merging, merge, In, count}
use Rattle.merging.proofs.Best.{best_complete}
use Rattle.merging.proofs.Merge.{once_at, merging_add, merges_merging, merges_unique}
use Rattle.merging.proofs.Rows.{in_count}
use Rattle.bpe.specs.Look.{look_by, rank_at, After}
use Rattle.bpe.specs.Links.{Each, Rises, Fresh, Cut, Chain, Any, Linked, Last, symbols, Live, Walk}
use Rattle.token.proofs.Cases.{by_equal}
use Rattle.bpe.proofs.Same.{read, at_list}
use Rattle.bpe.proofs.Chains.{in_right, in_out, in_in, in_parts, chain_left, chain_right, chain_join, chain_at, chain_map, chain_above, chain_first, chain_below, same_first, symbols_join, chain_count, in_all, first_count, symbols_all}
use Rattle.bpe.proofs.Pick.{best_after, chain_stuck}

rises : {next prev : List ℕ} (a b : ℕ) → Linked next prev a b → a < b
rises a b l = l.rise

-- what is before a place that is not the first
left_linked : (next prev : List ℕ) (p a : ℕ) (u : List ℕ) → Chain (Linked next prev) Any ((a ∷ u) ++ p ∷ []) → (get_or next (get_or prev p 0) 0 ≡ p) × In (get_or prev p 0) (a ∷ u)
left_linked next prev p a [] c = (read next c.0.left ∙ c.0.right, inl c.0.left)
left_linked next prev p a (b ∷ u) c = let (e, x) = left_linked next prev p b u c.1 in (e, inr x)

-- ---- what the picture says

module _ {before end n : ℕ} {look : Lookup} {given row next prev : List ℕ} (g : Live before end look given n row next prev) (wide : n ≤ end) where
  -- a place with a next is live, and its next stands after it
  pub live_split : (p : ℕ) → p < n → (get_or next p 0 ≡ end → ⊥) → (u : List ℕ) × (v : List ℕ) × (g.live ≡ u ++ p ∷ get_or next p 0 ∷ v)
  live_split p l ne =
      ⊎_elim
      (λ x.
      let (u, q, v, e) = chain_at (Linked next prev) (Last end next) g.live g.linked p x ne in
      let c = subst (λ (z : List ℕ). Chain (Linked next prev) (Last end next) z) e g.linked in
      (u, v, e ∙ ap (λ (z : ℕ). u ++ p ∷ z ∷ v) (sym (chain_right (Linked next prev) (Last end next) u p (q ∷ v) c).0.right)))
      (λ e. absurd (ne e)) (g.rest p l)

  split_chain : (u v : List ℕ) → g.live ≡ u ++ v → Chain (Linked next prev) (Last end next) (u ++ v)
  split_chain u v e = subst (λ (z : List ℕ). Chain (Linked next prev) (Last end next) z) e g.linked

  split_inside : (u v : List ℕ) → g.live ≡ u ++ v → (a : ℕ) → In a (u ++ v) → a < n
  split_inside u v e a x = g.inside a (subst (λ (z : List ℕ). In a z) (sym e) x)

  pub live_linked : (p : ℕ) → p < n → (get_or next p 0 ≡ end → ⊥) → Linked next prev p (get_or next p 0)
  live_linked p l ne =
      let (u, v, e) = live_split p l ne in
      (chain_right (Linked next prev) (Last end next) u p (get_or next p 0 ∷ v) (split_chain u (p ∷ get_or next p 0 ∷ v) e)).0

  pub live_rises : Rises end n next
  live_rises p l ne =
      let (u, v, e) = live_split p l ne in
      ((live_linked p l ne).rise, split_inside u (p ∷ get_or next p 0 ∷ v) e (get_or next p 0) (in_right u (p ∷ get_or next p 0 ∷ v) (get_or next p 0) (inr (inl refl))))

  -- what holds of each place and its next holds along the live places
  pub each_chain : (P : ℕ → ℕ → Type 0) → Each end n next P → Chain P Any g.live
  each_chain P f =
      chain_map (Linked next prev) P (Last end next) Any g.live
      (λ a b x y l. let h = g.inside b y in subst (P a) l.right (f a (g.inside a x) (λ e. omega (arith, l.right)))) (λ a x e. tt) g.linked

  pub live_walk : (m : ℕ) → m ≡ n → Walk end m next g.live
  live_walk m e = record {
    first = g.first;
    follows = chain_map (Linked next prev) (λ a b. get_or next a 0 ≡ b) (Last end next) (Last end next) g.live (λ a b x y l. l.right) (λ a x l. l) g.linked;
    inside = λ a x. omega (arith, g.inside a x);
  }

  -- ---- at a place p with a next

  module _ (p : ℕ) (lp : p < n) (ne : get_or next p 0 ≡ end → ⊥) where
    pub live_right : (p < get_or next p 0) × (get_or next p 0 < n)
    live_right = live_rises p lp ne

    pub live_past : get_or next p 0 < get_or next (get_or next p 0) 0
    live_past =
        let (a, b) = live_right in
        by_equal (get_or next (get_or next p 0) 0) end (λ e. omega arith) (λ nq. (live_rises (get_or next p 0) b nq).0)

    -- nothing is before it, or a place that is linked to it
    pub live_left : (get_or prev p 0 ≡ before) ⊎ ((get_or prev p 0 < p) × (get_or next (get_or prev p 0) 0 ≡ p))
    live_left = let (u, v, e) = live_split p lp ne in go u v e (split_chain u (p ∷ get_or next p 0 ∷ v) e)
      where
        go : (u v : List ℕ) → g.live ≡ u ++ p ∷ get_or next p 0 ∷ v → Chain (Linked next prev) (Last end next) (u ++ p ∷ get_or next p 0 ∷ v)
            → (get_or prev p 0 ≡ before) ⊎ ((get_or prev p 0 < p) × (get_or next (get_or prev p 0) 0 ≡ p))
        go [] v e c = let f : p ≡ 0 = ap (λ (l : List ℕ). get_or l 0 1) (sym e) ∙ g.first in inl (read prev f ∙ g.start)
        go (a ∷ u) v e c =
            let (f, x) = left_linked next prev p a u (chain_left (Linked next prev) (Last end next) (a ∷ u) p (get_or next p 0 ∷ v) c) in
            inr (chain_below (Linked next prev) (Last end next) rises (a ∷ u) p (get_or next p 0 ∷ v) c (get_or prev p 0) x, f)

    -- one place is before it
    pub one_before : (i : ℕ) → i < n → get_or next i 0 ≡ p → get_or prev p 0 ≡ i
    one_before i l e = sym (read prev e) ∙ (live_linked i l (λ f. omega arith)).left

    -- ---- and its pair is merged

    module _ (next' prev' : List ℕ) (s : Cut end next prev p (get_or next p 0) next' prev') where
      pub prev_same : get_or prev' p 0 ≡ get_or prev p 0
      prev_same = s.lefts p (λ e. omega (arith, live_right, live_past))

      -- what holds of each place and its next holds of them still, if it does around p
      pub each_joined : (P P' : ℕ → ℕ → Type 0) → Each end n next P → ((a : ℕ) → a < n → get_or prev p 0 ≡ a → P' a p) → ((get_or next' p 0 ≡ end → ⊥) → P' p (get_or next' p 0))
          → ((a : ℕ) → a < n → (a ≡ p → ⊥) → (a ≡ get_or next p 0 → ⊥) → (get_or next a 0 ≡ p → ⊥) → P a (get_or next a 0) → P' a (get_or next a 0)) → Each end n next' P'
      each_joined P P' each left right other i h nl =
          by_equal i (get_or next p 0) (λ e. absurd (nl (read next' e ∙ s.gone)))
          (λ nq. by_equal i p (λ e. subst (λ (z : ℕ). P' z (get_or next' z 0)) (sym e) (right (λ z. nl (read next' e ∙ z))))
          (λ np.
          let f : get_or next' i 0 ≡ get_or next i 0 = s.others i np nq in
          subst (P' i) (sym f)
          (by_equal (get_or next i 0) p (λ e. subst (P' i) (sym e) (left i h (one_before i h e)))
          (λ nx. other i h np nq nx (each i h (λ z. nl (f ∙ z)))))))

      module _ (row' : List ℕ) (k : ℕ) (row_is : row' ≡ set row p k) (rl : length row ≡ n) where
        pub joined_here : get_or row' p 0 ≡ k
        joined_here = at_list p row_is ∙ get_or-set_same row p k 0 (omega arith)

        pub joined_rest : (i : ℕ) → (i ≡ p → ⊥) → get_or row' i 0 ≡ get_or row i 0
        joined_rest i np = at_list i row_is ∙ get_or-set_other row p i k 0 np

        module _ (u v : List ℕ) (split : g.live ≡ u ++ p ∷ get_or next p 0 ∷ v) where
          abbrev q : ℕ
          q = get_or next p 0

          c : Chain (Linked next prev) (Last end next) (u ++ p ∷ get_or next p 0 ∷ v)
          c = split_chain u (p ∷ get_or next p 0 ∷ v) split

          below : (a : ℕ) → In a (u ++ p ∷ []) → a ≤ p
          below a x =
              in_parts u p [] a x (λ y. omega (arith, chain_below (Linked next prev) (Last end next) rises u p (get_or next p 0 ∷ v) c a y)) (λ e. omega arith) (λ y. absurd y)

          still : (a b : ℕ) → (a ≡ p → ⊥) → (a ≡ get_or next p 0 → ⊥) → (b ≡ get_or next (get_or next p 0) 0 → ⊥) → Linked next prev a b → Linked next' prev' a b
          still a b na nq nb l = record { right = s.others a na nq ∙ l.right; left = s.lefts b nb ∙ l.left; rise = l.rise }

          left_part : Chain (Linked next' prev') Any (u ++ p ∷ [])
          left_part =
              chain_map (Linked next prev) (Linked next' prev') Any Any (u ++ p ∷ [])
              (λ a b x y l.
              let bp = below b y in
              let lt = l.rise in
              let (w, z) = live_right in
              still a b (λ e. omega arith) (λ e. omega arith) (λ e. omega (arith, live_past)) l)
              (λ a x t. tt) (chain_left (Linked next prev) (Last end next) u p (get_or next p 0 ∷ v) c)

          right_part : (v : List ℕ) → Chain (Linked next prev) (Last end next) (get_or next p 0 ∷ v) → ((a : ℕ) → In a v → a < n) → Chain (Linked next' prev') (Last end next') (p ∷ v)
          right_part [] d i = s.here ∙ d
          right_part (r ∷ w) d i =
              let e = d.0.right in
              let qr = d.0.rise in
              let re = i r (inl refl) in
              let (pq, z) = live_right in (
                record { right = s.here ∙ e; left = sym (read prev' e) ∙ s.back (λ f. omega arith); rise = omega arith },
                chain_map (Linked next prev) (Linked next' prev') (Last end next) (Last end next') (r ∷ w)
                    (λ a b x y l.
                    let ra = chain_first (Linked next prev) (Last end next) rises r w d.1 a x in
                    let lt = l.rise in
                    still a b (λ f. omega arith) (λ f. omega arith) (λ f. omega arith) l)
                    (λ a x l. let ra = chain_first (Linked next prev) (Last end next) rises r w d.1 a x in s.others a (λ f. omega arith) (λ f. omega arith) ∙ l) d.1,
              )

          pub live_joined : (r : ℕ) → Best look (symbols row (u ++ p ∷ get_or next p 0 ∷ v)) (length u) r k → Live before end look given n row' next' prev'
          live_joined r b = record {
            live = u ++ p ∷ v;
            steps = suc g.steps;
            first = sym (same_first u p q v 1) ∙ ap (λ (l : List ℕ). get_or l 0 1) (sym split) ∙ g.first;
            start = s.lefts 0 (λ e. omega (arith, live_past)) ∙ g.start;
            linked = chain_join (Linked next' prev') (Last end next') u p v left_part
                (right_part v (chain_right (Linked next prev) (Last end next) u p (q ∷ v) c).1 (λ a x. inside a (in_right u (p ∷ q ∷ v) a (inr (inr x)))));
            inside = λ a x. inside a (in_in u p q v a x);
            rest = rest;
            done = ap (λ (z : ℕ). merging z look given) (sym (add-one g.steps)) ∙ merging_add look g.steps 1 given ∙ ap (once look) (g.done ∙ ap (symbols row) split)
                ∙ once_at look (symbols row (u ++ p ∷ q ∷ v)) (best_complete look (symbols row (u ++ p ∷ q ∷ v)) b)
                ∙ sym (symbols_join row row' p k joined_here joined_rest u q v
                (λ a x e. omega (arith, chain_below (Linked next prev) (Last end next) rises u p (q ∷ v) c a x))
                (λ a x e. omega (arith, chain_above (Linked next prev) (Last end next) rises p (q ∷ v) (chain_right (Linked next prev) (Last end next) u p (q ∷ v) c) a (inr x))));
          }
            where
              inside : (a : ℕ) → In a (u ++ p ∷ q ∷ v) → a < n
              inside = split_inside u (p ∷ q ∷ v) split

              rest : (i : ℕ) → i < n → In i (u ++ p ∷ v) ⊎ (get_or next' i 0 ≡ end)
              rest i l =
                  by_equal i q (λ e. inr (read next' e ∙ s.gone))
                  (λ nq. by_equal i p (λ e. inl (in_right u (p ∷ v) i (inl e)))
                  (λ np. ⊎_elim (λ x. inl (in_out u p q v i nq (subst (λ (z : List ℕ). In i z) split x))) (λ e. inr (s.others i np nq ∙ e)) (g.rest i l)))

-- ---- one merge, and the end, by ranks

module _ (rk mg : ℕ → ℕ → ℕ) {before end n : ℕ} {given row next prev : List ℕ} (g : Live before end (look_by rk mg) given n row next prev) (wide : n ≤ end) where
  -- a pair that no other comes before is merged
  pub live_merged : (p : ℕ) (lp : p < n) (ne : get_or next p 0 ≡ end → ⊥) (next' prev' row' : List ℕ) → Cut end next prev p (get_or next p 0) next' prev'
      → row' ≡ set row p (rank_at mg row p (get_or next p 0)) → length row ≡ n
      → (r : ℕ) → rank_at rk row p (get_or next p 0) ≡ r → (r ≡ no_id → ⊥) → Each end n next (After rk row r p) → Live before end (look_by rk mg) given n row' next' prev'
  live_merged p lp ne next' prev' row' s row_is rl r e nn after =
      let (u, v, split) = live_split g wide p lp ne in
      live_joined g wide p lp ne next' prev' s row' (rank_at mg row p (get_or next p 0)) row_is rl u v split r
      (best_after rk mg row end next prev u p (get_or next p 0) v r
      (subst (λ (z : List ℕ). Chain (Linked next prev) (Last end next) z) split g.linked)
      (subst (λ (z : List ℕ). Chain (After rk row r p) Any z) split (each_chain g wide (After rk row r p) after)) e nn)

  -- where no pair has a rank, the live places hold the answer
  pub live_done : Each end n next (λ a b. rank_at rk row a b ≡ no_id) → symbols row g.live ≡ merge (look_by rk mg) given
  live_done none =
      let s : Stuck (look_by rk mg) (symbols row g.live) = chain_stuck rk mg row g.live (each_chain g wide (λ a b. rank_at rk row a b ≡ no_id) none) in
      sym g.done ∙ merges_unique (look_by rk mg) (merges_merging (look_by rk mg) g.steps given (rw g.done s))

-- ---- the beginning

pub live_start : {before end : ℕ} (look : Lookup) (row next prev : List ℕ) → 2 ≤ length row → Fresh before end (length row) next prev → Live before end look row (length row) row next prev
live_start {before} {end} look row next prev two f = record {
  live = count 0 (length row);
  steps = 0;
  first = first_count (length row) two;
  start = f.first;
  linked = chain_count (Linked next prev) (Last end next) (length row)
      (λ i l. record { right = f.nexts i l ∙ add-one i; left = rw add-one at (f.prevs i l); rise = omega arith }) (λ i e. f.last i e) (length row) 0 (omega arith);
  inside = λ a x. omega (arith, in_count a 0 (length row) x);
  rest = λ i l. inl (in_all (length row) 0 i (omega arith) (omega arith));
  done = sym (symbols_all row);
}
