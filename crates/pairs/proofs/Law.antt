-- Over the slots of an accepted list, lookup is the list's. Assumes nothing.
use Rattle.std.proofs.Common.{◌≡◌, refl, sym, ap, ◌∙◌, ◌≢◌, ◌&&◌, cond, List, [], ◌∷◌, ℕ, suc, ◌+◌, ◌^◌, ◌≤◌, ◌<◌, arith, eqb, ltb, length, get_or, set, length-set, get_or-set_same, get_or-set_other, eq-eqb, ne_eqb, ltb-false}
use Rattle.merging.specs.Merging.{Answer, nothing, rule}
use Rattle.token.specs.Limits.{top}
use Rattle.token.specs.Ids.{Legal}
use Rattle.token.proofs.Cases.{by_test, by_equal}
use Rattle.merging.specs.Lists.{rule_of, look_of}
use Rattle.pairs.specs.Limits.{vacant, farthest}
use Rattle.pairs.specs.Key.{key, packed, key_in, merged_in, shift, home}
use Rattle.pairs.specs.Walk.{hit, empty, round, near, reach}
use Rattle.pairs.specs.Table.{answer_at, look, slots, bad, fill}
use Rattle.pairs.proofs.Walks.{by_walk, hit_empty, hit_full, walk_is, way, hit_key, hit_inside, empty_vacant, empty_inside, longer, meets, meets_still}

-- all that the law asks of the hash
abbrev pub Homes : ℕ → Type 0
Homes n = (k : ℕ) → home (shift n) k < n

reach_le : (n : ℕ) → reach n ≤ n
reach_le n = by_test (ltb n (farthest + 1)) (λ e. rw e (omega arith)) (λ e. rw e (ltb-false n (farthest + 1) e))

round_hit : (s : List ℕ) (k j : ℕ) → near s k ≡ hit j → round s k ≡ hit j
round_hit s k j e = walk_is (longer (length s) (reach_le (length s)) (way _ _ e))

-- each stored slot is a rule's, and its own walk meets it within reach
abbrev pub Stands : List ℕ → Type 0
Stands s = (j : ℕ) → j < length s → get_or s j 0 ≢ vacant → (near s (key_in (get_or s j 0)) ≡ hit j) × (key_in (get_or s j 0) < 2 ^ 42)

-- a key that no empty slot has
key_small : (a b : ℕ) → a ≤ top → b ≤ top → key a b < 2 ^ 42
key_small a b p q = omega arith

-- a slot with a legal key is met
met_near : (s : List ℕ) → Stands s → (k j : ℕ) → k < 2 ^ 42 → j < length s → key_in (get_or s j 0) ≡ k → near s k ≡ hit j
met_near s good k j small l e = rw e at (good j l (λ v. let z : key_in vacant ≡ k = ap key_in (sym v) ∙ e in omega arith)).0

-- ---- one rule is stored, at the empty slot p of its walk

module _ (s : List ℕ) (homes : Homes (length s)) (good : Stands s) (a b m p : ℕ) (la : a ≤ top) (lb : b ≤ top) (lm : m ≤ top) (stop : near s (key a b) ≡ empty p) where
  inside : p < length s
  inside = empty_inside (homes (key a b)) (way _ _ stop)

  free : get_or s p 0 ≡ vacant
  free = empty_vacant (way _ _ stop)

  here : get_or (set s p (packed a b m)) p 0 ≡ packed a b m
  here = get_or-set_same s p (packed a b m) 0 inside

  there : (j : ℕ) → j ≢ p → get_or (set s p (packed a b m)) j 0 ≡ get_or s j 0
  there j d = get_or-set_other s p j (packed a b m) 0 d

  its_key : key_in (packed a b m) ≡ key a b
  its_key = omega arith

  near_new : near (set s p (packed a b m)) (key a b) ≡ hit p
  near_new = rw (length-set s p (packed a b m)) (walk_is (meets s (packed a b m) inside its_key (way _ _ stop)))

  near_old : (k j : ℕ) → k < 2 ^ 42 → near s k ≡ hit j → near (set s p (packed a b m)) k ≡ hit j
  near_old k j small e = rw (length-set s p (packed a b m)) (walk_is (meets_still s (packed a b m) p free (omega arith) (way _ _ e)))

  pub stands_more : Stands (set s p (packed a b m))
  stands_more j l v =
      by_equal j p
      (λ e. rw (e, here, its_key) (near_new, key_small a b la lb))
      (λ d. let o = there j d in
      let (e, small) = good j (rw (length-set s p (packed a b m)) at l) (rw o at v) in
      rw o (near_old _ j small e, small))

  pub look_before : look s a b ≡ nothing
  unfolding look
  look_before =
      by_walk (round s (key a b))
      (λ j e. let h = way _ _ e in hit_empty (met_near s good (key a b) j (key_small a b la lb) (hit_inside (homes (key a b)) h) (hit_key h)) stop)
      (λ j e. rw e)
      (λ e. rw e)

  pub look_new : look (set s p (packed a b m)) a b ≡ rule_of m
  unfolding look
  look_new =
      let e : merged_in (packed a b m) ≡ m = omega arith in
      rw (round_hit (set s p (packed a b m)) (key a b) p near_new, here, e)

  pub look_old : (c d : ℕ) → c ≤ top → d ≤ top → key a b ≢ key c d → look (set s p (packed a b m)) c d ≡ look s c d
  unfolding look
  look_old c d lc ld ne =
      let small = key_small c d lc ld in
      let s' = set s p (packed a b m) in
      by_walk (round s (key c d))
      (λ j e.
      let h = way _ _ e in
      let i = met_near s good (key c d) j small (hit_inside (homes (key c d)) h) (hit_key h) in
      let o = there j (λ q. let z : key_in vacant ≡ key c d = ap key_in (sym (ap (λ (n : ℕ). get_or s n 0) q ∙ free)) ∙ hit_key h in omega arith) in
      rw (e, round_hit s' (key c d) j (near_old (key c d) j small i), o))
      (λ j e. rw e (missed (λ i f. hit_empty f e)))
      (λ e. rw e (missed (λ i f. hit_full f e)))
    where
      -- what the new slots have, the old have
      missed : ((j : ℕ) → round s (key c d) ≡ hit j → ⊥) → answer_at (set s p (packed a b m)) (round (set s p (packed a b m)) (key c d)) ≡ nothing
      missed none =
          let s' = set s p (packed a b m) in
          by_walk (round s' (key c d))
          (λ j e.
          let h = way _ _ e in
          let l : j < length s = rw (length-set s p (packed a b m)) at (hit_inside (rw (length-set s p (packed a b m)) (homes (key c d))) h) in
          by_equal j p
          (λ q. absurd (ne (sym its_key ∙ ap key_in (sym here) ∙ (rw q at (hit_key h)))))
          (λ q. absurd (none j (round_hit s (key c d) j (met_near s good (key c d) j (key_small c d lc ld) l (rw (there j q) at (hit_key h)))))))
          (λ j e. rw e)
          (λ e. rw e)

-- ---- a list of rules

-- the first answer, or else the second
abbrev or_else : Answer → Answer → Answer
or_else nothing y = y
or_else (rule p m) y = rule p m

pub not_slots : {A : Type 0} {k r : ℕ} {t : List ℕ} → bad k r ≡ slots t → A
not_slots e = cc

same_slots : {s t : List ℕ} → slots s ≡ slots t → s ≡ t
same_slots e = cc

or_nothing : (x : Answer) → x ≡ or_else x nothing
or_nothing nothing = refl
or_nothing (rule p m) = refl

-- one rule more
one_more : (s s' : List ℕ) (x y m a b : ℕ) (rest : Answer) → x ≤ top → y ≤ top → a ≤ top → b ≤ top
    → look s x y ≡ nothing → look s' x y ≡ rule_of m → ((key x y ≢ key a b) → look s' a b ≡ look s a b)
    → or_else (look s' a b) rest ≡ or_else (look s a b) (cond (eqb x a && eqb y b) (rule_of m) rest)
one_more s s' x y m a b rest lx ly la lb before new old =
    by_equal x a
    (λ e. by_equal y b
    (λ f. rw (eq-eqb x a e, eq-eqb y b f, ← e, ← f, before, new))
    (λ f. rw (eq-eqb x a e, ne_eqb y b f, old (λ k. f (omega arith)))))
    (λ e. rw (ne_eqb x a e, old (λ k. e (omega arith))))

pub fill_look : (list s t : List ℕ) (r : ℕ) → Legal list → Homes (length s) → Stands s → fill r list s ≡ slots t
    → (a b : ℕ) → a ≤ top → b ≤ top → look t a b ≡ or_else (look s a b) (look_of list a b)
fill_look [] s t r legal homes good e a b la lb = rw (← (same_slots e)) (or_nothing (look s a b))
fill_look (x ∷ []) s t r legal homes good e a b la lb = rw (← (same_slots e)) (or_nothing (look s a b))
fill_look (x ∷ y ∷ []) s t r legal homes good e a b la lb = rw (← (same_slots e)) (or_nothing (look s a b))
fill_look (x ∷ y ∷ m ∷ list) s t r (lx, (ly, (lm, legal))) homes good e a b la lb =
    by_walk (near s (key x y))
    (λ i stop. not_slots {t = t} (rw stop at e))
    (λ p stop.
    let s' = set s p (packed x y m) in
    fill_look list s' t (suc r) legal (rw (length-set s p (packed x y m)) homes)
    (stands_more s homes good x y m p lx ly lm stop) (rw stop at e) a b la lb
    ∙ one_more s s' x y m a b (look_of list a b) lx ly la lb
    (look_before s homes good x y m p lx ly lm stop)
    (look_new s homes good x y m p lx ly lm stop)
    (look_old s homes good x y m p lx ly lm stop a b la lb))
    (λ stop. not_slots {t = t} (rw stop at e))
