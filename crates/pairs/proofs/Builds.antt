-- The ways out of `build`, and what `rank` answers over a built table. Assumes nothing.
use Rattle.std.proofs.Common.{cond, ltb, ◌≡◌, refl, sym, ap, ◌∙◌, ◌≢◌, ◌⊎◌, inl, inr, ⊎_elim, true, false, List, [], ◌∷◌, ℕ, suc, ◌/◌, ◌%◌, ◌≤◌, ◌<◌, arith, length, set, length-set, replicate, lt-ltb, le-ltb, Some, None, Result, Ok, Err}
use lib.ListN.{length-replicate}
use Rattle.token.specs.Limits.{top, most_entries}
use Rattle.token.specs.Ids.{first_too_large, index_in}
use Rattle.token.specs.Refusals.{fine, refused, verdict}
use Rattle.token.specs.declared.Refusal.{Refusal}
use Rattle.token.specs.declared.Refusal.TheVariants.{CountTooLarge, WrongShape, IdTooLarge}
use Rattle.token.proofs.Ids.{legal_all, found_first, found_none}
use Rattle.merging.specs.Lists.{look_of}
use Rattle.pairs.specs.Limits.{vacant, most_rules}
use Rattle.pairs.specs.Key.{key, packed}
use Rattle.pairs.specs.Walk.{near}
use Rattle.pairs.specs.Table.{look, wanted, Filled, slots, bad, fill, filled}
use Rattle.pairs.specs.Calls.{refusal_of, refused_by, slots_of, table_of, after, Builds, ranks, ranking_of}
use Rattle.pairs.specs.Steps.{Fillable, Fills}
use Rattle.pairs.proofs.Walks.{by_walk}
use Rattle.pairs.proofs.Size.{wanted_sized}
use Rattle.pairs.proofs.Accept.{accepted, accepted_look}
use Rattle.pairs.proofs.Ranks.{fitting, rank_found}

-- ---- what storing the rules can end in

-- a bad rule is refused by 4 or 5, and a good list keeps the number of slots
abbrev Ends : ℕ → Filled → Type 0
Ends n (slots t) = length t ≡ n
Ends n (bad k p) = (k ≡ 4) ⊎ (k ≡ 5)

ends : (list s : List ℕ) (r : ℕ) → Ends (length s) (fill r list s)
ends [] s r = refl
ends (a ∷ []) s r = refl
ends (a ∷ b ∷ []) s r = refl
ends (a ∷ b ∷ m ∷ list) s r =
    by_walk (near s (key a b))
    (λ i e. rw e (inl refl))
    (λ i e. rw (e, ← (length-set s i (packed a b m))) (ends list (set s i (packed a b m)) (suc r)))
    (λ e. rw e (inr refl))

filled_ends : (list : List ℕ) (n : ℕ) → Ends n (filled list n)
unfolding filled
filled_ends list n = rw (length-replicate n vacant) at (ends list (replicate n vacant) 0)

-- ---- the ways out

module _ (list : List ℕ) (vocab : ℕ) (s : List ℕ) where
  -- a refusal that leaves the slots as they were
  abbrev Leaves : Refusal → Type 0
  Leaves f = (t : List ℕ) → s ≡ after (verdict f) s t

  pub build_refused : (f : Refusal) → Leaves f → refusal_of list vocab (length s) ≡ verdict f → Builds list vocab s (Err f) s
  build_refused f l e = record { answer = sym e; left = rw e (l _) }

  left_by : (f : Filled) → Ends (length s) f → slots_of f (length s) ≡ after (refused_by f) s (slots_of f (length s))
  left_by (slots t) h = refl
  left_by (bad k p) h = ⊎_elim (λ e. rw e) (λ e. rw e) h

  -- the refusals, in their order
  pub many_refused : most_rules < length list / 3 → Builds list vocab s (Err CountTooLarge) s
  unfolding refusal_of
  many_refused a = build_refused CountTooLarge (λ t. refl) (rw (lt-ltb most_rules (length list / 3) a))

  module _ (few : length list / 3 ≤ most_rules) where
    pub wide_refused : most_entries < vocab → Builds list vocab s (Err CountTooLarge) s
    unfolding refusal_of
    wide_refused a = build_refused CountTooLarge (λ t. refl) (rw (le-ltb most_rules (length list / 3) few, lt-ltb most_entries vocab a))

    module _ (narrow : vocab ≤ most_entries) where
      pub part_refused : length list % 3 ≢ 0 → Builds list vocab s (Err WrongShape) s
      unfolding refusal_of
      part_refused a =
          build_refused WrongShape (λ t. refl) (rw (le-ltb most_rules (length list / 3) few, le-ltb most_entries vocab narrow, lt-ltb 0 (length list % 3) (omega arith)))

      module _ (whole : length list % 3 ≡ 0) where
        -- what is refused after these three tests
        later : refusal_of list vocab (length s)
            ≡ cond (wanted (length list / 3) (length s))
            (cond (ltb (first_too_large list) (length list)) (refused 3 (first_too_large list)) (refused_by (filled list (length s))))
            (refused 2 0)
        unfolding refusal_of
        later = rw (le-ltb most_rules (length list / 3) few, le-ltb most_entries vocab narrow, le-ltb 0 (length list % 3) (omega arith))

        pub size_refused : wanted (length list / 3) (length s) ≡ false → Builds list vocab s (Err WrongShape) s
        size_refused a = build_refused WrongShape (λ t. refl) (later ∙ rw a)

        module _ (size : wanted (length list / 3) (length s) ≡ true) where
          pub id_refused : {at : ℕ} → Some at ≡ index_in list (first_too_large list) → Builds list vocab s (Err (IdTooLarge at)) s
          id_refused {at} a =
              let (e, l) = found_first list a in
              build_refused (IdTooLarge at) (λ t. refl) (later ∙ rw (size, ← e, lt-ltb at (length list) l))

          module _ (none : None ≡ index_in list (first_too_large list)) (t : List ℕ) where
            pub fillable : t ≡ replicate (length s) vacant → Fillable list t
            fillable e =
                let same : length t ≡ length s = rw e (length-replicate (length s) vacant) in
                record { size = rw same (wanted_sized _ _ few size); whole = whole; ids = found_none list none; clear = rw same e }

            pub build_filled : {r : Result (Unit {0}) Refusal} {s' : List ℕ} → length t ≡ length s → Fills list t r s' → Builds list vocab s r s'
            build_filled l f =
                let e = later ∙ rw (size, le-ltb (first_too_large list) (length list) (omega (arith, legal_all list (found_none list none)))) in
                record {
                  answer = (rw l at f.answer) ∙ sym e;
                  left = (rw l at f.left) ∙ rw e (left_by (filled list (length s)) (filled_ends list (length s)));
                }

pub ruleset building = (many_refused, wide_refused, part_refused, size_refused, id_refused, fillable, build_filled)

-- ---- the two calls together

kept : (n : ℕ) (f : Filled) → Ends n f → refused_by f ≡ fine → length (slots_of f n) ≡ n
kept n (slots t) h e = h
kept n (bad k p) h e = length-replicate n vacant

-- over a built table, `rank` answers for each legal pair what the list has
pub built_rank : (list : List ℕ) (vocab : ℕ) (s s' : List ℕ) → Builds list vocab s (Ok tt) s'
    → (a b : ℕ) → a ≤ top → b ≤ top → ranking_of s' a b ≡ ranks (look_of list a b)
unfolding look
built_rank list vocab s s' x a b la lb =
    let e = sym x.answer in
    let y = accepted list vocab (length s) e in
    let here : s' ≡ table_of list (length s) = x.left ∙ rw e in
    let long : length s' ≡ length s = ap (λ (u : List ℕ). length u) here ∙ kept (length s) (filled list (length s)) (filled_ends list (length s)) y.stored in
    let fit = fitting s' (rw long (wanted_sized (length list / 3) (length s) y.few y.size)) refl in
    sym (rank_found s' fit a b la lb refl refl)
    ∙ ap ranks (rw here (accepted_look list vocab (length s) e a b la lb))
