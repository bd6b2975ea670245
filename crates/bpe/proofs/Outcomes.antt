-- What the calls answer and leave, way out by way out. Assumes nothing.
use mathlib.Core.Path.{◌≡◌, refl, sym, ap, ◌∙◌}
use mathlib.Core.Bool.{Bool, true, false, not, ◌||◌}
use mathlib.Core.List.{List, [], ◌∷◌, ◌++◌, append-nil}
use Prim.Native.Nat.{ℕ, zero, suc, ◌*◌, ◌-◌, ◌/◌, ◌≤◌, ◌<◌}
use native.Mathlib.Omega.{arith}
use borrow.Author.Tests.{lt-ltb, le-ltb, ltb-true, ltb-false, eq-eqb, ne_eqb}
use lib.Dec.{ltb, eqb}
use lib.ListN.{length, get_or, replicate, length-map}
use lib.Seq.{ext_get_or}
use Rattle.std.proofs.Common.{Option, None, Some, MatchOption}
use Rattle.token.proofs.Ids.{IsFirst}
use Rattle.token.specs.Limits.{top, no_id, most_row}
use Rattle.token.specs.Ids.{Legal, first_too_large}
use Rattle.token.specs.Refusals.{Verdict, fine, refused, verdict}
use Rattle.token.specs.declared.Refusal.{Refusal}
use Rattle.token.proofs.Cases.{by_test}
use Rattle.merging.specs.Merging.{Lookup, Stuck, merge}
use Rattle.merging.proofs.Answer.{by_answer}
use Rattle.merging.proofs.Bound.{merge_agree}
use Rattle.merging.proofs.Merge.{stuck_merge}
use Rattle.pairs.specs.Table.{look, shaped}
use Rattle.pairs.specs.Calls.{ranking_of}
use Rattle.pairs.specs.Rank.{rank_of}
use Rattle.pairs.proofs.Agree.{look_small, look_stays, up_to_top}
use Rattle.bpe.specs.Limits.{most_small, map_length}
use Rattle.bpe.specs.Calls.{unfit, first_of, row_verdict, bytes_verdict, through, used, counted, Merges}
use Rattle.bpe.specs.Look.{look_in}
use Rattle.bpe.specs.Long.{MergedWith}
use Rattle.bpe.specs.Small.{MergedShort}
use Rattle.std.specs.Prelude.{Ok, Err}
use Rattle.bpe.proofs.Pick.{answer_rule, answer_none}

-- ---- merging by ranks is merging by the table's lookup

looked : (s : List ℕ) → shaped (length s) ≡ true → (a b : ℕ) → a ≤ top → b ≤ top → look s a b ≡ look_in (rank_of s) a b
unfolding rank_of ranking_of
looked s e a b la lb =
    rw (e, le-ltb top a la, le-ltb top b lb)
    (by_answer (look s a b) (λ f. rw f (sym (answer_none no_id no_id refl)))
    (λ p m f. let (g, h) = look_small s a b p m f in rw (f, g) (sym (answer_rule m m (λ z. omega arith)))))

pub merge_looked : (s row : List ℕ) → shaped (length s) ≡ true → Legal row → merge (look_in (rank_of s)) row ≡ merge (look s) row
merge_looked s row e l = sym (merge_agree top (look s) (look_stays s) (look_in (rank_of s)) (looked s e) row (up_to_top row l))

-- ---- the wrong shape

module _ (slots n next prev heap : ℕ) where
  pub unfit_table : shaped slots ≡ false → unfit slots n next prev heap ≡ true
  unfit_table e = rw e

  module _ (e : shaped slots ≡ true) where
    pub unfit_small : n ≤ most_small → unfit slots n next prev heap ≡ false
    unfit_small h = rw (e, le-ltb most_small n h)

    module _ (h : most_small < n) where
      pub unfit_next : next < n → unfit slots n next prev heap ≡ true
      unfit_next l = rw (e, lt-ltb most_small n h, lt-ltb next n l)

      pub unfit_prev : n ≤ next → prev < n → unfit slots n next prev heap ≡ true
      unfit_prev k l = rw (e, lt-ltb most_small n h, le-ltb next n k, lt-ltb prev n l)

      pub unfit_heap : n ≤ next → n ≤ prev → unfit slots n next prev heap ≡ ltb (heap / 2) n
      unfit_heap k l = rw (e, lt-ltb most_small n h, le-ltb next n k, le-ltb prev n l) half
        where
          half : ltb heap (2 * n) ≡ ltb (heap / 2) n
          half = by_test (ltb (heap / 2) n)
              (λ f. lt-ltb heap (2 * n) (omega (arith, ltb-true (heap / 2) n f)) ∙ sym f)
              (λ f. le-ltb heap (2 * n) (omega (arith, ltb-false (heap / 2) n f)) ∙ sym f)

  -- where nothing is wrong, the table has the shape of one and scratch is long enough
  pub record Fits : Type 0 where
    pub table : shaped slots ≡ true
    pub next_long : most_small < n → n ≤ next
    pub prev_long : most_small < n → n ≤ prev
    pub heap_long : most_small < n → 2 * n ≤ heap

  pub fit_shape : unfit slots n next prev heap ≡ false → Fits
  fit_shape f =
      by_test (shaped slots)
      (λ e. record {
        table = e;
        next_long = λ h. by_test (ltb next n) (λ g. absurd (two (unfit_next e h (ltb-true next n g)))) (λ g. ltb-false next n g);
        prev_long = λ h. by_test (ltb next n) (λ g. absurd (two (unfit_next e h (ltb-true next n g))))
            (λ g. by_test (ltb prev n) (λ k. absurd (two (unfit_prev e h (ltb-false next n g) (ltb-true prev n k)))) (λ k. ltb-false prev n k));
        heap_long = λ h. by_test (ltb next n) (λ g. absurd (two (unfit_next e h (ltb-true next n g))))
            (λ g. by_test (ltb prev n) (λ k. absurd (two (unfit_prev e h (ltb-false next n g) (ltb-true prev n k))))
            (λ k. omega (arith, ltb-false (heap / 2) n (sym (unfit_heap e h (ltb-false next n g) (ltb-false prev n k)) ∙ f))));
      })
      (λ e. absurd (two (unfit_table e)))
    where
      two : unfit slots n next prev heap ≡ true → ⊥
      two t = let z : true ≡ false = sym t ∙ f in let y : ◌≡◌ {A = ℕ} 0 1 = cc in omega arith

-- ---- bytes

pub through_long : (ids bytes : List ℕ) → length (through ids bytes) ≡ length bytes
through_long ids bytes = length-map bytes (λ (b : ℕ). get_or ids b 0)

pub through_at : (ids bytes : List ℕ) (i : ℕ) → i < length bytes → get_or (through ids bytes) i 0 ≡ get_or ids (get_or bytes i 0) 0
through_at ids [] i l = absurd (omega arith)
through_at ids (b ∷ bytes) zero l = refl
through_at ids (b ∷ bytes) (suc i) l = through_at ids bytes i (omega arith)

pub through_is : (ids bytes row : List ℕ) → length row ≡ length bytes → ((i : ℕ) → i < length bytes → get_or row i 0 ≡ get_or ids (get_or bytes i 0) 0) → row ≡ through ids bytes
through_is ids bytes row e f = ext_get_or 0 row (through ids bytes) (e ∙ sym (through_long ids bytes)) (λ i l. let m : i < length bytes = omega arith in f i m ∙ sym (through_at ids bytes i m))

-- a search through the map is one over the ids
pub first_through : (ids bytes : List ℕ) (r : Option ℕ)
    → MatchOption r ((k : ℕ) → k < length bytes → get_or ids (get_or bytes k 0) 0 ≤ top)
    (λ i. (i < length bytes) × (top < get_or ids (get_or bytes i 0) 0) × ((k : ℕ) → k < i → get_or ids (get_or bytes k 0) 0 ≤ top))
    → IsFirst (through ids bytes) r
first_through ids bytes None h = λ k l. let m : k < length bytes = rw (through_long ids bytes) at l in rw (through_at ids bytes k m) (h k m)
first_through ids bytes (Some i) h = (
  rw (through_long ids bytes) h.0,
  rw (through_at ids bytes i h.0) h.1,
  λ k l. let m : k < length bytes = omega (arith, h.0) in rw (through_at ids bytes k m) (h.2 k l),
)

-- ---- the verdicts

module _ (large wrong : Bool) (ids : List ℕ) where
  verdict_large : large ≡ true → first_of large wrong ids ≡ refused 1 0
  verdict_large e = rw e

  module _ (few : large ≡ false) where
    verdict_wrong : wrong ≡ true → first_of large wrong ids ≡ refused 2 0
    verdict_wrong e = rw (few, e)

    module _ (right : wrong ≡ false) {at : ℕ} (e : at ≡ first_too_large ids) where
      verdict_high : at < length ids → first_of large wrong ids ≡ refused 3 at
      verdict_high l = rw (few, right, lt-ltb (first_too_large ids) (length ids) (rw e at l)) (ap (refused 3) (sym e))

      verdict_fine : length ids ≤ at → first_of large wrong ids ≡ fine
      verdict_fine l = rw (few, right, le-ltb (first_too_large ids) (length ids) (rw e at l))

module _ (slots row next prev heap : List ℕ) where
  abbrev row_unfit : Bool
  row_unfit = unfit (length slots) (length row) (length next) (length prev) (length heap)

  pub row_large : most_row < length row → row_verdict slots row next prev heap ≡ refused 1 0
  unfolding row_verdict
  row_large h = verdict_large (ltb most_row (length row)) row_unfit row (lt-ltb most_row (length row) h)

  module _ (few : length row ≤ most_row) where
    pub row_wrong : row_unfit ≡ true → row_verdict slots row next prev heap ≡ refused 2 0
    unfolding row_verdict
    row_wrong h = verdict_wrong (ltb most_row (length row)) row_unfit row (le-ltb most_row (length row) few) h

    module _ (right : row_unfit ≡ false) {at : ℕ} (e : at ≡ first_too_large row) where
      pub row_high : at < length row → row_verdict slots row next prev heap ≡ refused 3 at
      unfolding row_verdict
      row_high l = verdict_high (ltb most_row (length row)) row_unfit row (le-ltb most_row (length row) few) right e l

      pub row_fine : length row ≤ at → row_verdict slots row next prev heap ≡ fine
      unfolding row_verdict
      row_fine l = verdict_fine (ltb most_row (length row)) row_unfit row (le-ltb most_row (length row) few) right e l

module _ (slots ids bytes row next prev heap : List ℕ) where
  abbrev bytes_unfit : Bool
  bytes_unfit = unfit (length slots) (length bytes) (length next) (length prev) (length heap)

  abbrev large : Bool
  large = ltb most_row (length bytes) || ltb most_row (length row)

  abbrev wrong : Bool
  wrong = not (eqb (length row) (length bytes)) || (not (eqb (length ids) map_length) || bytes_unfit)

  pub bytes_large : most_row < length bytes → bytes_verdict slots ids bytes row next prev heap ≡ refused 1 0
  unfolding bytes_verdict
  bytes_large h = verdict_large large wrong (through ids bytes) (rw (lt-ltb most_row (length bytes) h))

  module _ (few : length bytes ≤ most_row) where
    pub bytes_large_row : most_row < length row → bytes_verdict slots ids bytes row next prev heap ≡ refused 1 0
    unfolding bytes_verdict
    bytes_large_row h = verdict_large large wrong (through ids bytes) (rw (le-ltb most_row (length bytes) few, lt-ltb most_row (length row) h))

    module _ (few-row : length row ≤ most_row) where
      not_large : large ≡ false
      not_large = rw (le-ltb most_row (length bytes) few, le-ltb most_row (length row) few-row)

      pub bytes_row : (length row ≡ length bytes → ⊥) → bytes_verdict slots ids bytes row next prev heap ≡ refused 2 0
      unfolding bytes_verdict
      bytes_row h = verdict_wrong large wrong (through ids bytes) not_large (rw (ne_eqb (length row) (length bytes) h))

      module _ (same : length row ≡ length bytes) where
        pub bytes_map : (length ids ≡ map_length → ⊥) → bytes_verdict slots ids bytes row next prev heap ≡ refused 2 0
        unfolding bytes_verdict
        bytes_map h = verdict_wrong large wrong (through ids bytes) not_large (rw (eq-eqb (length row) (length bytes) same, ne_eqb (length ids) map_length h))

        module _ (full : length ids ≡ map_length) where
          wrong_is : wrong ≡ bytes_unfit
          wrong_is = rw (eq-eqb (length row) (length bytes) same, eq-eqb (length ids) map_length full)

          pub bytes_wrong : bytes_unfit ≡ true → bytes_verdict slots ids bytes row next prev heap ≡ refused 2 0
          unfolding bytes_verdict
          bytes_wrong h = verdict_wrong large wrong (through ids bytes) not_large (wrong_is ∙ h)

          module _ (right : bytes_unfit ≡ false) {at : ℕ} (e : at ≡ first_too_large (through ids bytes)) where
            pub bytes_high : at < length bytes → bytes_verdict slots ids bytes row next prev heap ≡ refused 3 at
            unfolding bytes_verdict
            bytes_high l = verdict_high large wrong (through ids bytes) not_large (wrong_is ∙ right) e (rw (through_long ids bytes) l)

            pub bytes_fine : length bytes ≤ at → bytes_verdict slots ids bytes row next prev heap ≡ fine
            unfolding bytes_verdict
            bytes_fine l = verdict_fine large wrong (through ids bytes) not_large (wrong_is ∙ right) e (rw (through_long ids bytes) l)

-- ---- either way

pub refused_by : {v : Verdict} {look : Lookup} {ids row next prev heap : List ℕ} (f : Refusal) → v ≡ verdict f → Merges v look ids row next prev heap (Err f) row next prev heap
refused_by f e = rw e (record { answer = refl; row_is = refl; next_is = refl; prev_is = refl; heap_is = refl })

pub merged_by : {v : Verdict} {look look' : Lookup} {ids next prev heap row' next' prev' heap' : List ℕ} (row : List ℕ) {count : ℕ} → v ≡ fine → merge look' ids ≡ merge look ids
    → MergedWith (used (length ids)) look' ids next prev heap count row' next' prev' heap' → Merges v look ids row next prev heap (Ok count) row' next' prev' heap'
merged_by {v} {look} {look'} {ids} row {count} e f m =
    rw e (record {
      answer = ap counted (m.count_is ∙ ap length f);
      row_is = m.row_is ∙ ap (λ (r : List ℕ). r ++ replicate (length ids - length r) no_id) f;
      next_is = m.next_is;
      prev_is = m.prev_is;
      heap_is = m.heap_is;
    })

-- ---- by length

module _ {look : Lookup} {row next prev heap : List ℕ} where
  pub merged_none : length row < 2 → MergedWith (used (length row)) look row next prev heap (length row) row next prev heap
  merged_none h =
      let e : merge look row ≡ row = stays row h in
      let u : used (length row) ≡ 0 = rw (le-ltb most_small (length row) (omega arith)) in
      let z : length row - length row ≡ 0 = omega arith in
      rw u (record { count_is = ap length (sym e); row_is = rw (e, z) (sym (append-nil row)); next_is = refl; prev_is = refl; heap_is = refl })
    where
      stays : (row : List ℕ) → length row < 2 → merge look row ≡ row
      stays [] l = stuck_merge look [] (λ j. refl)
      stays (a ∷ []) l = stuck_merge look (a ∷ []) stuck
        where
          stuck : Stuck look (a ∷ [])
          stuck zero = refl
          stuck (suc j) = refl
      stays (a ∷ b ∷ row) l = absurd (omega arith)

  pub merged_short : {count : ℕ} {row' : List ℕ} → length row ≤ most_small → MergedShort look row count row' → MergedWith (used (length row)) look row next prev heap count row' next prev heap
  merged_short h m =
      let u : used (length row) ≡ 0 = rw (le-ltb most_small (length row) h) in
      rw u (record { count_is = m.count_is; row_is = m.row_is; next_is = refl; prev_is = refl; heap_is = refl })

  pub merged_long : {count : ℕ} {row' next' prev' heap' : List ℕ} → most_small < length row → MergedWith (length row) look row next prev heap count row' next' prev' heap'
      → MergedWith (used (length row)) look row next prev heap count row' next' prev' heap'
  merged_long h m = let u : used (length row) ≡ length row = rw (lt-ltb most_small (length row) h) in rw u m
