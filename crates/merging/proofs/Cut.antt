-- Cut at the start of a symbol of the answer, the two parts merge by themselves. Assumes nothing.
use mathlib.Core.Path.{◌≡◌, refl, sym, ap, ap₂, ◌∙◌}
use mathlib.Core.Logic.{⊎_elim}
use mathlib.Core.List.{List, ◌∷◌, ◌++◌}
use Prim.Native.Nat.{ℕ, zero, suc, ◌+◌, ◌-◌, ◌<◌}
use native.Mathlib.Nat.{zero-add}
use native.Mathlib.Omega.{arith}
use lib.ListN.{length, get_or, take, drop, take-append-drop, length-drop}
use lib.Seq.{length-take-le, take_at, drop_at}
use Rattle.merging.specs.Merging.{Lookup, join, Best, best, once, merging, merge, without, count, thinned, starting, starts, In}
use Rattle.merging.proofs.Best.{best_sound, by_best}
use Rattle.merging.proofs.Merge.{length_join, merge_join, stuck_merge, merge_stuck, ask_bound}
use Rattle.merging.proofs.Rows

-- the row and its starts, cut before the symbol that starts at c
record Seam (c : ℕ) (row ss : List ℕ) : Type 0 where
  u : List ℕ
  v : List ℕ
  su : List ℕ
  sv : List ℕ
  cut_row : row ≡ u ++ v
  cut_starts : ss ≡ su ++ c ∷ sv
  length_u : length su ≡ length u
  length_v : suc (length sv) ≡ length v
  not_before : ¬ In c su
  not_after : ¬ In c sv

module _ (look : Lookup) (c : ℕ) where
  -- a seam after some merges, each of which was one of the left part or one of the right part
  abbrev Later : {row ss : List ℕ} → Seam c row ss → (row' ss' : List ℕ) → Type 0
  Later s row' ss' = (t : Seam c row' ss') × (merge look t.u ≡ merge look s.u) × (merge look t.v ≡ merge look s.v)

  -- ---- one merge that leaves c in place

  module _ {row ss : List ℕ} (s : Seam c row ss) {i p m : ℕ} (h : Best look row i p m) where
    next_left : suc i < length s.u → Later s (join i m row) (without (suc i) ss)
    next_left l =
        let k : suc i < length s.su = omega (arith, s.length_u) in (
          record {
            u = join i m s.u;
            v = s.v;
            su = without (suc i) s.su;
            sv = s.sv;
            cut_row = ap (join i m) s.cut_row ∙ Rows.join_left i m s.u s.v l;
            cut_starts = ap (without (suc i)) s.cut_starts ∙ Rows.without_left (suc i) s.su (c ∷ s.sv) k;
            length_u = omega (arith, s.length_u, Rows.length_without (suc i) s.su k, length_join i m s.u l);
            length_v = s.length_v;
            not_before = λ x. s.not_before (Rows.in_without c (suc i) s.su x);
            not_after = s.not_after;
          },
          merge_join look s.u (Rows.best_left look s.u s.v l (rw s.cut_row at h)),
          refl,
        )

    next_right : (d : ℕ) → i ≡ length s.u + d → Later s (join i m row) (without (suc i) ss)
    next_right d e =
        let b : Best look s.v d p m = Rows.best_right look s.u s.v (rw (e, s.cut_row) at h) in
        let l : suc d < length s.v = ask_bound look s.v d b.asked in
        let k : d < length s.sv = omega (arith, s.length_v) in (
          record {
            u = s.u;
            v = join d m s.v;
            su = s.su;
            sv = without d s.sv;
            cut_row = ap₂ (λ (x : ℕ) (r : List ℕ). join x m r) e s.cut_row ∙ Rows.join_right d m s.u s.v;
            cut_starts = ap₂ without (omega (arith, s.length_u)) s.cut_starts ∙ Rows.without_right (suc d) s.su (c ∷ s.sv);
            length_u = s.length_u;
            length_v = omega (arith, s.length_v, Rows.length_without d s.sv k, length_join d m s.v l);
            not_before = s.not_before;
            not_after = λ x. s.not_after (Rows.in_without c d s.sv x);
          },
          refl,
          merge_join look s.v b,
        )

    not_across : suc i ≡ length s.u → ¬ In c (without (suc i) ss)
    not_across e w =
        let g : without (suc i) ss ≡ s.su ++ s.sv = ap₂ without (omega (arith, s.length_u)) s.cut_starts ∙ Rows.without_right 0 s.su (c ∷ s.sv) in
        ⊎_elim s.not_before s.not_after (Rows.in_append c s.su s.sv (rw g at w))

    next : In c (without (suc i) ss) → Later s (join i m row) (without (suc i) ss)
    next w =
        ⊎_elim next_left
        (λ l. ⊎_elim (λ k. absurd (not_across (omega arith) w)) (λ k. next_right (i - length s.u) (omega arith)) (Rows.lt_or_le i (length s.u)))
        (Rows.lt_or_le (suc i) (length s.u))

  -- ---- from the given row to the answer

  in_starting : (k : ℕ) (row ss : List ℕ) → In c (starting k look row ss) → In c ss
  in_starting zero row ss h = h
  in_starting (suc k) row ss h =
      by_best look row (λ e. rw e at (in_starting k (once look row) (thinned (best look row) ss) h))
      (λ i p m e. Rows.in_without c (suc i) ss (rw e at (in_starting k (once look row) (thinned (best look row) ss) h)))

  seam_merging : (k : ℕ) (row ss : List ℕ) (s : Seam c row ss) → In c (starting k look row ss) → Later s (merging k look row) (starting k look row ss)
  seam_merging zero row ss s w = (s, refl, refl)
  seam_merging (suc k) row ss s w =
      by_best look row (λ e. rw e (seam_merging k row ss s (rw e at w)))
      (λ i p m e.
      let w' : In c (starting k look (join i m row) (without (suc i) ss)) = rw e at w in
      let (t, eu, ev) = next s (best_sound look row e) (in_starting k (join i m row) (without (suc i) ss) w') in
      let (t', eu', ev') = seam_merging k (join i m row) (without (suc i) ss) t w' in
      rw e (t', eu' ∙ eu, ev' ∙ ev))

  first_seam : (row : List ℕ) → c < length row → Seam c row (count 0 (length row))
  first_seam row l =
      let d = length row - suc c in
      let e : length row ≡ c + suc d = omega arith in
      record {
        u = take c row;
        v = drop c row;
        su = count 0 c;
        sv = count (suc c) d;
        cut_row = sym (take-append-drop c row);
        cut_starts = ap (count 0) e ∙ Rows.count_add 0 c (suc d) ∙ (rw zero-add);
        length_u = Rows.length_count 0 c ∙ sym (length-take-le c row (omega arith));
        length_v = omega (arith, Rows.length_count (suc c) d, length-drop c row);
        not_before = λ x. omega (arith, Rows.in_count c 0 c x);
        not_after = λ x. omega (arith, Rows.in_count c (suc c) d x);
      }

  -- the answer and its starts have a seam, whose parts are the answers of the two parts of the row
  last_seam : (row : List ℕ) → In c (starts look row) → (t : Seam c (merge look row) (starts look row)) × (merge look (take c row) ≡ t.u) × (merge look (drop c row) ≡ t.v)
  unfolding merge starts first_seam
  last_seam row w =
      let l : c < length row = omega (arith, Rows.in_count c 0 (length row) (in_starting (length row) row (count 0 (length row)) w)) in
      let (t, eu, ev) = seam_merging (length row) row (count 0 (length row)) (first_seam row l) w in
      let h = rw t.cut_row at (merge_stuck look row) in (
        t,
        sym eu ∙ stuck_merge look t.u (Rows.stuck_left look t.u t.v h),
        sym ev ∙ stuck_merge look t.v (Rows.stuck_right look t.u t.v h),
      )

  -- demand 3, the cut
  pub merge_cut : (row : List ℕ) → In c (starts look row) → merge look (take c row) ++ merge look (drop c row) ≡ merge look row
  merge_cut row w = let (t, eu, ev) = last_seam row w in ap₂ ◌++◌ eu ev ∙ sym t.cut_row

  -- the same for the symbol number j: what stands before its start is merged to the symbols before it, and the rest to it and those after it
  pub merge_start : (row : List ℕ) (j : ℕ) → j < length (starts look row) → get_or (starts look row) j 0 ≡ c
      → (merge look (take c row) ≡ take j (merge look row)) × (merge look (drop c row) ≡ drop j (merge look row))
  merge_start row j l e =
      let (t, eu, ev) = last_seam row (rw e at (Rows.getD_in (starts look row) j l)) in
      let n : length t.u ≡ j = sym (Rows.place_of c j t.su t.sv (rw t.cut_starts at l) (rw t.cut_starts at e) t.not_before t.not_after ∙ t.length_u) in (
        eu ∙ sym (ap (take j) t.cut_row ∙ take_at t.u t.v j n),
        ev ∙ sym (ap (drop j) t.cut_row ∙ drop_at t.u t.v j n),
      )
