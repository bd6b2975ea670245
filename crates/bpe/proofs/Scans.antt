-- The run by a scan of ranks: the least entry, one merge, the beginning and the end. Assumes nothing.
use mathlib.Core.Path.{◌≡◌, refl, sym, ap, ap₂, ◌∙◌}
use mathlib.Core.Logic.{◌⊎◌, ⊎_elim}
use mathlib.Core.List.{List}
use Rattle.std.proofs.Common.{Option, None, Some}
use Prim.Native.Nat.{ℕ, ◌+◌, ◌-◌, ◌≤◌, ◌<◌}
use native.Mathlib.Omega.{arith}
use lib.ListN.{length, get_or, set, length-set}
use lib.Seq.{get_or-set_same, get_or-set_other}
use Rattle.token.specs.Limits.{no_id}
use Rattle.merging.proofs.Rows.{lt_or_le}
use Rattle.bpe.specs.Limits.{most_small, no_place}
use Rattle.bpe.specs.Look.{look_by, rank_at, After}
use Rattle.bpe.specs.Links.{Each, links, Cut, Compacted}
use Rattle.bpe.specs.declared.heap.Entry.{Entry}
use Rattle.bpe.specs.declared.small.Pair.{Pair}
use Rattle.bpe.specs.Small.{Ranked, Linked8, Picks, IsPair, Placed, Between, Backed, Reranked, Ready8, Joined8, Scanning, MergedShort}
use Rattle.token.proofs.Cases.{by_equal}
use Rattle.bpe.proofs.Same.{read}
use Rattle.bpe.proofs.Entries.{entry_order}
use Rattle.bpe.proofs.Linking.{cut}
use Rattle.bpe.proofs.Live.{live_left, live_right, live_rises, each_joined, joined_rest, live_merged, live_done, live_start}
use Rattle.bpe.proofs.Drains.{answered}

-- ---- the least entry, up to i

pub record Leasting (ranks : List ℕ) (n best at i : ℕ) : Type 0 where
  pub to : i ≤ n
  pub most : best ≤ no_id
  pub at_low : at ≤ i
  pub low : (k : ℕ) → k < i → best ≤ get_or ranks k 0
  pub was : best < no_id → (at < i) × (get_or ranks at 0 ≡ best)
  pub left : (k : ℕ) → k < at → best < get_or ranks k 0

module _ {ranks : List ℕ} {n : ℕ} where
  pub least_start : Leasting ranks n no_id 0 0
  least_start = record {
    to = omega arith;
    most = omega arith;
    at_low = omega arith;
    low = λ k h. absurd (omega arith);
    was = λ h. absurd (omega arith);
    left = λ k g. absurd (omega arith);
  }

  module _ {best at i : ℕ} (s : Leasting ranks n best at i) where
    pub least_new : i < n → get_or ranks i 0 < best → Leasting ranks n (get_or ranks i 0) i (i + 1)
    least_new lt l = record {
      to = omega arith;
      most = omega (arith, s.most);
      at_low = omega arith;
      low = λ k h. by_equal k i (λ e. omega (arith, read ranks e)) (λ ne. omega (arith, s.low k (omega arith)));
      was = λ h. (omega arith, refl);
      left = λ k g. omega (arith, s.low k g);
    }

    pub least_old : i < n → best ≤ get_or ranks i 0 → Leasting ranks n best at (i + 1)
    least_old lt l = record {
      to = omega arith;
      most = s.most;
      at_low = omega (arith, s.at_low);
      low = λ k h. by_equal k i (λ e. omega (arith, read ranks e)) (λ ne. s.low k (omega arith));
      was = λ h. let w = s.was h in (omega arith, w.1);
      left = s.left;
    }

    pub least_none : n ≤ i → best ≡ no_id → Picks ranks n None
    least_none l e = λ k h. omega (arith, s.low k (omega arith))

    pub least_some : n ≤ i → n ≤ most_small → (best ≡ no_id → ⊥) → Picks ranks n (Some (record { merged = best; place = at }))
    least_some l few ne =
        let al = s.at_low in
        let to = s.to in
        let bm = s.most in
        let w = s.was (omega arith) in
        record {
          some = omega arith;
          inside = omega (arith, w.0);
          was = w.1;
          least = λ k h. by_equal best (get_or ranks k 0)
              (λ e. ⊎_elim (λ lt. absurd (omega (arith, s.left k lt))) (λ ge. omega arith) (lt_or_le k at))
              (λ ne. omega (arith, s.low k (omega arith)));
        }

-- ---- the ranks of a row that is not merged yet, up to i

pub record Ranking (rk : ℕ → ℕ → ℕ) (row ranks : List ℕ) (i : ℕ) : Type 0 where
  pub from : 1 ≤ i
  pub to : i ≤ length row
  pub long : length ranks ≡ most_small
  pub pairs : (k : ℕ) → k + 1 < i → get_or ranks k 0 ≡ rank_at rk row k (k + 1)
  pub rest : (k : ℕ) → i ≤ k + 1 → k < most_small → get_or ranks k 0 ≡ no_id

module _ {rk : ℕ → ℕ → ℕ} {row ranks : List ℕ} {i r : ℕ} where
  pub rank_turn : length row ≤ most_small → Ranking rk row ranks i → i < length row → r ≡ rank_at rk row (i - 1) i → Ranking rk row (set ranks (i - 1) r) (i + 1)
  rank_turn few s lt e =
      let fr = s.from in
      let lg = s.long in
      record {
        from = omega arith;
        to = omega arith;
        long = simp length-set lg;
        pairs = λ k h. by_equal k (i - 1)
            (λ f.
            let g : k + 1 ≡ i = omega arith in
            read (set ranks (i - 1) r) f ∙ get_or-set_same ranks (i - 1) r 0 (omega arith) ∙ e ∙ ap₂ (rank_at rk row) (sym f) (sym g))
            (λ ne. get_or-set_other ranks (i - 1) k r 0 ne ∙ s.pairs k (omega arith));
        rest = λ k h m. get_or-set_other ranks (i - 1) k r 0 (λ f. omega arith) ∙ s.rest k (omega arith) m;
      }

-- ---- one merge, part by part

-- the ranks around the pair
module _ {rk : ℕ → ℕ → ℕ} {row : List ℕ} (ranks : List ℕ) {p : Pair} (z : Placed (length row) p) (long : length ranks ≡ most_small) {r : ℕ} (b : Between rk row p.at p.after r) where
  ra : p.at < p.right
  ra = z.rise

  rn : p.right < most_small
  rn = omega (arith, z.inside, z.few)

  abbrev first : List ℕ
  first = set (set ranks p.right no_id) p.at r

  first_gone : get_or (set (set ranks p.right no_id) p.at r) p.right 0 ≡ no_id
  first_gone = get_or-set_other (set ranks p.right no_id) p.at p.right r 0 (λ e. omega (arith, ra)) ∙ get_or-set_same ranks p.right no_id 0 (omega (arith, rn))

  first_here : get_or (set (set ranks p.right no_id) p.at r) p.at 0 ≡ r
  first_here = get_or-set_same (set ranks p.right no_id) p.at r 0 (simp length-set (omega (arith, rn, ra)))

  first_others : (i : ℕ) → (i ≡ p.at → ⊥) → (i ≡ p.right → ⊥) → get_or (set (set ranks p.right no_id) p.at r) i 0 ≡ get_or ranks i 0
  first_others i np nq = get_or-set_other (set ranks p.right no_id) p.at i r 0 np ∙ get_or-set_other ranks p.right i no_id 0 nq

  pub reranked_none : length row ≤ p.left → Reranked rk row ranks p (set (set ranks p.right no_id) p.at r)
  reranked_none l = record {
    long = simp length-set;
    gone = first_gone;
    here = rw first_here b;
    left = λ h. absurd (omega arith);
    others = λ i np nq nl. first_others i np nq;
  }

  pub reranked_some : {s : ℕ} → p.left < length row → Between rk row p.left p.at s → Reranked rk row ranks p (set (set (set ranks p.right no_id) p.at r) p.left s)
  reranked_some {s} l d =
      let la : p.left < p.at = z.left l in
      let lr = z.inside in
      let up = z.rise in
      record {
        long = simp length-set;
        gone = get_or-set_other first p.left p.right s 0 (λ e. omega (arith, ra)) ∙ first_gone;
        here = rw (get_or-set_other first p.left p.at s 0 (λ e. omega arith), first_here) b;
        left = λ h. get_or-set_same first p.left s 0 (simp length-set (omega (arith, rn, ra))) ∙ d.pair (omega arith);
        others = λ i np nq nl. get_or-set_other first p.left i s 0 nl ∙ first_others i np nq;
      }

-- the links around the pair
pub joined8 : {rk : ℕ → ℕ → ℕ} {row next prev ranks : List ℕ} {p : Pair} {m : ℕ} {prev' ranks' : List ℕ} {e : Option Entry} → Ready8 row next prev ranks p
    → Backed (length row) prev p.after p.at prev' → Reranked rk (set row p.at m) ranks p ranks' → Picks ranks' (length row) e
    → Joined8 rk row next prev ranks p m (set row p.at m) (set (set next p.at p.after) p.right (length row)) prev' ranks' e
joined8 {rk} {row} {next} {prev} {ranks} {p} {m} {prev'} {ranks'} {e} r b k d =
    let z = r.placed in
    let few = z.few in
    let lq = z.inside in
    let f = r.pair.after in
    record {
      sized = record { next_long = simp length-set r.sized.next_long; prev_long = b.long ∙ r.sized.prev_long; ranks_long = k.long ∙ r.sized.ranks_long };
      row_is = refl;
      cut = rw f (cut next z.rise (omega (arith, r.sized.next_long)) (record {
        here = λ ne. rw f at (b.here (z.after (λ g. ne (sym f ∙ g))).1);
        lefts = λ i ne. b.others i (λ g. ne (g ∙ f));
        same = λ g. b.none (omega arith);
      }));
      ranked = k;
      picked = d;
    }

-- ---- one merge

module _ {rk mg : ℕ → ℕ → ℕ} {given row next prev ranks : List ℕ} {e : Entry} (g : Scanning rk mg given row next prev ranks (Some e)) (few : length given ≤ most_small) where
  -- the place of the entry has a next
  module _ {p : ℕ} (at-is : p ≡ e.place) where
    picked_place : p < length given
    picked_place = omega (arith, g.picked.inside)

    picked_rank : get_or ranks p 0 ≡ e.merged
    picked_rank = read ranks at-is ∙ g.picked.was

    picked_next : get_or next p 0 ≡ length given → ⊥
    picked_next f = omega (arith, picked_rank, g.ranked.none p picked_place f, g.picked.some)

    pub scan_place : (p < most_small) × (get_or next p 0 < most_small)
    scan_place = (omega (arith, picked_place), omega (arith, live_right g.lives (omega arith) p picked_place picked_next))

module _ {rk mg : ℕ → ℕ → ℕ} {given row next prev ranks : List ℕ} {e : Entry} (g : Scanning rk mg given row next prev ranks (Some e)) (few : length given ≤ most_small) (rl : length row ≡ length given)
    {p : Pair} (at-is : p.at ≡ e.place) (ip : IsPair next prev p) where
  lp : p.at < length given
  lp = picked_place g few at-is

  ne : get_or next p.at 0 ≡ length given → ⊥
  ne = picked_next g few at-is

  wide : length given ≤ length given
  wide = omega arith

  right : (p.at < get_or next p.at 0) × (get_or next p.at 0 < length given)
  right = live_right g.lives wide p.at lp ne

  pub scan_rank : rank_at rk row p.at (get_or next p.at 0) ≡ e.merged
  scan_rank = sym (g.ranked.pairs p.at lp ne) ∙ picked_rank g few at-is

  -- the place before p is before it in the row too, if there is one
  left_is : (get_or prev p.at 0 ≡ no_place) ⊎ ((get_or prev p.at 0 < p.at) × (get_or next (get_or prev p.at 0) 0 ≡ p.at))
  left_is = live_left g.lives wide p.at lp ne

  pub scan_ready : Ready8 row next prev ranks p
  scan_ready =
      let pl = ip.left in
      record {
        sized = g.sized;
        pair = ip;
        placed = record {
          few = omega arith;
          rise = omega (arith, ip.right, right);
          inside = omega (arith, ip.right, right);
          after = λ na.
              let f = read next ip.right in
              let w = live_rises g.lives wide (get_or next p.at 0) right.1 (λ z. na (ip.after ∙ f ∙ z ∙ sym rl)) in
              (omega (arith, ip.after, ip.right), omega (arith, ip.after));
          left = λ h. ⊎_elim (λ f. absurd (omega arith)) (λ w. omega arith) left_is;
        };
      }

  after : Each (length given) (length given) next (After rk row e.merged p.at)
  after i l ni nn =
      let f = g.ranked.pairs i l ni in
      entry_order e.merged p.at (rank_at rk row i (get_or next i 0)) i (omega arith) (omega arith) (omega (arith, g.picked.least i l))

  module _ {row' next' prev' ranks' : List ℕ} {e' : Option Entry} (j : Joined8 rk row next prev ranks p e.merged row' next' prev' ranks' e') where
    c : Cut (length given) next prev p.at (get_or next p.at 0) next' prev'
    c = rw (rl, ip.right) at j.cut

    pub scan_less : links (length given) (length given) next' < links (length given) (length given) next
    scan_less = omega (arith, c.fewer (length given) lp right.1 ne)

    rl' : length row' ≡ length given
    rl' = ap length j.row_is ∙ length-set row p.at e.merged ∙ rl

    rest : (i : ℕ) → (i ≡ p.at → ⊥) → get_or row' i 0 ≡ get_or row i 0
    rest = joined_rest g.lives wide p.at lp ne next' prev' c row' e.merged j.row_is rl

    k : Reranked rk row' ranks p ranks'
    k = j.ranked

    -- a place that is not linked to p is not the one before p
    not_left : (i : ℕ) → i < length given → (get_or next i 0 ≡ p.at → ⊥) → i ≡ p.left → ⊥
    not_left i l nx f =
        let h : i ≡ get_or prev p.at 0 = f ∙ ip.left in
        ⊎_elim (λ z. omega arith) (λ w. nx (read next h ∙ w.1)) left_is

    after_is : p.after ≡ get_or next' p.at 0
    after_is = ip.after ∙ read next ip.right ∙ sym c.here

    ranked : Ranked rk (length given) row' next' ranks'
    ranked = record {
      pairs = each_joined g.lives wide p.at lp ne next' prev' c (λ a b. get_or ranks a 0 ≡ rank_at rk row a b) (λ a b. get_or ranks' a 0 ≡ rank_at rk row' a b) g.ranked.pairs
          (λ a l f. let h : p.left ≡ a = ip.left ∙ f in sym (read ranks' h) ∙ k.left (omega (arith, rl')) ∙ ap (λ (z : ℕ). rank_at rk row' z p.at) h)
          (λ nn.
          let w = live_rises g.lives wide (get_or next p.at 0) right.1 (λ z. nn (c.here ∙ z)) in
          k.here.pair (omega (arith, rl', after_is, c.here)) ∙ ap (rank_at rk row' p.at) after_is)
          (λ a l na nq nx f. k.others a na (λ z. nq (z ∙ ip.right)) (not_left a l nx) ∙ f ∙ ap₂ rk (sym (rest a na)) (sym (rest (get_or next a 0) nx)));
      none = λ i l f.
          by_equal i p.right (λ h. read ranks' h ∙ k.gone)
          (λ nq. by_equal i p.at (λ h. read ranks' h ∙ k.here.none (omega (arith, rl', after_is, read next' h)))
          (λ na.
          let h : get_or next i 0 ≡ length given = sym (c.others i na (λ z. nq (z ∙ sym ip.right))) ∙ f in
          k.others i na nq (not_left i l (λ z. omega (arith, lp))) ∙ g.ranked.none i l h));
    }

    pub scan_turn : e.merged ≡ rank_at mg row p.at (get_or next p.at 0) → Scanning rk mg given row' next' prev' ranks' e'
    scan_turn em = record {
      sized = j.sized;
      lives = live_merged rk mg g.lives wide p.at lp ne next' prev' row' c (j.row_is ∙ ap (set row p.at) em) rl e.merged scan_rank (λ z. omega (arith, g.picked.some)) after;
      ranked = ranked;
      picked = rw rl at j.picked;
    }

-- ---- the beginning and the end

pub scan_start : {rk : ℕ → ℕ → ℕ} (mg : ℕ → ℕ → ℕ) {row next prev ranks : List ℕ} {e : Option Entry} → 2 ≤ length row → Linked8 rk row next prev ranks → Picks ranks (length row) e → Scanning rk mg row row next prev ranks e
scan_start {rk} mg {row} {next} {prev} {ranks} {e} two l d = record {
  sized = l.sized;
  lives = live_start (look_by rk mg) row next prev two l.fresh;
  ranked = record {
    pairs = λ i h ne. by_equal (i + 1) (length row) (λ f. absurd (ne (l.fresh.last i f)))
        (λ nn. let m : i + 1 < length row = omega arith in l.pairs i m ∙ ap (rank_at rk row i) (sym (l.fresh.nexts i m)));
    none = λ i h f. by_equal (i + 1) (length row) (l.last i) (λ nn. let m : i + 1 < length row = omega arith in absurd (nn (sym (l.fresh.nexts i m) ∙ f)));
  };
  picked = d;
}

pub scan_end : {rk mg : ℕ → ℕ → ℕ} {given row next prev ranks : List ℕ} {row' : List ℕ} {count : ℕ} → Scanning rk mg given row next prev ranks None → ((a b : ℕ) → rk a b ≤ no_id)
    → length given ≤ most_small → length row ≡ length given → Compacted (length given) row next row' count → MergedShort (look_by rk mg) given count row'
scan_end {rk} {mg} {given} {row} {next} {prev} {ranks} {row'} {count} g small few rl packed =
    let (f, h) = answered g.lives (omega arith) rl
    (live_done rk mg g.lives (omega arith)
    (λ i l ne. let q = g.ranked.pairs i l ne in omega (arith, g.picked i l, small (get_or row i 0) (get_or row (get_or next i 0) 0)))) packed in
    record { count_is = f; row_is = h }
