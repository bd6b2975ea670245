-- The run with a heap: a stale entry, a merge, an empty heap; its beginning and its end. Assumes nothing.
use mathlib.Core.Path.{◌≡◌, refl, sym, ap, ap₂, subst, ◌∙◌}
use mathlib.Core.Logic.{◌⊎◌, inl, inr, ⊎_elim}
use mathlib.Core.List.{List, ◌++◌}
use Prim.Native.Nat.{ℕ, ◌+◌, ◌*◌, ◌-◌, ◌≤◌, ◌<◌}
use native.Mathlib.Omega.{arith}
use lib.ListN.{length, get_or, set, drop, replicate, length-set, length-map, length-drop}
use lib.Seq.{ext_get_or, get_or-drop}
use Rattle.token.specs.Limits.{no_id, most_row}
use Rattle.merging.specs.Merging.{Lookup, merge}
use Rattle.bpe.specs.Calls.{zeroed, merged_row}
use Rattle.bpe.specs.Look.{look_by, rank_at, entry, After}
use Rattle.bpe.specs.Links.{Each, Fresh, links, Cut, symbols, Compacted, Live}
use Rattle.bpe.specs.Heap.{Taken}
use Rattle.bpe.specs.Long.{IsEntry, next_at, prev_at, Holds, Queued, Ready, Joined, Turned, Going, Drained, Seeded, Stay}
use Rattle.bpe.specs.declared.heap.Entry.{Entry}
use Rattle.bpe.specs.declared.heap.Heap.{Heap}
use Rattle.bpe.specs.declared.links.Links.{Links}
use Rattle.token.proofs.Cases.{by_equal}
use Rattle.bpe.proofs.Same.{read, at_list}
use Rattle.bpe.proofs.Entries.{entry_order, entry_same}
use Rattle.bpe.proofs.Linking.{links_le}
use Rattle.bpe.proofs.Live.{live_rises, prev_same, each_joined, joined_rest, live_merged, live_done, live_start, live_walk}
use Rattle.bpe.proofs.Queue.{offers_le, offers_at_le}

-- ---- one turn

module _ {rk mg : ℕ → ℕ → ℕ} {given row : List ℕ} {l : Links} {h : Heap} (g : Going rk mg given row l h) (h₁ : Heap) (e : Entry) (t : Taken h.words.now h.len h₁.words.now e.merged e.place h₁.len) where
  wide : length given ≤ no_id
  wide = omega (arith, g.long, l.few)

  inside : e.place < length given
  inside = omega (arith, g.entries (entry e.merged e.place) t.was, t.small)

  rank_small : e.merged < no_id
  rank_small = omega (arith, g.entries (entry e.merged e.place) t.was, t.small)

  pub turn_ready : length h₁.words.now ≡ length h.words.now → Ready row l h₁ e.place
  turn_ready hl = record {
    long = g.long ∙ sym g.row_long;
    place = omega (arith, inside, g.row_long);
    fits = omega (arith, t.less, g.room, g.heap_long, hl);
  }

  -- an entry other than the popped one is still there
  still : (s a : ℕ) → a < length given → (s ≡ e.merged → a ≡ e.place → ⊥) → Holds h (entry s a) → Holds h₁ (entry s a)
  still s a la nt m =
      let w = wide in
      ⊎_elim (λ f. let (x, y) = entry_same s a e.merged e.place (omega arith) t.small f in absurd (nt x y)) (λ x. x) (t.others (entry s a) m)

  -- the popped entry comes before every pair
  after : Each no_id (length given) l.next.now (After rk row e.merged e.place)
  after i li ne nn =
      let w = wide in
      entry_order e.merged e.place (rank_at rk row i (next_at l i)) i t.small (omega arith) (t.least _ (g.queued i li ne nn))

  module _ (hl : length h₁.words.now ≡ length h.words.now) where
    going_dropped : (next_at l e.place ≡ no_id) ⊎ (rank_at rk row e.place (next_at l e.place) ≡ e.merged → ⊥) → Going rk mg given row l h₁
    going_dropped stale = record {
      row_long = g.row_long;
      long = g.long;
      heap_long = omega (arith, g.heap_long);
      lives = g.lives;
      queued = λ i li ne nn. still (rank_at rk row i (next_at l i)) i li
          (λ x y. ⊎_elim (λ z. ne (read l.next.now y ∙ z)) (λ z. z (ap₂ (rank_at rk row) (sym y) (sym (read l.next.now y)) ∙ x)) stale) (g.queued i li ne nn);
      entries = λ x y. g.entries x (t.only x y);
      room = omega (arith, g.room, t.less);
    }

    module _ {row' : List ℕ} {l' : Links} {h' : Heap} (s : Stay l h₁ l' h') where
      module _ (j : Joined rk mg row l h₁ e row' l' h') where
        grew : h'.len ≤ h₁.len + 2
        grew = omega (
          arith,
          j.queued.grew,
          offers_at_le (prev_at l' e.place) _ (offers_le rk row' (prev_at l' e.place) e.place),
          offers_at_le (next_at l' e.place) _ (offers_le rk row' e.place (next_at l' e.place)),
        )

        fewer : links no_id (length given) l'.next.now + 1 ≡ links no_id (length given) l.next.now
        fewer = j.cut.fewer (length given) inside (live_rises g.lives wide e.place inside j.linked).1 j.linked

        row_long : length row' ≡ length given
        row_long = ap length j.row_is ∙ length-set row e.place (rank_at mg row e.place (next_at l e.place)) ∙ g.row_long

        rest : (i : ℕ) → (i ≡ e.place → ⊥) → get_or row' i 0 ≡ get_or row i 0
        rest = joined_rest g.lives wide e.place inside j.linked l'.next.now l'.prev.now j.cut row' (rank_at mg row e.place (next_at l e.place)) j.row_is g.row_long

        queued : Each no_id (length given) l'.next.now (Queued rk row' h')
        queued =
            each_joined g.lives wide e.place inside j.linked l'.next.now l'.prev.now j.cut (Queued rk row h) (Queued rk row' h') g.queued
            (λ a la f.
            let x : prev_at l' e.place ≡ a = prev_same g.lives wide e.place inside j.linked l'.next.now l'.prev.now j.cut ∙ f in
            let w = wide in
            subst (λ (z : ℕ). Queued rk row' h' z e.place) x (j.queued.left (λ z. omega arith)))
            j.queued.right
            (λ a la na nq nx qd nn.
            let f : rank_at rk row' a (next_at l a) ≡ rank_at rk row a (next_at l a) = ap₂ rk (rest a na) (rest (next_at l a) nx) in
            subst (λ (z : ℕ). Holds h' (entry z a)) (sym f) (j.queued.old _ (still (rank_at rk row a (next_at l a)) a la (λ x y. na y) (qd (λ z. nn (f ∙ z))))))

        going_joined : Going rk mg given row' l' h'
        going_joined = record {
          row_long = row_long;
          long = s.0.1 ∙ g.long;
          heap_long = omega (arith, g.heap_long, hl, s.2.1);
          lives = live_merged rk mg g.lives wide e.place inside j.linked l'.next.now l'.prev.now row' j.cut j.row_is g.row_long e.merged j.ranked (λ z. omega (arith, rank_small)) after;
          queued = queued;
          entries = λ x y. ⊎_elim (λ z. g.entries x (t.only x z)) (λ z. subst (λ (m : ℕ). IsEntry m x) row_long z) (j.queued.only x y);
          room = omega (arith, g.room, t.less, grew, fewer);
        }

      -- a turn keeps the run on its way, and brings it on
      module _ (x : Turned rk mg row l h₁ e row' l' h') where
        pub turn_going : Going rk mg given row' l' h'
        turn_going = ⊎_elim (λ y. rw (y.row_is, y.links_is, y.heap_is) (going_dropped y.stale)) going_joined x

        pub turn_less : h'.len + 2 * links no_id (length given) l'.next.now < h.len + 2 * links no_id (length given) l.next.now
        turn_less =
            ⊎_elim (λ y. omega (arith, ap (λ (z : Heap). z.len) y.heap_is, t.less, ap (λ (z : Links). links no_id (length given) z.next.now) y.links_is))
            (λ j. omega (arith, t.less, grew j, fewer j)) x

-- ---- the beginning and the end

pub started : {rk : ℕ → ℕ → ℕ} (mg : ℕ → ℕ → ℕ) {row : List ℕ} {l : Links} {h : Heap} → 2 ≤ length row → length l.next.now ≡ length row → 2 * length row ≤ length h.words.now
    → Fresh no_id no_id (length row) l.next.now l.prev.now → Seeded rk row h → Going rk mg row row l h
started {rk} mg {row} {l} {h} two long hl f s = record {
  row_long = refl;
  long = long;
  heap_long = hl;
  lives = live_start (look_by rk mg) row l.next.now l.prev.now two f;
  queued = λ i li ne. by_equal (i + 1) (length row) (λ e. absurd (ne (f.last i e)))
      (λ nn. let k : i + 1 < length row = omega arith in subst (Queued rk row h i) (sym (f.nexts i k)) (s.queued i k));
  entries = s.entries;
  room = omega (arith, s.bound, links_le no_id (length row) l.next.now);
}

pub ended : {rk mg : ℕ → ℕ → ℕ} {given row : List ℕ} {l : Links} {h : Heap} → Going rk mg given row l h → h.len ≡ 0 → Drained rk mg given row l
ended {rk} {mg} {given} {row} {l} {h} g z = record {
  lives = g.lives;
  done = live_done rk mg g.lives (omega (arith, g.long, l.few))
      (λ i li ne. by_equal (rank_at rk row i (next_at l i)) no_id (λ f. f) (λ nn. let (k, m, f) = g.queued i li ne nn in absurd (omega arith)));
}

-- the row at the end, on either path: the answer is at the front, and none behind it
pub answered : {look : Lookup} {before end : ℕ} {given row next prev row' : List ℕ} {count : ℕ} (g : Live before end look given (length given) row next prev)
    → length given ≤ end → length row ≡ length given → symbols row g.live ≡ merge look given → Compacted end row next row' count
    → (count ≡ length (merge look given)) × (row' ≡ merged_row look given)
answered {look} {before} {end} {given} {row} {next} {prev} {row'} {count} g w rl done c =
    let (e, f) = c.front g.live (live_walk g w (length row) rl) in
    let l : count ≡ length (merge look given) = e ∙ sym (length-map g.live (λ (i : ℕ). get_or row i 0)) ∙ ap length done in (
      l,
      f ∙ ap₂ (λ (a : List ℕ) (k : ℕ). a ++ replicate k no_id) done (ap₂ (λ (a b : ℕ). a - b) rl l),
    )
