-- The invariant: the run is on its way. The measure: the links.
use Rattle.std.proofs.Common.{rules, length, refl, sym, arith, ◌∙◌}
use Rattle.pairs.specs.Rank.{rank_of}
use Rattle.pairs.proofs.Range.{rank_small}
use Rattle.bpe.specs.Links.{Rises}
use Rattle.bpe.proofs.Live.{live_rises}
use Rattle.bpe.proofs.Scans.{scan_start, scan_place, scan_rank, scan_ready, scan_less, scan_turn, scan_end}
use Rattle.bpe.proofs.small.bpe_merge_symbols_small.Goals as goal

pub loop-entry-init : goal.loop-entry-init
loop-entry-init c = (scan_start (rank_of c.args.slots.now) c.requires.0 c.of-l.ensures c.least-entry.ensures, refl)

pub pair_at-p-requires : goal.pair_at-p-requires
pair_at-p-requires c =
    let i = c.loop-entry.invariant in
    let e = c.in-Some.is in
    scan_place (rw e at i.0) c.requires.1 refl

pub join-requires : goal.join-requires
join-requires c =
    let i = c.loop-entry.invariant in
    let p = c.pair_at-p.ensures in
    scan_ready (rw c.in-Some.is at i.0) c.requires.1 i.1 p.0 p.1

pub loop-entry-smaller : goal.loop-entry-smaller
loop-entry-smaller c =
    let i = c.loop-entry.invariant in
    let p = c.pair_at-p.ensures in
    scan_less (rw c.in-Some.is at i.0) c.requires.1 i.1 p.0 p.1 c.join.ensures

pub loop-entry-preserved : goal.loop-entry-preserved
loop-entry-preserved c =
    let i = c.loop-entry.invariant in
    let p = c.pair_at-p.ensures in
    let g = rw c.in-Some.is at i.0 in
    (scan_turn g c.requires.1 i.1 p.0 p.1 c.join.ensures (sym (scan_rank g c.requires.1 i.1 p.0 p.1)), c.join.auto.row ∙ i.1)

pub compact-requires-clause-climbs : goal.compact-requires-clause-climbs
compact-requires-clause-climbs c =
    let i = c.loop-entry.invariant in
    let rises : Rises (length c.args.row.now) (length c.loop-entry.row) c.loop-entry.l.next = rw i.1 (live_rises i.0.lives (omega arith)) in
    search rules

pub returns : goal.returns
returns c =
    let i = c.loop-entry.invariant in
    scan_end (rw c.in_default.is at i.0) (rank_small c.args.slots.now) c.requires.1 i.1 (c.compact.ensures (length c.args.row.now) c.loop-entry.l.next (omega arith) (λ i r l s. search rules))
