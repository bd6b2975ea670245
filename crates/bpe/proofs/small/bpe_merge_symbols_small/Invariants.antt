-- The invariant: the run is on its way. The measure: the links.
use Rattle.std.proofs.Common.{◌≡◌, length}
use Rattle.pairs.specs.Rank.{rank_of}
use Rattle.bpe.specs.Links.{links}
use Rattle.bpe.specs.Small.{Scanning}
use Rattle.bpe.proofs.small.bpe_merge_symbols_small.Given as goal

abbrev pub invariant-loop-entry : goal.invariant-loop-entry
invariant-loop-entry l = Scanning (rank_of l.slots) (rank_of l.slots) l.initial.row l.row l.l.next l.l.prev l.l.ranks l.entry × (length l.row ≡ length l.initial.row)

abbrev pub decreases-loop-entry : goal.decreases-loop-entry
decreases-loop-entry l = links (length l.initial.row) (length l.initial.row) l.l.next
