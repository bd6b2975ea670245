-- A row of 0 or 1 stays, a short one is scanned, a long one takes the heap.
use Rattle.bpe.proofs.Outcomes.{merged_none}
use Rattle.bpe.proofs.merge_row.Goals as goal

pub returns-then-n-lt2 : goal.returns-then-n-lt2
returns-then-n-lt2 c = merged_none c.if-n-lt2.true
