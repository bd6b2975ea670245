-- The pair is merged: its right place is taken out, the ranks around it are asked again, and the next entry is looked for.
use Rattle.bpe.proofs.Scans.{joined8}
use Rattle.bpe.proofs.small.SmallLinks.join.Goals as goal

pub returns : goal.returns
returns c = joined8 c.requires c.set_prev.ensures c.rerank.ensures c.least-entry.ensures
