-- What `find` found is the lowest byte that lacks an id. Assumes nothing.
use Rattle.std.proofs.Common.{rules}
use Rattle.std.proofs.iter.runs.Sources.{ranges}
use Rattle.remap.proofs.Accepted.{missing_by}
use Rattle.remap.proofs.ByteRemapping.lowest_missing.Goals as goal

pub returns : goal.returns
returns c = missing_by c.args.self.now.mapping _ (search (rules, ranges))
