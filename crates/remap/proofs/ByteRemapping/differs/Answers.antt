-- What `any` found is a difference. Assumes nothing.
use Rattle.std.proofs.Common.{rules}
use Rattle.remap.proofs.Flag.{differs_by}
use Rattle.remap.proofs.ByteRemapping.differs.Goals as goal

pub returns : goal.returns
returns c = differs_by c.args.self.now.mapping _ (search rules)
