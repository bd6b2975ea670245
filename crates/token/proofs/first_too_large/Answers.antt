-- What `position` found is the first. Assumes nothing.
use Rattle.std.proofs.Common.{rules}
use Rattle.token.proofs.Ids.{first_by}
use Rattle.token.proofs.first_too_large.Goals as goal

pub returns : goal.returns
returns c = first_by c.args.row.now _ (search rules)
