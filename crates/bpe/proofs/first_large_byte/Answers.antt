-- What `position` found is the first id of the bytes that is too large. Assumes nothing.
use borrow.Author.Rules.{rules}
use Rattle.token.proofs.Ids.{first_by}
use Rattle.bpe.specs.Calls.{through}
use Rattle.bpe.proofs.Outcomes.{first_through}
use Rattle.bpe.proofs.first_large_byte.Goals as goal

pub returns : goal.returns
returns c = first_by (through c.args.map.now c.args.bytes.now) _ (first_through c.args.map.now c.args.bytes.now _ (search rules))
