-- The invariant: the places up to i hold the ids of their bytes.
use Rattle.std.proofs.Common.{arith, ◌∙◌}
use Rattle.bpe.proofs.Outcomes.{through_is}
use Rattle.bpe.proofs.map_bytes.Goals as goal

pub returns : goal.returns
returns c = through_is c.args.map.now c.args.bytes.now _ (c.loop-i.auto.row ∙ c.requires.1) (λ i l. c.loop-i.invariant i (omega arith))
