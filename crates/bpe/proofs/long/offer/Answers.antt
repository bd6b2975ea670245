-- A pair with a rule is queued.
use native.Mathlib.Omega.{arith}
use Rattle.pairs.specs.Rank.{rank_of}
use Rattle.bpe.proofs.Queue.{offered}
use Rattle.bpe.proofs.long.offer.Goals as goal

pub returns-then-merged-clause-offered : goal.returns-then-merged-clause-offered
returns-then-merged-clause-offered c =
    let r = c.rank_or_none-merged in
    let p = c.requires in
    offered (rank_of c.args.slots.now) r.ensures c.if-merged.true (omega (arith, r.type_inv)) p.1 p.0 c.push.ensures.pushed
