-- The invariant: what stands at the linked places up to `at` is at the front.
use Rattle.bpe.proofs.Pack.{pack_turn, pack_filled}
use Rattle.bpe.proofs.links.compact.Goals as goal

pub loop-after-preserved : goal.loop-after-preserved
loop-after-preserved g c = pack_turn c.loop-after.invariant (rw c.in-Some.is at c.next.ensures) c.requires.climbs

pub returns : goal.returns
returns g c = pack_filled c.loop-after.invariant (rw c.in_default.is at c.next.ensures) _ (c.fill.ensures.after (λ y e. e))
