-- The invariant is `Going`: what the map has, and else what the entries from i on give, is the id of each byte. Assumes nothing.
use Rattle.std.proofs.Common.{arith}
use Rattle.remap.proofs.Giving.{begun, start_inside, turn, ended}
use Rattle.remap.proofs.ByteRemapping.scan.Goals as goal

pub loop-i-init : goal.loop-i-init
loop-i-init c = begun c.args.bytes.now c.args.ends.now c.requires.whole

pub bounds-bytes-start : goal.bounds-bytes-start
bounds-bytes-start c = start_inside _ _ _ _ _ c.loop-i.invariant c.loop-i-test.true (omega arith)

pub loop-i-preserved : goal.loop-i-preserved
loop-i-preserved c =
    let l = c.loop-i in
    turn _ _ _ _ _ l.invariant c.loop-i-test.true _ _ (c.type_inv.bytes l.start).fits (omega arith) (grind arith) (λ one. grind arith) (λ longer. grind arith)

pub returns : goal.returns
returns c = ended _ _ _ _ _ c.loop-i.invariant (omega (arith, c.loop-i.invariant.within))
