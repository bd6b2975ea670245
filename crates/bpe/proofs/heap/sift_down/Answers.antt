use native.Mathlib.Omega.{arith}
use Rattle.bpe.proofs.Order.{swapped, down_step, kept_swap}
use Rattle.bpe.proofs.heap.sift_down.Goals as goal

pub loop-at-preserved : goal.loop-at-preserved
loop-at-preserved c =
    let i = c.loop-at.invariant in
    let e = c.least_child-child.ensures in
    let s = swapped _ _ _ _ c.swap.ensures.by_index in
    (kept_swap i.0 s (omega arith) e.inside c.swap.ensures.len, down_step s c.args.len (omega arith) e.inside e.child i.1 e.least c.if-heap-at.false)
