use Prim.Native.Nat.{◌+◌}
use native.Mathlib.Omega.{arith}
use Rattle.bpe.proofs.Order.{swapped_up, up_step, kept_swap}
use Rattle.bpe.proofs.heap.sift_up.Goals as goal

pub loop-at-preserved : goal.loop-at-preserved
loop-at-preserved c =
    let i = c.loop-at.invariant in
    let s = swapped_up _ _ _ _ c.swap.ensures.by_index in
    (omega arith, kept_swap i.1 s (omega arith) (omega arith) c.swap.ensures.len, up_step s (c.args.from + 1) (omega arith) (omega arith) (omega arith) i.2 c.if-heap-parent.false)
