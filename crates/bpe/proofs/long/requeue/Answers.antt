-- Each of the two pairs is queued, if it is one.
use Rattle.bpe.proofs.Queue.{on_left, on_right, on_none, requeued}
use Rattle.bpe.proofs.long.requeue.Goals as goal
use Rattle.bpe.proofs.long.requeue.Goals.{in-Some, in_default}

pub returns-in-Some-next_of-clause-requeued : goal.returns-in-Some-next_of-clause-requeued
returns-in-Some-next_of-clause-requeued c =
    let r = on_right c.in-Some-next_of.ensures c.offer-in-Some-next_of.ensures.offered in
    elim c.match-prev_of.branch [
      | in-Some w ↦ requeued (on_left w.in-Some.ensures w.offer.ensures.offered) (rw w.heap-is at r)
      | in_default w ↦ requeued (on_none w.in_default.ensures) (rw w.heap-is at r)
    ]

pub returns-in_default-next_of-clause-requeued : goal.returns-in_default-next_of-clause-requeued
returns-in_default-next_of-clause-requeued c =
    elim c.match-prev_of.branch [
      | in-Some w ↦ rw w.heap-is (requeued (on_left w.in-Some.ensures w.offer.ensures.offered) (on_none c.in_default-next_of.ensures))
      | in_default w ↦ rw w.heap-is (requeued (on_none w.in_default.ensures) (on_none c.in_default-next_of.ensures))
    ]
