-- The row is linked and queued, the heap is drained, the answer is moved to the front, and scratch is cleared.
use native.Mathlib.Omega.{arith}
use borrow.Author.Rules.{rules}
use Rattle.std.proofs.lemmas.Grind.{common_steps}
use Rattle.token.specs.Limits.{no_id}
use Rattle.pairs.specs.Rank.{rank_of}
use Rattle.bpe.proofs.Drains.{started, answered}
use Rattle.bpe.proofs.long.bpe_merge_symbols_long.Goals as goal

pub drain-requires : goal.drain-requires
drain-requires c = started (rank_of c.args.slots.now) c.requires.some (search rules) (search rules) (search rules) c.seed.ensures.seeded

pub returns : goal.returns
returns c =
    let d = c.drain.ensures.drained in
    let few = c.requires.few in
    let (e, f) = answered d.lives (omega arith) c.drain.auto.row d.done (c.compact-count.ensures no_id c.drain.new.links.next.now (omega arith) (λ i r l s. search rules)) in
    record { count_is = e; row_is = f; next_is = grind (arith, common_steps); prev_is = grind (arith, common_steps); heap_is = grind (arith, common_steps) }
