-- The invariant: the run is on its way. The measure: what is queued, and twice the links.
use borrow.Author.Rules.{rules}
use Rattle.bpe.proofs.Drains.{turn_ready, turn_going, turn_less, ended}
use Rattle.bpe.proofs.long.drain.Goals as goal

pub turn-requires : goal.turn-requires
turn-requires c = turn_ready c.loop-entry.invariant.1 c.pop.new.self c.in-Some.entry c.in-Some.ensures.took c.pop.ensures.words.1

pub loop-entry-smaller : goal.loop-entry-smaller
loop-entry-smaller c = turn_less c.loop-entry.invariant.1 c.pop.new.self c.in-Some.entry c.in-Some.ensures.took c.pop.ensures.words.1 c.turn.ensures.rows c.turn.ensures.turned

pub loop-entry-preserved : goal.loop-entry-preserved
loop-entry-preserved c = (search rules, turn_going c.loop-entry.invariant.1 c.pop.new.self c.in-Some.entry c.in-Some.ensures.took c.pop.ensures.words.1 c.turn.ensures.rows c.turn.ensures.turned)

pub returns-clause-drained : goal.returns-clause-drained
returns-clause-drained c = ended c.loop-entry.invariant.1 c.in_default.ensures.took.0
