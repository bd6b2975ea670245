-- The invariant: the places up to i are linked.
use lib.ListN.{length}
use Rattle.token.specs.Limits.{no_id}
use Rattle.bpe.proofs.Linking.{Linking}
use Rattle.bpe.proofs.links.Links.new.Given as goal

abbrev pub invariant-loop-i : goal.invariant-loop-i
invariant-loop-i l = Linking no_id (length l.initial.next) l.next l.prev l.i
