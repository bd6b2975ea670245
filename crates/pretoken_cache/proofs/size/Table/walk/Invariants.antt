-- The invariant: what is left of the walk stops where the whole walk does. Assumes nothing.
use mathlib.Core.Bool.{not}
use lib.Dec.{eqb}
use Rattle.pretoken_cache.proofs.Turns.{Turn}
use Rattle.pretoken_cache.proofs.size.Table.walk.Given as goal

abbrev pub invariant-loop-left : goal.invariant-loop-left
invariant-loop-left g l = Turn (not (eqb g.row.SOUGHT 0)) l.self.words.now l.key.name l.i l.left

abbrev pub decreases-loop-left : goal.decreases-loop-left
decreases-loop-left g l = l.left
