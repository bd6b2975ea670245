-- The invariant: the rules from here on, over the slots as they are, give what all rules over empty slots give. Assumes nothing.
use Rattle.std.proofs.Common.{◌≡◌, ◌*◌, length, drop}
use Rattle.pairs.specs.Table.{fill, filled}
use Rattle.pairs.proofs.store.Given as goal

abbrev pub invariant-loop-number : goal.invariant-loop-number
invariant-loop-number l = fill l.number (drop (3 * l.number) l.list) l.slots ≡ filled l.list (length l.initial.slots)
