-- The invariant: the old slots that were passed are carried and counted. Assumes nothing.
use mathlib.Core.Path.{◌≡◌}
use mathlib.Core.Bool.{true}
use Rattle.pretoken_cache.specs.Slot.{slot_at}
use Rattle.pretoken_cache.specs.Table.{shaped, taken}
use Rattle.pretoken_cache.specs.Calls.{carried}
use Rattle.pretoken_cache.proofs.change.carry.Given as goal

abbrev pub invariant-loop-s : goal.invariant-loop-s
invariant-loop-s l = record {
  fit : shaped l.into ≡ true;
  moves : l.into ≡ carried l.old.words.now l.s l.initial.into;
  counts : l.count ≡ taken (slot_at l.old.words.now) l.s;
}
