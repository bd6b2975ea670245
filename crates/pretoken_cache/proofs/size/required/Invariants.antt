-- The invariant: doubling goes on from here to where it ends. Assumes nothing.
use Prim.Native.Nat.{◌-◌}
use Rattle.pretoken_cache.specs.Limits.{most_slots}
use Rattle.pretoken_cache.specs.Table.{laden}
use Rattle.pretoken_cache.specs.Capacity.{required}
use Rattle.pretoken_cache.proofs.Doubling.{Doubles}
use Rattle.pretoken_cache.proofs.size.required.Given as goal

abbrev pub invariant-loop-cap : goal.invariant-loop-cap
invariant-loop-cap l = Doubles (λ s. laden s l.n) (required l.n l.min_slots) l.cap

abbrev pub decreases-loop-cap : goal.decreases-loop-cap
decreases-loop-cap l = most_slots - l.cap
