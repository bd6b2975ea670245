-- The invariant: what is gathered, with the product that is left, is the whole product. Assumes nothing.
use Rattle.std.proofs.Common.{◌≡◌, ◌+◌, ◌*◌, ◌%◌, ◌^◌, ◌<◌}
use Rattle.token.proofs.low_product.Given as goal

abbrev pub invariant-loop-y : goal.invariant-loop-y
invariant-loop-y l = (l.acc < 2 ^ 64) × ((l.acc + l.x * l.y) % 2 ^ 64 ≡ (l.a * l.b) % 2 ^ 64)

abbrev pub decreases-loop-y : goal.decreases-loop-y
decreases-loop-y l = l.y
