-- The invariant is `Going`: what the map has, and else what the entries from i on give, is the id of each byte. Assumes nothing.
use Rattle.remap.proofs.Giving.{Going}
use Rattle.remap.proofs.ByteRemapping.scan.Given as goal

abbrev pub invariant-loop-i : goal.invariant-loop-i
invariant-loop-i l = Going l.bytes l.ends l.map.mapping l.start l.i
