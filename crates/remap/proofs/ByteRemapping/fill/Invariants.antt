-- The invariant: the ids before the index are filled. Assumes nothing.
use Rattle.std.proofs.Common.{◌≡◌, ℕ, ◌<◌, ◌≤◌, get_or}
use Rattle.remap.specs.Map.{or_filler}
use Rattle.remap.specs.Steps.{read}
use Rattle.remap.proofs.ByteRemapping.fill.Given as goal

abbrev pub invariant-loop-id : goal.invariant-loop-id
invariant-loop-id l = record {
  done : (k : ℕ) → k < l.id-index → get_or l.id-items k 0 ≡ or_filler (read (get_or l.initial.id-items k 0));
  left : (k : ℕ) → l.id-index ≤ k → get_or l.id-items k 0 ≡ get_or l.initial.id-items k 0;
}
