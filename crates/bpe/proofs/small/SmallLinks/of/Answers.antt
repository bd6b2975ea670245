-- The invariant: the places up to i are linked, and their pairs have ranks.
use mathlib.Core.Path.{refl}
use native.Mathlib.Omega.{arith}
use lib.ListN.{replicate, get_or-replicate}
use Rattle.token.specs.Limits.{no_id}
use Rattle.bpe.specs.Limits.{most_small}
use Rattle.bpe.proofs.Linking.{link_start}
use Rattle.bpe.proofs.small.SmallLinks.of.Goals as goal

pub loop-i-init : goal.loop-i-init
loop-i-init c =
    let p = c.requires in (
      link_start (replicate most_small 0) p.0 p.1 p.1,
      record { next_long = refl; prev_long = refl; ranks_long = refl },
      record {
        from = omega arith;
        to = omega (arith, p.0);
        long = refl;
        pairs = λ k h. absurd (omega arith);
        rest = λ k h m. get_or-replicate most_small k no_id 0 m;
      },
    )
