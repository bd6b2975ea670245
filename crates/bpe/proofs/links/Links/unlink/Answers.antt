-- The place `right` is taken out.
use mathlib.Core.Path.{refl}
use lib.Seq.{get_or-set_same, get_or-set_other}
use native.Mathlib.Omega.{arith}
use Rattle.bpe.proofs.Linking.{cut}
use Rattle.bpe.proofs.links.Links.unlink.Goals as goal

pub returns-in-Some-clause-cut : goal.returns-in-Some-clause-cut
returns-in-Some-clause-cut c =
    let s = c.args.self.now in
    let (e, n) = c.in-Some.ensures in
    cut s.next.now c.requires.0 c.requires.1 (rw e (record {
      here = λ ne. get_or-set_same s.prev.now c.in-Some.after c.args.at 0 (omega (arith, s.rises, s.long));
      lefts = λ i ne. get_or-set_other s.prev.now c.in-Some.after i c.args.at 0 ne;
      same = λ z. absurd (n z);
    }))

pub returns-in_default-clause-cut : goal.returns-in_default-clause-cut
returns-in_default-clause-cut c =
    cut c.args.self.now.next.now c.requires.0 c.requires.1 (record {
      here = λ ne. absurd (ne c.in_default.ensures);
      lefts = λ i ne. refl;
      same = λ e. refl;
    })
