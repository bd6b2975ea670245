-- The invariant: doubling goes on from here to where it ends. Assumes nothing.
use mathlib.Core.Path.{sym, ◌∙◌}
use native.Mathlib.Omega.{arith}
use Rattle.pretoken_cache.proofs.Doubling.{below_n, required_start, doubles_most, doubles_on, doubles_over}
use Rattle.pretoken_cache.proofs.size.required.Goals as goal

pub loop-cap-init : goal.loop-cap-init
loop-cap-init c = let p = c.next_power_of_two-cap.ensures in required_start _ _ c.requires.1 (omega (arith, c.max.ensures)) (p.power, p.lower_bound, p.upper_bound)

pub laden-requires : goal.laden-requires
laden-requires c = ((doubles_most c.loop-cap.invariant).1, omega arith)

pub loop-cap-smaller : goal.loop-cap-smaller
loop-cap-smaller c = omega (arith, doubles_most c.loop-cap.invariant, below_n c.requires.0 _ (sym c.laden.ensures ∙ c.loop-cap-test.true))

pub loop-cap-preserved : goal.loop-cap-preserved
loop-cap-preserved c = let s = sym c.laden.ensures ∙ c.loop-cap-test.true in doubles_on c.loop-cap.invariant s (below_n c.requires.0 _ s)

pub returns : goal.returns
returns c = doubles_over c.loop-cap.invariant (sym c.laden.ensures ∙ c.loop-cap-test.false)
