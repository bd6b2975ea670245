-- Where the walk stops, by the names of the two slots. Assumes nothing.
use mathlib.Core.Path.{refl, sym, ◌∙◌}
use native.Mathlib.Omega.{arith}
use Rattle.pretoken_cache.proofs.Turns.{turn_start, turn_first, turn_second, turn_third, turn_fourth}
use Rattle.pretoken_cache.proofs.size.Table.walk.Goals as goal

pub loop-left-init : goal.loop-left-init
loop-left-init g c = turn_start _ _ c.args.self.has_shape _ c.slots-n.ensures.count

pub returns-then-is_of-clause-stops : goal.returns-then-is_of-clause-stops
returns-then-is_of-clause-stops g c =
    turn_first _ _ c.args.self.has_shape _ c.loop-left.invariant (omega arith) refl c.args.key.has_key (sym c.is_of.ensures ∙ c.if-is_of.true)

pub returns-then-is_of-2-clause-stops : goal.returns-then-is_of-2-clause-stops
returns-then-is_of-2-clause-stops g c =
    turn_second _ _ c.args.self.has_shape _ c.loop-left.invariant (omega arith) refl (sym c.is_of.ensures ∙ c.if-is_of.false) refl c.args.key.has_key (sym c.is_of-in-loop-left.ensures ∙ c.if-is_of-2.true)

pub returns-then-is_empty-clause-stops : goal.returns-then-is_empty-clause-stops
returns-then-is_empty-clause-stops g c =
    turn_third _ _ c.args.self.has_shape _ c.loop-left.invariant (omega arith) refl (sym c.is_of.ensures ∙ c.if-is_of.false) refl (sym c.is_of-in-loop-left.ensures ∙ c.if-is_of-2.false) (sym c.is_empty.ensures ∙ c.if-is_empty.true)

pub returns-then-is_empty-2-clause-stops : goal.returns-then-is_empty-2-clause-stops
returns-then-is_empty-2-clause-stops g c =
    turn_fourth _ _ c.args.self.has_shape _ c.loop-left.invariant (omega arith) refl (sym c.is_of.ensures ∙ c.if-is_of.false) refl (sym c.is_of-in-loop-left.ensures ∙ c.if-is_of-2.false) (sym c.is_empty.ensures ∙ c.if-is_empty.false) (sym c.is_empty-in-loop-left.ensures ∙ c.if-is_empty-2.true)
