-- By the two slots of the home pair. Assumes nothing.
use mathlib.Core.Path.{refl, sym, ◌∙◌}
use Rattle.pretoken_cache.proofs.Gets.{probe_first, probe_second, probe_none}
use Rattle.pretoken_cache.proofs.size.Table.probed.Goals as goal

pub returns-then-is_of : goal.returns-then-is_of
returns-then-is_of c = probe_first _ c.args.self.has_shape _ c.requires refl c.args.key.has_key (sym c.is_of.ensures ∙ c.if-is_of.true) c.slot.ensures.value

pub returns-then-is_of-2 : goal.returns-then-is_of-2
returns-then-is_of-2 c =
    probe_second _ c.args.self.has_shape _ c.requires refl (sym c.is_of.ensures ∙ c.if-is_of.false) refl c.args.key.has_key (sym c.is_of-2.ensures ∙ c.if-is_of-2.true) c.slot-then-is_of-2.ensures.value

pub returns : goal.returns
returns c =
    probe_none _ c.args.self.has_shape _ c.requires refl (sym c.is_of.ensures ∙ c.if-is_of.false) refl (sym c.is_of-2.ensures ∙ c.if-is_of-2.false)
