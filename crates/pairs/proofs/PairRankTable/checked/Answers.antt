-- By the shape. Assumes nothing.
use Rattle.std.proofs.Common.{sym, ◌∙◌}
use Rattle.pairs.proofs.Size.{shaped_sized}
use Rattle.pairs.proofs.PairRankTable.checked.Goals as goal

pub of_shaped-requires : goal.of_shaped-requires
of_shaped-requires c = shaped_sized _ (sym c.shaped.ensures ∙ c.if-not-shaped.false)
