-- Each refusal, in order; then the row is merged.
use mathlib.Core.Path.{sym, ◌∙◌}
use native.Mathlib.Omega.{arith}
use lib.ListN.{length}
use Rattle.token.specs.declared.Refusal.TheVariants.{CountTooLarge, WrongShape, IdTooLarge}
use Rattle.token.proofs.Ids.{legal_all, found_first, found_none}
use Rattle.bpe.proofs.Outcomes.{fit_shape, row_large, row_wrong, row_high, row_fine, merge_looked, refused_by, merged_by}
use Rattle.bpe.proofs.bpe_merge_symbols_by_rank.Goals as goal

pub returns-then-n-gt-ROW_MAX : goal.returns-then-n-gt-ROW_MAX
returns-then-n-gt-ROW_MAX c =
    let a = c.args in
    refused_by CountTooLarge (row_large a.slots.now a.row.now a.next.now a.prev.now a.heap.now c.if-n-gt-ROW_MAX.true)

pub returns-then-unfit : goal.returns-then-unfit
returns-then-unfit c =
    let a = c.args in
    refused_by WrongShape (row_wrong a.slots.now a.row.now a.next.now a.prev.now a.heap.now c.if-n-gt-ROW_MAX.false (sym c.unfit.ensures ∙ c.if-unfit.true))

pub returns-in-Some : goal.returns-in-Some
returns-in-Some c =
    let a = c.args in
    let first = found_first a.row.now c.in-Some.ensures in
    refused_by (IdTooLarge _) (row_high a.slots.now a.row.now a.next.now a.prev.now a.heap.now c.if-n-gt-ROW_MAX.false (sym c.unfit.ensures ∙ c.if-unfit.false) first.0 first.1)

pub returns : goal.returns
returns c =
    let a = c.args in
    let shape = sym c.unfit.ensures ∙ c.if-unfit.false in
    let ids = found_none a.row.now c.in_default.ensures in
    let first = sym (legal_all a.row.now ids) in
    let f = fit_shape (length a.slots.now) (length a.row.now) (length a.next.now) (length a.prev.now) (length a.heap.now) shape in
    merged_by a.row.now (row_fine a.slots.now a.row.now a.next.now a.prev.now a.heap.now c.if-n-gt-ROW_MAX.false shape first (omega arith)) (merge_looked a.slots.now a.row.now f.table ids) c.merge_row.ensures
