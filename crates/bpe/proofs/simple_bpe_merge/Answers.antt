-- Each refusal, in order; then the row is filled and merged.
use mathlib.Core.Path.{sym, ◌∙◌}
use lib.ListN.{length}
use native.Mathlib.Omega.{arith}
use Rattle.token.specs.declared.Refusal.TheVariants.{CountTooLarge, WrongShape, IdTooLarge}
use Rattle.token.proofs.Ids.{legal_all, found_first, found_none}
use Rattle.bpe.specs.Calls.{through}
use Rattle.bpe.proofs.Outcomes.{fit_shape, through_long, bytes_large, bytes_large_row, bytes_row, bytes_map, bytes_wrong, bytes_high, bytes_fine, merge_looked, refused_by, merged_by}
use Rattle.bpe.proofs.simple_bpe_merge.Goals as goal

pub returns-then-n-gt-ROW_MAX : goal.returns-then-n-gt-ROW_MAX
returns-then-n-gt-ROW_MAX c =
    let a = c.args in
    refused_by CountTooLarge (bytes_large a.slots.now a.map.now a.bytes.now a.row.now a.next.now a.prev.now a.heap.now c.if-n-gt-ROW_MAX.true)

pub returns-then-row-gt-ROW_MAX : goal.returns-then-row-gt-ROW_MAX
returns-then-row-gt-ROW_MAX c =
    let a = c.args in
    refused_by CountTooLarge (bytes_large_row a.slots.now a.map.now a.bytes.now a.row.now a.next.now a.prev.now a.heap.now c.if-n-gt-ROW_MAX.false c.if-row-gt-ROW_MAX.true)

pub returns-then-row-n : goal.returns-then-row-n
returns-then-row-n c =
    let a = c.args in
    refused_by WrongShape (bytes_row a.slots.now a.map.now a.bytes.now a.row.now a.next.now a.prev.now a.heap.now c.if-n-gt-ROW_MAX.false c.if-row-gt-ROW_MAX.false c.if-row-n.true)

pub returns-then-map-ne-BYTE_MAP_LEN : goal.returns-then-map-ne-BYTE_MAP_LEN
returns-then-map-ne-BYTE_MAP_LEN c =
    let a = c.args in
    refused_by WrongShape (bytes_map a.slots.now a.map.now a.bytes.now a.row.now a.next.now a.prev.now a.heap.now c.if-n-gt-ROW_MAX.false c.if-row-gt-ROW_MAX.false c.if-row-n.false c.if-map-ne-BYTE_MAP_LEN.true)

pub returns-then-unfit : goal.returns-then-unfit
returns-then-unfit c =
    let a = c.args in
    refused_by WrongShape (bytes_wrong a.slots.now a.map.now a.bytes.now a.row.now a.next.now a.prev.now a.heap.now c.if-n-gt-ROW_MAX.false c.if-row-gt-ROW_MAX.false c.if-row-n.false c.if-map-ne-BYTE_MAP_LEN.false (sym c.unfit.ensures ∙ c.if-unfit.true))

pub returns-in-Some : goal.returns-in-Some
returns-in-Some c =
    let a = c.args in
    let first = found_first (through a.map.now a.bytes.now) c.in-Some.ensures in
    refused_by (IdTooLarge _) (bytes_high a.slots.now a.map.now a.bytes.now a.row.now a.next.now a.prev.now a.heap.now c.if-n-gt-ROW_MAX.false c.if-row-gt-ROW_MAX.false c.if-row-n.false c.if-map-ne-BYTE_MAP_LEN.false (sym c.unfit.ensures ∙ c.if-unfit.false) first.0 (rw (through_long a.map.now a.bytes.now) at first.1))

pub returns : goal.returns
returns c =
    let a = c.args in
    let shape = sym c.unfit.ensures ∙ c.if-unfit.false in
    let ids = through a.map.now a.bytes.now in
    let legal = found_none ids c.in_default.ensures in
    let first = sym (legal_all ids legal) in
    let f = fit_shape (length a.slots.now) (length a.bytes.now) (length a.next.now) (length a.prev.now) (length a.heap.now) shape in
    merged_by a.row.now (bytes_fine a.slots.now a.map.now a.bytes.now a.row.now a.next.now a.prev.now a.heap.now c.if-n-gt-ROW_MAX.false c.if-row-gt-ROW_MAX.false c.if-row-n.false c.if-map-ne-BYTE_MAP_LEN.false shape first (omega (arith, through_long a.map.now a.bytes.now)))
    (merge_looked a.slots.now ids f.table legal)
    (rw c.map_bytes.ensures at c.merge_row.ensures)
