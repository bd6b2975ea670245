-- A chunk of three is a rule of ids, and the first bad rule decides. Assumes nothing.
use Rattle.std.proofs.Common.{sym, ◌∙◌, arith}
use Rattle.std.proofs.lemmas.Result.{err_from_is_err_and}
use Rattle.pairs.proofs.Fills.{fill_stop, rule_of_ids, stored_bad}
use Rattle.pairs.proofs.store.Goals as goal

pub insert-requires-clause-ids : goal.insert-requires-clause-ids
insert-requires-clause-ids c = rule_of_ids _ c.as_chunks.ensures.front _ (omega arith) c.requires.ids

pub returns-in_err-insert : goal.returns-in_err-insert
returns-in_err-insert c =
    let p = err_from_is_err_and c.from_residual.result c.from_residual.ensures.1 in
    rw (p.1, p.2) (stored_bad _ _ _ (sym c.loop-number.invariant ∙ fill_stop _ c.as_chunks.ensures.front _ (omega arith) _ c.in_err-insert.ensures))
