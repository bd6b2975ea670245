-- The rules are stored after all tests. Assumes nothing.
use Rattle.std.proofs.Common.{sym, ◌∙◌, arith}
use Rattle.pairs.proofs.Builds.{fillable, build_filled}
use Rattle.pairs.proofs.build.Goals as goal

pub fill-requires-2 : goal.fill-requires-2
fill-requires-2 c =
    fillable _ c.args.vocab_len _ c.if-rules-gt-MAX_RULES.false (omega arith) c.if-list-ne0.false (sym c.wanted.ensures ∙ c.if-not-wanted.false) c.in_default.ensures _
    (c.fill.ensures.after (λ y e. e))

pub returns : goal.returns
returns c =
    build_filled _ c.args.vocab_len _ c.if-rules-gt-MAX_RULES.false (omega arith) c.if-list-ne0.false (sym c.wanted.ensures ∙ c.if-not-wanted.false) c.in_default.ensures _
    c.fill.ensures.len c.fill-2.ensures
