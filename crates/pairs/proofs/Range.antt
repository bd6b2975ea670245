-- A rank is none or an id. Assumes nothing.
use Rattle.std.proofs.Common.{List, ℕ, ◌≤◌, arith, ltb, length}
use Rattle.token.specs.Limits.{top, no_id}
use Rattle.token.proofs.Cases.{by_test}
use Rattle.merging.proofs.Answer.{by_answer}
use Rattle.pairs.specs.Table.{look, shaped}
use Rattle.pairs.specs.Calls.{ranks, ranking_of}
use Rattle.pairs.specs.Rank.{number, rank_of}
use Rattle.pairs.proofs.Agree.{look_small}

small_number : (s : List ℕ) (a b : ℕ) → number (ranks (look s a b)) ≤ no_id
small_number s a b =
    by_answer (look s a b) (λ e. rw e (omega arith)) (λ p m e. let l = look_small s a b p m e in rw e (omega arith))

pub rank_small : (s : List ℕ) (a b : ℕ) → rank_of s a b ≤ no_id
unfolding rank_of ranking_of
rank_small s a b =
    by_test (shaped (length s))
    (λ e. by_test (ltb top a) (λ f. rw (e, f) (omega arith))
    (λ f. by_test (ltb top b) (λ g. rw (e, f, g) (omega arith)) (λ g. rw (e, f, g) (small_number s a b))))
    (λ e. rw e (omega arith))
