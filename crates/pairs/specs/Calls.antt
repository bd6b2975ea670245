-- What the calls answer and leave, refusals included, as functions of what they are given. Assumes nothing.
use Rattle.std.specs.Prelude.{◌≡◌, cond, List, ℕ, ◌/◌, ◌%◌, ltb, length, replicate, Option, Some, None, Result, Ok, Err}
use Rattle.token.specs.Limits.{top, most_entries}
use Rattle.token.specs.Ids.{first_too_large}
use Rattle.token.specs.declared.Refusal.{Refusal}
pub use Rattle.token.specs.Refusals.{told}
use Rattle.token.specs.Refusals.{number, place, Verdict, fine, refused, verdict}
use Rattle.merging.specs.Merging.{Answer, nothing}
use Rattle.merging.specs.Lists.{rule_of}
use Rattle.pairs.specs.Limits.{vacant, most_rules}
use Rattle.pairs.specs.Table.{look, shaped, wanted, Filled, slots, bad, filled}

-- ---- build

abbrev pub refused_by : Filled → Verdict
refused_by (slots s) = fine
refused_by (bad k r) = refused k r

-- the first refusal that applies to a list, a vocabulary count and n slots
unfoldable pub refusal_of : List ℕ → ℕ → ℕ → Verdict
refusal_of list vocab n =
    cond (ltb most_rules (length list / 3)) (refused 1 0)
    (cond (ltb most_entries vocab) (refused 1 0)
    (cond (ltb 0 (length list % 3)) (refused 2 0)
    (cond (wanted (length list / 3) n)
    (cond (ltb (first_too_large list) (length list)) (refused 3 (first_too_large list)) (refused_by (filled list n)))
    (refused 2 0))))

-- building accepts the list, under that vocabulary count and with n slots
abbrev pub Accepted : List ℕ → ℕ → ℕ → Type 0
Accepted list vocab n = refusal_of list vocab n ≡ fine

-- the slots of an accepted list; all empty where a rule was refused
abbrev pub slots_of : Filled → ℕ → List ℕ
slots_of (slots s) n = s
slots_of (bad k r) n = replicate n vacant

-- the table of a list
abbrev pub table_of : List ℕ → ℕ → List ℕ
table_of list n = slots_of (filled list n) n

-- 1, 2 and 3 leave the slots as they were
abbrev pub after : Verdict → List ℕ → List ℕ → List ℕ
after fine s t = t
after (refused k p) s t = cond (ltb 3 k) t s

-- what `build` promises
pub record Builds (list : List ℕ) (vocab : ℕ) (s : List ℕ) (r : Result (Unit {0}) Refusal) (s' : List ℕ) : Type 0 where
  pub answer : told r ≡ refusal_of list vocab (length s)
  pub left : s' ≡ after (refusal_of list vocab (length s)) s (table_of list (length s))

-- ---- rank

pub data Rank : Type 0 where
  ranks : Answer → Rank
  refuses : ℕ → ℕ → Rank

-- the answer for any slots and any numbers
unfoldable pub ranking_of : List ℕ → ℕ → ℕ → Rank
ranking_of s a b =
    cond (shaped (length s))
    (cond (ltb top a) (refuses 3 0) (cond (ltb top b) (refuses 3 1) (ranks (look s a b))))
    (refuses 2 0)

-- `rank` promises `says r ≡ ranking_of slots a b`
abbrev pub says : Result (Option ℕ) Refusal → Rank
says (Ok (Some m)) = ranks (rule_of m)
says (Ok None) = ranks nothing
says (Err f) = refuses (number f) (place f)
