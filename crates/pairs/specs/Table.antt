-- Lookup over slots, the sizes of tables, and the slots of a list. Assumes nothing.
use Rattle.std.specs.Prelude.{◌≡◌, Bool, ◌&&◌, not, List, [], ◌∷◌, ℕ, suc, ◌*◌, ◌/◌, ◌≤◌, eqb, leb, get_or, set, replicate}
use Rattle.std.specs.Int.Count.{ones}
use Rattle.token.specs.Sizes.{power_within}
use Rattle.merging.specs.Merging.{Answer, nothing}
use Rattle.merging.specs.Lists.{rule_of}
use Rattle.pairs.specs.Limits.{vacant, least_slots, most_slots}
use Rattle.pairs.specs.Key.{key, packed, merged_in}
use Rattle.pairs.specs.Walk.{Walk, hit, empty, full, round, near}

-- ---- lookup

abbrev pub answer_at : List ℕ → Walk → Answer
answer_at s (hit i) = rule_of (merged_in (get_or s i 0))
answer_at s (empty i) = nothing
answer_at s full = nothing

-- the lookup of a table, over any slots
unfoldable pub look : List ℕ → ℕ → ℕ → Answer
look s a b = answer_at s (round s (key a b))

-- ---- sizes

-- a power of two from 64 to 262,144
unfoldable pub shaped : ℕ → Bool
shaped n = power_within least_slots most_slots n

-- the same as facts
pub record Sized (n : ℕ) : Type 0 where
  pub power : ones n ≡ 1
  pub least : least_slots ≤ n
  pub most : n ≤ most_slots

-- at least 64, and at least twice the rules
abbrev pub enough : ℕ → ℕ → Bool
enough rules n = leb least_slots n && leb (2 * rules) n

-- n is the smallest power of two that is enough for so many rules
unfoldable pub wanted : ℕ → ℕ → Bool
wanted rules n = eqb (ones n) 1 && enough rules n && not (enough rules (n / 2))

-- ---- building

-- the slots, or the first bad rule's refusal and number
pub data Filled : Type 0 where
  slots : List ℕ → Filled
  bad : ℕ → ℕ → Filled

-- rule number r goes where its walk stopped, and then what is `next`:
-- a pair that is stored already is refused by 4,
-- one that found no empty slot within reach by 5,
-- and the first bad rule decides
abbrev pub store : Walk → ℕ → List ℕ → ℕ → (List ℕ → Filled) → Filled
store (hit i) r s x next = bad 4 r
store (empty i) r s x next = next (set s i x)
store full r s x next = bad 5 r

-- the rules of the flat list, the first of which has number r, stored in list order
abbrev pub fill : ℕ → List ℕ → List ℕ → Filled
fill r (a ∷ b ∷ m ∷ list) s = store (near s (key a b)) r s (packed a b m) (λ t. fill (suc r) list t)
fill r (a ∷ b ∷ []) s = slots s
fill r (a ∷ []) s = slots s
fill r [] s = slots s

-- the list over n empty slots
unfoldable pub filled : List ℕ → ℕ → Filled
filled list n = fill 0 list (replicate n vacant)
