-- Ranks as a lookup's answers, and entries: a rank with a place. Assumes nothing.
use Rattle.std.specs.Prelude.{◌≡◌, ◌⊎◌, cond, List, ℕ, ◌+◌, ◌*◌, ◌^◌, ◌≤◌, ◌<◌, eqb, get_or}
use Rattle.token.specs.Limits.{no_id}
use Rattle.merging.specs.Merging.{Answer, nothing, rule, Lookup}

-- a rank, which is a rule's priority, with the merged id, as an answer: none is no rule
unfoldable pub answer_of : ℕ → ℕ → Answer
answer_of r m = cond (eqb r no_id) nothing (rule r m)

-- the lookup by ranks and merged ids
abbrev pub look_by : (ℕ → ℕ → ℕ) → (ℕ → ℕ → ℕ) → Lookup
look_by rk mg a b = answer_of (rk a b) (mg a b)

-- where the priority is the merged id, the two are one
abbrev pub look_in : (ℕ → ℕ → ℕ) → Lookup
look_in rk = look_by rk rk

-- the rank, or the merged id, of the pair at the places a and b
abbrev pub rank_at : (ℕ → ℕ → ℕ) → List ℕ → ℕ → ℕ → ℕ
rank_at rk row a b = rk (get_or row a 0) (get_or row b 0)

-- entries are ordered by rank, then by place
abbrev pub entry : ℕ → ℕ → ℕ
entry r p = r * 2 ^ 32 + p

-- the pair of a and b does not come before the rank r at the place p
abbrev pub After : (ℕ → ℕ → ℕ) → List ℕ → ℕ → ℕ → ℕ → ℕ → Type 0
After rk row r p a b = (rank_at rk row a b ≡ no_id → ⊥) → (r < rank_at rk row a b) ⊎ ((r ≡ rank_at rk row a b) × (p ≤ a))
