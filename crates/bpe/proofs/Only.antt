-- No second outcome: what the promise of each call determines. Assumes nothing.
use mathlib.Core.Path.{◌≡◌, ap}
use mathlib.Core.List.{List}
use Prim.Native.Nat.{ℕ}
use native.Mathlib.Omega.{arith}
use Rattle.token.specs.declared.Refusal.{Refusal}
use Rattle.token.specs.Refusals.{Verdict, verdict}
use Rattle.token.proofs.Only.{only, only_refusal}
use Rattle.merging.specs.Merging.{Lookup}
use Rattle.bpe.specs.Calls.{told, Merges, MergesRow, MergesBytes}
use Rattle.std.specs.Prelude.{Result, Ok, Err}

-- no two answers are told alike
told_one : (r s : Result ℕ Refusal) → told r ≡ told s → r ≡ s
told_one (Ok c) (Ok d) e = let z : c ≡ d = cc in rw z
told_one (Ok c) (Err g) e = absurd (let z : ◌≡◌ {A = ℕ} 0 1 = cc in omega arith)
told_one (Err f) (Ok d) e = absurd (let z : ◌≡◌ {A = ℕ} 0 1 = cc in omega arith)
told_one (Err f) (Err g) e = let z : verdict f ≡ verdict g = cc in ap Err (only_refusal f g z)

-- the answer and the four rows at exit are the same
abbrev pub Same : Result ℕ Refusal → List ℕ → List ℕ → List ℕ → List ℕ → Result ℕ Refusal → List ℕ → List ℕ → List ℕ → List ℕ → Type 0
Same r row next prev heap s row' next' prev' heap' = (r ≡ s) × (row ≡ row') × (next ≡ next') × (prev ≡ prev') × (heap ≡ heap')

only_merges : {v : Verdict} {look : Lookup} {ids row next prev heap : List ℕ} {r : Result ℕ Refusal} {row₁ next₁ prev₁ heap₁ : List ℕ} {s : Result ℕ Refusal} {row₂ next₂ prev₂ heap₂ : List ℕ}
    → Merges v look ids row next prev heap r row₁ next₁ prev₁ heap₁ → Merges v look ids row next prev heap s row₂ next₂ prev₂ heap₂ → Same r row₁ next₁ prev₁ heap₁ s row₂ next₂ prev₂ heap₂
only_merges {r = r} {s = s} p q =
    (told_one r s (only p.answer q.answer), only p.row_is q.row_is, only p.next_is q.next_is, only p.prev_is q.prev_is, only p.heap_is q.heap_is)

-- ---- the calls

pub only_bpe_merge_symbols_by_rank : (slots row next prev heap : List ℕ) (r : Result ℕ Refusal) (row₁ next₁ prev₁ heap₁ : List ℕ) (s : Result ℕ Refusal) (row₂ next₂ prev₂ heap₂ : List ℕ)
    → MergesRow slots row next prev heap r row₁ next₁ prev₁ heap₁ → MergesRow slots row next prev heap s row₂ next₂ prev₂ heap₂ → Same r row₁ next₁ prev₁ heap₁ s row₂ next₂ prev₂ heap₂
only_bpe_merge_symbols_by_rank slots row next prev heap r row₁ next₁ prev₁ heap₁ s row₂ next₂ prev₂ heap₂ p q = only_merges p q

pub only_simple_bpe_merge : (slots map bytes row next prev heap : List ℕ) (r : Result ℕ Refusal) (row₁ next₁ prev₁ heap₁ : List ℕ) (s : Result ℕ Refusal) (row₂ next₂ prev₂ heap₂ : List ℕ)
    → MergesBytes slots map bytes row next prev heap r row₁ next₁ prev₁ heap₁ → MergesBytes slots map bytes row next prev heap s row₂ next₂ prev₂ heap₂ → Same r row₁ next₁ prev₁ heap₁ s row₂ next₂ prev₂ heap₂
only_simple_bpe_merge slots map bytes row next prev heap r row₁ next₁ prev₁ heap₁ s row₂ next₂ prev₂ heap₂ p q = only_merges p q
