-- A call of `bpe_merge_symbols_by_rank` that was not refused, whatever scratch it was lent. Assumes nothing.
use Rattle.std.specs.Prelude.{List, ℕ, Ok}
use Rattle.bpe.specs.Calls.{MergesRow}

-- over these slots the call answered c for the row, and left row'
pub record Leaves (slots row : List ℕ) (c : ℕ) (row' : List ℕ) : Type 0 where
  pub next : List ℕ
  pub prev : List ℕ
  pub heap : List ℕ
  pub next' : List ℕ
  pub prev' : List ℕ
  pub heap' : List ℕ
  pub merged : MergesRow slots row next prev heap (Ok c) row' next' prev' heap'
