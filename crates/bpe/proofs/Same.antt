-- What is read at the same index, or in the same row. Assumes nothing.
use mathlib.Core.Path.{◌≡◌, ap}
use mathlib.Core.List.{List}
use Prim.Native.Nat.{ℕ}
use lib.ListN.{get_or}

pub read : (l : List ℕ) {i j : ℕ} → i ≡ j → get_or l i 0 ≡ get_or l j 0
read l e = ap (λ (x : ℕ). get_or l x 0) e

pub at_list : {l l' : List ℕ} (i : ℕ) → l ≡ l' → get_or l i 0 ≡ get_or l' i 0
at_list i e = ap (λ (x : List ℕ). get_or x i 0) e
