-- Rows and parts of rows that are filled with one number. Assumes nothing.
use mathlib.Core.Path.{◌≡◌, ap, ap₂, ◌∙◌}
use mathlib.Core.List.{List, ◌++◌, append-nil}
use Prim.Native.Nat.{ℕ, ◌-◌, ◌≤◌}
use native.Mathlib.Omega.{arith}
use borrow.Rule.Slice.PartMut.{mid_of, put_mid, mid_len, Post-is}
use lib.ListN.{length, take, replicate}
use lib.Seq.{drop-length}

-- from a on
pub fill_tail : (a v : ℕ) (l part : List ℕ) → a ≤ length l → part ≡ replicate (length (mid_of a (length l - a) l)) v → put_mid a (length l - a) l part ≡ take a l ++ replicate (length l - a) v
fill_tail a v l part h e =
    ap (λ (t : List ℕ). take a l ++ t)
    (ap₂ (λ (s t : List ℕ). s ++ t) (e ∙ ap (λ (k : ℕ). replicate k v) (mid_len a (length l) l (omega arith))) (Post-is a (length l) l h ∙ drop-length l)
    ∙ append-nil (replicate (length l - a) v))
