-- Demand 3 for the calls: what `bpe_merge_symbols_by_rank` leaves under a longer table, and for a row that is cut. Assumes nothing.
use mathlib.Core.Path.{◌≡◌, refl, sym, ap, ap₂, ◌∙◌}
use mathlib.Core.List.{List, ◌++◌}
use Prim.Native.Nat.{ℕ, ◌-◌}
use native.Mathlib.Omega.{arith}
use lib.Dec.{ltb}
use lib.ListN.{length, take, drop, replicate}
use lib.Seq.{take_at}
use borrow.Author.Tests.{ltb-false}
use Rattle.token.specs.Limits.{no_id, most_row}
use Rattle.token.specs.Ids.{first_too_large, AcceptedRow}
use Rattle.token.specs.Refusals.{Verdict, fine, refused}
use Rattle.token.proofs.Cases.{by_test}
use Rattle.token.proofs.Ids.{legal}
use Rattle.merging.specs.Merging.{merge, starts, In}
use Rattle.merging.specs.Lists.{look_of, Keeps, AddsAbove}
use Rattle.pairs.specs.Table.{look}
use Rattle.pairs.specs.Calls.{Accepted, table_of}
use Rattle.pairs.proofs.Agree.{table_merges}
use Rattle.pairs.proofs.Demand3 as lists
use Rattle.bpe.specs.Calls.{unfit, row_verdict, counted, tells, merged_row}
use Rattle.bpe.specs.Leaves.{Leaves}

-- ---- a call that answers a count

-- refuses nothing
counts_fine : {c d : ℕ} (v : Verdict) → counted c ≡ tells v d → (v ≡ fine) × (c ≡ d)
counts_fine {c} {d} fine e = (refl, (cc))
counts_fine {c} {d} (refused k p) e = absurd (let z : ◌≡◌ {A = ℕ} 0 1 = cc in omega arith)

not_fine : {A : Type 0} {k p : ℕ} → refused k p ≡ fine → A
not_fine {A} {k} {p} e = absurd (let z : ◌≡◌ {A = ℕ} 0 1 = cc in omega arith)

-- takes an accepted row
accepts : (slots row next prev heap : List ℕ) → row_verdict slots row next prev heap ≡ fine → AcceptedRow row
unfolding row_verdict
accepts slots row next prev heap e =
    by_test (ltb most_row (length row)) (λ a. not_fine (rw a at e)) (λ a.
    by_test (unfit (length slots) (length row) (length next) (length prev) (length heap)) (λ b. not_fine (rw (a, b) at e)) (λ b.
    by_test (ltb (first_too_large row) (length row)) (λ f. not_fine (rw (a, b, f) at e)) (λ f.
    record { few = ltb-false most_row (length row) a; ids = legal row (ltb-false (first_too_large row) (length row) f) })))

-- leaves the merged ids in the first places
record Gives (ids row : List ℕ) (c : ℕ) (row' : List ℕ) : Type 0 where
  row_ok : AcceptedRow row
  count : c ≡ length ids
  front : take c row' ≡ ids

call_gives : (slots row : List ℕ) (c : ℕ) (row' : List ℕ) → Leaves slots row c row' → Gives (merge (look slots) row) row c row'
call_gives slots row c row' l =
    let m = l.merged in
    let (f, e) = counts_fine (row_verdict slots row l.next l.prev l.heap) m.answer in
    let r : row' ≡ merged_row (look slots) row = m.row_is ∙ rw f in
    record {
      row_ok = accepts slots row l.next l.prev l.heap f;
      count = e;
      front = rw r (take_at (merge (look slots) row) (replicate (length row - length (merge (look slots) row)) no_id) c (sym e));
    }

-- over the table of an accepted list, those of the list
call_merges : (list : List ℕ) (vocab n : ℕ) → Accepted list vocab n → (row : List ℕ) (c : ℕ) (row' : List ℕ)
    → Leaves (table_of list n) row c row' → Gives (merge (look_of list) row) row c row'
call_merges list vocab n a row c row' l =
    let g = call_gives (table_of list n) row c row' l in
    rw (table_merges list vocab n a row g.row_ok.ids) at g

-- ---- the two sentences

-- the call under the longer table leaves what is left when it is called under the first table and then, on the ids that this left, under the longer
pub longer_table : (list longer : List ℕ) (vocab n vocab' n' : ℕ) → Accepted list vocab n → Accepted longer vocab' n' → Keeps list longer → AddsAbove list longer
    → (row : List ℕ) (c : ℕ) (row₁ : List ℕ) → Leaves (table_of longer n') row c row₁
    → (d : ℕ) (row₂ : List ℕ) → Leaves (table_of list n) row d row₂
    → (e : ℕ) (row₃ : List ℕ) → Leaves (table_of longer n') (take d row₂) e row₃
    → (c ≡ e) × (take c row₁ ≡ take e row₃)
longer_table list longer vocab n vocab' n' a b keeps above row c row₁ x d row₂ y e row₃ z =
    let one = call_merges longer vocab' n' b row c row₁ x in
    let two = call_merges list vocab n a row d row₂ y in
    let three = call_merges longer vocab' n' b (take d row₂) e row₃ z in
    let same = lists.longer_list list longer vocab n vocab' n' a b keeps above row one.row_ok ∙ ap (merge (look_of longer)) (sym two.front) in
    (one.count ∙ ap (λ (l : List ℕ). length l) same ∙ sym three.count, one.front ∙ same ∙ sym three.front)

-- cut at the start place of a token of the answer, the two pieces leave, joined, what the whole row leaves
pub cut_call : (list : List ℕ) (vocab n : ℕ) → Accepted list vocab n → (row : List ℕ) (p : ℕ) → In p (starts (look_of list) row)
    → (c : ℕ) (row₁ : List ℕ) → Leaves (table_of list n) row c row₁
    → (d : ℕ) (row₂ : List ℕ) → Leaves (table_of list n) (take p row) d row₂
    → (e : ℕ) (row₃ : List ℕ) → Leaves (table_of list n) (drop p row) e row₃
    → take d row₂ ++ take e row₃ ≡ take c row₁
cut_call list vocab n a row p w c row₁ x d row₂ y e row₃ z =
    let one = call_merges list vocab n a row c row₁ x in
    let two = call_merges list vocab n a (take p row) d row₂ y in
    let three = call_merges list vocab n a (drop p row) e row₃ z in
    ap₂ ◌++◌ two.front three.front ∙ lists.cut_row list vocab n a row one.row_ok p w ∙ sym one.front
