-- A min-heap in the first words of a row: its order, its members, and what the functions on it do. Assumes nothing.
use Rattle.std.specs.Prelude.{◌≡◌, ◌⊎◌, Option, Some, None, List, ℕ, ◌+◌, ◌*◌, ◌^◌, ◌≤◌, ◌<◌, get_or}
use Rattle.bpe.specs.Look.{entry}
use Rattle.bpe.specs.Links.{Past}
use Rattle.bpe.specs.declared.heap.Entry.{Entry}

-- c is a child of i
abbrev pub Child : ℕ → ℕ → Type 0
Child i c = (2 * i < c) × (c ≤ 2 * i + 2)

abbrev pub Ordered : List ℕ → ℕ → Type 0
Ordered h len = (i c : ℕ) → Child i c → c < len → get_or h i 0 ≤ get_or h c 0

abbrev pub Member : List ℕ → ℕ → ℕ → Type 0
Member h len e = (i : ℕ) × (i < len) × (get_or h i 0 ≡ e)

-- in order, but that the word at `at` may be below its parent
pub record Up (h : List ℕ) (len at : ℕ) : Type 0 where
  pub order : (i c : ℕ) → Child i c → c < len → (c ≡ at → ⊥) → get_or h i 0 ≤ get_or h c 0
  pub gap : (p c : ℕ) → Child p at → Child at c → c < len → get_or h p 0 ≤ get_or h c 0

-- in order, but that the word at `at` may be above its children
pub record Down (h : List ℕ) (len at : ℕ) : Type 0 where
  pub order : (i c : ℕ) → Child i c → c < len → (i ≡ at → ⊥) → get_or h i 0 ≤ get_or h c 0
  pub gap : (p c : ℕ) → Child p at → Child at c → c < len → get_or h p 0 ≤ get_or h c 0

-- the same members, in order
pub record Sifted (h : List ℕ) (len : ℕ) (h' : List ℕ) : Type 0 where
  pub ordered : Ordered h' len
  pub to : (e : ℕ) → Member h len e → Member h' len e
  pub back : (e : ℕ) → Member h' len e → Member h len e
  pub past : Past len h h'

-- c is a least child of i
pub record Least (h : List ℕ) (len i c : ℕ) : Type 0 where
  pub child : Child i c
  pub inside : c < len
  pub least : (d : ℕ) → Child i d → d < len → get_or h c 0 ≤ get_or h d 0

-- one more: k entries are in h'
pub record Pushed (h : List ℕ) (len e : ℕ) (h' : List ℕ) (k : ℕ) : Type 0 where
  pub more : k ≡ len + 1
  pub new : Member h' k e
  pub old : (x : ℕ) → Member h len x → Member h' k x
  pub only : (x : ℕ) → Member h' k x → (x ≡ e) ⊎ Member h len x
  pub past : Past k h h'

-- the least entry, of the rank r at the place p, was taken out, and k are left
pub record Taken (h : List ℕ) (len : ℕ) (h' : List ℕ) (r p k : ℕ) : Type 0 where
  pub less : k + 1 ≡ len
  pub small : p < 2 ^ 32
  pub was : Member h len (entry r p)
  pub least : (x : ℕ) → Member h len x → entry r p ≤ x
  pub others : (x : ℕ) → Member h len x → (x ≡ entry r p) ⊎ Member h' k x
  pub only : (x : ℕ) → Member h' k x → Member h len x
  pub past : Past len h h'

abbrev pub Took : List ℕ → ℕ → List ℕ → ℕ → Option Entry → Type 0
Took h len h' k None = (len ≡ 0) × (k ≡ 0) × (h' ≡ h)
Took h len h' k (Some e) = Taken h len h' e.merged e.place k
