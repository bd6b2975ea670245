-- What the inner functions promise. Assumes nothing.
use Rattle.std.specs.Prelude.{◌≡◌, List, ℕ, ◌-◌, ◌%◌, ◌≤◌, ◌<◌, length, set, replicate, false, Result, Ok, Err, OnOk}
use Rattle.std.specs.Borrow.{Bor}
use Rattle.token.specs.Limits.{top}
use Rattle.token.specs.Ids.{Legal}
use Rattle.token.specs.Refusals.{Verdict, fine, refused}
use Rattle.token.specs.declared.Refusal.{Refusal}
use Rattle.token.specs.declared.Refusal.TheVariants.{WrongShape}
use Rattle.pairs.specs.Limits.{vacant}
use Rattle.pairs.specs.Key.{key, packed, shift}
use Rattle.pairs.specs.Walk.{Walk, hit, empty, full, near}
use Rattle.pairs.specs.Table.{Sized, shaped, filled}
use Rattle.pairs.specs.Calls.{told, refused_by, table_of}
use Rattle.pairs.specs.declared.PairRankTable.{PairRankTable}
use Rattle.pairs.specs.declared.Rule.{Rule}

-- a word of 64 bits can be shifted so far
abbrev pub Shifts : ℕ → Type 0
Shifts by = by < 64

-- mask and shift are those of the slots, which are a table
pub record Fits (s : List ℕ) (mask by : ℕ) : Type 0 where
  pub size : Sized (length s)
  pub mask_is : mask ≡ length s - 1
  pub shift_is : by ≡ shift (length s)

-- the table of these slots
pub record Fitted (s : Bor (List ℕ)) (t : PairRankTable) : Type 0 where
  pub slots : t.slots ≡ s
  pub fits : Fits s.now t.mask t.shift

-- the same, or the refusal of slots that are no table
abbrev pub Checks : Bor (List ℕ) → Result PairRankTable Refusal → Type 0
Checks s (Ok t) = Fitted s t
Checks s (Err f) = (shaped (length s.now) ≡ false) × (f ≡ WrongShape)

-- what is said of rule number r, whose walk stopped there
abbrev pub said_by : Walk → ℕ → Verdict
said_by (hit i) r = refused 4 r
said_by (empty i) r = fine
said_by full r = refused 5 r

-- the slots with a rule stored where its walk stopped
abbrev pub stored_by : Walk → List ℕ → ℕ → List ℕ
stored_by (hit i) s x = s
stored_by (empty i) s x = set s i x
stored_by full s x = s

-- a rule of ids
abbrev pub OfIds : Rule → Type 0
OfIds rule = (rule.left ≤ top) × (rule.right ≤ top) × (rule.merged ≤ top)

pub record Inserts (s : List ℕ) (rule : Rule) (number : ℕ) (r : Result (Unit {0}) Refusal) (s' : List ℕ) : Type 0 where
  pub answer : told r ≡ said_by (near s (key rule.left rule.right)) number
  pub stored : s' ≡ stored_by (near s (key rule.left rule.right)) s (packed rule.left rule.right rule.merged)

-- a list whose rules can be tried one by one, and slots that are all empty
pub record Fillable (list s : List ℕ) : Type 0 where
  pub size : Sized (length s)
  pub whole : length list % 3 ≡ 0
  pub ids : Legal list
  pub clear : s ≡ replicate (length s) vacant

-- the slots of a list with a bad rule are left as they are then
pub record Stores (list s : List ℕ) (r : Result (Unit {0}) Refusal) (s' : List ℕ) : Type 0 where
  pub answer : told r ≡ refused_by (filled list (length s))
  pub left : OnOk r (s' ≡ table_of list (length s))

pub record Fills (list s : List ℕ) (r : Result (Unit {0}) Refusal) (s' : List ℕ) : Type 0 where
  pub answer : told r ≡ refused_by (filled list (length s))
  pub left : s' ≡ table_of list (length s)
