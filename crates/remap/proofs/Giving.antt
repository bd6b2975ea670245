-- One entry after the other gives its byte an id, unless the byte has one. Assumes nothing.
use Rattle.std.proofs.Common.{◌≡◌, refl, sym, ap, ◌∙◌, false, cond, List, [], ◌∷◌, ℕ, suc, ◌+◌, ◌-◌, ◌≤◌, ◌<◌, zero-add, add-one, arith, eqb, length, get_or, drop, replicate, length-set, drop-cons, get_or-set_same, get_or-set_other, eq-eqb, ne_eqb, eqb-true}
use lib.ListN.{length-replicate, get_or-replicate, length-map, get_or-map}
use lib.Seq.{slice, slice-cons, slice_empty, length-slice, drop-length}
use borrow.Author.Tests.{eqb-false}
use Rattle.token.specs.Limits.{no_id}
use Rattle.token.proofs.Cases.{by_test, by_equal}
use Rattle.remap.specs.Vocabulary.{entries, vocabulary, misshapen}
use Rattle.remap.specs.Map.{all_bytes, Found, found, is_byte, id_from, each, ids_of}
use Rattle.remap.specs.Calls.{ids}
use Rattle.remap.specs.Steps.{read, read_all, give}
use Rattle.remap.proofs.Each.{each_is}
use Rattle.remap.proofs.Ends.{bad, bad_all, bad_later, rises, at_most}

-- the id that the map has, or else what later entries give
abbrev seen : ℕ → Found → Found
seen x later = cond (eqb x no_id) later (found x)

-- an entry of another length is no byte alone
other_length : (b : ℕ) (entry : List ℕ) → (length entry ≡ 1 → ⊥) → is_byte b entry ≡ false
other_length b [] h = refl
other_length b (x ∷ []) h = absurd (h refl)
other_length b (x ∷ y ∷ entry) h = refl

-- what giving byte x an id does to byte b
given : (m : List ℕ) (x id b : ℕ) (later : Found) → id < no_id → x < length m
    → seen (get_or m b 0) (cond (eqb x b) (found id) later) ≡ seen (get_or (give m x id) b 0) later
given m x id b later f l =
    by_test (eqb x b)
    (λ e.
    let s = eqb-true x b e in
    by_test (eqb (get_or m x 0) no_id)
    (λ t. rw (← s, t, eq-eqb x x refl, get_or-set_same m x id 0 l, ne_eqb id no_id (λ q. omega arith)))
    (λ t. rw (← s, t, t)))
    (λ e.
    by_test (eqb (get_or m x 0) no_id)
    (λ t. rw (t, e, get_or-set_other m x b id 0 (λ q. eqb-false x b e (sym q))))
    (λ t. rw (t, e)))

give_length : (m : List ℕ) (x id : ℕ) → length (give m x id) ≡ length m
give_length m x id = by_test (eqb (get_or m x 0) no_id) (λ t. rw (t, length-set m x id)) (λ t. rw t)

-- before entry i, which starts at `start`
pub record Going (bytes ends m : List ℕ) (start i : ℕ) : Type 0 where
  pub within : i ≤ length ends
  pub long : length m ≡ all_bytes
  pub good : bad (length bytes) start (drop i ends) ≡ false
  pub left : (b : ℕ) → b < all_bytes
      → id_from 0 (vocabulary bytes ends) b ≡ seen (get_or m b 0) (id_from i (entries bytes start (drop i ends)) b)

pub begun : (bytes ends : List ℕ) → misshapen (length bytes) ends ≡ false → Going bytes ends (replicate all_bytes no_id) 0 0
begun bytes ends good = record {
  within = omega arith;
  long = length-replicate all_bytes no_id;
  good = sym (bad_all (length bytes) ends) ∙ good;
  left = λ b l. rw (get_or-replicate all_bytes b no_id 0 l);
}

module _ (bytes ends m : List ℕ) (start i : ℕ) (g : Going bytes ends m start i) (l : i < length ends) where
  pub no_lower : start ≤ get_or ends i 0
  no_lower = rises (length bytes) start ends i l g.good

  good_next : bad (length bytes) (get_or ends i 0) (drop (i + 1) ends) ≡ false
  good_next = sym (bad_later (length bytes) start ends i l no_lower) ∙ g.good

  inside : get_or ends i 0 ≤ length bytes
  inside = at_most (length bytes) (get_or ends i 0) (drop (i + 1) ends) good_next

  pub start_inside : get_or ends i 0 - start ≡ 1 → start < length bytes
  start_inside one = omega (arith, no_lower, inside)

  -- the state with a map m' after the entry
  next : (m' : List ℕ) → length m' ≡ length m
      → ((b : ℕ) → b < all_bytes → (later : Found)
      → seen (get_or m b 0) (cond (is_byte b (slice start (get_or ends i 0) bytes)) (found i) later) ≡ seen (get_or m' b 0) later)
      → Going bytes ends m' (get_or ends i 0) (i + 1)
  next m' long step = record {
    within = omega arith;
    long = long ∙ g.long;
    good = good_next;
    left = λ b s. g.left b s ∙ rw (drop-cons ends i 0 l, add-one) (step b s (id_from (suc i) (entries bytes (get_or ends i 0) (drop (suc i) ends)) b));
  }

  -- an entry of one byte gives it the id, where it has none
  pub one_byte : get_or ends i 0 - start ≡ 1 → get_or bytes start 0 < all_bytes → i < no_id
      → Going bytes ends (give m (get_or bytes start 0) i) (get_or ends i 0) (i + 1)
  one_byte one small few =
      let e : get_or ends i 0 ≡ suc start = omega (arith, no_lower) in
      let alone : slice start (get_or ends i 0) bytes ≡ get_or bytes start 0 ∷ [] =
      slice-cons start (get_or ends i 0) bytes 0 (omega arith) inside ∙ rw (e, slice_empty (suc start) bytes) in
      next (give m (get_or bytes start 0) i) (give_length m (get_or bytes start 0) i)
      (λ b s later. rw alone (given m (get_or bytes start 0) i b later few (omega (arith, g.long))))

  -- an entry of another length gives nothing
  pub other : (get_or ends i 0 - start ≡ 1 → ⊥) → Going bytes ends m (get_or ends i 0) (i + 1)
  other longer =
      next m refl
      (λ b s later. rw (other_length b (slice start (get_or ends i 0) bytes) (λ q. longer (sym (length-slice start (get_or ends i 0) bytes inside) ∙ q))))

  -- the state after the entry, by its length
  pub turn : (m' : List ℕ) (start' : ℕ) → get_or bytes start 0 < all_bytes → i < no_id → start' ≡ get_or ends i 0
      → (get_or ends i 0 - start ≡ 1 → m' ≡ give m (get_or bytes start 0) i) → ((get_or ends i 0 - start ≡ 1 → ⊥) → m' ≡ m)
      → Going bytes ends m' start' (i + 1)
  turn m' start' small few at one longer =
      by_equal (get_or ends i 0 - start) 1
      (λ e. rw (at, one e) (one_byte e small few))
      (λ n. rw (at, longer n) (other n))

-- after the last entry the map has all ids
pub ended : (bytes ends m : List ℕ) (start i : ℕ) → Going bytes ends m start i → i ≡ length ends → read_all m ≡ ids bytes ends
unfolding ids_of
ended bytes ends m start i g e =
    let f = id_from 0 (vocabulary bytes ends) in
    each_is f (read 0) (read_all m) 0
    (λ k l.
    let s : k < length m = rw (length-map m read) at l in
    get_or-map read m k 0 ∙ sym (ap f (zero-add k) ∙ g.left k (omega (arith, g.long)) ∙ rw (e, drop-length ends)))
    ∙ ap (each f 0) (length-map m read ∙ g.long)
