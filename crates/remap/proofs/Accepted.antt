-- What an accepted vocabulary has: only bytes of the thirteen are missing, and every id of its map is one. Assumes nothing.
use Rattle.std.proofs.Common.{◌≡◌, ℕ, zero, suc, ◌+◌, ◌≤◌, ◌<◌, Bool, true, false, cond, eqb, ltb, List, [], ◌∷◌, length, get_or, replicate, Option, None, Some, MatchOption, refl, sym, ap, ◌∙◌, add-zero, zero-add, arith, le-ltb, ltb-false}
use Rattle.token.specs.Limits.{top, no_id, most_entries}
use Rattle.token.specs.Ids.{Legal}
use Rattle.token.specs.Refusals.{Verdict, fine, refused}
use Rattle.token.proofs.Cases.{by_test}
use Rattle.remap.specs.Utf8.{utf8}
use Rattle.remap.specs.Vocabulary.{entries, vocabulary, misshapen}
use Rattle.remap.specs.Map.{all_bytes, Found, nothing, found, is_byte, id_from, each, ids_of, missing, or_filler, map_of}
use Rattle.remap.specs.Calls.{lacking, ids, verdict_of, map_under, Remaps}
use Rattle.remap.specs.Steps.{read, read_all, lacks, told_missing}
use Rattle.remap.specs.declared.Remapped.{Remapped}
use Rattle.remap.proofs.Each.{shifted, ids_length, id_at}

ne_fine : {k p : ℕ} → refused k p ≡ fine → ⊥
ne_fine e = cc

ne_nothing : {i : ℕ} → found i ≡ nothing → ⊥
ne_nothing e = cc

-- where the first of two is not the answer, the test was off
second : {A : Type 0} (t : Bool) (x y : A) {z : A} → (x ≡ z → ⊥) → cond t x y ≡ z → (t ≡ false) × (y ≡ z)
second true x y n e = absurd (n e)
second false x y n e = (refl, e)

none_lacking : (f : Found) → lacking f ≡ fine → f ≡ nothing
none_lacking nothing e = refl
none_lacking (found b) e = absurd (ne_fine e)

pub record Accepted (bytes ends : List ℕ) : Type 0 where
  pub few : length ends ≤ most_entries
  pub whole : misshapen (length bytes) ends ≡ false
  pub full : missing 0 (ids bytes ends) ≡ nothing

pub accepted : (bytes ends : List ℕ) → verdict_of bytes ends ≡ fine → Accepted bytes ends
unfolding verdict_of
accepted bytes ends e =
    let a = second (ltb most_entries (length ends)) (refused 1 0) _ ne_fine e in
    let b = second (misshapen (length bytes) ends) (refused 2 0) _ ne_fine a.1 in
    record { few = ltb-false most_entries (length ends) a.0; whole = b.0; full = none_lacking (missing 0 (ids bytes ends)) b.1 }

pub accepted_fine : (bytes ends : List ℕ) → Accepted bytes ends → verdict_of bytes ends ≡ fine
unfolding verdict_of
accepted_fine bytes ends a = rw (le-ltb most_entries (length ends) a.few, a.whole, a.full)

-- ---- what is missing

missing_read : (b x : ℕ) (ids : List Found) (t : Bool) → lacks b x ≡ t → missing b (read x ∷ ids) ≡ cond t (found b) (missing (suc b) ids)
missing_read b x ids t e =
    by_test (eqb x no_id)
    (λ f. let u : utf8 b ≡ t = rw f at e in rw (f, u))
    (λ f. let u : false ≡ t = rw f at e in rw (f, ← u))

missing_nowhere : (m : List ℕ) (b : ℕ) → ((k : ℕ) → k < length m → lacks (b + k) (get_or m k 0) ≡ false) → missing b (read_all m) ≡ nothing
missing_nowhere [] b h = refl
missing_nowhere (x ∷ m) b h =
    missing_read b x (read_all m) false (rw add-zero at (h 0 (omega arith))) ∙ missing_nowhere m (suc b) (λ k l. rw (shifted b k) (h (suc k) (omega arith)))

missing_first : (m : List ℕ) (b k : ℕ) → k < length m → lacks (b + k) (get_or m k 0) ≡ true
    → ((j : ℕ) → j < k → lacks (b + j) (get_or m j 0) ≡ false) → missing b (read_all m) ≡ found (b + k)
missing_first [] b k l e h = absurd (omega arith)
missing_first (x ∷ m) b zero l e h = rw add-zero (missing_read b x (read_all m) true (rw add-zero at e))
missing_first (x ∷ m) b (suc k) l e h =
    missing_read b x (read_all m) false (rw add-zero at (h 0 (omega arith)))
    ∙ missing_first m (suc b) k (omega arith) (rw (shifted b k) e) (λ j s. rw (shifted b j) (h (suc j) (omega arith)))
    ∙ ap found (shifted b k)

-- what a search for a byte that lacks an id says: no byte does, or b does, and none before it
pub missing_by : (m : List ℕ) (r : Option ℕ)
    → MatchOption r ((k : ℕ) → k < length m → lacks k (get_or m k 0) ≡ false)
    (λ b. (b < length m) × (lacks b (get_or m b 0) ≡ true) × ((k : ℕ) → k < b → lacks k (get_or m k 0) ≡ false))
    → told_missing r ≡ missing 0 (read_all m)
missing_by m None h = sym (missing_nowhere m 0 (λ k l. rw zero-add (h k l)))
missing_by m (Some b) h = sym (missing_first m 0 b h.0 (rw zero-add h.1) (λ k l. rw zero-add (h.2 k l)) ∙ ap found (zero-add b))

missing_at : (l : List Found) (b k : ℕ) → missing b l ≡ nothing → k < length l → get_or l k nothing ≡ nothing → utf8 (b + k) ≡ false
missing_at [] b k e s h = absurd (omega arith)
missing_at (nothing ∷ l) b zero e s h = ap utf8 (add-zero b) ∙ (second (utf8 b) (found b) (missing (suc b) l) ne_nothing e).0
missing_at (found i ∷ l) b zero e s h = absurd (ne_nothing h)
missing_at (nothing ∷ l) b (suc k) e s h =
    ap utf8 (sym (shifted b k)) ∙ missing_at l (suc b) k (second (utf8 b) (found b) (missing (suc b) l) ne_nothing e).1 (omega arith) h
missing_at (found i ∷ l) b (suc k) e s h = ap utf8 (sym (shifted b k)) ∙ missing_at l (suc b) k e (omega arith) h

-- a byte without an id is one of the thirteen
pub missing_unused : (bytes ends : List ℕ) → Accepted bytes ends
    → (b : ℕ) → b < all_bytes → id_from 0 (vocabulary bytes ends) b ≡ nothing → utf8 b ≡ false
missing_unused bytes ends a b l h =
    let v = vocabulary bytes ends in
    ap utf8 (sym (zero-add b)) ∙ missing_at (ids bytes ends) 0 b a.full (rw (ids_length v) l) (id_at v b l ∙ h)

-- ---- ids

entries_length : (bytes : List ℕ) (start : ℕ) (ends : List ℕ) → length (entries bytes start ends) ≡ length ends
entries_length bytes start [] = refl
entries_length bytes start (end ∷ ends) = ap suc (entries_length bytes end ends)

id_small : (i : ℕ) (vocab : List (List ℕ)) (b : ℕ) → i + length vocab ≤ most_entries → or_filler (id_from i vocab b) ≤ top
id_small i [] b h = omega arith
id_small i (entry ∷ vocab) b h = by_test (is_byte b entry) (λ t. rw t (omega arith)) (λ t. rw t (id_small (suc i) vocab b (omega arith)))

each_legal : (f : ℕ → Found) → ((b : ℕ) → or_filler (f b) ≤ top) → (b n : ℕ) → Legal (map_of (each f b n))
each_legal f h b zero = tt
each_legal f h b (suc n) = (h b, each_legal f h (suc b) n)

zeros_legal : (n : ℕ) → Legal (replicate n 0)
zeros_legal zero = tt
zeros_legal (suc n) = (omega arith, zeros_legal n)

legal_under : (v : Verdict) (m : List ℕ) → (v ≡ fine → Legal m) → Legal (map_under v m)
legal_under fine m h = h refl
legal_under (refused k p) m h = zeros_legal all_bytes

-- every number of an answered map is an id
pub legal_map : (bytes ends : List ℕ) {r : Remapped} → Remaps bytes ends r → Legal r.map.mapping
unfolding ids_of
legal_map bytes ends p =
    let v = vocabulary bytes ends in
    rw p.maps (legal_under (verdict_of bytes ends) (map_of (ids bytes ends))
    (λ e. each_legal (id_from 0 v) (λ b. id_small 0 v b (rw (entries_length bytes 0 ends, zero-add) (accepted bytes ends e).few)) 0 all_bytes))
