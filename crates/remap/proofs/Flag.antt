-- The flag: off exactly where the map is the identity, set by any missing byte. Assumes nothing.
use Rattle.std.proofs.Common.{◌≡◌, ◌≢◌, ℕ, zero, suc, ◌+◌, ◌≤◌, ◌<◌, Bool, true, false, eqb, List, [], ◌∷◌, ◌++◌, length, get_or, MatchBool, refl, sym, ap, ◌∙◌, true≢false, add-zero, zero-add, arith, eq-eqb, ne_eqb, eqb-true}
use Rattle.token.specs.Limits.{most_entries}
use Rattle.token.specs.Refusals.{fine}
use Rattle.token.proofs.Cases.{by_test}
use Rattle.remap.specs.Utf8.{utf8}
use Rattle.remap.specs.Vocabulary.{vocabulary, misshapen}
use Rattle.remap.specs.Map.{all_bytes, nothing, found, id_from, each, ids_of, filler, or_filler, map_of, differs}
use Rattle.remap.specs.Calls.{told, ids, verdict_of, Remaps}
use Rattle.remap.specs.declared.Remapped.{Remapped}
use Rattle.remap.proofs.Each.{shifted, each_is, ids_length, map_length, id_at, map_at}
use Rattle.remap.proofs.Accepted.{accepted, accepted_fine, missing_unused}

-- n bytes from b on, each its own id
abbrev pub identity : ℕ → ℕ → List ℕ
identity b n = each (λ (x : ℕ). x) b n

pub differs_off : (m : List ℕ) (b : ℕ) → differs b m ≡ false → m ≡ identity b (length m)
differs_off [] b e = refl
differs_off (x ∷ m) b e =
    by_test (eqb x b)
    (λ t. let rest : m ≡ identity (suc b) (length m) = differs_off m (suc b) (rw t at e) in let first = eqb-true x b t in cc)
    (λ t. absurd (true≢false (rw t at e)))

pub identity_off : (b n : ℕ) → differs b (identity b n) ≡ false
identity_off b zero = refl
identity_off b (suc n) = rw (eq-eqb b b refl) (identity_off (suc b) n)

differs_at : (m : List ℕ) (b k : ℕ) → k < length m → (get_or m k 0 ≡ b + k → ⊥) → differs b m ≡ true
differs_at [] b k l h = absurd (omega arith)
differs_at (x ∷ m) b zero l h = rw (ne_eqb x b (λ e. h (e ∙ sym (add-zero b))))
differs_at (x ∷ m) b (suc k) l h =
    by_test (eqb x b) (λ t. rw t (differs_at m (suc b) k (omega arith) (λ e. h (e ∙ shifted b k)))) (λ t. rw t)

-- what a search for a difference says: a byte has another number as its id, or each has its own
pub differs_by : (m : List ℕ) (r : Bool)
    → MatchBool r ((k : ℕ) × (k < length m) × (get_or m k 0 ≢ k)) ((k : ℕ) → k < length m → get_or m k 0 ≡ k) → r ≡ differs 0 m
differs_by m true h = sym (differs_at m 0 h.0 h.1 (λ e. h.2 (e ∙ zero-add h.0)))
differs_by m false h =
    sym (ap (differs 0) (each_is (λ (x : ℕ). x) 0 m 0 (λ k l. h k l ∙ sym (zero-add k))) ∙ identity_off 0 (length m))

-- the filler, as a byte, is not of the thirteen
filler_used : utf8 filler ≡ true
unfolding utf8
filler_used = refl

module _ (bytes ends : List ℕ) {r : Remapped} (p : Remaps bytes ends r) (ok : told r.verdict ≡ fine) where
  now_fine : verdict_of bytes ends ≡ fine
  now_fine = sym p.says ∙ ok

  -- a missing byte of the thirteen always sets the flag
  pub missing_sets_flag : (b : ℕ) → b < all_bytes → id_from 0 (vocabulary bytes ends) b ≡ nothing → r.differs ≡ true
  missing_sets_flag b l h =
      let v = vocabulary bytes ends in
      let here : get_or (map_of (ids bytes ends)) b 0 ≡ filler = map_at v b l ∙ ap or_filler h in
      let unused = missing_unused bytes ends (accepted bytes ends now_fine) b l h in
      p.flags ∙ rw now_fine
      (differs_at (map_of (ids bytes ends)) 0 b (rw (map_length v) l)
      (λ e. true≢false (sym filler_used ∙ ap utf8 (sym here ∙ e ∙ zero-add b) ∙ unused)))

  -- a flag that is off says that the map is the identity
  pub flag_off : r.differs ≡ false → r.map.mapping ≡ identity 0 all_bytes
  flag_off e =
      let same : r.differs ≡ differs 0 (map_of (ids bytes ends)) = p.flags ∙ rw now_fine in
      p.maps ∙ rw now_fine (differs_off (map_of (ids bytes ends)) 0 (sym same ∙ e) ∙ ap (identity 0) (map_length (vocabulary bytes ends)))

  -- and one that is on, that it is not
  pub flag_on : r.differs ≡ true → r.map.mapping ≡ identity 0 all_bytes → ⊥
  flag_on e s =
      let maps : r.map.mapping ≡ map_of (ids bytes ends) = p.maps ∙ rw now_fine in
      let same : r.differs ≡ differs 0 (map_of (ids bytes ends)) = p.flags ∙ rw now_fine in
      true≢false (sym e ∙ same ∙ ap (differs 0) (sym maps ∙ s) ∙ identity_off 0 all_bytes)

-- ---- a vocabulary that begins with the bytes in order

abbrev pub singles : ℕ → ℕ → List (List ℕ)
singles b n = each (λ (x : ℕ). x ∷ []) b n

single_id : (more : List (List ℕ)) (n b k : ℕ) → k < n → id_from b (singles b n ++ more) (b + k) ≡ found (b + k)
single_id more zero b k l = absurd (omega arith)
single_id more (suc n) b zero l = rw (add-zero b, eq-eqb b b refl)
single_id more (suc n) b (suc k) l = rw (ne_eqb b (b + suc k) (λ e. omega arith), ← shifted b k) (single_id more n (suc b) k (omega arith))

in_order : (vocab more : List (List ℕ)) → vocab ≡ singles 0 all_bytes ++ more → ids_of vocab ≡ each found 0 all_bytes
in_order vocab more e =
    each_is found nothing (ids_of vocab) 0
    (λ k l.
    let s : k < all_bytes = rw (ids_length vocab) at l in
    id_at vocab k s ∙ ap (λ (v : List (List ℕ)). id_from 0 v k) e
    ∙ ap (id_from 0 (singles 0 all_bytes ++ more)) (sym (zero-add k)) ∙ single_id more all_bytes 0 k s)
    ∙ ap (each found 0) (ids_length vocab)

-- it gives the identity, with the flag off
pub identity_vocabulary : (bytes ends : List ℕ) (more : List (List ℕ)) {r : Remapped}
    → vocabulary bytes ends ≡ singles 0 all_bytes ++ more → length ends ≤ most_entries → misshapen (length bytes) ends ≡ false
    → Remaps bytes ends r → (told r.verdict ≡ fine) × (r.map.mapping ≡ identity 0 all_bytes) × (r.differs ≡ false)
identity_vocabulary bytes ends more e few whole p =
    let i = in_order (vocabulary bytes ends) more e in
    let v = accepted_fine bytes ends record { few = few; whole = whole; full = rw i } in
    (p.says ∙ v, p.maps ∙ rw (v, i), p.flags ∙ rw (v, i))
