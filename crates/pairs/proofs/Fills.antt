-- The turns and ways out of the inner functions of building. Assumes nothing.
use Rattle.std.proofs.Common.{[], zero, ◌/◌, ◌≤◌, take, drop-drop, length-drop, ◌≡◌, refl, sym, ap, ◌∙◌, List, ◌∷◌, ℕ, suc, ◌+◌, ◌*◌, ◌<◌, add-one, arith, length, get_or, set, drop, replicate, Ok, Err}
use lib.Seq.{drop-length}
use Rattle.std.specs.Simd.{first_chunks}
use Rattle.token.specs.Ids.{Legal}
use Rattle.token.specs.Refusals.{number, place, fine, refused}
use Rattle.token.specs.declared.Refusal.{Refusal}
use Rattle.token.specs.declared.Refusal.TheVariants.{PairRepeated, TooFar}
use Rattle.pairs.specs.Limits.{vacant}
use Rattle.pairs.specs.Key.{key, packed, home}
use Rattle.pairs.specs.Walk.{Walk, hit, empty, full, walk, reach, near}
use Rattle.pairs.specs.Table.{Filled, slots, bad, store, fill, filled}
use Rattle.pairs.specs.Steps.{Fits, OfIds, said_by, stored_by, Inserts, Stores}
use Rattle.pairs.specs.declared.Rule.{Rule}
use Rattle.pairs.proofs.Ranks.{here, empty_below}

-- ---- one rule

module _ (s : List ℕ) {mask by : ℕ} (fit : Fits s mask by) (rule : Rule) (r : ℕ) {k f : ℕ} (ek : k ≡ key rule.left rule.right) (ef : f ≡ reach (length s)) where
  stopped : {w : Walk} → w ≡ walk s k f (home by k) → near s (key rule.left rule.right) ≡ w
  stopped e = rw (← ek, ← ef) (sym (here s fit k f e))

  pub insert_hit : {i : ℕ} → hit i ≡ walk s k f (home by k) → Inserts s rule r (Err (PairRepeated r)) s
  insert_hit e = let h = stopped e in record { answer = rw h; stored = rw h }

  pub insert_empty : {i x : ℕ} → empty i ≡ walk s k f (home by k) → x ≡ packed rule.left rule.right rule.merged → Inserts s rule r (Ok tt) (set s i x)
  insert_empty e ex = let h = stopped e in record { answer = rw h; stored = rw (h, ex) }

  pub insert_full : full ≡ walk s k f (home by k) → Inserts s rule r (Err (TooFar r)) s
  insert_full e = let h = stopped e in record { answer = rw h; stored = rw h }

pub ruleset inserting = (insert_hit, insert_empty, insert_full, empty_below)

-- ---- the rules one by one

goes_on : (w : Walk) (r : ℕ) (s : List ℕ) (x : ℕ) (next : List ℕ → Filled) → fine ≡ said_by w r → store w r s x next ≡ next (stored_by w s x)
goes_on (hit i) r s x next e = cc
goes_on (empty i) r s x next e = refl
goes_on full r s x next e = cc

stops_at : (w : Walk) (r : ℕ) (s : List ℕ) (x : ℕ) (next : List ℕ → Filled) {k p : ℕ} → refused k p ≡ said_by w r → store w r s x next ≡ bad k p
stops_at (hit i) r s x next e = cc
stops_at (empty i) r s x next e = cc
stops_at full r s x next e = cc

-- a row that begins with a rule
begins : (xs : List ℕ) → 3 ≤ length xs → xs ≡ get_or (take 3 xs) 0 0 ∷ get_or (take 3 xs) 1 0 ∷ get_or (take 3 xs) 2 0 ∷ drop 3 xs
begins [] l = absurd (omega arith)
begins (x ∷ []) l = absurd (omega arith)
begins (x ∷ y ∷ []) l = absurd (omega arith)
begins (x ∷ y ∷ z ∷ xs) l = refl

chunk_at : (k i : ℕ) (xs : List ℕ) → i < k → get_or (first_chunks 3 k xs) i [] ≡ take 3 (drop (3 * i) xs)
chunk_at zero i xs l = absurd (omega arith)
chunk_at (suc k) zero xs l = refl
chunk_at (suc k) (suc i) xs l = let more : 3 + 3 * i ≡ 3 * suc i = omega arith in chunk_at k i (drop 3 xs) (omega arith) ∙ rw (drop-drop, more)

legal_drop : (n : ℕ) (xs : List ℕ) → Legal xs → Legal (drop n xs)
legal_drop zero xs l = l
legal_drop (suc n) [] l = l
legal_drop (suc n) (x ∷ xs) l = legal_drop n xs l.1

module _ (list : List ℕ) {cs : List (List ℕ)} (e : cs ≡ first_chunks 3 (length list / 3) list) (i : ℕ) (l : i < length list / 3) where
  abbrev number_at : ℕ → ℕ
  number_at j = get_or (get_or cs i []) j 0

  abbrev rule_at : Rule
  rule_at = record { left = number_at 0; right = number_at 1; merged = number_at 2 }

  cut : drop (3 * i) list ≡ number_at 0 ∷ number_at 1 ∷ number_at 2 ∷ drop (3 * (i + 1)) list
  cut =
      let long : 3 ≤ length (drop (3 * i) list) = simp length-drop (omega arith) in
      let here : get_or cs i [] ≡ take 3 (drop (3 * i) list) = rw e (chunk_at (length list / 3) i list l) in
      let more : 3 * i + 3 ≡ 3 * (i + 1) = omega arith in
      let rest : drop 3 (drop (3 * i) list) ≡ drop (3 * (i + 1)) list = rw (drop-drop, more) in
      rw (here, ← rest) (begins (drop (3 * i) list) long)

  pub rule_of_ids : Legal list → OfIds rule_at
  rule_of_ids h = let (a, (b, (m, rest))) = rw cut at (legal_drop (3 * i) list h) in (a, b, m)

  module _ (s : List ℕ) where
    pub fill_on : {s' : List ℕ} → Inserts s rule_at i (Ok tt) s' → fill i (drop (3 * i) list) s ≡ fill (i + 1) (drop (3 * (i + 1)) list) s'
    fill_on t =
        ap (λ (d : List ℕ). fill i d s) cut
        ∙ goes_on (near s (key (number_at 0) (number_at 1))) i s _ (λ u. fill (suc i) (drop (3 * (i + 1)) list) u) t.answer
        ∙ rw (add-one i, t.stored)

    pub fill_stop : {f : Refusal} {s' : List ℕ} → Inserts s rule_at i (Err f) s' → fill i (drop (3 * i) list) s ≡ bad (number f) (place f)
    fill_stop t =
        ap (λ (u : List ℕ). fill i u s) cut
        ∙ stops_at (near s (key (number_at 0) (number_at 1))) i s _ (λ u. fill (suc i) (drop (3 * (i + 1)) list) u) t.answer

pub fill_start : (list s : List ℕ) → s ≡ replicate (length s) vacant → fill 0 (drop (3 * 0) list) s ≡ filled list (length s)
unfolding filled
fill_start list s e = ap (λ (u : List ℕ). fill 0 list u) e

pub fill_end : (list s : List ℕ) (i : ℕ) → 3 * i ≡ length list → fill i (drop (3 * i) list) s ≡ slots s
fill_end list s i e = rw (e, drop-length list)

-- ---- the ways out, where all the rules over n empty slots are the rules from i on over s

module _ (list s₀ : List ℕ) where
  pub stored_bad : (f : Refusal) {s' : List ℕ} → filled list (length s₀) ≡ bad (number f) (place f) → Stores list s₀ (Err f) s'
  stored_bad f e = record { answer = rw e; left = tt }

  pub stored_all : {s : List ℕ} → filled list (length s₀) ≡ slots s → Stores list s₀ (Ok tt) s
  stored_all e = record { answer = rw e; left = rw e }

pub ruleset storing = (fill_start, fill_on, fill_stop, fill_end, rule_of_ids, stored_bad, stored_all)
