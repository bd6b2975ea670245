-- What it means that a list is accepted, and what lookup then answers. Assumes nothing.
use Rattle.std.proofs.Common.{◌≡◌, refl, sym, ap, ◌∙◌, true, List, ℕ, ◌/◌, ◌%◌, ◌≤◌, arith, ltb, length, replicate, ltb-false}
use lib.ListN.{length-replicate, get_or-replicate}
use Rattle.merging.specs.Merging.{nothing}
use Rattle.token.specs.Limits.{top, most_entries}
use Rattle.token.specs.Ids.{Legal, first_too_large}
use Rattle.token.specs.Refusals.{fine, refused}
use Rattle.token.proofs.Cases.{by_test}
use Rattle.token.proofs.Ids.{legal}
use Rattle.merging.specs.Lists.{look_of}
use Rattle.pairs.specs.Limits.{vacant, most_rules}
use Rattle.pairs.specs.Key.{key, key_in}
use Rattle.pairs.specs.Walk.{round}
use Rattle.pairs.specs.Table.{look, wanted, Filled, slots, bad, filled}
use Rattle.pairs.specs.Calls.{refusal_of, refused_by, Accepted, slots_of, table_of}
use Rattle.pairs.proofs.Walks.{by_walk, way, hit_key, hit_inside}
use Rattle.pairs.proofs.Size.{homes, wanted_sized}
use Rattle.pairs.proofs.Law.{Homes, Stands, fill_look}

-- ---- empty slots

pub none_stands : (n : ℕ) → Stands (replicate n vacant)
none_stands n j l v = absurd (v (get_or-replicate n j vacant 0 (rw (length-replicate n vacant) at l)))

none_look : (n a b : ℕ) → Homes n → a ≤ top → b ≤ top → look (replicate n vacant) a b ≡ nothing
unfolding look
none_look n a b h la lb =
    by_walk (round (replicate n vacant) (key a b))
    (λ j e.
    let w = way _ _ e in
    let l = hit_inside (rw (length-replicate n vacant) (h (key a b))) w in
    let k : key_in vacant ≡ key a b = ap key_in (sym (get_or-replicate n j vacant 0 (rw (length-replicate n vacant) at l))) ∙ hit_key w in
    absurd (omega arith))
    (λ j e. rw e)
    (λ e. rw e)

-- ---- an accepted list

-- what was tested of it
pub record Tested (list : List ℕ) (vocab n : ℕ) : Type 0 where
  pub few : length list / 3 ≤ most_rules
  pub vocabulary : vocab ≤ most_entries
  pub whole : length list % 3 ≡ 0
  pub size : wanted (length list / 3) n ≡ true
  pub ids : Legal list
  pub stored : refused_by (filled list n) ≡ fine

not_fine : {A : Type 0} {k p : ℕ} → refused k p ≡ fine → A
not_fine e = cc

pub accepted : (list : List ℕ) (vocab n : ℕ) → Accepted list vocab n → Tested list vocab n
unfolding refusal_of
accepted list vocab n e =
    by_test (ltb most_rules (length list / 3)) (λ a. not_fine (rw a at e)) (λ a.
    by_test (ltb most_entries vocab) (λ b. not_fine (rw (a, b) at e)) (λ b.
    by_test (ltb 0 (length list % 3)) (λ c. not_fine (rw (a, b, c) at e)) (λ c.
    by_test (wanted (length list / 3) n) (λ d.
    by_test (ltb (first_too_large list) (length list)) (λ f. not_fine (rw (a, b, c, d, f) at e)) (λ f.
    record {
      few = ltb-false most_rules (length list / 3) a;
      vocabulary = ltb-false most_entries vocab b;
      whole = omega (arith, ltb-false 0 (length list % 3) c);
      size = d;
      ids = legal list (ltb-false (first_too_large list) (length list) f);
      stored = rw (a, b, c, d, f) at e;
    }))
    (λ d. not_fine (rw (a, b, c, d) at e)))))

pub kept : (f : Filled) (n : ℕ) → refused_by f ≡ fine → f ≡ slots (slots_of f n)
kept (slots s) n e = refl
kept (bad k r) n e = not_fine e

-- lookup over the slots of an accepted list is the list's
pub accepted_look : (list : List ℕ) (vocab n : ℕ) → Accepted list vocab n
    → (a b : ℕ) → a ≤ top → b ≤ top → look (table_of list n) a b ≡ look_of list a b
unfolding filled
accepted_look list vocab n e a b la lb =
    let x = accepted list vocab n e in
    let h = homes (wanted_sized (length list / 3) n x.few x.size) in
    fill_look list (replicate n vacant) (table_of list n) 0 x.ids (rw (length-replicate n vacant) h) (none_stands n)
    (kept (filled list n) n x.stored) a b la lb
    ∙ rw (none_look n a b h la lb)
