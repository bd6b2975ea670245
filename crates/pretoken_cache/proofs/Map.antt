-- Any run of calls from a fresh table answers as a plain map. Assumes nothing.
use mathlib.Core.Path.{◌≡◌, refl, sym, ap, ◌∙◌}
use mathlib.Core.Bool.{Bool, true, ◌&&◌}
use mathlib.Core.List.{List, [], ◌∷◌}
use mathlib.Core.Option.{some}
use Prim.Native.Nat.{ℕ}
use native.Mathlib.Omega.{arith}
use lib.Dec.{eqb, ltb}
use lib.ListN.{length, replicate, length-replicate}
use borrow.Author.Tests.{eq-eqb}
use Rattle.token.specs.Refusals.{Verdict, fine, refused}
use Rattle.pretoken_cache.specs.declared.Name.{Name}
use Rattle.pretoken_cache.specs.Limits.{most_slots, most_asked}
use Rattle.pretoken_cache.specs.Walk.{Walk, hit, empty, full}
use Rattle.pretoken_cache.specs.Table.{slots, shaped, seek}
use Rattle.pretoken_cache.specs.Capacity.{required}
use Rattle.pretoken_cache.specs.Calls as calls
use Rattle.pretoken_cache.specs.Calls.{Answer, Outcome, unfit, zero_key, first_of, unless, guarded, gotten, emptied, over_asked}
use Rattle.pretoken_cache.specs.Plain.{lookup, Once, Map, nothing_in, plainly, map_after}
use Rattle.pretoken_cache.specs.Runs.{Fresh, Call, probe, call, forget, run, after, ends, ask, asked, NoTen}
use Rattle.token.proofs.Cases.{by_test}
use Rattle.pretoken_cache.proofs.Bools.{both}
use Rattle.pretoken_cache.proofs.Sizes.{shape, shaped_as}
use Rattle.pretoken_cache.proofs.Bars.{refuses≢done}
use Rattle.pretoken_cache.proofs.Sims.{Holds, holds_none, sim_call}
use Rattle.pretoken_cache.proofs.Asks.{shown, stays_once, plainly_ten}

-- ---- runs of calls over a table and a map that go together

sim_run : (cs : List Call) {count : ℕ} {words : List ℕ} {map : Map} → Holds count words map → run count words cs ≡ plainly map (asked count words cs)
unfolding run plainly asked
sim_run [] h = refl
sim_run (c ∷ cs) h = let s = sim_call h c in cc (s.says, s.holds.sized, sim_run cs s.holds)

holds_after : (cs : List Call) {count : ℕ} {words : List ℕ} {map : Map} → Holds count words map → Holds (after count words cs).0 (after count words cs).1 (map_after map (asked count words cs))
unfolding after map_after asked
holds_after [] h = h
holds_after (c ∷ cs) h = holds_after cs (sim_call h c).holds

-- ---- from a fresh table

fresh_holds : {words : List ℕ} → Fresh words → Holds 0 words (nothing_in (slots words))
fresh_holds {words} f = let (l, z) = shape words f.shape in let h = holds_none words z l in rw (← f.zero) at h

-- each call of a run gives what the map gives: its answer but for slots, and the count, which is the map's size
pub answers_as_map : (words : List ℕ) (cs : List Call) → Fresh words → run 0 words cs ≡ plainly (nothing_in (slots words)) (asked 0 words cs)
answers_as_map words cs f = sim_run cs (fresh_holds f)

-- a hit of the one-pair probe, after any run, is what the map has
pub probe_hit : (words : List ℕ) (cs : List Call) → Fresh words → (mask : ℕ) (m : Name) {v e : ℕ} → calls.probe mask (after 0 words cs).1 m ≡ calls.probed v e true
    → lookup (map_after (nothing_in (slots words)) (asked 0 words cs)).entries m ≡ some (record { val = v; ext = e })
unfolding call ask
probe_hit words cs f mask m h =
    let s = (sim_call (holds_after cs (fresh_holds f)) (probe mask m)).says in
    shown (map_after (nothing_in (slots words)) (asked 0 words cs)) mask _ m (sym s ∙ ap forget h)

-- no name is in the map twice
pub names_once : (words : List ℕ) (cs : List Call) → Once (map_after (nothing_in (slots words)) (asked 0 words cs)).entries
names_once words cs = stays_once (nothing_in (slots words)) tt (asked 0 words cs)

-- no call of a run is refused with 10
pub never_ten : (words : List ℕ) (cs : List Call) → Fresh words → NoTen (run 0 words cs)
never_ten words cs f = rw (answers_as_map words cs f) (plainly_ten (asked 0 words cs) (nothing_in (slots words)))

-- the slot that get_or_slot answers is right for insert_at
pub slot_right : (count : ℕ) (words : List ℕ) (m : Name) {s : ℕ} → calls.get count words m ≡ calls.missing s → ends (seek words m) s ≡ true
unfolding calls.get gotten
slot_right count words m {s} e = empties (seek words m) (not_refused (first_of (unfit count (shaped words)) (zero_key m)) e)
  where
    not_refused : (v : Verdict) {a : Answer} → unless v a ≡ calls.missing s → a ≡ calls.missing s
    not_refused fine e = e
    not_refused (refused k p) {a} e = absurd (let z : ◌≡◌ {A = ℕ} 0 1 = cc in omega arith)

    empties : (w : Walk) → gotten words w ≡ calls.missing s → ends w s ≡ true
    empties (hit i) e = absurd (let z : ◌≡◌ {A = ℕ} 0 1 = cc in omega arith)
    empties (empty i) e = eq-eqb i s cc
    empties full e = absurd (let z : ◌≡◌ {A = ℕ} 0 1 = cc in omega arith)

-- ---- where a run begins

-- words that were emptied are a fresh table
emptied_fresh : (words : List ℕ) → shaped words ≡ true → Fresh (emptied words).words
emptied_fresh words s =
    let l = length-replicate {A = ℕ} (length words) 0 in
    record { shape = shaped_as (replicate (length words) 0) words l s; zero = rw l }

-- clear, reset_to_capacity and with_at_least leave a fresh table, with no entry
pub record Begins (o : Outcome) : Type 0 where
  pub fresh : Fresh o.words
  pub none : o.count ≡ 0

emptied_begins : (count : ℕ) (b : Bool) (words : List ℕ) → (b ≡ true → shaped words ≡ true) → (guarded (unfit count b) words count (emptied words)).answer ≡ calls.done
    → Begins (guarded (unfit count b) words count (emptied words))
unfolding unfit
emptied_begins count b words s e =
    by_test (ltb most_slots count) (λ d. refuses≢done (rw d at e))
    (λ d. by_test b (λ i. rw (d, i) (record { fresh = emptied_fresh words (s i); none = refl })) (λ i. refuses≢done (rw (d, i) at e)))

pub clear_begins : (count : ℕ) (words : List ℕ) → (calls.clear count words).answer ≡ calls.done → Begins (calls.clear count words)
unfolding calls.clear
clear_begins count words e = emptied_begins count (shaped words) words (λ s. s) e

pub reset_begins : (count : ℕ) (words : List ℕ) (n : ℕ) → (calls.reset count words n).answer ≡ calls.done → Begins (calls.reset count words n)
unfolding calls.reset
reset_begins count words n e = emptied_begins count (shaped words && eqb (slots words) n) words (λ s. (both (shaped words) (eqb (slots words) n) s).0) e

pub made_begins : (words : List ℕ) (n asks : ℕ) → (calls.with_at_least words n asks).answer ≡ calls.done → Begins (calls.with_at_least words n asks)
unfolding calls.with_at_least over_asked
made_begins words n asks e =
    by_test (ltb most_asked n) (λ d. refuses≢done (rw d at e))
    (λ d. by_test (ltb most_asked asks) (λ i. refuses≢done (rw (d, i) at e))
    (λ i. rw (d, i) (reset_begins 0 words (required n asks) (rw (d, i) at e))))
