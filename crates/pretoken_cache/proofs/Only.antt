-- No second outcome: what a call promises determines its answer, the count that comes back, and the words. Assumes nothing.
use mathlib.Core.Path.{◌≡◌, refl, ap, ap₂}
use mathlib.Core.List.{List}
use Prim.Native.Nat.{ℕ}
use Rattle.std.specs.Prelude.{Option, None, Some, Result, Ok, Err}
use Rattle.token.specs.declared.Refusal.{Refusal}
use Rattle.token.specs.Refusals.{number, place}
use Rattle.token.proofs.Only.{only, only_refusal}
use Rattle.pretoken_cache.specs.declared.Name.{Name}
use Rattle.pretoken_cache.specs.declared.Value.{Value}
use Rattle.pretoken_cache.specs.declared.ShortPretokenCache.{ShortPretokenCache}
use Rattle.pretoken_cache.specs.declared.ProbeView.{ProbeView}
use Rattle.pretoken_cache.specs.declared.Got.{Got}
use Rattle.pretoken_cache.specs.declared.Got.TheVariants as got
use Rattle.pretoken_cache.specs.Calls as calls
use Rattle.pretoken_cache.specs.Calls.{refuses, Outcome}
use Rattle.pretoken_cache.specs.Told.{told, tells_size, tells_view, tells_probe, tells_change, count_after, Does}

-- ---- an answer of the paper is one answer of the code

one_refusal : (f g : Refusal) → refuses (number f) (place f) ≡ refuses (number g) (place g) → f ≡ g
one_refusal f g e =
    let n : number f ≡ number g = cc in
    let p : place f ≡ place g = cc in
    only_refusal f g (rw (n, p))

one_cache : (c d : ShortPretokenCache) → c.len ≡ d.len → c ≡ d
one_cache c d e = ap {B = ShortPretokenCache} (λ (x : ℕ). record { len = x }) e

one_view : (v w : ProbeView) → v.pair_mask ≡ w.pair_mask → v ≡ w
one_view v w e = ap {B = ProbeView} (λ (x : ℕ). record { pair_mask = x }) e

one_got : (r s : Result Got Refusal) → told r ≡ told s → r ≡ s
one_got (Ok (got.Found v)) (Ok (got.Found w)) e = cc
one_got (Ok (got.Found v)) (Ok (got.Missing w)) e = cc
one_got (Ok (got.Found v)) (Err w) e = cc
one_got (Ok (got.Missing v)) (Ok (got.Found w)) e = cc
one_got (Ok (got.Missing v)) (Ok (got.Missing w)) e = cc
one_got (Ok (got.Missing v)) (Err w) e = cc
one_got (Err v) (Ok (got.Found w)) e = cc
one_got (Err v) (Ok (got.Missing w)) e = cc
one_got (Err v) (Err w) e = ap Err (one_refusal v w e)

one_size : (r s : Result ℕ Refusal) → tells_size r ≡ tells_size s → r ≡ s
one_size (Ok v) (Ok w) e = cc
one_size (Ok v) (Err w) e = cc
one_size (Err v) (Ok w) e = cc
one_size (Err v) (Err w) e = ap Err (one_refusal v w e)

one_viewed : (r s : Result ProbeView Refusal) → tells_view r ≡ tells_view s → r ≡ s
one_viewed (Ok v) (Ok w) e = ap Ok (one_view v w cc)
one_viewed (Ok v) (Err w) e = cc
one_viewed (Err v) (Ok w) e = cc
one_viewed (Err v) (Err w) e = ap Err (one_refusal v w e)

one_value : (v w : Value) → v.val ≡ w.val → v.ext ≡ w.ext → v ≡ w
one_value v w p q = ap₂ {C = Value} (λ (x y : ℕ). record { val = x; ext = y }) p q

one_probed : (r s : Result (Option Value) Refusal) → tells_probe r ≡ tells_probe s → r ≡ s
one_probed (Ok None) (Ok None) e = refl
one_probed (Ok None) (Ok (Some w)) e = cc
one_probed (Ok None) (Err w) e = cc
one_probed (Ok (Some v)) (Ok None) e = cc
one_probed (Ok (Some v)) (Ok (Some w)) e = let p : v.val ≡ w.val = cc in
    let q : v.ext ≡ w.ext = cc in
    let i = one_value v w p q in ap (λ (x : Value). Ok (Some x)) i
one_probed (Ok (Some v)) (Err w) e = cc
one_probed (Err v) (Ok None) e = cc
one_probed (Err v) (Ok (Some w)) e = cc
one_probed (Err v) (Err w) e = ap Err (one_refusal v w e)

one_changed : (n : ℕ) (r s : Result ShortPretokenCache Refusal) → tells_change r ≡ tells_change s → count_after n r ≡ count_after n s → r ≡ s
one_changed n (Ok c) (Ok d) e i = ap Ok (one_cache c d i)
one_changed n (Ok c) (Err g) e i = cc
one_changed n (Err f) (Ok d) e i = cc
one_changed n (Err f) (Err g) e i = ap Err (one_refusal f g e)

-- an outcome leaves one answer, with its count, and one row of words
one_outcome : {o : Outcome} {n : ℕ} {r s : Result ShortPretokenCache Refusal} {x y : List ℕ} → Does o n r x → Does o n s y → (r ≡ s) × (x ≡ y)
one_outcome {o} {n} {r} {s} d e = (one_changed n r s (only d.answer e.answer) (only d.counted e.counted), only d.left e.left)

-- ---- the calls

pub only_ShortPretokenCache_new : (s t : ShortPretokenCache) → s.len ≡ 0 → t.len ≡ 0 → s ≡ t
only_ShortPretokenCache_new s t p q = one_cache s t (only p q)

pub only_ShortPretokenCache_len : (cache : ShortPretokenCache) (s t : ℕ) → s ≡ cache.len → t ≡ cache.len → s ≡ t
only_ShortPretokenCache_len cache s t p q = only p q

pub only_ShortPretokenCache_capacity : (words : List ℕ) (s t : Result ℕ Refusal) → tells_size s ≡ calls.capacity words → tells_size t ≡ calls.capacity words → s ≡ t
only_ShortPretokenCache_capacity words s t p q = one_size s t (only p q)

pub only_ShortPretokenCache_required_capacity : (n asked : ℕ) (s t : Result ℕ Refusal) → tells_size s ≡ calls.required n asked → tells_size t ≡ calls.required n asked → s ≡ t
only_ShortPretokenCache_required_capacity n asked s t p q = one_size s t (only p q)

pub only_ShortPretokenCache_with_at_least : (words : List ℕ) (n asked : ℕ) (s t : Result ShortPretokenCache Refusal) (x y : List ℕ)
    → Does (calls.with_at_least words n asked) 0 s x → Does (calls.with_at_least words n asked) 0 t y → (s ≡ t) × (x ≡ y)
only_ShortPretokenCache_with_at_least words n asked s t x y p q = one_outcome p q

pub only_ShortPretokenCache_clear : (cache : ShortPretokenCache) (words : List ℕ) (s t : Result ShortPretokenCache Refusal) (x y : List ℕ)
    → Does (calls.clear cache.len words) cache.len s x → Does (calls.clear cache.len words) cache.len t y → (s ≡ t) × (x ≡ y)
only_ShortPretokenCache_clear cache words s t x y p q = one_outcome p q

pub only_ShortPretokenCache_reset_to_capacity : (cache : ShortPretokenCache) (words : List ℕ) (cap : ℕ) (s t : Result ShortPretokenCache Refusal) (x y : List ℕ)
    → Does (calls.reset cache.len words cap) cache.len s x → Does (calls.reset cache.len words cap) cache.len t y → (s ≡ t) × (x ≡ y)
only_ShortPretokenCache_reset_to_capacity cache words cap s t x y p q = one_outcome p q

pub only_ShortPretokenCache_get_or_slot : (cache : ShortPretokenCache) (words : List ℕ) (m : Name) (s t : Result Got Refusal)
    → told s ≡ calls.get cache.len words m → told t ≡ calls.get cache.len words m → s ≡ t
only_ShortPretokenCache_get_or_slot cache words m s t p q = one_got s t (only p q)

pub only_ShortPretokenCache_insert : (cache : ShortPretokenCache) (words : List ℕ) (m : Name) (v : Value) (s t : Result ShortPretokenCache Refusal) (x y : List ℕ)
    → Does (calls.insert cache.len words m v) cache.len s x → Does (calls.insert cache.len words m v) cache.len t y → (s ≡ t) × (x ≡ y)
only_ShortPretokenCache_insert cache words m v s t x y p q = one_outcome p q

pub only_ShortPretokenCache_insert_at : (cache : ShortPretokenCache) (words : List ℕ) (slot : ℕ) (m : Name) (v : Value) (s t : Result ShortPretokenCache Refusal) (x y : List ℕ)
    → Does (calls.insert_at cache.len words slot m v) cache.len s x → Does (calls.insert_at cache.len words slot m v) cache.len t y → (s ≡ t) × (x ≡ y)
only_ShortPretokenCache_insert_at cache words slot m v s t x y p q = one_outcome p q

pub only_ShortPretokenCache_replace : (cache : ShortPretokenCache) (words : List ℕ) (m : Name) (v : Value) (s t : Result ShortPretokenCache Refusal) (x y : List ℕ)
    → Does (calls.replace cache.len words m v) cache.len s x → Does (calls.replace cache.len words m v) cache.len t y → (s ≡ t) × (x ≡ y)
only_ShortPretokenCache_replace cache words m v s t x y p q = one_outcome p q

-- x and y are the lent table; the old one is lent to be read only
pub only_ShortPretokenCache_grow : (cache : ShortPretokenCache) (words into : List ℕ) (s t : Result ShortPretokenCache Refusal) (x y : List ℕ)
    → Does (calls.grow cache.len words into) cache.len s x → Does (calls.grow cache.len words into) cache.len t y → (s ≡ t) × (x ≡ y)
only_ShortPretokenCache_grow cache words into s t x y p q = one_outcome p q

pub only_ShortPretokenCache_probe_view : (cache : ShortPretokenCache) (words : List ℕ) (s t : Result ProbeView Refusal)
    → tells_view s ≡ calls.view cache.len words → tells_view t ≡ calls.view cache.len words → s ≡ t
only_ShortPretokenCache_probe_view cache words s t p q = one_viewed s t (only p q)

pub only_ProbeView_probe_pair : (view : ProbeView) (words : List ℕ) (m : Name) (s t : Result (Option Value) Refusal)
    → tells_probe s ≡ calls.probe view.pair_mask words m → tells_probe t ≡ calls.probe view.pair_mask words m → s ≡ t
only_ProbeView_probe_pair view words m s t p q = one_probed s t (only p q)
