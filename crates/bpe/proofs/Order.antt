-- Heaps: a swap, a step up, a step down, the least. Assumes nothing.
use mathlib.Core.Path.{◌≡◌, refl, sym, ◌∙◌}
use mathlib.Core.Logic.{◌⊎◌, inl, inr}
use mathlib.Core.List.{List}
use Prim.Native.Nat.{ℕ, zero, suc, ◌+◌, ◌-◌, ◌/◌, ◌^◌, ◌≤◌, ◌<◌}
use native.Mathlib.Omega.{arith}
use lib.ListN.{length, get_or, set, length-set}
use lib.Seq.{get_or-set_same, get_or-set_other}
use Rattle.std.specs.List.{SwappedAt}
use Rattle.bpe.specs.Look.{entry}
use Rattle.bpe.specs.Links.{Past}
use Rattle.bpe.specs.Heap.{Child, Ordered, Member, Up, Down, Sifted, Pushed, Taken}
use Rattle.token.proofs.Cases.{by_equal}
use Rattle.bpe.proofs.Same.{read}

-- ---- two words change places

pub record Swapped (h h' : List ℕ) (a b : ℕ) : Type 0 where
  pub first : get_or h' a 0 ≡ get_or h b 0
  pub second : get_or h' b 0 ≡ get_or h a 0
  pub rest : (i : ℕ) → (i ≡ a → ⊥) → (i ≡ b → ⊥) → get_or h' i 0 ≡ get_or h i 0

-- what the library's `swap` says
pub swapped : (h h' : List ℕ) (a b : ℕ) → SwappedAt h h' a b → Swapped h h' a b
swapped h h' a b s = record { first = s.0 0; second = s.1 0; rest = λ i na nb. s.2 i 0 na nb }

pub swapped_up : (h h' : List ℕ) (a b : ℕ) → SwappedAt h h' b a → Swapped h h' a b
swapped_up h h' a b s = record { first = s.1 0; second = s.0 0; rest = λ i na nb. s.2 i 0 nb na }

module _ {h h' : List ℕ} {a b : ℕ} (s : Swapped h h' a b) where
  swapped_back : Swapped h' h a b
  swapped_back = record { first = sym s.second; second = sym s.first; rest = λ i na nb. sym (s.rest i na nb) }

  pub member_swap : (len : ℕ) → a < len → b < len → (e : ℕ) → Member h len e → Member h' len e
  member_swap len la lb e (i, l, f) =
      by_equal i a (λ p. (b, lb, s.second ∙ sym (read h p) ∙ f))
      (λ na. by_equal i b (λ p. (a, la, s.first ∙ sym (read h p) ∙ f)) (λ nb. (i, l, s.rest i na nb ∙ f)))

  pub past_swap : (len : ℕ) → a < len → b < len → Past len h h'
  past_swap len la lb i l = s.rest i (λ e. omega arith) (λ e. omega arith)

module _ {h h' : List ℕ} {a b : ℕ} (s : Swapped h h' a b) (len : ℕ) (la : a < len) (lb : b < len) where
  -- a is above b: a step up of b's word
  pub up_step : Child b a → Up h len a → get_or h a 0 < get_or h b 0 → Up h' len b
  up_step ch u lt = record { order = order; gap = gap }
    where
      order : (i c : ℕ) → Child i c → c < len → (c ≡ b → ⊥) → get_or h' i 0 ≤ get_or h' c 0
      order i c k l nb =
          by_equal c a
          (λ e. let f : i ≡ b = omega arith in omega (arith, read h' f, read h' e, s.first, s.second))
          (λ na. by_equal i a
          (λ e. omega (arith, read h' e, s.first, s.rest c na nb, u.gap b c ch (omega arith) l))
          (λ ma. by_equal i b
          (λ e. omega (arith, read h' e, s.second, s.rest c na nb, u.order b c (omega arith) l na))
          (λ mb. omega (arith, s.rest i ma mb, s.rest c na nb, u.order i c k l na))))

      gap : (p c : ℕ) → Child p b → Child b c → c < len → get_or h' p 0 ≤ get_or h' c 0
      gap p c k m l =
          let g = s.rest p (λ e. omega arith) (λ e. omega arith) in
          let o = u.order p b k (omega arith) (λ e. omega arith) in
          by_equal c a (λ e. omega (arith, read h' e, s.first))
          (λ na. omega (arith, s.rest c na (λ e. omega arith), u.order b c m l na))

  -- b is a's least child: a step down of a's word
  pub down_step : Child a b → Down h len a → ((d : ℕ) → Child a d → d < len → get_or h b 0 ≤ get_or h d 0) → get_or h b 0 < get_or h a 0 → Down h' len b
  down_step ch u least lt = record { order = order; gap = gap }
    where
      order : (i c : ℕ) → Child i c → c < len → (i ≡ b → ⊥) → get_or h' i 0 ≤ get_or h' c 0
      order i c k l nb =
          by_equal i a
          (λ e. by_equal c b (λ f. omega (arith, read h' e, read h' f, s.first, s.second))
          (λ mb. omega (arith, read h' e, s.first, s.rest c (λ g. omega arith) mb, least c (omega arith) l)))
          (λ na. by_equal c a (λ e. omega (arith, read h' e, s.first, s.rest i na nb, u.gap i b (omega arith) ch lb))
          (λ ma. omega (arith, s.rest i na nb, s.rest c ma (λ g. na (omega arith)), u.order i c k l na)))

      gap : (p c : ℕ) → Child p b → Child b c → c < len → get_or h' p 0 ≤ get_or h' c 0
      gap p c k m l =
          let e : p ≡ a = omega arith in
          omega (arith, read h' e, s.first, s.rest c (λ g. omega arith) (λ g. omega arith), u.order b c m l (λ g. omega arith))

-- ---- the first word is the least

pub root_least : (h : List ℕ) (len : ℕ) → Ordered h len → (i : ℕ) → i < len → get_or h 0 0 ≤ get_or h i 0
root_least h len o i l = go i i (omega arith) l
  where
    go : (k i : ℕ) → i ≤ k → i < len → get_or h 0 0 ≤ get_or h i 0
    go zero i m l = let e : i ≡ 0 = omega arith in omega (arith, read h e)
    go (suc k) i m l =
        by_equal i 0 (λ e. omega (arith, read h e))
        (λ n. omega (arith, go k ((i - 1) / 2) (omega arith) (omega arith), o ((i - 1) / 2) i (omega arith) l))

-- ---- putting in and taking out

pub pushed : (h h' : List ℕ) (len e : ℕ) → len < length h → Sifted (set h len e) (len + 1) h' → Pushed h len e h' (len + 1)
pushed h h' len e l s = record {
  more = refl;
  new = s.to e (len, (omega arith), get_or-set_same h len e 0 l);
  old = λ x (i, m, f). s.to x (i, (omega arith), get_or-set_other h len i e 0 (λ g. omega arith) ∙ f);
  only = λ x k. only x (s.back x k);
  past = λ i m. s.past i m ∙ get_or-set_other h len i e 0 (λ g. omega arith);
}
  where
    only : (x : ℕ) → Member (set h len e) (len + 1) x → (x ≡ e) ⊎ Member h len x
    only x (i, m, f) =
        by_equal i len (λ g. inl (sym f ∙ read (set h len e) g ∙ get_or-set_same h len e 0 l))
        (λ n. inr (i, (omega arith), sym (get_or-set_other h len i e 0 n) ∙ f))

-- ---- a sift on its way

pub record Kept (h : List ℕ) (len : ℕ) (h' : List ℕ) : Type 0 where
  pub long : length h' ≡ length h
  pub to : (e : ℕ) → Member h len e → Member h' len e
  pub back : (e : ℕ) → Member h' len e → Member h len e
  pub past : Past len h h'

pub kept_swap : {h h' h'' : List ℕ} {len a b : ℕ} → Kept h len h' → Swapped h' h'' a b → a < len → b < len → length h'' ≡ length h' → Kept h len h''
kept_swap {h} {h'} {h''} {len} {a} {b} k s la lb l = record {
  long = l ∙ k.long;
  to = λ e m. member_swap s len la lb e (k.to e m);
  back = λ e m. k.back e (member_swap (swapped_back s) len la lb e m);
  past = λ i m. past_swap s len la lb i m ∙ k.past i m;
}

-- ---- the lesser child

pub lt_of_le_ne : (a b : ℕ) → a ≤ b → (a ≡ b → ⊥) → a < b
lt_of_le_ne a b l n = omega arith

-- ---- taking out

-- h: before; g: after the last word is put first; h': sifted down
pub taken : (h h' : List ℕ) (len k m p : ℕ) → k + 1 ≡ len → len ≤ length h → Ordered h len → entry m p ≡ get_or h 0 0 → p < 2 ^ 32
    → Sifted (set h 0 (get_or h k 0)) k h' → Taken h len h' m p k
taken h h' len k m p le ll o e sm s =
    record {
      less = le;
      small = sm;
      was = (0, (omega arith), sym e);
      least = λ x (i, l, f). omega (arith, e, f, root_least h len o i l);
      others = others;
      only = λ x q. only x (s.back x q);
      past = λ i l. s.past i (omega arith) ∙ get_or-set_other h 0 i (get_or h k 0) 0 (λ g. omega arith);
    }
  where
    others : (x : ℕ) → Member h len x → (x ≡ entry m p) ⊎ Member h' k x
    others x (i, l, f) =
        by_equal i 0 (λ g. inl (sym f ∙ read h g ∙ sym e))
        (λ n. by_equal i k
        (λ g. inr (s.to x (0, (omega arith), get_or-set_same h 0 (get_or h k 0) 0 (omega arith) ∙ sym (read h g) ∙ f)))
        (λ nk. inr (s.to x (i, lt_of_le_ne i k (omega arith) nk, get_or-set_other h 0 i (get_or h k 0) 0 n ∙ f))))

    only : (x : ℕ) → Member (set h 0 (get_or h k 0)) k x → Member h len x
    only x (i, l, f) =
        by_equal i 0
        (λ g. (k, (omega arith), sym (get_or-set_same h 0 (get_or h k 0) 0 (omega arith)) ∙ sym (read (set h 0 (get_or h k 0)) g) ∙ f))
        (λ n. (i, (omega arith), sym (get_or-set_other h 0 i (get_or h k 0) 0 n) ∙ f))
