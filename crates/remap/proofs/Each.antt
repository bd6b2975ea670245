-- The ids of all bytes, by their place. Assumes nothing.
use Rattle.std.proofs.Common.{◌≡◌, refl, sym, ap, ◌∙◌, List, [], ◌∷◌, ℕ, zero, suc, ◌+◌, ◌<◌, add-zero, zero-add, add-suc, suc-add, arith, length, get_or}
use lib.ListN.{length-map, get_or-map}
use Rattle.remap.specs.Map.{all_bytes, nothing, id_from, each, ids_of, or_filler, map_of}

-- one on, from b and from suc b
pub shifted : (b k : ℕ) → suc b + k ≡ b + suc k
shifted b k = suc-add b k ∙ sym (add-suc b k)

each_length : {A : Type 0} (f : ℕ → A) (b n : ℕ) → length (each f b n) ≡ n
each_length f b zero = refl
each_length f b (suc n) = ap suc (each_length f (suc b) n)

each_at : {A : Type 0} (f : ℕ → A) (b n k : ℕ) (d : A) → k < n → get_or (each f b n) k d ≡ f (b + k)
each_at f b zero k d l = absurd (omega arith)
each_at f b (suc n) zero d l = ap f (sym (add-zero b))
each_at f b (suc n) (suc k) d l = each_at f (suc b) n k d (omega arith) ∙ ap f (shifted b k)

-- a list that has f at each place
pub each_is : {A : Type 0} (f : ℕ → A) (d : A) (l : List A) (b : ℕ) → ((k : ℕ) → k < length l → get_or l k d ≡ f (b + k)) → l ≡ each f b (length l)
each_is f d [] b h = refl
each_is f d (x ∷ l) b h =
    let first : x ≡ f b = h 0 (omega arith) ∙ ap f (add-zero b) in
    let rest : l ≡ each f (suc b) (length l) = each_is f d l (suc b) (λ k s. h (suc k) (omega arith) ∙ ap f (sym (shifted b k))) in
    cc

module _ (vocab : List (List ℕ)) where
  pub ids_length : length (ids_of vocab) ≡ all_bytes
  unfolding ids_of
  ids_length = each_length (id_from 0 vocab) 0 all_bytes

  pub map_length : length (map_of (ids_of vocab)) ≡ all_bytes
  map_length = length-map (ids_of vocab) or_filler ∙ ids_length

  module _ (b : ℕ) (l : b < all_bytes) where
    pub id_at : get_or (ids_of vocab) b nothing ≡ id_from 0 vocab b
    unfolding ids_of
    id_at = each_at (id_from 0 vocab) 0 all_bytes b nothing l ∙ ap (id_from 0 vocab) (zero-add b)

    pub map_at : get_or (map_of (ids_of vocab)) b 0 ≡ or_filler (id_from 0 vocab b)
    map_at = get_or-map or_filler (ids_of vocab) b nothing ∙ ap or_filler id_at
