-- Runs and capacities that compute: a cache of 2 refuses its second new name, one of 4 its fourth. Assumes nothing.
use mathlib.Core.Path.{◌≡◌, refl}
use mathlib.Core.List.{[], ◌∷◌}
use Prim.Native.Nat.{ℕ}
use lib.Count.{ones, ones_in}
use lib.ListN.{replicate}
use Rattle.token.specs.Sizes.{power_within}
use Rattle.pretoken_cache.specs.declared.Name.{Name}
use Rattle.pretoken_cache.specs.declared.Value.{Value}
use Rattle.pretoken_cache.specs.Slot.{same, keyless, name_at, value_at, slot_at, row, put}
use Rattle.pretoken_cache.specs.Walk.{walk, around}
use Rattle.pretoken_cache.specs.Table.{slots, proper, shaped, home, order, sight, seek, near, blind, first_empty, weight, taken, laden}
use Rattle.pretoken_cache.specs.Capacity.{doubled, power_from, required}
use Rattle.pretoken_cache.specs.Calls as calls
use Rattle.pretoken_cache.specs.Calls.{unfit, zero_key, gotten, placed, replaced, seated, moved, carried, fits, viewed, glimpsed}
use Rattle.pretoken_cache.specs.Plain.{found, missing, done, sized, views, refuses, sees}
use Rattle.pretoken_cache.specs.Runs.{get, insert, insert_at, replace, grow, clear, capacity, view, probe, call, run}

-- names of one home
abbrev n : ℕ → Name
n k = record { high = 0; low = k; h = 3 }

abbrev v : ℕ → Value
v k = record { val = k; ext = 0 }

cache_of_2 : run 0 (replicate 10 0) (insert (n 1) (v 7) ∷ insert (n 2) (v 8) ∷ get (n 1) ∷ get (n 2) ∷ replace (n 1) (v 9) ∷ view ∷ probe 0 (n 1) ∷ probe 2 (n 1) ∷ [])
    ≡ sees done 1 ∷ sees (refuses 9) 1 ∷ sees (found (v 7)) 1 ∷ sees missing 1 ∷ sees done 1 ∷ sees (views 0) 1 ∷ sees (found (v 9)) 1 ∷ sees (refuses 2) 1 ∷ []
unfolding run call calls.get calls.insert calls.replace calls.view calls.probe unfit zero_key proper power_within shaped slots ones ones_in seek order home around walk sight same keyless name_at value_at slot_at put row laden gotten placed replaced near viewed glimpsed
cache_of_2 = refl

cache_of_4 : run 0 (replicate 20 0)
    (insert (n 1) (v 1) ∷ insert (n 2) (v 2) ∷ insert_at 3 (n 3) (v 3) ∷ insert_at 0 (n 3) (v 3) ∷ insert (n 4) (v 4) ∷ insert (n 2) (v 5) ∷ grow (replicate 20 1) ∷ grow (replicate 40 1) ∷ capacity ∷ insert (n 4) (v 4) ∷ get (n 3) ∷ clear ∷ get (n 3) ∷ [])
    ≡ sees done 1 ∷ sees done 2 ∷ sees (refuses 11) 2 ∷ sees done 3 ∷ sees (refuses 9) 3 ∷ sees (refuses 8) 3 ∷ sees (refuses 2) 3 ∷ sees done 3 ∷ sees (sized 8) 3 ∷ sees done 4 ∷ sees (found (v 3)) 4 ∷ sees done 0 ∷ sees missing 0 ∷ []
unfolding run call calls.get calls.insert calls.insert_at calls.grow calls.clear calls.capacity unfit zero_key proper power_within shaped slots ones ones_in seek first_empty order home around walk sight blind same keyless name_at value_at slot_at put row weight taken laden gotten placed seated moved carried fits
cache_of_4 = refl

capacity_49151 : required 49151 0 ≡ 65536
unfolding required power_from doubled laden
capacity_49151 = refl

capacity_49152 : required 49152 0 ≡ 131072
unfolding required power_from doubled laden
capacity_49152 = refl
