-- Rows of the bench sheet and the limits, computed from the definitions. Assumes nothing.
use Rattle.std.proofs.Common.{◌≡◌, refl, true, false, List, [], ◌∷◌, ◌++◌, ℕ}
use lib.Count.{ones, count_trailing_zeros}
use Rattle.merging.specs.Merging.{nothing, rule}
use Rattle.token.specs.Sizes.{power_within}
use Rattle.token.specs.Refusals.{fine, refused}
use Rattle.pairs.specs.Key.{key, packed, shift, home}
use Rattle.pairs.specs.Walk.{walk}
use Rattle.pairs.specs.Table.{look, shaped, wanted, filled}
use Rattle.pairs.specs.Calls.{refusal_of, table_of, ranking_of, ranks, refuses}

slot : packed 1 2 10 ≡ 4398050705418
slot = refl

homes_of : (home (shift 64) (key 0 0) ≡ 0) × (home (shift 64) (key 0 1) ≡ 39) × (home (shift 64) (key 0 2) ≡ 15)
unfolding home shift count_trailing_zeros
homes_of = (refl, refl, refl)

sizes : (wanted 0 64 ≡ true) × (wanted 32 64 ≡ true) × (wanted 33 64 ≡ false) × (wanted 33 128 ≡ true) × (wanted 32 128 ≡ false)
unfolding wanted ones
sizes = (refl, refl, refl, refl, refl)

-- list A
rules : List ℕ
rules = 1 ∷ 2 ∷ 10 ∷ 2 ∷ 3 ∷ 9 ∷ 1 ∷ 9 ∷ 12 ∷ 10 ∷ 3 ∷ 11 ∷ 5 ∷ 5 ∷ 8 ∷ 8 ∷ 5 ∷ 7 ∷ []

taken : refusal_of rules 256 64 ≡ fine
unfolding refusal_of filled walk home shift count_trailing_zeros wanted ones rules
taken = refl

-- the premises of demand 3 can be met: A with (12, 5) → 20 behind it is accepted too
longer_taken : refusal_of (rules ++ 12 ∷ 5 ∷ 20 ∷ []) 256 64 ≡ fine
unfolding refusal_of filled walk home shift count_trailing_zeros wanted ones rules
longer_taken = refl

looks : (ranking_of (table_of rules 64) 8 5 ≡ ranks (rule 7 7)) × (ranking_of (table_of rules 64) 5 8 ≡ ranks nothing)
unfolding ranking_of look filled walk home shift count_trailing_zeros shaped power_within ones rules
looks = (refl, refl)

-- the later of two equal pairs is named, an id that is too large comes before it
repeated : refusal_of (1 ∷ 2 ∷ 10 ∷ 2 ∷ 3 ∷ 9 ∷ 1 ∷ 2 ∷ 11 ∷ []) 256 64 ≡ refused 4 2
unfolding refusal_of filled walk home shift count_trailing_zeros wanted ones
repeated = refl

large : refusal_of (1 ∷ 2 ∷ 10 ∷ 1 ∷ 2 ∷ 2097152 ∷ []) 256 64 ≡ refused 3 5
unfolding refusal_of filled walk home shift count_trailing_zeros wanted ones
large = refl

-- the two lookups that the Rust answers
asked : (ranking_of (table_of rules 64) 0 2097157 ≡ refuses 3 1) × (ranking_of (table_of rules 64) 4194303 2097151 ≡ refuses 3 0)
unfolding ranking_of filled walk home shift count_trailing_zeros shaped power_within ones rules
asked = (refl, refl)

-- rules whose homes are one: the last of these 65 stands 64 after its home, and one more would stand 65 after it (65 rules want 256 slots)
crowd : List ℕ → List ℕ
crowd rest = 0 ∷ 121 ∷ 0 ∷ 0 ∷ 354 ∷ 1 ∷ 0 ∷ 731 ∷ 2 ∷ 0 ∷ 964 ∷ 3 ∷ 0 ∷ 1108 ∷ 4 ∷ 0 ∷ 1341 ∷ 5 ∷ 0 ∷ 1718 ∷ 6 ∷ 0 ∷ 1951 ∷ 7 ∷ 0 ∷ 2328 ∷ 8 ∷ 0 ∷ 2561 ∷ 9 ∷ 0 ∷ 2705 ∷ 10 ∷ 0 ∷ 2938 ∷ 11 ∷ 0 ∷ 3315 ∷ 12 ∷ 0 ∷ 3548 ∷ 13 ∷ 0 ∷ 3692 ∷ 14 ∷ 0 ∷ 3925 ∷ 15 ∷ 0 ∷ 4302 ∷ 16 ∷ 0 ∷ 4535 ∷ 17 ∷ 0 ∷ 4912 ∷ 18 ∷ 0 ∷ 5145 ∷ 19 ∷ 0 ∷ 5289 ∷ 20 ∷ 0 ∷ 5522 ∷ 21 ∷ 0 ∷ 5899 ∷ 22 ∷ 0 ∷ 6132 ∷ 23 ∷ 0 ∷ 6276 ∷ 24 ∷ 0 ∷ 6509 ∷ 25 ∷ 0 ∷ 6742 ∷ 26 ∷ 0 ∷ 6886 ∷ 27 ∷ 0 ∷ 7119 ∷ 28 ∷ 0 ∷ 7496 ∷ 29 ∷ 0 ∷ 7729 ∷ 30 ∷ 0 ∷ 7873 ∷ 31 ∷ 0 ∷ 8106 ∷ 32 ∷ 0 ∷ 8483 ∷ 33 ∷ 0 ∷ 8716 ∷ 34 ∷ 0 ∷ 9093 ∷ 35 ∷ 0 ∷ 9326 ∷ 36 ∷ 0 ∷ 9470 ∷ 37 ∷ 0 ∷ 9703 ∷ 38 ∷ 0 ∷ 10080 ∷ 39 ∷ 0 ∷ 10313 ∷ 40 ∷ 0 ∷ 10457 ∷ 41 ∷ 0 ∷ 10690 ∷ 42 ∷ 0 ∷ 11067 ∷ 43 ∷ 0 ∷ 11300 ∷ 44 ∷ 0 ∷ 11677 ∷ 45 ∷ 0 ∷ 11910 ∷ 46 ∷ 0 ∷ 12054 ∷ 47 ∷ 0 ∷ 12287 ∷ 48 ∷ 0 ∷ 12664 ∷ 49 ∷ 0 ∷ 12897 ∷ 50 ∷ 0 ∷ 13274 ∷ 51 ∷ 0 ∷ 13507 ∷ 52 ∷ 0 ∷ 13651 ∷ 53 ∷ 0 ∷ 13884 ∷ 54 ∷ 0 ∷ 14261 ∷ 55 ∷ 0 ∷ 14494 ∷ 56 ∷ 0 ∷ 14638 ∷ 57 ∷ 0 ∷ 14871 ∷ 58 ∷ 0 ∷ 15248 ∷ 59 ∷ 0 ∷ 15481 ∷ 60 ∷ 0 ∷ 15858 ∷ 61 ∷ 0 ∷ 16091 ∷ 62 ∷ 0 ∷ 16235 ∷ 63 ∷ 0 ∷ 16468 ∷ 64 ∷ rest

crowded : (refusal_of (crowd []) 256 256 ≡ fine) × (refusal_of (crowd (0 ∷ 16845 ∷ 65 ∷ [])) 256 256 ≡ refused 5 65)
unfolding refusal_of filled walk home shift count_trailing_zeros wanted ones crowd
crowded = (refl, refl)
