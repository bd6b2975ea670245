-- Small vocabularies, computed from the definitions. Assumes nothing.
use Rattle.std.proofs.Common.{◌≡◌, refl, true, false, [], ◌∷◌, length}
use Rattle.token.specs.Refusals.{refused}
use Rattle.remap.specs.Utf8.{unused, utf8}
use Rattle.remap.specs.Vocabulary.{vocabulary, misshapen}
use Rattle.remap.specs.Map.{nothing, found, id_from, ids_of}
use Rattle.remap.specs.Calls.{verdict_of}

thirteen : length unused ≡ 13
thirteen = refl

-- A, nothing, BC: equal ends make an empty entry
three_entries : vocabulary (65 ∷ 66 ∷ 67 ∷ []) (1 ∷ 1 ∷ 3 ∷ []) ≡ (65 ∷ []) ∷ [] ∷ (66 ∷ 67 ∷ []) ∷ []
three_entries = refl

equal_ends : misshapen 3 (1 ∷ 1 ∷ 3 ∷ []) ≡ false
unfolding misshapen
equal_ends = refl

-- an end falls, though the last one is right
falling_end : misshapen 3 (2 ∷ 1 ∷ 3 ∷ []) ≡ true
unfolding misshapen
falling_end = refl

last_too_low : misshapen 3 (1 ∷ 2 ∷ []) ≡ true
unfolding misshapen
last_too_low = refl

last_too_high : misshapen 3 (1 ∷ 4 ∷ []) ≡ true
unfolding misshapen
last_too_high = refl

no_ends : (misshapen 0 [] ≡ false) × (misshapen 1 [] ≡ true)
unfolding misshapen
no_ends = (refl, refl)

-- B, A, A: the first A counts
first_counts : id_from 0 ((66 ∷ []) ∷ (65 ∷ []) ∷ (65 ∷ []) ∷ []) 65 ≡ found 1
first_counts = refl

-- AA is no entry of A
two_bytes : id_from 0 ((65 ∷ 65 ∷ []) ∷ []) 65 ≡ nothing
two_bytes = refl

-- no entries at all: byte 0 is the lowest that is missing
empty_vocabulary : verdict_of [] [] ≡ refused 6 0
unfolding verdict_of misshapen ids_of utf8
empty_vocabulary = refl
