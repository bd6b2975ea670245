-- A byte that has no id gets the filler. Assumes nothing.
use Rattle.std.proofs.Common.{◌≡◌, ℕ, ◌<◌, List, length, get_or, sym, ap, ◌∙◌, ext_get_or, arith}
use Rattle.std.proofs.lemmas.List.{length-map, get_or-map}
use Rattle.remap.specs.Map.{nothing, or_filler, map_of}
use Rattle.remap.specs.Steps.{read, read_all}

-- what filling each place leaves
pub filled_by : (m n : List ℕ) → length m ≡ length n → ((k : ℕ) → k < length n → get_or n k 0 ≡ or_filler (read (get_or m k 0)))
    → n ≡ map_of (read_all m)
filled_by m n long h =
    ext_get_or 0 n (map_of (read_all m)) (sym (length-map (read_all m) or_filler ∙ length-map m read ∙ long))
    (λ k l.
    let s : k < length m = omega (arith, long) in
    let t : k < length (read_all m) = rw (length-map m read) s in
    h k l ∙ sym (get_or-map or_filler (read_all m) k nothing 0 t ∙ ap or_filler (get_or-map read m k 0 nothing s)))
