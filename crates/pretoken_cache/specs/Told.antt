-- The code's answers as those of the paper, with its numbers, and what a changing call promises. Assumes nothing.
use Rattle.std.specs.Prelude.{◌≡◌, ◌<◌, Bool, true, false, cond, List, ℕ, eqb, Option, Some, None, Result, Ok, Err}
use Rattle.token.specs.declared.Refusal.{Refusal}
pub use Rattle.token.specs.Refusals.{told as barred}
use Rattle.token.specs.Refusals.{number, place, Verdict, fine, verdict}
use Rattle.pretoken_cache.specs.declared.slot.Slot as code
use Rattle.pretoken_cache.specs.Slot.{keyless, Slot, free, held}
use Rattle.pretoken_cache.specs.Calls.{Answer, found, missing, done, sized, views, probed, refuses, Outcome}
use Rattle.pretoken_cache.specs.declared.Value.{Value}
use Rattle.pretoken_cache.specs.declared.ShortPretokenCache.{ShortPretokenCache}
use Rattle.pretoken_cache.specs.declared.ProbeView.{ProbeView}
use Rattle.pretoken_cache.specs.declared.Got.{Got}
use Rattle.pretoken_cache.specs.declared.Got.TheVariants as got
use Rattle.token.specs.declared.Stop.{Stop}
use Rattle.token.specs.declared.Stop.TheVariants as stop

-- ---- what the public calls answer

abbrev pub told : Result Got Refusal → Answer
told (Ok (got.Found v)) = found v
told (Ok (got.Missing s)) = missing s
told (Err f) = refuses (number f) (place f)

abbrev pub tells_size : Result ℕ Refusal → Answer
tells_size (Ok n) = sized n
tells_size (Err f) = refuses (number f) (place f)

abbrev pub tells_view : Result ProbeView Refusal → Answer
tells_view (Ok w) = views w.pair_mask
tells_view (Err f) = refuses (number f) (place f)

-- a miss shows nothing
abbrev pub tells_probe : Result (Option Value) Refusal → Answer
tells_probe (Ok None) = probed 0 0 false
tells_probe (Ok (Some v)) = probed v.val v.ext true
tells_probe (Err f) = refuses (number f) (place f)

abbrev pub tells_change : Result ShortPretokenCache Refusal → Answer
tells_change (Ok cache) = done
tells_change (Err f) = refuses (number f) (place f)

-- the count that a caller holds afterwards: the one that came back, or its own, n, where the call was refused
abbrev pub count_after : ℕ → Result ShortPretokenCache Refusal → ℕ
count_after n (Ok cache) = cache.len
count_after n (Err f) = n

-- what a changing call promises that was given the count n: this outcome's answer, count and words
pub record Does (o : Outcome) (n : ℕ) (r : Result ShortPretokenCache Refusal) (words : List ℕ) : Type 0 where
  pub answer : tells_change r ≡ o.answer
  pub counted : count_after n r ≡ o.count
  pub left : words ≡ o.words

-- ---- what the inner functions answer

-- where it stopped is one of n slots
abbrev pub Inside : Stop → ℕ → Type 0
Inside (stop.Hit s) n = s < n
Inside (stop.Empty s) n = s < n
Inside stop.Full n = Unit {0}

-- a slot as it was read
abbrev pub held_in : code.Slot → Slot
held_in x = cond (keyless x.name) free (held x.name x.value)

-- whether a slot is the proposed one, where one is proposed
abbrev pub right : Option ℕ → ℕ → Bool
right None e = true
right (Some s) e = eqb e s
