-- No second outcome: what a promise says determines the answer. Assumes nothing.
use Rattle.std.proofs.Common.{◌≡◌, ℕ, Bool, List, Result, Ok, Err, refl, ap}
use Rattle.token.specs.declared.Refusal.{Refusal}
use Rattle.token.proofs.Only.{only, only_refusal}
use Rattle.remap.specs.Utf8.{utf8}
use Rattle.remap.specs.Calls.{told, Remaps}
use Rattle.remap.specs.declared.Remapped.{Remapped}

pub only_is_valid_utf8_byte : (b : ℕ) (s t : Bool) → s ≡ utf8 b → t ≡ utf8 b → s ≡ t
only_is_valid_utf8_byte b s t p q = only p q

-- two verdicts that say the same are the same
only_verdict : (v w : Result (Unit {0}) Refusal) → told v ≡ told w → v ≡ w
only_verdict (Ok x) (Ok y) e = refl
only_verdict (Ok x) (Err g) e = cc
only_verdict (Err f) (Ok y) e = cc
only_verdict (Err f) (Err g) e = ap Err (only_refusal f g e)

answer : List ℕ → Bool → Result (Unit {0}) Refusal → Remapped
answer m d v = record { map = record { mapping = m }; differs = d; verdict = v }

pub only_ByteRemapping_from_byte_vocab : (bytes ends : List ℕ) (s t : Remapped) → Remaps bytes ends s → Remaps bytes ends t → s ≡ t
unfolding answer
only_ByteRemapping_from_byte_vocab bytes ends s t p q =
    let v : s.verdict ≡ t.verdict = only_verdict s.verdict t.verdict (only p.says q.says) in
    let m : s.map.mapping ≡ t.map.mapping = only p.maps q.maps in
    let d : s.differs ≡ t.differs = only p.flags q.flags in
    let e : answer s.map.mapping s.differs s.verdict ≡ answer t.map.mapping t.differs t.verdict = rw (v, m, d) in
    e
