-- What a path has behind a front.
use Rattle.std.proofs.Common.{◌≡◌, ℕ, true, false, List, length, take, drop, None, ap}
use Rattle.std.proofs.Common.{refl}
use Rattle.std.specs.Prelude.{bytes_eq}
use Rattle.api_wire.specs.Request.{one_segment, segment_behind}

pub behind_front : (front path rest : List ℕ) → bytes_eq (take (length front) path) front ≡ true
    → rest ≡ drop (length front) path → one_segment rest ≡ segment_behind front path
unfolding segment_behind
behind_front front path rest begins is = rw begins (ap one_segment is)

pub other_front : (front path : List ℕ) → bytes_eq (take (length front) path) front ≡ false
    → None ≡ segment_behind front path
unfolding segment_behind
other_front front path begins = rw begins refl
