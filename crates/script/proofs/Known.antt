-- What is known of the bytes that a sink holds.
use Rattle.std.proofs.Common.{◌≡◌, ℕ, ◌+◌, ◌-◌, ◌<◌, ◌≤◌, List, ◌++◌, length, take, drop, take-add}
use Rattle.std.proofs.Common.{length-drop, arith, sym, subst}
use Rattle.std.proofs.lemmas.List.{take-append-drop, take_all, length-append, length-take-le}
use Rattle.std.specs.Prelude.{Option}
use Rattle.std.specs.Io.KnownBytes.{Appends, Keeps, Consumes}
use Rattle.std.proofs.KnownBytes.{Appends-trans, Appends-kept, Consumes-trans}
use Rattle.script.specs.Written.{AppendsFront}

-- `&bytes[at..]` is what is behind `at`
rest_of : (bytes : List ℕ) (at : ℕ) → take (length bytes - at) (drop at bytes) ≡ drop at bytes
rest_of bytes at =
    take_all (length bytes - at) (drop at bytes) (omega (arith, length-drop at bytes))

pub grown : (a b c : Option (List ℕ)) (bytes : List ℕ) (at n : ℕ) → Appends a b (take at bytes)
    → Appends b c (take n (take (length bytes - at) (drop at bytes)))
    → Appends a c (take (at + n) bytes)
grown a b c bytes at n before now =
    let now' : Appends b c (take n (drop at bytes)) =
    subst (λ (xs : List ℕ). Appends b c (take n xs)) (rest_of bytes at) now in
    subst (Appends a c) (sym (take-add at n bytes))
    (Appends-trans a b c (take at bytes) (take n (drop at bytes)) before now')

pub kept_front : (a b c : Option (List ℕ)) (bytes : List ℕ) (at : ℕ) → Appends a b (take at bytes)
    → Keeps b c → AppendsFront a c bytes
kept_front a b c bytes at before same = (
  take at bytes,
  drop at bytes,
  sym (take-append-drop at bytes),
  Appends-kept a b c
      (take at bytes) before same,
)

pub taken_more : (a b c : Option (List ℕ)) (before piece : List ℕ) → Consumes a b before
    → Consumes b c piece → Consumes a c (before ++ piece)
taken_more a b c before piece p q = Consumes-trans a b c before piece p q

-- a piece of so many bytes behind those that were read makes more than there may be
pub long_taken : (before room : List ℕ) (count most : ℕ) → count ≤ length room
    → most < length before + count → most < length (before ++ take count room)
long_taken before room count most fits more =
    omega (arith, length-append before (take count room), length-take-le count room fits)

pub few_taken : (before room : List ℕ) (count most : ℕ) → count ≤ length room
    → length before + count ≤ most → length (before ++ take count room) ≤ most
few_taken before room count most fits few =
    omega (arith, length-append before (take count room), length-take-le count room fits)
