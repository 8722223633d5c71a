-- A pool over several steps.
use Rattle.std.proofs.Common.{◌≡◌, ℕ, ◌+◌, ◌<◌, ◌≤◌, Bool, true, false, cond, List, [], ◌∷◌, ◌++◌}
use Rattle.std.proofs.Common.{map}
use Rattle.std.proofs.Common.{ap, ◌∙◌, inl, inr}
use Rattle.std.proofs.Common.{length, length-append, arith}
use Rattle.std.proofs.lemmas.List.{length-map, map-append}
use Rattle.line_base.specs.Dials.{AreSomeOf, TakesOut, WasTaken}
use Rattle.net_edge.specs.Pools.{addresses, address_of}
use Rattle.net_edge.specs.declared.sockets.idle.IdleUpstream.{IdleUpstream}
use Rattle.line_base.proofs.Kept.{some_before, some_more, some_same, some_trans}

-- what was taken out of some of them was taken out of them
pub takes_from : (address : ℕ × ℕ) (first left last : List (ℕ × ℕ)) → AreSomeOf left first
    → TakesOut true address left last → TakesOut true address first last
takes_from address first left last some t =
    (t.0, t.1, some_trans (t.0 ++ address ∷ t.1) left first t.2 some, t.3)

-- one was put behind those that were left, or was not
pub puts_last : {X : Type 0} (f : X → ℕ × ℕ) (x : X) (old new : List X) (is_put : Bool)
    → new ≡ cond is_put (old ++ x ∷ []) old → AreSomeOf (map f new) (map f old ++ f x ∷ [])
puts_last f x old new true is =
    some_same (map f new) (map f old ++ f x ∷ []) (ap (map f) is ∙ map-append f old (x ∷ []))
puts_last f x old new false is =
    some_before (map f new) (map f old) (f x ∷ [])
    (some_same (map f new) (map f old) (ap (map f) is))

-- some were ended, then more, and then one was put behind the others
pub puts_behind : (address : ℕ × ℕ) (first left fewer last : List (ℕ × ℕ)) → AreSomeOf left first
    → AreSomeOf fewer left → AreSomeOf last (fewer ++ address ∷ [])
    → AreSomeOf last (first ++ address ∷ [])
puts_behind address first left fewer last p q r =
    some_trans last (fewer ++ address ∷ []) (first ++ address ∷ []) r
    (some_more fewer first (address ∷ []) (some_trans fewer left first q p))

-- one fewer is there once one was taken out
pub taken_fewer : {X : Type 0} (x : X) (old new : List X) → WasTaken x old new
    → length new < length old
taken_fewer x old new w =
    let was : length old ≡ length w.before + length (x ∷ w.behind) =
    ap length w.was ∙ length-append w.before (x ∷ w.behind) in
    let now : length new ≡ length w.before + length w.behind =
    ap length w.is_now ∙ length-append w.before w.behind in
    omega (arith, was, now)

-- some of them are no more than all
some_fewer : {X : Type 0} (xs ys : List X) → AreSomeOf xs ys → length xs ≤ length ys
some_fewer [] ys some = omega arith
some_fewer (x ∷ xs) [] some = absurd some
some_fewer (x ∷ xs) (y ∷ ys) (inl p) = let fewer = some_fewer xs ys p.1 in omega (arith, fewer)
some_fewer (x ∷ xs) (y ∷ ys) (inr p) = let fewer = some_fewer (x ∷ xs) ys p in omega (arith, fewer)

-- no more are left where some were ended
pub left_fewer : (old new : List IdleUpstream) → AreSomeOf (addresses new) (addresses old)
    → length new ≤ length old
left_fewer old new some =
    let fewer = some_fewer (addresses new) (addresses old) some in
    let a = length-map new address_of in
    let b = length-map old address_of in
    omega (arith, fewer, a, b)
