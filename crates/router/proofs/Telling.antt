-- What a pass has seen that learnt what another had.
use Rattle.std.proofs.Common.{◌≡◌, ℕ, ◌≤◌, Bool, true, false, List, length, max, nat_lt, refl, ap}
use Rattle.std.proofs.Common.{◌∙◌, arith}
use Rattle.std.specs.Prelude.{◌⊎◌, if◌then◌else◌}
use Rattle.std.proofs.Common.{inl, inr, ⊎_elim}
use mathlib.Core.List.{IsPrefix}
use Rattle.snap_cell.specs.History.{longer}
use Rattle.router_log.specs.Operation.{Operation, place_of}
use Rattle.router.specs.declared.update.Update.{Update}
use Rattle.router.specs.Update.{operation_of, operations_of}
use Rattle.router.proofs.Calling.{map_length, prefix_values}
use Rattle.router.proofs.Passing.{place_grown}

either_is : {A : Type 0} (b : Bool) (x y : A)
    → ((if b then y else x) ≡ x) ⊎ ((if b then y else x) ≡ y)
either_is true x y = inr refl
either_is false x y = inl refl

if_values : (b : Bool) (us vs : List Update)
    → operations_of (if b then vs else us) ≡ (if b then operations_of vs else operations_of us)
if_values true us vs = refl
if_values false us vs = refl

-- the longer of two lists is so as plain values
pub longer_values : (us vs : List Update)
    → operations_of (longer us vs) ≡ longer (operations_of us) (operations_of vs)
longer_values us vs =
    if_values (nat_lt (length us) (length vs)) us vs
    ∙ rw (map_length operation_of us, map_length operation_of vs) refl

-- of two beginnings of one list, which is the longer of them, it has the greater place
pub place_longer : (xs ys zs : List Operation) → IsPrefix xs zs → IsPrefix ys zs → zs ≡ longer xs ys
    → max (place_of xs) (place_of ys) ≡ place_of zs
place_longer xs ys zs p q is =
    let first : place_of xs ≤ place_of zs = place_grown xs zs p in
    let second : place_of ys ≤ place_of zs = place_grown ys zs q in
    ⊎_elim
    (λ e. let one : place_of zs ≡ place_of xs = ap place_of (is ∙ e) in
    omega (arith, first, second, one))
    (λ e. let one : place_of zs ≡ place_of ys = ap place_of (is ∙ e) in
    omega (arith, first, second, one))
    (either_is (nat_lt (length xs) (length ys)) xs ys)

-- the place of a pass that learnt what a ticket tells
pub place_of_both : (place place' : ℕ) (us vs ws : List Update)
    → place ≡ place_of (operations_of us) → place' ≡ place_of (operations_of vs)
    → IsPrefix us ws → IsPrefix vs ws → ws ≡ longer us vs
    → max place place' ≡ place_of (operations_of ws)
place_of_both place place' us vs ws is is' p q seen =
    rw (is, is') (place_longer (operations_of us) (operations_of vs) (operations_of ws)
    (prefix_values us ws p) (prefix_values vs ws q)
    (ap operations_of seen ∙ longer_values us vs))
