-- A union whose branches are evaluated one by one comes to what they come to together.
use Rattle.std.proofs.Common.{◌≡◌, ℕ, ◌≤◌, true, false, List, [], ◌∷◌, ◌++◌, length, refl, sym, ap}
use Rattle.std.proofs.Common.{◌∙◌, arith, append_assoc, length-append}
use Rattle.std.specs.Prelude.{◌||◌, if◌then◌else◌}
use Rattle.std.proofs.Math.Bool.{or-false, or-true}
use Rattle.std.proofs.lemmas.List.{append-nil}
use Rattle.bind_core.specs.Delegation.{Ending, negative, failing, no_replica, too_deep, too_wide}
use Rattle.bind_core.specs.Delegation.{bound, Visit, Told, Evaluated, is_too_deep, is_failing}
use Rattle.bind_core.specs.Delegation.{is_empty, some_end, found_in, kept, joint_visits, together}
use Rattle.bind_core.specs.Kept.{Kept, kept_with, kept_ending, nothing_kept}
use Rattle.bind_core.specs.Stack.{ends_all, behind, unless_ended, union_told}
use Rattle.bind_core.proofs.Narrow.{AreNarrow}

-- the ending of a union that kept so much of the branches before these
abbrev joint_from : Kept → List Evaluated → Ending
joint_from k bs = if some_end is_too_deep bs then too_deep else kept (k.found ++ found_in bs)
    (k.fails || some_end is_failing bs) (k.lacks || some_end is_empty bs)

joint_from-none : (k : Kept) → joint_from k [] ≡ kept_ending k
joint_from-none k = rw (append-nil k.found, or-false k.fails, or-false k.lacks) refl

regroup : (e : Ending) (m c j : List Visit) → let x : Told = (e, (m ++ c) ++ j) in
    let y : Told = (e, m ++ (c ++ j)) in x ≡ y
regroup e m c j = ap (λ (n : List Visit). (e, n)) (append_assoc m c j)

-- a branch more
one_more : (k : Kept) (n : ℕ) (m c : List Visit) (e : Ending) (bs : List Evaluated)
    → (e ≡ too_wide → ⊥)
    → unless_ended (e, m ++ c) (joint_from (kept_with k n e) bs, (m ++ c) ++ joint_visits bs)
    ≡ (
      joint_from k (record { weight = n; told = (e, c) } ∷ bs),
      m ++ joint_visits (record { weight = n; told = (e, c) } ∷ bs),
    )
one_more k n m c negative bs narrow = regroup (joint_from k bs) m c (joint_visits bs)
one_more k n m c failing bs narrow =
    rw (or-true k.fails) (regroup (joint_from (kept_with k n failing) bs) m c (joint_visits bs))
one_more k n m c no_replica bs narrow =
    rw (or-true k.lacks) (regroup (joint_from (kept_with k n no_replica) bs) m c (joint_visits bs))
one_more k n m c too_deep bs narrow =
    ap (λ (n : List Visit). (too_deep, m ++ n)) (sym (append-nil c))
one_more k n m c too_wide bs narrow = absurd (narrow refl)
one_more k n m c (bound f) bs narrow =
    let same : (k.found ++ (n, f) ∷ []) ++ found_in bs ≡ k.found ++ ((n, f) ∷ found_in bs) =
    append_assoc k.found ((n, f) ∷ []) (found_in bs) in
    rw same (regroup (joint_from k (record { weight = n; told = (bound f, c) } ∷ bs)) m c
    (joint_visits bs))

union_told-is : (k : Kept) (n : ℕ) (e : Ending) (m : List Visit) (bs : List Evaluated)
    → AreNarrow bs
    → union_told k n (e, m) bs ≡ unless_ended (e, m)
    (joint_from (kept_with k n e) bs, m ++ joint_visits bs)
union_told-is k n e m [] narrow =
    let same : (kept_ending (kept_with k n e), m) ≡ (joint_from (kept_with k n e) [], m ++ []) =
    rw (joint_from-none (kept_with k n e))
    (ap (λ (c : List Visit). (kept_ending (kept_with k n e), c)) (sym (append-nil m))) in
    ap (unless_ended (e, m)) same
union_told-is k n e m (b ∷ bs) narrow =
    ap (unless_ended (e, m))
    (union_told-is (kept_with k n e) b.weight b.told.0 (m ++ b.told.1) bs narrow.1
    ∙ one_more (kept_with k n e) b.weight m b.told.1 b.told.0 bs narrow.0)

-- a union of which nothing is evaluated yet
pub union_told-together : (n : ℕ) (visits : List Visit) (bs : List Evaluated) → AreNarrow bs
    → union_told nothing_kept n (negative, visits) bs ≡ behind visits (together bs)
union_told-together n visits bs narrow = union_told-is nothing_kept n negative visits bs narrow

-- lookups only become more
unless_ended-more : (first told : Told) → length first.1 ≤ length told.1
    → length first.1 ≤ length (unless_ended first told).1
unless_ended-more first told more =
    elim (ends_all first.0) as (λ b. length first.1 ≤ length (if b then first else told).1)
    [ true ↦ omega arith | false ↦ more ]

pub union_told-more : (k : Kept) (n : ℕ) (told : Told) (bs : List Evaluated)
    → length told.1 ≤ length (union_told k n told bs).1
union_told-more k n told [] = unless_ended-more told (kept_ending (kept_with k n told.0), told.1)
    (omega arith)
union_told-more k n told (b ∷ bs) =
    let next = behind told.1 b.told in
    unless_ended-more told (union_told (kept_with k n told.0) b.weight next bs)
    (omega (
      arith,
      union_told-more (kept_with k n told.0) b.weight next bs,
      length-append told.1 b.told.1,
    ))

-- what ends all passes
pub union_told-ended : (k : Kept) (n : ℕ) (told : Told) (bs : List Evaluated)
    → ends_all told.0 ≡ true → union_told k n told bs ≡ told
union_told-ended k n told [] ends = rw ends refl
union_told-ended k n told (b ∷ bs) ends = rw ends refl
