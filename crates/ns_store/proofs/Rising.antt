-- The versions that changes are given rise.
use Rattle.std.proofs.Common.{◌≡◌, ℕ, zero, suc, ◌+◌, ◌<◌, ◌≤◌, List, [], ◌∷◌, ◌++◌, length, get_or}
use Rattle.std.proofs.Common.{Option, Some, None, refl, arith}
use Rattle.std.specs.List.Sorted.{IsStrictlyIncreasing}
use Rattle.ns_store.specs.Contents.{Contents, no_contents}
use Rattle.ns_store.specs.declared.fault.StoreFault.{StoreFault}
use Rattle.ns_store.specs.Versions.{Change, create, put, delete, refusal, if_taken, changed, after}
use Rattle.ns_store.specs.Versions.{versions_in, versions_from, VersionsRise}

-- numbers from a bound on, each above those before it
abbrev RiseFrom : ℕ → List ℕ → Type 0
RiseFrom low [] = Unit {0}
RiseFrom low (v ∷ vs) = (low ≤ v) × RiseFrom (v + 1) vs

lower : (low high : ℕ) (vs : List ℕ) → low ≤ high → RiseFrom high vs → RiseFrom low vs
lower low high [] le h = tt
lower low high (v ∷ vs) le h = (omega (arith, h.0), h.1)

-- of one change that is taken: what it is given is the next version, which goes up
one_change : (store : Contents) (change : Change) (later : List ℕ)
    → RiseFrom (changed store change).next later
    → RiseFrom store.next (versions_in store change ++ later)
one_change store (create name rules) later h = (omega arith, h)
one_change store (put name expected rules) later h = (omega arith, h)
one_change store (delete name expected) later h = h

refused_or_taken : (store : Contents) (change : Change) (answer : Option StoreFault)
    (later : List ℕ) → RiseFrom (if_taken answer (changed store change) store).next later
    → RiseFrom store.next (if_taken answer (versions_in store change) [] ++ later)
refused_or_taken store change None later h = one_change store change later h
refused_or_taken store change (Some fault) later h = h

all_rise : (store : Contents) (changes : List Change)
    → RiseFrom store.next (versions_from store changes)
all_rise store [] = tt
all_rise store (c ∷ cs) = refused_or_taken store c (refusal store c)
    (versions_from (after store c) cs) (all_rise (after store c) cs)

by_places : (low : ℕ) (vs : List ℕ) → RiseFrom low vs → IsStrictlyIncreasing vs
by_places low [] h k lt = absurd (omega arith)
by_places low (v ∷ []) h k lt = absurd (omega arith)
by_places low (v ∷ w ∷ vs) h zero lt = omega (arith, h.1.0)
by_places low (v ∷ w ∷ vs) h (suc k) lt =
    let e : suc k + 1 ≡ suc (k + 1) = omega arith in
    rw e (by_places (v + 1) (w ∷ vs) h.1 k (omega arith))

pub rising : VersionsRise
rising changes = by_places 1 _ (all_rise no_contents changes)
