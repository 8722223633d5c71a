-- Readers of a list, one more at a time.
use Rattle.std.proofs.Common.{◌≡◌, ◌≢◌, ℕ, ◌+◌, ◌<◌, List, length, get_or, set, Some, refl, sym, ap}
use Rattle.std.proofs.Common.{◌∙◌, subst, ⊎_elim, arith, length-set}
use Rattle.std.specs.Prelude.{slice_get}
use Rattle.std.proofs.lemmas.Bool.{cases_eq}
use Rattle.std.proofs.lemmas.List.{get_or-set_same, get_or-set_other}
use Rattle.std.proofs.lemmas.Option.{slice_get-get_or, slice_get_read, slice_get_within}
use Rattle.std.proofs.lemmas.Option.{get_or_from_slice_get}
use borrow.Author.Count.{below_more}
use mathlib.Core.List.{IsPrefix}
use Rattle.snap_cell.specs.declared.kept.Origin.{Origin}
use Rattle.snap_cell.specs.declared.reader.Reader.{Reader}
use Rattle.snap_cell.specs.Items.{InOrder}
use Rattle.snap_cell.specs.Views.{seen_of, items_of, IsThere, IsNew, EachNew}
use Rattle.snap_cell.proofs.Options.{in_some}

module _ {V O Q S : Type 0} where
  -- what a reader has seen begins a list, and its items stand in order within that
  abbrev pub HasSeen : List O → Reader V O Q S → Type 0
  HasSeen log r = IsPrefix (seen_of r) log × InOrder (items_of r) (length (seen_of r))

  pub seen_more : (log : List O) (readers : List (Reader V O Q S)) (at : ℕ) (one : Reader V O Q S)
      → at < length readers → one ≡ get_or readers at one → HasSeen log one
      → ((i : ℕ) (r : Reader V O Q S) → i < at → slice_get readers i ≡ Some r → HasSeen log r)
      → (i : ℕ) (r : Reader V O Q S) → i < at + 1 → slice_get readers i ≡ Some r → HasSeen log r
  seen_more log readers at one within is here before i r less found =
      let there : slice_get readers at ≡ Some one =
      slice_get_read readers (length readers) at one refl within is in
      below_more (λ (k : ℕ). (q : Reader V O Q S) → slice_get readers k ≡ Some q → HasSeen log q)
      at (λ k low q e. before k q low e) (λ q e. in_some (HasSeen log) one here q (sym there ∙ e))
      i less r found

  module _ (readers : List (Reader V O Q S)) (at : ℕ) (new : Reader V O Q S)
      (within : at < length readers) where
    -- the reader at a place becomes another, and those at other places stay
    own_place : (r : Reader V O Q S) (i : ℕ) → i ≡ at → slice_get (set readers at new) i ≡ Some r
        → new ≡ r
    own_place r i same found =
        sym (get_or-set_same readers at new r within)
        ∙ (ap (λ (k : ℕ). get_or (set readers at new) k r) (sym same)
        ∙ get_or_from_slice_get (set readers at new) i r r found)

    other_place : (r : Reader V O Q S) (i : ℕ) → i ≢ at → slice_get (set readers at new) i ≡ Some r
        → slice_get readers i ≡ Some r
    other_place r i other found =
        let far = slice_get_within (set readers at new) i r found in
        let long : i < length readers = omega (arith, far, length-set readers at new) in
        slice_get-get_or readers i r long ∙ ap Some
        (sym (get_or-set_other readers at i new r other)
        ∙ get_or_from_slice_get (set readers at new) i r r found)

    pub new_kept : (origin : Origin V O) (one : Reader V O Q S) → one ≡ get_or readers at one
        → (IsNew origin at one → IsNew origin at new) → EachNew origin readers
        → EachNew origin (set readers at new)
    new_kept origin one is keeps all i r found =
        ⊎_elim
        (λ (same : i ≡ at).
        let fresh : IsNew origin at new = keeps
        (all at one (slice_get_read readers (length readers) at one refl within is)) in
        subst (λ (q : Reader V O Q S). IsNew origin i q) (own_place r i same found)
        (subst (λ (k : ℕ). IsNew origin k new) (sym same) fresh))
        (λ (other : i ≢ at). all i r (other_place r i other found))
        (cases_eq i at)

    pub there_more : IsThere new
        → ((i : ℕ) (r : Reader V O Q S) → i < at → slice_get readers i ≡ Some r → IsThere r)
        → (i : ℕ) (r : Reader V O Q S) → i < at + 1 → slice_get (set readers at new) i ≡ Some r
        → IsThere r
    there_more there before i r less found =
        ⊎_elim (λ (same : i ≡ at). subst (λ (q : Reader V O Q S). IsThere q)
        (own_place r i same found) there)
        (λ (other : i ≢ at). before i r (omega (arith, less, other)) (other_place r i other found))
        (cases_eq i at)
