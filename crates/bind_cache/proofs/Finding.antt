-- A look-up along a chain finds what a look through the whole list finds.
use Rattle.std.proofs.Common.{◌≡◌, ◌≢◌, ℕ, zero, suc, ◌+◌, ◌<◌, ◌≤◌, Bool, true, false, List, []}
use Rattle.std.proofs.Common.{◌∷◌, length, map, get_or, Option, Some, None, Global, refl, sym, ap}
use Rattle.std.proofs.Common.{subst, ◌∙◌, arith}
use mathlib.Core.Logic.{◌⊎◌, inl, inr}
use Rattle.std.specs.Prelude.{slice_get, is_none, if◌then◌else◌}
use Rattle.std.specs.declared.sync.Arc.{Arc}
use Rattle.std.specs.Arc.{arc_value}
use Rattle.std.proofs.lemmas.List.{length-map}
use Rattle.name_tree.specs.Path.{Labels}
use Rattle.dtab_table.specs.Rules.{Rule}
use Rattle.dtab_table.specs.Dtab.{rules_of}
use Rattle.bind_core.specs.Delegation.{Ending}
use Rattle.bind_cache.specs.declared.binding.Binding.{Binding}
use Rattle.bind_cache.specs.Hash.{key_hash}
use Rattle.bind_cache.specs.Kept.{Kept, is_key, ending_for}
use Rattle.bind_cache.specs.Stored.{kept_of, all_kept, hash_in}
use Rattle.bind_cache.specs.Cache.{found_in, keys_differ}
use Rattle.bind_cache.specs.Chain.{IsLastBefore, bucket_of}
use Rattle.bind_cache.proofs.Same.{both_true, is_key-Decides}
use Rattle.bind_cache.proofs.Caches.{none_is, not_found, false_unless_true}

below_or_not : (k n : ℕ) → (k < n) ⊎ (n ≤ k)
below_or_not k n = grind arith

same_or_later : (at k : ℕ) → at ≤ k → (at ≡ k) ⊎ (at + 1 ≤ k)
same_or_later at k h = grind arith

abbrev pub Shared : Type 0
Shared = Arc Binding Global

-- where a list has nothing for a key, no member has it
module _ (path : Labels) (local : List Rule) where
  -- what stands at a place does not have the key, if anything does
  abbrev pub NotAt : List Kept → ℕ → Type 0
  NotAt ks k = ending_for path local (slice_get ks k) ≡ None

  pub none_at : (ks : List Kept) (k : ℕ) → found_in ks path local ≡ None → NotAt ks k
  none_at [] k h = refl
  none_at (e ∷ es) zero h = ap (λ (b : Bool). if b then Some e.ending else None)
      (not_found e es path local h).0
  none_at (e ∷ es) (suc k) h = none_at es k (not_found e es path local h).1

  -- and the other way round
  pub all_none : (ks : List Kept) → ((k : ℕ) → k < length ks → NotAt ks k)
      → found_in ks path local ≡ None
  all_none [] h = refl
  all_none (e ∷ es) h =
      let first : (if is_key path local e then Some e.ending else None) ≡ None =
      h zero (omega arith) in
      let rest = all_none es (λ k within. h (suc k) (omega arith)) in
      let P : Bool → Type 0 = λ b. (if b then Some e.ending else None) ≡ None
      → (if b then Some e.ending else found_in es path local) ≡ None in
      let each : P (is_key path local e) =
      elim (is_key path local e) as P [ true ↦ (λ x. x) | false ↦ (λ x. rest) ] in
      each first

  -- a member with the key is the one that is found, since no other has it
  pub found_at : (ks : List Kept) (k : ℕ) (ending : Ending) → keys_differ ks ≡ true
      → ending_for path local (slice_get ks k) ≡ Some ending → found_in ks path local ≡ Some ending
  found_at [] k ending apart h = absurd (cc)
  found_at (e ∷ es) zero ending apart h =
      let P : Bool → Type 0 = λ b. (if b then Some e.ending else None) ≡ Some ending
      → (if b then Some e.ending else found_in es path local) ≡ Some ending in
      let each : P (is_key path local e) =
      elim (is_key path local e) as P [ true ↦ (λ x. x) | false ↦ (λ x. absurd (cc)) ] in
      each h
  found_at (e ∷ es) (suc k) ending apart h =
      let parts = both_true (is_none (found_in es e.path e.local)) (keys_differ es) apart in
      let rest = found_at es k ending parts.1 h in
      let P : Bool → Type 0 = λ b. is_key path local e ≡ b
      → (if b then Some e.ending else found_in es path local) ≡ Some ending in
      let each : P (is_key path local e) =
      elim (is_key path local e) as P [
        | true ↦ (λ yes.
            let same = (is_key-Decides path local e).0 yes in
            let none : found_in es path local ≡ None =
            ap (λ (p : Labels). found_in es p local) same.0
            ∙ (ap (found_in es e.path) same.1 ∙ none_is (found_in es e.path e.local) parts.0) in
            absurd (cc))
        | false ↦ (λ no. rest)
      ] in
      each refl

  -- what stands at a place among shared bindings
  pub at_none : (items : List Shared) (at : ℕ) → slice_get items at ≡ None
      → None ≡ ending_for path local (slice_get (all_kept items) at)
  at_none [] at h = refl
  at_none (b ∷ bs) zero h = absurd (cc)
  at_none (b ∷ bs) (suc at) h = at_none bs at h

  pub at_some : (items : List Shared) (at : ℕ) (b : Shared) → slice_get items at ≡ Some b
      → slice_get (all_kept items) at ≡ Some (kept_of (arc_value b))
  at_some [] at b h = absurd (cc)
  at_some (x ∷ xs) zero b h = let same : x ≡ b = cc in
      ap (λ (y : Shared). Some (kept_of (arc_value y))) same
  at_some (x ∷ xs) (suc at) b h = at_some xs at b h

  -- a binding with the key has its hash
  pub hash_of_key : (b : Shared) → is_key path local (kept_of (arc_value b)) ≡ true
      → hash_in b ≡ key_hash path local
  hash_of_key b has =
      let same = (is_key-Decides path local (kept_of (arc_value b))).0 has in
      (arc_value b).filed ∙ (ap (λ (p : Labels). key_hash p (rules_of (arc_value b).local))
      (sym same.0) ∙ ap (key_hash path) (sym same.1))

  pub other_key : (items : List Shared) (at : ℕ) (b : Shared) → slice_get items at ≡ Some b
      → is_key path local (kept_of (arc_value b)) ≡ false
      → None ≡ ending_for path local (slice_get (all_kept items) at)
  other_key items at b here other = sym
      (ap (ending_for path local) (at_some items at b here)
      ∙ ap (λ (x : Bool). if x then Some (kept_of (arc_value b)).ending else None) other)

  pub other_hash : (items : List Shared) (at : ℕ) (b : Shared) (hash : ℕ)
      → slice_get items at ≡ Some b → hash ≡ key_hash path local → (hash_in b ≡ hash → ⊥)
      → None ≡ ending_for path local (slice_get (all_kept items) at)
  other_hash items at b hash here is differ =
      other_key items at b here
      (false_unless_true (is_key path local (kept_of (arc_value b)))
      (λ has. differ (hash_of_key b has ∙ sym is)))

  pub same_key : (items : List Shared) (at : ℕ) (b : Shared) → slice_get items at ≡ Some b
      → is_key path local (kept_of (arc_value b)) ≡ true
      → Some (kept_of (arc_value b)).ending ≡ ending_for path local (slice_get (all_kept items) at)
  same_key items at b here has =
      sym (ap (ending_for path local) (at_some items at b here)
      ∙ ap (λ (x : Bool). if x then Some (kept_of (arc_value b)).ending else None) has)

  -- a binding in another bucket has another key
  pub other_bucket : (items : List Shared) (k : ℕ) → k < length items
      → bucket_of (get_or (map hash_in items) k 0) ≢ bucket_of (key_hash path local)
      → NotAt (all_kept items) k
  other_bucket [] k within other = refl
  other_bucket (b ∷ bs) zero within other =
      let no : is_key path local (kept_of (arc_value b)) ≡ false =
      false_unless_true (is_key path local (kept_of (arc_value b)))
      (λ has. other (ap bucket_of (hash_of_key b has))) in
      ap (λ (x : Bool). if x then Some (kept_of (arc_value b)).ending else None) no
  other_bucket (b ∷ bs) (suc k) within other = other_bucket bs k (omega arith) other

  -- none that stands at a place or behind it has the key
  abbrev pub NoneFrom : List Kept → ℕ → Type 0
  NoneFrom ks top = (k : ℕ) → top ≤ k → k < length ks → NotAt ks k

  -- where a search stands: at none where there is none at all, else behind all others that may have
  -- it
  abbrev pub Stands : List Shared → Option ℕ → Type 0
  Stands items None = NoneFrom (all_kept items) 0
  Stands items (Some at) = (at < length items)
      × (bucket_of (get_or (map hash_in items) at 0) ≡ bucket_of (key_hash path local))
      × NoneFrom (all_kept items) (at + 1)

  pub one_step : (items : List Shared) (top : ℕ) (next : Option ℕ) → top ≤ length items
      → NoneFrom (all_kept items) top → IsLastBefore (map hash_in items)
      (key_hash path local) top next → Stands items next
  one_step items top None few none last = λ k least within.
      let size = length-map items (λ (b : Shared). kept_of (arc_value b)) in
      let there : k < length items = omega arith in
      elim (below_or_not k top) [
        | inl less ↦ other_bucket items k there (last k less)
        | inr past ↦ none k past within
      ]
  one_step items top (Some at) few none last =
      let size = length-map items (λ (b : Shared). kept_of (arc_value b)) in
      let below : at < top = last.0 in (
        omega arith,
        last.1,
        λ k past within.
            let there : k < length items = omega arith in
            elim (below_or_not k top) [
              | inl less ↦ other_bucket items k there (last.2 k (omega arith) less)
              | inr later ↦ none k later within
            ],
      )

  pub begun : (items : List Shared) (next : Option ℕ)
      → IsLastBefore (map hash_in items) (key_hash path local) (length (map hash_in items)) next
      → Stands items next
  begun items next last =
      let size = length-map items hash_in in
      let kept_size = length-map items (λ (b : Shared). kept_of (arc_value b)) in
      one_step items (length items) next (omega arith) (λ k least within. absurd (omega arith))
      (subst (λ n. IsLastBefore (map hash_in items) (key_hash path local) n next) size last)

  pub begun_at : (items : List Shared) (hashes : List ℕ) (hash : ℕ) (next : Option ℕ)
      → hashes ≡ map hash_in items → hash ≡ key_hash path local
      → IsLastBefore hashes hash (length hashes) next → Stands items next
  begun_at items hashes hash next are is last =
      begun items next (subst
      (λ (hs : List ℕ). IsLastBefore hs (key_hash path local) (length hs) next) are
      (subst (λ n. IsLastBefore hashes n (length hashes) next) is last))

  -- one that does not have the key is passed over
  pub older : (items : List Shared) (at : ℕ) (next : Option ℕ) → Stands items (Some at)
      → NotAt (all_kept items) at → IsLastBefore (map hash_in items) (key_hash path local) at next
      → Stands items next
  older items at next stands not last =
      let within = stands.0 in
      one_step items at next (omega arith) (λ k least there.
      elim (same_or_later at k least) [
        | inl same ↦ subst (λ n. NotAt (all_kept items) n) same not
        | inr later ↦ stands.2 k later there
      ]) last

  pub older_at : (items : List Shared) (hashes : List ℕ) (hash at : ℕ) (next : Option ℕ)
      → hashes ≡ map hash_in items → hash ≡ key_hash path local → Stands items (Some at)
      → NotAt (all_kept items) at → IsLastBefore hashes hash at next → Stands items next
  older_at items hashes hash at next are is stands not last =
      older items at next stands
      not (subst (λ (hs : List ℕ). IsLastBefore hs (key_hash path local) at next) are
      (subst (λ n. IsLastBefore hashes n at next) is last))

  pub nowhere : (items : List Shared) → Stands items None
      → found_in (all_kept items) path local ≡ None
  nowhere items stands = all_none (all_kept items) (λ k within. stands k (omega arith) within)

-- how much is left of a search
abbrev pub left_of : Option ℕ → ℕ
left_of None = 0
left_of (Some at) = at + 1

pub left_falls : (hashes : List ℕ) (hash at : ℕ) (next : Option ℕ)
    → IsLastBefore hashes hash at next → left_of next < at + 1
left_falls hashes hash at None last = omega arith
left_falls hashes hash at (Some older) last = let less : older < at = last.0 in omega arith
