-- Chains of hashes as some come and go.
use Rattle.std.proofs.Common.{◌≡◌, ◌≢◌, ℕ, zero, suc, ◌+◌, ◌-◌, ◌<◌, ◌≤◌, Bool, true, false, List}
use Rattle.std.proofs.Common.{[], ◌∷◌, ◌++◌, length, drop, get_or, set, Some, None, refl, sym, ap}
use Rattle.std.proofs.Common.{subst, ◌∙◌, arith, length-append, get_or-set_same, get_or-set_other}
use mathlib.Core.Logic.{◌⊎◌, inl, inr}
use Rattle.std.specs.Prelude.{nat_lt, if◌then◌else◌}
use Rattle.std.proofs.lemmas.List.{map-append, length-map, get_or_append_left, get_or_push}
use Rattle.std.proofs.lemmas.List.{get_or_past}
use Rattle.std.proofs.lemmas.Bool.Decides.{nat_tests}
use Rattle.bind_cache.specs.declared.chains.Link.{Link}
use Rattle.bind_cache.specs.Chain.{IsLastBefore, bucket_of, buckets, place_from}
use Rattle.bind_cache.specs.Links.{hashes_in, befores_in, IsLast, AreLinked}

-- the place of such a number is that of the last hash in its bucket
pub placed : (first : ℕ) (hashes : List ℕ) (hash top number : ℕ)
    → IsLast first hashes (bucket_of hash) top number
    → IsLastBefore hashes hash top (place_from first number)
placed first hashes hash top number h =
    let below = h.below in
    let P : Bool → Type 0 = λ b. nat_lt number first ≡ b
    → IsLastBefore hashes hash top (if b then None else Some (number - first)) in
    let each : P (nat_lt number first) =
    elim (nat_lt number first) as P [
      | true ↦ (λ e k within. let less : number < first = grind (arith, nat_tests) in
          h.none k within (omega arith))
      | false ↦ (λ e.
          let least : first ≤ number = grind (arith, nat_tests) in
          (omega arith, h.here least, λ k past within. h.none k within (omega arith)))
    ] in
    each refl

below_or_not : (k n : ℕ) → (k < n) ⊎ (n ≤ k)
below_or_not k n = grind arith

below_or_last : (k n : ℕ) → k < n + 1 → (k < n) ⊎ (k ≡ n)
below_or_last k n h = grind arith

same_or_other : (a b : ℕ) → (a ≡ b) ⊎ (a ≢ b)
same_or_other a b = grind arith

-- one hash more behind the others
module _ (first : ℕ) (hashes : List ℕ) (hash : ℕ) where
  before : (k : ℕ) → k < length hashes → get_or (hashes ++ hash ∷ []) k 0 ≡ get_or hashes k 0
  before k within = get_or_append_left hashes (hash ∷ []) 0 k within

  IsLast-push : (bucket top number : ℕ) → top ≤ length hashes
      → IsLast first hashes bucket top number → IsLast first (hashes ++ hash ∷ []) bucket top number
  IsLast-push bucket top number few h =
      let below = h.below in
      record {
        below = below;
        here = λ least. let within : number - first < length hashes = omega arith in
            ap bucket_of (before (number - first) within) ∙ h.here least;
        none = λ k within less same. let there : k < length hashes = omega arith in
            h.none k within less (ap bucket_of (sym (before k there)) ∙ same);
      }

  IsLast-further : (bucket number : ℕ) → IsLast first hashes bucket (length hashes) number
      → bucket_of hash ≢ bucket → IsLast first (hashes ++ hash ∷ []) bucket
      (length hashes + 1) number
  IsLast-further bucket number h other =
      let below = h.below in
      let same_front = IsLast-push bucket (length hashes) number (omega arith) h in
      record {
        below = omega arith;
        here = same_front.here;
        none = λ k within less same.
            let split : (k < length hashes) ⊎ (k ≡ length hashes) =
            below_or_last k (length hashes) within in
            elim split [
              | inl there ↦ same_front.none k there less same
              | inr last ↦ other (ap bucket_of
                  (sym (ap (λ n. get_or (hashes ++ hash ∷ []) n 0) last
                  ∙ get_or_push hashes hash 0 (length hashes) refl)) ∙ same)
            ];
      }

  IsLast-itself : IsLast first (hashes ++ hash ∷ []) (bucket_of hash) (length hashes + 1)
      (first + length hashes)
  IsLast-itself =
      let there : (first + length hashes) - first ≡ length hashes = omega arith in
      record {
        below = omega arith;
        here = λ least. ap bucket_of (ap (λ n. get_or (hashes ++ hash ∷ []) n 0) there
            ∙ get_or_push hashes hash 0 (length hashes) refl);
        none = λ k within less. absurd (omega arith);
      }

-- the hashes and the numbers of links, with one more behind
hashes-push : (links : List Link) (l : Link) → hashes_in (links ++ l ∷ [])
    ≡ hashes_in links ++ l.hash ∷ []
hashes-push links l = map-append (λ (x : Link). x.hash) links (l ∷ [])

befores-push : (links : List Link) (l : Link) → befores_in (links ++ l ∷ [])
    ≡ befores_in links ++ l.before ∷ []
befores-push links l = map-append (λ (x : Link). x.before) links (l ∷ [])

module _ (first : ℕ) (newest : List ℕ) (links : List Link) (l : Link)
    (linked : AreLinked first newest links) (many : length newest ≡ buckets)
    (behind : l.before ≡ get_or newest (bucket_of l.hash) 0) where
  within_buckets : bucket_of l.hash < buckets
  within_buckets = omega arith

  as_many : length (hashes_in links) ≡ length links
  as_many = length-map links (λ (x : Link). x.hash)

  newest_pushed : (bucket : ℕ) → bucket < buckets
      → IsLast first (hashes_in links ++ l.hash ∷ []) bucket (length links + 1)
      (get_or (set newest (bucket_of l.hash) (first + length links)) bucket 0)
  newest_pushed bucket within =
      elim (same_or_other (bucket_of l.hash) bucket) [
        | inl same ↦
            let there : bucket_of l.hash < length newest = omega (arith, many, within_buckets) in
            let number : get_or (set newest (bucket_of l.hash) (first + length links)) bucket 0
            ≡ first + length links =
            ap (λ b. get_or (set newest (bucket_of l.hash) (first + length links)) b 0) (sym same)
            ∙ get_or-set_same newest (bucket_of l.hash) (first + length links) 0 there in
            let itself = IsLast-itself first (hashes_in links) l.hash in
            let counted : IsLast first (hashes_in links ++ l.hash ∷ []) (bucket_of l.hash)
            (length links + 1) (first + length links) =
            subst (λ n. IsLast first (hashes_in links ++ l.hash ∷ []) (bucket_of l.hash) (n + 1)
            (first + n)) as_many itself in
            subst (λ n. IsLast first (hashes_in links ++ l.hash ∷ []) bucket (length links + 1) n)
            (sym number) (subst (λ b. IsLast first (hashes_in links ++ l.hash ∷ []) b
            (length links + 1) (first + length links)) same counted)
        | inr other ↦
            let number : get_or (set newest (bucket_of l.hash) (first + length links)) bucket 0
            ≡ get_or newest bucket 0 = get_or-set_other newest (bucket_of l.hash) bucket
            (first + length links) 0 (λ e. other (sym e)) in
            let old : IsLast first (hashes_in links) bucket (length (hashes_in links))
            (get_or newest bucket 0) =
            subst (λ n. IsLast first (hashes_in links) bucket n (get_or newest bucket 0))
            (sym as_many) (linked.newest_is bucket within) in
            let further : IsLast first (hashes_in links ++ l.hash ∷ []) bucket (length links + 1)
            (get_or newest bucket 0) =
            subst (λ n. IsLast first (hashes_in links ++ l.hash ∷ []) bucket (n + 1)
            (get_or newest bucket 0)) as_many
            (IsLast-further first (hashes_in links) l.hash bucket
            (get_or newest bucket 0) old other) in
            subst (λ n. IsLast first (hashes_in links ++ l.hash ∷ []) bucket (length links + 1) n)
            (sym number) further
      ]

  before_pushed : (k : ℕ) → k < length links + 1
      → IsLast first (hashes_in links ++ l.hash ∷ [])
      (bucket_of (get_or (hashes_in links ++ l.hash ∷ []) k 0)) k
      (get_or (befores_in links ++ l.before ∷ []) k 0)
  before_pushed k within =
      let counted : length (befores_in links) ≡ length links =
      length-map links (λ (x : Link). x.before) in
      elim (below_or_last k (length links) within) [
        | inl there ↦
            let hash : get_or (hashes_in links ++ l.hash ∷ []) k 0 ≡ get_or (hashes_in links) k 0 =
            get_or_append_left (hashes_in links) (l.hash ∷ []) 0 k (omega (arith, as_many)) in
            let number : get_or (befores_in links ++ l.before ∷ []) k 0
            ≡ get_or (befores_in links) k 0 = get_or_append_left (befores_in links)
            (l.before ∷ []) 0 k (omega (arith, counted)) in
            let old = IsLast-push first (hashes_in links) l.hash
            (bucket_of (get_or (hashes_in links) k 0)) k (get_or (befores_in links) k 0)
            (omega (arith, as_many)) (linked.before_is k there) in
            subst (λ n. IsLast first (hashes_in links ++ l.hash ∷ [])
            (bucket_of (get_or (hashes_in links ++ l.hash ∷ []) k 0)) k n) (sym number)
            (subst (λ h. IsLast first (hashes_in links ++ l.hash ∷ []) (bucket_of h) k
            (get_or (befores_in links) k 0)) (sym hash) old)
        | inr last ↦
            let hash : get_or (hashes_in links ++ l.hash ∷ []) k 0 ≡ l.hash =
            get_or_push (hashes_in links) l.hash 0 k (as_many ∙ sym last) in
            let number : get_or (befores_in links ++ l.before ∷ []) k 0
            ≡ get_or newest (bucket_of l.hash) 0 =
            get_or_push (befores_in links) l.before 0 k (counted ∙ sym last) ∙ behind in
            let old = IsLast-push first (hashes_in links) l.hash (bucket_of l.hash) (length links)
            (get_or newest (bucket_of l.hash) 0) (omega (arith, as_many))
            (linked.newest_is (bucket_of l.hash) within_buckets) in
            subst (λ n. IsLast first (hashes_in links ++ l.hash ∷ [])
            (bucket_of (get_or (hashes_in links ++ l.hash ∷ []) k 0)) k n) (sym number)
            (subst (λ h. IsLast first (hashes_in links ++ l.hash ∷ []) (bucket_of h) k
            (get_or newest (bucket_of l.hash) 0)) (sym hash)
            (subst (λ n. IsLast first (hashes_in links ++ l.hash ∷ []) (bucket_of l.hash) n
            (get_or newest (bucket_of l.hash) 0)) (sym last) old))
      ]

  pub AreLinked-push : AreLinked first (set newest (bucket_of l.hash) (first + length links))
      (links ++ l ∷ [])
  AreLinked-push =
      let longer : length (links ++ l ∷ []) ≡ length links + 1 = length-append links (l ∷ []) in
      let hashes = hashes-push links l in
      let befores = befores-push links l in
      record {
        newest_is = λ bucket within.
            subst (λ n. IsLast first (hashes_in (links ++ l ∷ [])) bucket n
            (get_or (set newest (bucket_of l.hash) (first + length links)) bucket 0)) (sym longer)
            (subst (λ (hs : List ℕ). IsLast first hs bucket (length links + 1)
            (get_or (set newest (bucket_of l.hash) (first + length links)) bucket 0)) (sym hashes)
            (newest_pushed bucket within));
        before_is = λ k within.
            subst (λ (bs : List ℕ). IsLast first (hashes_in (links ++ l ∷ []))
            (bucket_of (get_or (hashes_in (links ++ l ∷ [])) k 0)) k (get_or bs k 0)) (sym befores)
            (subst (λ (hs : List ℕ). IsLast first hs (bucket_of (get_or hs k 0)) k
            (get_or (befores_in links ++ l.before ∷ []) k 0)) (sym hashes)
            (before_pushed k (omega (arith, longer))));
      }

-- without the first hash
IsLast-drop : (first hash : ℕ) (hashes : List ℕ) (bucket top number : ℕ)
    → IsLast first (hash ∷ hashes) bucket (suc top) number
    → IsLast (first + 1) hashes bucket top number
IsLast-drop first hash hashes bucket top number h =
    let below = h.below in
    record {
      below = omega arith;
      here = λ least.
          let next : number - first ≡ suc (number - (first + 1)) = omega arith in
          sym (ap (λ n. bucket_of (get_or (hash ∷ hashes) n 0)) next) ∙ h.here (omega arith);
      none = λ k within less same. h.none (suc k) (omega arith) (omega arith) same;
    }

pub AreLinked-drop : (first : ℕ) (newest : List ℕ) (links : List Link) → 0 < length links
    → AreLinked first newest links → AreLinked (first + 1) newest (drop 1 links)
AreLinked-drop first newest [] some h = absurd (omega arith)
AreLinked-drop first newest (l ∷ ls) some h = record {
  newest_is = λ bucket within. IsLast-drop first l.hash (hashes_in ls) bucket (length ls)
      (get_or newest bucket 0) (h.newest_is bucket within);
  before_is = λ k within. IsLast-drop first l.hash (hashes_in ls)
      (bucket_of (get_or (hashes_in ls) k 0)) k (get_or (befores_in ls) k 0)
      (h.before_is (suc k) (omega arith));
}

-- no hashes
pub AreLinked-none : (newest : List ℕ) → ((k : ℕ) → get_or newest k 0 ≡ 0) → AreLinked 1 newest []
AreLinked-none newest zeros = record {
  newest_is = λ bucket within. let none = zeros bucket in
      record {
        below = omega (arith, none);
        here = λ least. absurd (omega (arith, none));
        none =
            λ k less more. absurd (omega arith);
      };
  before_is = λ k within. absurd (omega arith);
}

-- a list of zeros up to its end reads zero everywhere
pub all_zero : (xs : List ℕ) (i : ℕ) → length xs ≤ i → ((k : ℕ) → k < i → get_or xs k 0 ≡ 0)
    → (k : ℕ) → get_or xs k 0 ≡ 0
all_zero xs i past zeros k =
    elim (below_or_not k (length xs)) [
      | inl within ↦ zeros k (omega arith)
      | inr behind ↦ get_or_past xs k 0 behind
    ]

pub same_default : (xs : List ℕ) (i d e : ℕ) → i < length xs → get_or xs i d ≡ get_or xs i e
same_default [] i d e within = absurd (omega arith)
same_default (x ∷ xs) zero d e within = refl
same_default (x ∷ xs) (suc i) d e within = same_default xs i d e (omega arith)
