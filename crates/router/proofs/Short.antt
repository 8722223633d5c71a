-- The labels of each leaf that a delegation finds were looked up together, so their texts are as
-- short as one that is looked up.
use Rattle.std.proofs.Common.{◌-◌, ◌≡◌, ℕ, zero, suc, ◌+◌, ◌≤◌, Bool, true, false, List, [], ◌∷◌}
use Rattle.std.proofs.Common.{◌++◌, Option, Some, None, length, refl, ap, ◌∙◌, arith}
use Rattle.std.specs.Prelude.{nat_lt, ◌&&◌, ◌==◌, if◌then◌else◌, codes, option_map, option_and_then}
use Rattle.std.specs.Prelude.{IfSome}
use Rattle.std.specs.List.{flat_map}
use Rattle.std.specs.Option.{option_or}
use Rattle.std.specs.Str.{bytes_eq}
use Rattle.std.specs.FinMap.{contains_key}
use Rattle.std.proofs.lemmas.List.{length-append}
use Rattle.std.proofs.lemmas.Grind.{flat_map-append}
use Rattle.std.proofs.lemmas.Bool.Decides.{nat_tests}
use Rattle.name_tree.specs.Path.{Labels, canon_path, canon_label}
use Rattle.name_tree.specs.Value.{TreeValue, TreeValues, Branches, leaf, neg, fail, empty, alt}
use Rattle.name_tree.specs.Value.{union, none, more, no_branch, branch}
use Rattle.dtab_table.specs.Dtab.{rewrites}
use Rattle.dtab_table.specs.Rules.{Rule}
use Rattle.addr_book.specs.declared.addr.Addr.{Addr}
use Rattle.addr_book.specs.declared.leaf.Leaf.{Leaf}
use Rattle.addr_book.specs.declared.leaf.Cluster.{Cluster}
use Rattle.addr_book.specs.declared.leaf.Cluster.TheVariants.{Inet, Fs}
use Rattle.addr_book.specs.Addr.{addr_of, host_value, port_value}
use Rattle.addr_book.specs.Book.{Contents, Services}
use Rattle.addr_book.specs.Found.{Found, one, many, FoundList, no_member, member, members}
use Rattle.addr_book.specs.Namer.{leaf_at, named_addr, named_service, named_in}
use Rattle.choose_core.specs.Branch.{is_open, kept_member, kept_union, pruned, pruned_members}
use Rattle.choose_core.specs.Branch.{branch_of, branch_over, chosen}
use Rattle.bind_core.specs.Delegation.{Ending, Told, Evaluated, negative, failing, no_replica}
use Rattle.bind_core.specs.Delegation.{too_deep, too_wide, bound, IfBound, or_else, is_too_deep}
use Rattle.bind_core.specs.Delegation.{is_failing, is_empty, some_end, found_at, found_in, kept}
use Rattle.bind_core.specs.Delegation.{together, walk, walk_all, walk_each, first_of, named_ending}
use Rattle.bind_core.specs.Delegation.{Names, visited, lookup, outcome_of, most_deep, most_wide}
use Rattle.bind_core.specs.Delegation.{most_path_bytes}
use Rattle.router.specs.Short.{IsShort}

abbrev mutual
  pub AllShort : Found → Type 0
  AllShort (one l) = IsShort l
  AllShort (many ms) = AreShort ms

  pub AreShort : FoundList → Type 0
  AreShort no_member = Unit {0}
  AreShort (member n f ms) = AllShort f × AreShort ms

-- what a path names by itself is short where the path is
abbrev NamesShort : Names → Type 0
NamesShort names = (path : Labels) → length (canon_path path) ≤ most_path_bytes
    → IfSome (names path) IsShort

-- two parts of a short path are short
rest_short : (rest : Labels) → length (flat_map canon_label rest) ≤ most_path_bytes
    → length (canon_path rest) ≤ most_path_bytes
rest_short [] le = omega arith
rest_short (l ∷ ls) le = le

parts_short : (first : List ℕ) (client residual : Labels) (cluster : Cluster)
    → length (canon_path (first ∷ client ++ residual)) ≤ most_path_bytes
    → IsShort (leaf_at (first ∷ client) residual cluster)
parts_short first client residual cluster le =
    let whole : length (flat_map canon_label ((first ∷ client) ++ residual))
    ≡ length (flat_map canon_label (first ∷ client)) + length (flat_map canon_label residual) =
    ap length (flat_map-append canon_label (first ∷ client) residual)
    ∙ length-append (flat_map canon_label (first ∷ client)) (flat_map canon_label residual) in
    let le' : length (flat_map canon_label ((first ∷ client) ++ residual)) ≤ most_path_bytes = le in
    record {
      client = omega (arith, whole, le');
      residual =
          rest_short residual (omega (arith, whole, le'));
    }

if_short : (b : Bool) (o : Option Leaf) → IfSome o IsShort → IfSome (if b then o else None) IsShort
if_short true o h = h
if_short false o h = tt

addr_short : (o : Option Addr) (client residual : Labels)
    → ((a : Addr) → IsShort (leaf_at client residual (Inet a)))
    → IfSome (option_map (λ addr. leaf_at client residual (Inet addr)) o) IsShort
addr_short None client residual h = tt
addr_short (Some a) client residual h = h a

named_addr-short : NamesShort named_addr
named_addr-short [] le = tt
named_addr-short (a ∷ []) le = tt
named_addr-short (a ∷ b ∷ []) le = tt
named_addr-short (a ∷ b ∷ c ∷ []) le = tt
named_addr-short (dollar ∷ inet ∷ host ∷ port ∷ residual) le =
    let client = dollar ∷ inet ∷ host ∷ port ∷ [] in
    if_short (bytes_eq dollar (codes "$") && bytes_eq inet (codes "inet"))
    (option_map (λ addr. leaf_at client residual (Inet addr))
    (addr_of (host_value host) (port_value port)))
    (addr_short (addr_of (host_value host) (port_value port)) client residual
    (λ a. parts_short dollar (inet ∷ host ∷ port ∷ []) residual (Inet a) le))

named_service-short : (services : Services) → NamesShort (named_service services)
named_service-short services [] le = tt
named_service-short services (a ∷ []) le = tt
named_service-short services (a ∷ b ∷ []) le = tt
named_service-short services (hash ∷ fs ∷ service ∷ residual) le =
    if_short ((bytes_eq hash (codes "#") && bytes_eq fs (codes "io.l5d.fs"))
    && contains_key services service)
    (Some (leaf_at (hash ∷ fs ∷ service ∷ []) residual (Fs service)))
    (parts_short hash (fs ∷ service ∷ []) residual (Fs service) le)

or_short : (a b : Option Leaf) → IfSome a IsShort → IfSome b IsShort
    → IfSome (option_or a b) IsShort
or_short None b ha hb = hb
or_short (Some l) b ha hb = ha

pub named_in-short : (book : Contents) → NamesShort (named_in book)
named_in-short book path le = or_short (named_addr path) (named_service book.services path)
    (named_addr-short path le) (named_service-short book.services path le)

abbrev EndsShort : Told → Type 0
EndsShort told = IfBound AllShort told.0

abbrev EachShort : List Evaluated → Type 0
EachShort [] = Unit {0}
EachShort (b ∷ bs) = EndsShort b.told × EachShort bs

or_else-short : (a b : Told) → EndsShort a → EndsShort b → EndsShort (or_else a b)
or_else-short (negative, n) b ha hb = hb
or_else-short (failing, n) b ha hb = tt
or_else-short (no_replica, n) b ha hb = tt
or_else-short (too_deep, n) b ha hb = tt
or_else-short (too_wide, n) b ha hb = tt
or_else-short (bound f, n) b ha hb = ha

found_at-short : (n : ℕ) (e : Ending) (ms : List (ℕ × Found)) → IfBound AllShort e
    → AreShort (members ms) → AreShort (members (found_at n e ++ ms))
found_at-short n negative ms h k = k
found_at-short n failing ms h k = k
found_at-short n no_replica ms h k = k
found_at-short n too_deep ms h k = k
found_at-short n too_wide ms h k = k
found_at-short n (bound f) ms h k = (h, k)

found_in-short : (bs : List Evaluated) → EachShort bs → AreShort (members (found_in bs))
found_in-short [] h = tt
found_in-short (b ∷ bs) h = found_at-short b.weight b.told.0 (found_in bs) h.0
    (found_in-short bs h.1)

kept-short : (ms : List (ℕ × Found)) (fails lacks : Bool) → AreShort (members ms)
    → IfBound AllShort (kept ms fails lacks)
kept-short [] true lacks h = tt
kept-short [] false true h = tt
kept-short [] false false h = tt
kept-short (m ∷ ms) fails lacks h = h

together-short : (bs : List Evaluated) → EachShort bs → EndsShort (together bs)
together-short bs h =
    elim (some_end is_too_deep bs) as (λ b. IfBound AllShort
    (if b then too_deep else kept (found_in bs) (some_end is_failing bs) (some_end is_empty bs))) [
      | true ↦ tt
      | false ↦ kept-short (found_in bs) (some_end is_failing bs) (some_end is_empty bs)
          (found_in-short bs h)
    ]

module _ (look : Labels → Told) (short : (path : Labels) → EndsShort (look path)) where
  mutual
    walk-short : (t : TreeValue) → EndsShort (walk look t)
    walk-short (leaf path) = short path
    walk-short neg = tt
    walk-short fail = tt
    walk-short empty = tt
    walk-short (alt ts) = walk_all-short ts
    walk-short (union bs) = together-short (walk_each look bs) (walk_each-short bs)

    walk_all-short : (ts : TreeValues) → EndsShort (walk_all look ts)
    walk_all-short none = tt
    walk_all-short (more t ts) = or_else-short (walk look t) (walk_all look ts) (walk-short t)
        (walk_all-short ts)

    walk_each-short : (bs : Branches) → EachShort (walk_each look bs)
    walk_each-short no_branch = tt
    walk_each-short (branch n t bs) =
        elim (n == 0) as (λ b.
        EachShort (if b then walk_each look bs else record { weight = n; told = walk look t }
        ∷ walk_each look bs)) [
          | true ↦ walk_each-short bs
          | false ↦ (walk-short t, walk_each-short bs)
        ]

  first_of-short : (ts : List TreeValue) → EndsShort (first_of look ts)
  first_of-short [] = tt
  first_of-short (t ∷ ts) = or_else-short (walk look t) (first_of look ts) (walk-short t)
      (first_of-short ts)

named_ending-short : (found : Option Leaf) → IfSome found IsShort
    → IfBound AllShort (named_ending found)
named_ending-short None h = tt
named_ending-short (Some found) h = h

lookup-short : (rules : List Rule) (names : Names) → NamesShort names → (left : ℕ) (path : Labels)
    → EndsShort (lookup rules names left path)
unfolding lookup
lookup-short rules names named zero path = tt
lookup-short rules names named (suc left) path =
    short_case (nat_lt most_path_bytes (length (canon_path path))) refl
    (lookup-short rules names named left) where
      short_case : (b : Bool) → nat_lt most_path_bytes (length (canon_path path)) ≡ b
          → ((p : Labels) → EndsShort (lookup rules names left p))
          → EndsShort (if b then (too_deep, []) else visited (most_deep - suc left) path
          (or_else (first_of (lookup rules names left) (rewrites rules path))
          (named_ending (names path), [])))
      short_case true is below = tt
      short_case false is below =
          or_else-short (first_of (lookup rules names left) (rewrites rules path))
          (named_ending (names path), [])
          (first_of-short (lookup rules names left) below (rewrites rules path))
          (named_ending-short (names path)
          (named path (let le : length (canon_path path) ≤ most_path_bytes =
          grind (arith, nat_tests) in le)))

pub outcome_short : (rules : List Rule) (names : Names) (path : Labels) → NamesShort names
    → IfBound AllShort (outcome_of rules names path)
outcome_short rules names path named =
    elim (nat_lt most_wide (length (lookup rules names most_deep path).1)) as (λ b.
    IfBound AllShort (if b then too_wide else (lookup rules names most_deep path).0)) [
      | true ↦ tt
      | false ↦ lookup-short rules names named most_deep path
    ]

-- a leaf that is chosen of what pruning leaves is one of them
kept_member-short : (weight : ℕ) (o : Option Found) (ms : FoundList) → IfSome o AllShort
    → AreShort ms → AreShort (kept_member weight o ms)
kept_member-short weight None ms h k = k
kept_member-short weight (Some f) ms h k = (h, k)

kept_union-short : (ms : FoundList) → AreShort ms → IfSome (kept_union ms) AllShort
kept_union-short no_member h = tt
kept_union-short (member n f ms) h = h

mutual
  pruned-short : (services : Services) (f : Found) → AllShort f
      → IfSome (pruned services f) AllShort
  pruned-short services (one l) h =
      elim (is_open services l.cluster) as (λ b. IfSome
      (if b then Some (one l) else None) AllShort) [ true ↦ h | false ↦ tt ]
  pruned-short services (many ms) h =
      kept_union-short (pruned_members services ms) (pruned_members-short services ms h)

  pruned_members-short : (services : Services) (ms : FoundList) → AreShort ms
      → AreShort (pruned_members services ms)
  pruned_members-short services no_member h = tt
  pruned_members-short services (member n f ms) h =
      kept_member-short n (pruned services f) (pruned_members services ms)
      (pruned-short services f h.0) (pruned_members-short services ms h.1)

mutual
  branch_of-short : (f : Found) (word : ℕ) → AllShort f → IfSome (branch_of f word) IsShort
  branch_of-short (one l) word h = h
  branch_of-short (many ms) word h = branch_over-short ms _ _ h

  branch_over-short : (ms : FoundList) (n word : ℕ) → AreShort ms
      → IfSome (branch_over ms n word) IsShort
  branch_over-short no_member n word h = tt
  branch_over-short (member weight f ms) n word h =
      elim (nat_lt n weight) as (λ b. IfSome
      (if b then branch_of f word else branch_over ms (n - weight) word) IsShort) [
        | true ↦ branch_of-short f word h.0
        | false ↦ branch_over-short ms (n - weight) word h.1
      ]

then_short : (o : Option Found) (word : ℕ) → IfSome o AllShort
    → IfSome (option_and_then (λ left. branch_of left word) o) IsShort
then_short None word h = tt
then_short (Some f) word h = branch_of-short f word h

pub chosen_short : (services : Services) (f : Found) (word : ℕ) → AllShort f
    → IfSome (chosen services f word) IsShort
chosen_short services f word h = then_short (pruned services f) word (pruned-short services f h)
