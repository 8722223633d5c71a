-- What is sure stops a search, in each table that has the entries of the table in which it is sure.
use Rattle.std.proofs.Common.{◌≡◌, ◌-◌, ⊎_elim, ℕ, zero, suc, Bool, true, false, ◌&&◌, List, []}
use Rattle.std.proofs.Common.{◌∷◌, ◌++◌, length, drop, Option, Some, None, refl, sym, ap, ◌∙◌}
use Rattle.std.proofs.Common.{append_assoc}
use Rattle.std.specs.Prelude.{nat_lt, ◌||◌, ◌==◌, if◌then◌else◌, is_some, option_map, codes}
use Rattle.std.specs.Option.{option_or, option_to_list}
use Rattle.std.specs.Str.{bytes_eq}
use Rattle.std.proofs.lemmas.Bool.{or_cases, or_left, or_right, and_parts, and_from}
use Rattle.std.proofs.lemmas.List.{append-nil}
use Rattle.name_tree.specs.Path.{Labels, canon_path}
use Rattle.name_tree.specs.Value.{TreeValue, TreeValues, Branches, leaf, neg, fail, empty, alt}
use Rattle.name_tree.specs.Value.{union, none, more, no_branch, branch, append_rest}
use Rattle.name_tree.specs.Value.{append_rest_all, append_rest_branches}
use Rattle.dtab_index.specs.Index.{fits, matches}
use Rattle.dtab_table.specs.Pattern.{Pattern}
use Rattle.dtab_table.specs.Rules.{Rule}
use Rattle.dtab_table.specs.Dtab.{rewrite, rewrites}
use Rattle.dtab_table.proofs.Rewriting.{rest_is}
use Rattle.addr_book.specs.declared.leaf.Leaf.{Leaf}
use Rattle.addr_book.specs.Book.{Contents}
use Rattle.addr_book.specs.Namer.{named_addr, named_service, named_in, leaf_at}
use Rattle.addr_book.specs.Addr.{addr_of, host_value, port_value}
use Rattle.addr_book.specs.declared.addr.Addr.{Addr}
use Rattle.addr_book.specs.declared.leaf.Cluster.TheVariants.{Inet}
use Rattle.bind_core.specs.Delegation.{negative, too_deep, Told, or_else, some_end, walk, walk_all}
use Rattle.bind_core.specs.Delegation.{walk_each, first_of, named_ending, visited, lookup}
use Rattle.bind_core.specs.Delegation.{most_deep, most_path_bytes}
use Rattle.bind_core.proofs.Narrow.{IsNarrow, walk-IsNarrow, first_of-IsNarrow, lookup-IsNarrow}
use Rattle.dtab_check.specs.Sure.{sure_tree, some_alternative, some_branch, some_match, sure_path}
use Rattle.dtab_check.specs.Sure.{is_sure}
use Rattle.dtab_check.proofs.Stopping.{stops, IsStop, or_else-IsStop_left, or_else-IsStop_right}
use Rattle.dtab_check.proofs.Stopping.{together-IsStop, first_of-IsStop_left, first_of-IsStop_right}

-- a tree with labels behind its leaves
module _ (path_sure : Labels → Bool) (rest : Labels) (look : Labels → Told)
    (narrow : (path : Labels) → IsNarrow (look path))
    (stop : (path : Labels) → path_sure path ≡ true → IsStop (look (path ++ rest))) where
  mutual
    pub walk-IsStop : (t : TreeValue) → sure_tree path_sure t ≡ true
        → IsStop (walk look (append_rest t rest))
    walk-IsStop (leaf path) h = stop path h
    walk-IsStop neg h = cc
    walk-IsStop fail h = refl
    walk-IsStop empty h = refl
    walk-IsStop (alt ts) h = walk_all-IsStop ts h
    walk-IsStop (union bs) h = together-IsStop (walk_each look (append_rest_branches bs rest))
        (walk_each-stops bs h)

    walk_all-IsStop : (ts : TreeValues) → some_alternative path_sure ts ≡ true
        → IsStop (walk_all look (append_rest_all ts rest))
    walk_all-IsStop none h = cc
    walk_all-IsStop (more t ts) h =
        ⊎_elim (λ first. or_else-IsStop_left (walk look (append_rest t rest))
        (walk_all look (append_rest_all ts rest)) (walk-IsStop t first))
        (λ later. or_else-IsStop_right (walk look (append_rest t rest))
        (walk_all look (append_rest_all ts rest)) (walk-IsNarrow look narrow (append_rest t rest))
        (walk_all-IsStop ts later))
        (or_cases (sure_tree path_sure t) (some_alternative path_sure ts) h)

    walk_each-stops : (bs : Branches) → some_branch path_sure bs ≡ true
        → some_end stops (walk_each look (append_rest_branches bs rest)) ≡ true
    walk_each-stops no_branch h = cc
    walk_each-stops (branch n t bs) h =
        let P : Bool → Type 0 = λ zero_weight.
        ((if zero_weight then false else sure_tree path_sure t) || some_branch path_sure bs) ≡ true
        → some_end stops (if zero_weight then walk_each look
        (append_rest_branches bs rest) else record
        { weight = n; told = walk look (append_rest t rest) }
        ∷ walk_each look (append_rest_branches bs rest)) ≡ true in
        let each : P (n == 0) =
        elim (n == 0) as P [
          | true ↦ (λ some. walk_each-stops bs some)
          | false ↦ (λ some.
              ⊎_elim (λ first. or_left (stops (walk look (append_rest t rest)).0)
              (some_end stops (walk_each look (append_rest_branches bs rest)))
              (walk-IsStop t first))
              (λ later. or_right (stops (walk look (append_rest t rest)).0)
              (some_end stops (walk_each look (append_rest_branches bs rest)))
              (walk_each-stops bs later))
              (or_cases (sure_tree path_sure t) (some_branch path_sure bs) some))
        ] in
        each h

-- a prefix that matches a path matches it with labels behind it
pub matches-append : (ps : List Pattern) (path rest : Labels) → matches ps path ≡ true
    → matches ps (path ++ rest) ≡ true
matches-append [] path rest h = refl
matches-append (p ∷ ps) [] rest h = cc
matches-append (p ∷ ps) (l ∷ ls) rest h = let parts = and_parts (fits p l) (matches ps ls) h in
    and_from (fits p l) (matches ps (ls ++ rest)) parts.0 (matches-append ps ls rest parts.1)

if_some : {A : Type 0} (test : Bool) (x y : Option A) → is_some x ≡ is_some y
    → is_some (if test then x else None) ≡ is_some (if test then y else None)
if_some true x y h = h
if_some false x y h = refl

map_some : {A B : Type 0} (f g : A → B) (x : Option A)
    → is_some (option_map f x) ≡ is_some (option_map g x)
map_some f g None = refl
map_some f g (Some a) = refl

-- a path that names an address names it with labels behind it
pub named_addr-append : (path rest : Labels) → is_some (named_addr path) ≡ true
    → is_some (named_addr (path ++ rest)) ≡ true
named_addr-append [] rest h = cc
named_addr-append (a ∷ []) rest h = cc
named_addr-append (a ∷ b ∷ []) rest h = cc
named_addr-append (a ∷ b ∷ c ∷ []) rest h = cc
named_addr-append (dollar ∷ inet ∷ host ∷ port ∷ residual) rest h =
    let addr : Option Addr = addr_of (host_value host) (port_value port) in
    let old : Addr → Leaf = λ a. leaf_at (dollar ∷ inet ∷ host ∷ port ∷ []) residual (Inet a) in
    let new : Addr → Leaf = λ a. leaf_at (dollar ∷ inet ∷ host ∷ port ∷ []) (residual ++ rest)
    (Inet a) in
    if_some (bytes_eq dollar (codes "$") && bytes_eq inet (codes "inet")) (option_map new addr)
    (option_map old addr) (map_some new old addr) ∙ h

named-stops : (own service : Option Leaf) → is_some own ≡ true
    → IsStop (named_ending (option_or own service), [])
named-stops None service h = cc
named-stops (Some found) service h = refl

-- what a rule that matches rewrites a path to
pub rewrite-matching : (r : Rule) (path : Labels) → matches r.prefix path ≡ true
    → option_to_list (rewrite r path) ≡ append_rest r.tree (drop (length r.prefix) path) ∷ []
rewrite-matching r path h = rw (rest_is r.prefix path, h) refl

pub rewrite-other : (r : Rule) (path : Labels) → matches r.prefix path ≡ false
    → option_to_list (rewrite r path) ≡ []
rewrite-other r path h = rw (rest_is r.prefix path, h) refl

-- the rules of two tables in one
rewrites-append : (rs qs : List Rule) (path : Labels)
    → rewrites (rs ++ qs) path ≡ rewrites qs path ++ rewrites rs path
rewrites-append [] qs path = sym (append-nil (rewrites qs path))
rewrites-append (r ∷ rs) qs path = rw (rewrites-append rs qs path)
    (append_assoc (rewrites qs path) (rewrites rs path) (option_to_list (rewrite r path)))

-- and so with rules before them and behind
pub rewrites-among : (front rules back : List Rule) (path : Labels)
    → rewrites (front ++ (rules ++ back)) path ≡ (rewrites back path ++ rewrites rules path)
    ++ rewrites front path
rewrites-among front rules back path = rewrites-append front (rules ++ back) path
    ∙ ap (λ (ts : List TreeValue). ts ++ rewrites front path) (rewrites-append rules back path)

-- a single tree
pub first_of-one : (look : Labels → Told) (t : TreeValue) → IsStop (walk look t)
    → IsStop (first_of look (t ∷ []))
first_of-one look t h = or_else-IsStop_left (walk look t) (negative, []) h

module _ (front rules back : List Rule) (book : Contents) where
  abbrev whole : List Rule
  whole = front ++ (rules ++ back)

  abbrev pub look : ℕ → Labels → Told
  look left path = lookup whole (named_in book) left path

  -- every path that is sure after so many rounds is looked up to something
  abbrev StopsAt : ℕ → Type 0
  StopsAt rounds = (left : ℕ) (path rest : Labels) → sure_path rules rounds path ≡ true
      → IsStop (look left (path ++ rest))

  -- a tree that is sure by such paths
  tree-stops : (rounds : ℕ) → StopsAt rounds → (left : ℕ) (t : TreeValue) (rest : Labels)
      → sure_tree (sure_path rules rounds) t ≡ true → IsStop (walk (look left) (append_rest t rest))
  tree-stops rounds stop left t rest h =
      walk-IsStop (sure_path rules rounds) rest (look left)
      (lookup-IsNarrow whole (named_in book) left) (λ path sure. stop left path rest sure) t h

  match-stops : (rounds : ℕ) → StopsAt rounds → (left : ℕ) (rs : List Rule) (path rest : Labels)
      → some_match (sure_path rules rounds) rs path ≡ true
      → IsStop (first_of (look left) (rewrites rs (path ++ rest)))
  match-stops rounds stop left [] path rest h = cc
  match-stops rounds stop left (r ∷ rs) path rest h =
      ⊎_elim (λ here.
      let parts = and_parts (matches r.prefix path) (sure_tree (sure_path rules rounds) r.tree)
      here in
      let behind = drop (length r.prefix) (path ++ rest) in
      let one = first_of-one (look left) (append_rest r.tree behind)
      (tree-stops rounds stop left r.tree behind parts.1) in
      let last : IsStop (first_of (look left) (option_to_list (rewrite r (path ++ rest)))) =
      rw (rewrite-matching r (path ++ rest) (matches-append r.prefix path rest parts.0)) one in
      first_of-IsStop_right (look left) (lookup-IsNarrow whole (named_in book) left)
      (rewrites rs (path ++ rest)) (option_to_list (rewrite r (path ++ rest))) last)
      (λ later. first_of-IsStop_left (look left) (rewrites rs (path ++ rest))
      (option_to_list (rewrite r (path ++ rest))) (match-stops rounds stop left rs path rest later))
      (or_cases (matches r.prefix path && sure_tree (sure_path rules rounds) r.tree)
      (some_match (sure_path rules rounds) rs path) h)

  abbrev inner : ℕ → Labels → Told
  inner left path = or_else (first_of (look left) (rewrites whole path))
      (named_ending (named_in book path), [])

  -- a lookup stops where what it comes to does, and where it is too deep
  lookup-stops : (left : ℕ) (path : Labels) → IsStop (inner left path)
      → IsStop (look (suc left) path)
  unfolding lookup
  lookup-stops left path h =
      let P : Bool → Type 0 = λ long. IsStop
      (if long then (too_deep, []) else visited (most_deep - suc left) path (inner left path)) in
      let each : P (nat_lt most_path_bytes (length (canon_path path))) =
      elim (nat_lt most_path_bytes (length (canon_path path))) as P [ true ↦ refl | false ↦ h ] in
      each

  none-left : (path : Labels) → IsStop (look 0 path)
  unfolding lookup
  none-left path = refl

  -- by the address that it names
  named-inner : (left : ℕ) (path rest : Labels) → is_some (named_addr path) ≡ true
      → IsStop (inner left (path ++ rest))
  named-inner left path rest own =
      or_else-IsStop_right (first_of (look left) (rewrites whole (path ++ rest)))
      (named_ending (named_in book (path ++ rest)), [])
      (first_of-IsNarrow (look left) (lookup-IsNarrow whole (named_in book) left)
      (rewrites whole (path ++ rest)))
      (named-stops (named_addr (path ++ rest)) (named_service book.services (path ++ rest))
      (named_addr-append path rest own))

  -- by an entry that matches it
  matched-inner : (left : ℕ) (path : Labels) → IsStop (first_of (look left) (rewrites rules path))
      → IsStop (inner left path)
  matched-inner left path h =
      let narrow = lookup-IsNarrow whole (named_in book) left in
      let both = first_of-IsStop_right (look left) narrow (rewrites back path)
      (rewrites rules path) h in
      let all = first_of-IsStop_left (look left) (rewrites back path ++ rewrites rules path)
      (rewrites front path) both in
      let there : IsStop (first_of (look left) (rewrites whole path)) =
      rw (rewrites-among front rules back path) all in
      or_else-IsStop_left (first_of (look left) (rewrites whole path))
      (named_ending (named_in book path), []) there

  sure-stops : (rounds : ℕ) → StopsAt rounds
  sure-stops zero zero path rest h = none-left (path ++ rest)
  sure-stops zero (suc left) path rest h =
      lookup-stops left (path ++ rest) (named-inner left path rest h)
  sure-stops (suc rounds) zero path rest h = none-left (path ++ rest)
  sure-stops (suc rounds) (suc left) path rest h =
      lookup-stops left (path ++ rest)
      (⊎_elim (λ own. named-inner left path rest own)
      (λ matched. matched-inner left (path ++ rest)
      (match-stops rounds (sure-stops rounds) left rules path rest matched))
      (or_cases (is_some (named_addr path)) (some_match (sure_path rules rounds) rules path) h))

  -- so a sure tree stops a search, whatever labels stand behind its leaves and however many lookups
  -- are left
  pub sure_tree-IsStop : (left : ℕ) (t : TreeValue) (rest : Labels) → is_sure rules t ≡ true
      → IsStop (walk (look left) (append_rest t rest))
  sure_tree-IsStop left t rest h = tree-stops (length rules)
      (sure-stops (length rules)) left t rest h
