-- The sure trees of a table are those that rounds over what their leaves reach lead to.
use Rattle.std.proofs.Common.{◌≡◌, ℕ, zero, suc, ◌+◌, ◌<◌, ◌≤◌, Bool, true, false, ◌&&◌, List, []}
use Rattle.std.proofs.Common.{◌∷◌, ◌++◌, length, map, take, get_or, refl, sym, ap, ◌∙◌}
use Rattle.std.specs.Prelude.{◌||◌, ◌==◌, if◌then◌else◌}
use Rattle.std.proofs.Math.Bool.{or-false, or-true}
use Rattle.std.proofs.lemmas.List.{take_more, take_all, map-append, length-map}
use Rattle.name_tree.specs.Path.{Labels}
use Rattle.name_tree.specs.Value.{TreeValue, TreeValues, Branches, leaf, neg, fail, empty, alt}
use Rattle.name_tree.specs.Value.{union, none, more, no_branch, branch}
use Rattle.dtab_index.specs.Index.{matches}
use Rattle.dtab_table.specs.declared.entry.Entry.{Entry}
use Rattle.dtab_table.specs.Rules.{Rule, rule_of}
use Rattle.dtab_check.specs.Sure.{sure_tree, some_alternative, some_branch, some_match, sure_path}
use Rattle.dtab_check.specs.Sure.{is_sure}
use Rattle.dtab_check.specs.Live.{leaves_in, leaves_in_all, leaves_in_each, names_addr, stops_in}
use Rattle.dtab_check.specs.Live.{some_leaf, reached_by}
use Rattle.dtab_check.specs.Rounds.{overlap, next_round, after_rounds}

or_assoc : (a b c : Bool) → ((a || b) || c) ≡ (a || (b || c))
or_assoc true b c = refl
or_assoc false b c = refl

or_swap : (a b c d : Bool) → ((a || b) || (c || d)) ≡ ((a || c) || (b || d))
or_swap true b c d = refl
or_swap false true true d = refl
or_swap false true false d = refl
or_swap false false c d = refl

and_swap : (m s a n b : Bool) → (((m && s) || a) || ((n && s) || b)) ≡ (((m || n) && s) || (a || b))
and_swap true true a n b = refl
and_swap true false true n b = refl
and_swap true false false true b = refl
and_swap true false false false b = refl
and_swap false s true true true = sym (or-true s)
and_swap false s true true false = sym (or-true s)
and_swap false s true false b = refl
and_swap false s false n b = refl

some_leaf-append : (test : Labels → Bool) (ls ks : List Labels)
    → some_leaf test (ls ++ ks) ≡ (some_leaf test ls || some_leaf test ks)
some_leaf-append test [] ks = refl
some_leaf-append test (l ∷ ls) ks = ap (λ (b : Bool). test l || b) (some_leaf-append test ls ks)
    ∙ sym (or_assoc (test l) (some_leaf test ls) (some_leaf test ks))

-- trees under two tests
module _ (f g : Labels → Bool) where
  abbrev Either : Labels → Bool
  Either path = f path || g path

  mutual
    sure_tree-or : (t : TreeValue) → sure_tree Either t
        ≡ (sure_tree f t || some_leaf g (leaves_in t))
    sure_tree-or (leaf path) = ap (λ (b : Bool). f path || b) (sym (or-false (g path)))
    sure_tree-or neg = refl
    sure_tree-or fail = refl
    sure_tree-or empty = refl
    sure_tree-or (alt ts) = some_alternative-or ts
    sure_tree-or (union bs) = some_branch-or bs

    some_alternative-or : (ts : TreeValues) → some_alternative Either ts
        ≡ (some_alternative f ts || some_leaf g (leaves_in_all ts))
    some_alternative-or none = refl
    some_alternative-or (more t ts) =
        rw (
          sure_tree-or t,
          some_alternative-or ts,
          some_leaf-append g (leaves_in t) (leaves_in_all ts),
        )
        (or_swap (sure_tree f t) (some_leaf g (leaves_in t)) (some_alternative f ts)
        (some_leaf g (leaves_in_all ts)))

    some_branch-or : (bs : Branches) → some_branch Either bs
        ≡ (some_branch f bs || some_leaf g (leaves_in_each bs))
    some_branch-or no_branch = refl
    some_branch-or (branch n t bs) =
        let rest = some_branch-or bs in
        let own = sure_tree-or t in
        let P : Bool → Type 0 = λ zero_weight.
        ((if zero_weight then false else sure_tree Either t) || some_branch Either bs)
        ≡ (((if zero_weight then false else sure_tree f t) || some_branch f bs)
        || some_leaf g ((if zero_weight then [] else leaves_in t) ++ leaves_in_each bs)) in
        let each : P (n == 0) =
        elim (n == 0) as P [
          | true ↦ rest
          | false ↦ (rw (own, rest, some_leaf-append g (leaves_in t) (leaves_in_each bs))
              (or_swap (sure_tree f t) (some_leaf g (leaves_in t)) (some_branch f bs)
              (some_leaf g (leaves_in_each bs))))
        ] in
        each

-- trees under two tests that agree
module _ (f g : Labels → Bool) (same : (path : Labels) → f path ≡ g path) where
  abbrev mutual
    sure_tree-same : (t : TreeValue) → sure_tree f t ≡ sure_tree g t
    sure_tree-same (leaf path) = same path
    sure_tree-same neg = refl
    sure_tree-same fail = refl
    sure_tree-same empty = refl
    sure_tree-same (alt ts) = some_alternative-same ts
    sure_tree-same (union bs) = some_branch-same bs

    some_alternative-same : (ts : TreeValues) → some_alternative f ts ≡ some_alternative g ts
    some_alternative-same none = refl
    some_alternative-same (more t ts) = rw (sure_tree-same t, some_alternative-same ts) refl

    some_branch-same : (bs : Branches) → some_branch f bs ≡ some_branch g bs
    some_branch-same no_branch = refl
    some_branch-same (branch n t bs) = rw (sure_tree-same t, some_branch-same bs) refl

-- leaves that some entry matches whose tree is sure
module _ (look : Labels → Bool) where
  matched-one : (r : Rule) (rs : List Rule) (ls : List Labels)
      → some_leaf (some_match look (r ∷ rs)) ls
      ≡ ((some_leaf (matches r.prefix) ls && sure_tree look r.tree)
      || some_leaf (some_match look rs) ls)
  matched-one r rs [] = refl
  matched-one r rs (l ∷ ls) =
      rw (matched-one r rs ls)
      (and_swap (matches r.prefix l) (sure_tree look r.tree) (some_match look rs l)
      (some_leaf (matches r.prefix) ls) (some_leaf (some_match look rs) ls))

  matched-none : (ls : List Labels) → some_leaf (some_match look []) ls ≡ false
  matched-none [] = refl
  matched-none (l ∷ ls) = matched-none ls

  matched : (rs : List Rule) (ls : List Labels) → some_leaf (some_match look rs) ls
      ≡ overlap (reached_by ls rs) (map (λ r. sure_tree look r.tree) rs)
  matched [] ls = matched-none ls
  matched (r ∷ rs) ls = matched-one r rs ls
      ∙ ap (λ (b : Bool). (some_leaf (matches r.prefix) ls && sure_tree look r.tree) || b)
      (matched rs ls)

-- one round over a table
next-rules : (now : TreeValue → Bool) (rules : List Rule) (known : List Bool)
    → ((t : TreeValue) → now t ≡ (stops_in t || overlap (reached_by (leaves_in t) rules) known))
    → (rs : List Rule) → map (λ r. now r.tree) rs
    ≡ next_round (map (λ r. stops_in r.tree) rs)
    (map (λ r. reached_by (leaves_in r.tree) rules) rs) known
next-rules now rules known round [] = refl
next-rules now rules known round (r ∷ rs) =
    ap (λ (b : Bool). b ∷ map (λ r. now r.tree) rs) (round r.tree)
    ∙ ap (λ (bs : List Bool).
    (stops_in r.tree || overlap (reached_by (leaves_in r.tree) rules) known) ∷ bs)
    (next-rules now rules known round rs)

abbrev pub own_of : List Rule → List Bool
own_of rules = map (λ r. stops_in r.tree) rules

abbrev pub rows_of : List Rule → List (List Bool)
rows_of rules = map (λ r. reached_by (leaves_in r.tree) rules) rules

map-same : (f g : TreeValue → Bool) → ((t : TreeValue) → f t ≡ g t) → (rs : List Rule)
    → map (λ r. f r.tree) rs ≡ map (λ r. g r.tree) rs
map-same f g same [] = refl
map-same f g same (r ∷ rs) = rw (same r.tree, map-same f g same rs) refl

rounds-sure : (rules : List Rule) (rounds : ℕ)
    → map (λ r. sure_tree (sure_path rules rounds) r.tree) rules
    ≡ after_rounds (own_of rules) (rows_of rules) rounds
rounds-sure rules zero = map-same (sure_tree (sure_path rules zero)) (sure_tree names_addr)
    (sure_tree-same (sure_path rules zero) names_addr (λ path. refl)) rules
rounds-sure rules (suc rounds) =
    let look : Labels → Bool = sure_path rules rounds in
    let before : List Bool = after_rounds (own_of rules) (rows_of rules) rounds in
    let one : (t : TreeValue) → sure_tree (sure_path rules (suc rounds)) t
    ≡ (stops_in t || overlap (reached_by (leaves_in t) rules) before) =
    λ t. sure_tree-same (sure_path rules (suc rounds))
    (λ path. names_addr path || some_match look rules path) (λ path. refl) t
    ∙ (sure_tree-or names_addr (some_match look rules) t
    ∙ (ap (λ (b : Bool). stops_in t || b) (matched look rules (leaves_in t))
    ∙ ap (λ (known : List Bool). stops_in t || overlap (reached_by (leaves_in t) rules) known)
    (rounds-sure rules rounds))) in
    next-rules (sure_tree (sure_path rules (suc rounds))) rules before one rules

-- so as many rounds as there are entries find all that are sure
pub sure-entries : (rules : List Rule) → after_rounds (own_of rules) (rows_of rules) (length rules)
    ≡ map (λ r. is_sure rules r.tree) rules
sure-entries rules = sym (rounds-sure rules (length rules))

pub sure_found : (entries : List Entry) (i : ℕ) (own : List Bool) (rows : List (List Bool))
    (known : List Bool) → length entries ≤ i
    → own ≡ map (λ r. stops_in r.tree) (map rule_of (take i entries))
    → rows ≡ map (λ r. reached_by (leaves_in r.tree) (map rule_of entries))
    (map rule_of (take i entries)) → known ≡ after_rounds own rows (length own)
    → known ≡ map (λ r. is_sure (map rule_of entries) r.tree) (map rule_of entries)
sure_found entries i own rows known past owned rowed is =
    let all : take i entries ≡ entries = take_all i entries past in
    let own_is : own ≡ own_of (map rule_of entries) =
    owned ∙ ap (λ (es : List Entry). map (λ r. stops_in r.tree) (map rule_of es)) all in
    let rows_are : rows ≡ rows_of (map rule_of entries) =
    rowed ∙ ap (λ (es : List Entry). map (λ r. reached_by (leaves_in r.tree) (map rule_of entries))
    (map rule_of es)) all in
    let long : length own ≡ length (map rule_of entries) =
    ap length own_is ∙ length-map (map rule_of entries) (λ r. stops_in r.tree) in
    is ∙ (ap (after_rounds own rows) long
    ∙ (ap (λ (bs : List Bool). after_rounds bs rows (length (map rule_of entries))) own_is
    ∙ (ap (λ (rs : List (List Bool)). after_rounds (own_of (map rule_of entries)) rs
    (length (map rule_of entries))) rows_are ∙ sure-entries (map rule_of entries))))

-- one entry more is looked at
pub one_entry : {X : Type 0} (f : Rule → X) (made grown : List X) (x : X) (entries : List Entry)
    (i : ℕ) (e : Entry) → i < length entries → e ≡ get_or entries i e → x ≡ f (rule_of e)
    → grown ≡ made ++ x ∷ []
    → made ≡ map f (map rule_of (take i entries)) → grown
    ≡ map f (map rule_of (take (i + 1) entries))
one_entry f made grown x entries i e within is value pushed stands =
    rw (take_more entries i e within, ← is, map-append, map-append, pushed, stands, value) refl
