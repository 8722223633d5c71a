-- Codes of the values of a router: that each is a plain value, of which any two are equal in one
-- way at most. Struct fields that are facts about such values rest on these. Nothing else does.
use Rattle.std.specs.Prelude.{ℕ, zero, suc, ◌≡◌, List, [], ◌∷◌, Bool, Option, refl, ◌⊎◌}
use Rattle.std.specs.Coded.{Coded, code_by, coded×, coded_ℕ, coded_bool, coded_list, coded_option}
use Rattle.std.specs.Coded.{coded⊎}
use Rattle.std.specs.FinMap.{code}
use base.Stored.{Gv, gnil, gnum, gcons}
use denote.Struct.Codes.{itself}
use mathlib.Core.Path.{ap, ◌∙◌}
use mathlib.Core.Logic.{inl, inr}
use Rattle.name_tree.specs.Path.{Labels}
use Rattle.name_tree.specs.Value.{TreeValue, leaf, neg, fail, empty, alt, union, TreeValues, none}
use Rattle.name_tree.specs.Value.{more, Branches, no_branch, branch}
use Rattle.dtab_table.specs.Pattern.{Pattern}
use Rattle.dtab_table.specs.Rules.{Rule}
use Rattle.addr_book.specs.declared.addr.Addr.{Addr}
use Rattle.addr_book.specs.declared.leaf.Leaf.{Leaf}
use Rattle.addr_book.specs.declared.leaf.Cluster.{Cluster}
use Rattle.addr_book.specs.declared.leaf.Cluster.TheVariants.{Inet, Fs}
use Rattle.addr_book.specs.AddrList.{addr_code, weighted_code}
use Rattle.addr_book.specs.declared.addr.Weighted.{Weighted}
use Rattle.addr_book.specs.Book.{contents_code}
use Rattle.addr_book.specs.Book.{Contents as Book}
use Rattle.addr_book.specs.Found.{Found, one, many, FoundList, no_member, member}
use Rattle.bind_core.specs.Delegation.{Ending, negative, failing, no_replica, too_deep, too_wide}
use Rattle.bind_core.specs.Delegation.{bound}
use Rattle.ns_store.specs.Contents.{Space, Spaces}
use Rattle.ns_store.specs.Contents.{Contents as Store}
use Rattle.choose_core.specs.declared.mark.Limits.{Limits}
use Rattle.choose_core.specs.Marks.{MarkMap, marks_code}
use Rattle.machine.specs.Values.{SettingsValue, StateValue, ChangeValue, create, put, delete}
use Rattle.machine.specs.Values.{set_addrs, drop_service, report}
use Rattle.bind_cache.specs.Kept.{Kept}
use Rattle.router_log.specs.Operation.{Operation, changed, kept}
use Rattle.router_log.specs.Value.{Value}

-- a list of lists of numbers, as a tree of numbers and back
abbrev pub label_code : List ℕ → Gv
label_code [] = gnil
label_code (b ∷ bs) = gcons (gnum b) (label_code bs)

abbrev pub label_of : Gv → List ℕ
label_of gnil = []
label_of (gnum n) = []
label_of (gcons (gnum b) bs) = b ∷ label_of bs
label_of (gcons gnil bs) = []
label_of (gcons (gcons x y) bs) = []

pub label_back : (l : List ℕ) → label_of (label_code l) ≡ l
label_back [] = refl
label_back (b ∷ bs) = ap (λ l. b ∷ l) (label_back bs)

abbrev pub labels_code : Labels → Gv
labels_code [] = gnil
labels_code (l ∷ ls) = gcons (label_code l) (labels_code ls)

abbrev pub labels_of : Gv → Labels
labels_of gnil = []
labels_of (gnum n) = []
labels_of (gcons l ls) = label_of l ∷ labels_of ls

pub labels_back : (ls : Labels) → labels_of (labels_code ls) ≡ ls
labels_back [] = refl
labels_back (l ∷ ls) =
    ap (λ x. x ∷ labels_of (labels_code ls)) (label_back l) ∙ ap (λ xs. l ∷ xs) (labels_back ls)

-- a tree by its shape
abbrev mutual
  pub tree_code : TreeValue → Gv
  tree_code neg = gnil
  tree_code fail = gnum 0
  tree_code empty = gcons (gnum 0) gnil
  tree_code (leaf p) = gcons gnil (labels_code p)
  tree_code (alt ts) = gcons (gcons gnil gnil) (trees_code ts)
  tree_code (union bs) = gcons (gcons (gnum 0) gnil) (branches_code bs)

  pub trees_code : TreeValues → Gv
  trees_code none = gnil
  trees_code (more t ts) = gcons (tree_code t) (trees_code ts)

  pub branches_code : Branches → Gv
  branches_code no_branch = gnil
  branches_code (branch n t bs) = gcons (gnum n) (gcons (tree_code t) (branches_code bs))

abbrev mutual
  pub tree_in : Gv → TreeValue
  tree_in gnil = neg
  tree_in (gnum n) = fail
  tree_in (gcons (gnum n) x) = empty
  tree_in (gcons gnil x) = leaf (labels_of x)
  tree_in (gcons (gcons gnil y) x) = alt (trees_in x)
  tree_in (gcons (gcons (gnum n) y) x) = union (branches_in x)
  tree_in (gcons (gcons (gcons w z) y) x) = neg

  pub trees_in : Gv → TreeValues
  trees_in gnil = none
  trees_in (gnum n) = none
  trees_in (gcons t ts) = more (tree_in t) (trees_in ts)

  pub branches_in : Gv → Branches
  branches_in (gcons (gnum n) (gcons t bs)) = branch n (tree_in t) (branches_in bs)
  branches_in _ = no_branch

mutual
  pub tree_back : (t : TreeValue) → tree_in (tree_code t) ≡ t
  tree_back (leaf p) = ap leaf (labels_back p)
  tree_back neg = refl
  tree_back fail = refl
  tree_back empty = refl
  tree_back (alt ts) = ap alt (trees_back ts)
  tree_back (union bs) = ap union (branches_back bs)

  pub trees_back : (ts : TreeValues) → trees_in (trees_code ts) ≡ ts
  trees_back none = refl
  trees_back (more t ts) =
      ap (λ x. more x (trees_in (trees_code ts))) (tree_back t) ∙ ap (more t) (trees_back ts)

  pub branches_back : (bs : Branches) → branches_in (branches_code bs) ≡ bs
  branches_back no_branch = refl
  branches_back (branch n t bs) =
      ap (λ x. branch n x (branches_in (branches_code bs))) (tree_back t)
      ∙ ap (branch n t) (branches_back bs)

abbrev pub coded_tree : Coded TreeValue
coded_tree = code_by Gv itself tree_code tree_in tree_back

abbrev pub coded_bytes : Coded (List ℕ)
coded_bytes = coded_list coded_ℕ

abbrev pub coded_labels : Coded Labels
coded_labels = coded_list coded_bytes

abbrev pub coded_rule : Coded Rule
coded_rule =
    code_by (List Pattern × TreeValue) (coded× (coded_list (coded_option coded_bytes)) coded_tree)
    (λ r. (r.prefix, r.tree)) (λ p. record { prefix = p.0; tree = p.1 }) (λ _. refl)

abbrev pub coded_rules : Coded (List Rule)
coded_rules = coded_list coded_rule

-- bound leaves
abbrev pub cluster_cases : Cluster → Addr ⊎ List ℕ
cluster_cases (Inet addr) = inl addr
cluster_cases (Fs name) = inr name

abbrev pub cluster_of : Addr ⊎ List ℕ → Cluster
cluster_of (inl addr) = Inet addr
cluster_of (inr name) = Fs name

pub cluster_back : (c : Cluster) → cluster_of (cluster_cases c) ≡ c
cluster_back (Inet addr) = refl
cluster_back (Fs name) = refl

abbrev pub coded_cluster : Coded Cluster
coded_cluster =
    code_by (Addr ⊎ List ℕ) (coded⊎ addr_code coded_bytes) cluster_cases cluster_of cluster_back

abbrev pub coded_leaf : Coded Leaf
coded_leaf =
    code_by (Cluster × (Labels × Labels)) (coded× coded_cluster (coded× coded_labels coded_labels))
    (λ l. (l.cluster, (l.client, l.residual)))
    (λ p. record { cluster = p.0; client = p.1.0; residual = p.1.1 }) (λ _. refl)

-- what a delegation found
abbrev mutual
  pub found_code : Found → Gv
  found_code (one l) = gcons gnil (coded_leaf.code l)
  found_code (many ms) = gcons (gnum 0) (members_code ms)

  pub members_code : FoundList → Gv
  members_code no_member = gnil
  members_code (member n f ms) = gcons (gnum n) (gcons (found_code f) (members_code ms))

mutual
  pub found_inj : (x y : Found) → found_code x ≡ found_code y → x ≡ y
  found_inj (one l) (one m) is =
      ap one (coded_leaf.inj l m (let e : coded_leaf.code l ≡ coded_leaf.code m = cc in e))
  found_inj (one l) (many ms) is = absurd cc
  found_inj (many ms) (one l) is = absurd cc
  found_inj (many ms) (many ns) is =
      ap many (members_inj ms ns (let e : members_code ms ≡ members_code ns = cc in e))

  pub members_inj : (xs ys : FoundList) → members_code xs ≡ members_code ys → xs ≡ ys
  members_inj no_member no_member is = refl
  members_inj no_member (member n f ms) is = absurd cc
  members_inj (member n f ms) no_member is = absurd cc
  members_inj (member n f ms) (member k g ns) is =
      let e : n ≡ k = cc in
      let h = found_inj f g (let d : found_code f ≡ found_code g = cc in d) in
      let t = members_inj ms ns (let d : members_code ms ≡ members_code ns = cc in d) in
      ap (λ x. member x f ms) e ∙ (ap (λ x. member k x ms) h ∙ ap (member k g) t)

abbrev pub coded_found : Coded Found
coded_found = record { code = found_code; inj = found_inj }

abbrev pub ending_cases : Ending → ℕ ⊎ Found
ending_cases negative = inl 0
ending_cases failing = inl 1
ending_cases no_replica = inl 2
ending_cases too_deep = inl 3
ending_cases too_wide = inl 4
ending_cases (bound f) = inr f

abbrev pub ending_by : ℕ → Ending
ending_by zero = negative
ending_by (suc zero) = failing
ending_by (suc (suc zero)) = no_replica
ending_by (suc (suc (suc zero))) = too_deep
ending_by (suc (suc (suc (suc n)))) = too_wide

abbrev pub ending_from : ℕ ⊎ Found → Ending
ending_from (inl n) = ending_by n
ending_from (inr f) = bound f

pub ending_back : (e : Ending) → ending_from (ending_cases e) ≡ e
ending_back negative = refl
ending_back failing = refl
ending_back no_replica = refl
ending_back too_deep = refl
ending_back too_wide = refl
ending_back (bound f) = refl

abbrev pub coded_ending : Coded Ending
coded_ending = code_by (ℕ ⊎ Found) (coded⊎ coded_ℕ coded_found) ending_cases ending_from ending_back

-- settings and states
abbrev pub coded_limits : Coded Limits
coded_limits =
    code_by (ℕ × ℕ) (coded× coded_ℕ coded_ℕ) (λ l. (l.failures, l.backoff))
    (λ p. record { failures = p.0; backoff = p.1 }) (λ _. refl)

abbrev pub coded_settings : Coded SettingsValue
coded_settings =
    code_by (List ℕ × (List Rule × Limits)) (coded× coded_bytes (coded× coded_rules coded_limits))
    (λ s. (s.space, (s.base, s.limits)))
    (λ p. record { space = p.0; base = p.1.0; limits = p.1.1 }) (λ _. refl)

abbrev pub coded_space : Coded Space
coded_space =
    code_by (ℕ × List Rule) (coded× coded_ℕ coded_rules) (λ s. (s.version, s.rules))
    (λ p. record { version = p.0; rules = p.1 }) (λ _. refl)

abbrev pub coded_store : Coded Store
coded_store =
    code_by (Spaces × ℕ) (coded× (code coded_bytes coded_space) coded_ℕ) (λ s. (s.spaces, s.next))
    (λ p. record { spaces = p.0; next = p.1 }) (λ _. refl)

abbrev pub coded_state : Coded StateValue
coded_state =
    code_by ((Store × Book) × (MarkMap × ℕ))
    (coded× (coded× coded_store contents_code) (coded× marks_code coded_ℕ))
    (λ s. ((s.store, s.book), (s.marks, s.place)))
    (λ p. record { store = p.0.0; book = p.0.1; marks = p.1.0; place = p.1.1 }) (λ _. refl)

-- delegations that are kept
abbrev pub KeptParts : Type 0
KeptParts = (Labels × List Rule) × (Ending × (ℕ × (List Labels × (ℕ × ℕ))))

abbrev pub coded_kept : Coded Kept
coded_kept =
    code_by KeptParts (coded× (coded× coded_labels coded_rules)
    (coded× coded_ending (coded× coded_ℕ
    (coded× (coded_list coded_labels) (coded× coded_ℕ coded_ℕ)))))
    (λ k. ((k.path, k.local), (k.ending, (k.cost, (k.asked, (k.bytes, k.place))))))
    (λ p. record {
      path = p.0.0;
      local = p.0.1;
      ending = p.1.0;
      cost = p.1.1.0;
      asked = p.1.1.1.0;
      bytes = p.1.1.1.1.0;
      place = p.1.1.1.1.1;
    }) (λ _. refl)

abbrev pub coded_value : Coded Value
coded_value =
    code_by (StateValue × List Kept) (coded× coded_state (coded_list coded_kept))
    (λ v. (v.state, v.cache)) (λ p. record { state = p.0; cache = p.1 }) (λ _. refl)

-- changes
abbrev pub ChangeParts : Type 0
ChangeParts =
    ((List ℕ × List Rule) ⊎ (List ℕ × (Option ℕ × List Rule)))
    ⊎ ((List ℕ × Option ℕ) ⊎ ((List ℕ × List Weighted) ⊎ (List ℕ ⊎ (Addr × (Bool × ℕ)))))

abbrev pub coded_parts : Coded ChangeParts
coded_parts =
    coded⊎ (coded⊎ (coded× coded_bytes coded_rules)
    (coded× coded_bytes (coded× (coded_option coded_ℕ) coded_rules)))
    (coded⊎ (coded× coded_bytes (coded_option coded_ℕ))
    (coded⊎ (coded× coded_bytes (coded_list weighted_code))
    (coded⊎ coded_bytes (coded× addr_code (coded× coded_bool coded_ℕ)))))

abbrev pub change_parts : ChangeValue → ChangeParts
change_parts (create name rules) = inl (inl (name, rules))
change_parts (put name expected rules) = inl (inr (name, (expected, rules)))
change_parts (delete name expected) = inr (inl (name, expected))
change_parts (set_addrs service list) = inr (inr (inl (service, list)))
change_parts (drop_service service) = inr (inr (inr (inl service)))
change_parts (report addr good moment) = inr (inr (inr (inr (addr, (good, moment)))))

abbrev pub change_from : ChangeParts → ChangeValue
change_from (inl (inl p)) = create p.0 p.1
change_from (inl (inr p)) = put p.0 p.1.0 p.1.1
change_from (inr (inl p)) = delete p.0 p.1
change_from (inr (inr (inl p))) = set_addrs p.0 p.1
change_from (inr (inr (inr (inl service)))) = drop_service service
change_from (inr (inr (inr (inr p)))) = report p.0 p.1.0 p.1.1

pub change_back : (c : ChangeValue) → change_from (change_parts c) ≡ c
change_back (create name rules) = refl
change_back (put name expected rules) = refl
change_back (delete name expected) = refl
change_back (set_addrs service list) = refl
change_back (drop_service service) = refl
change_back (report addr good moment) = refl

abbrev pub coded_change : Coded ChangeValue
coded_change = code_by ChangeParts coded_parts change_parts change_from change_back

-- operations
abbrev pub operation_parts : Operation → (ℕ × (ℕ × ChangeValue)) ⊎ (ℕ × (ℕ × Kept))
operation_parts (changed caller serial change) = inl (caller, (serial, change))
operation_parts (kept caller serial k) = inr (caller, (serial, k))

abbrev pub operation_from : (ℕ × (ℕ × ChangeValue)) ⊎ (ℕ × (ℕ × Kept)) → Operation
operation_from (inl p) = changed p.0 p.1.0 p.1.1
operation_from (inr p) = kept p.0 p.1.0 p.1.1

pub operation_back : (op : Operation) → operation_from (operation_parts op) ≡ op
operation_back (changed caller serial change) = refl
operation_back (kept caller serial k) = refl

abbrev pub coded_operation : Coded Operation
coded_operation =
    code_by ((ℕ × (ℕ × ChangeValue)) ⊎ (ℕ × (ℕ × Kept)))
    (coded⊎ (coded× coded_ℕ (coded× coded_ℕ coded_change))
    (coded× coded_ℕ (coded× coded_ℕ coded_kept))) operation_parts operation_from operation_back
