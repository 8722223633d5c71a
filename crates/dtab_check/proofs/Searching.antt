-- The search for covers, from the last entry on, and the entries that are hidden and kept, from the
-- first on.
use Rattle.std.proofs.Common.{◌≡◌, ℕ, zero, suc, ◌+◌, ◌-◌, ◌<◌, ◌≤◌, Bool, true, false, ◌&&◌, List}
use Rattle.std.proofs.Common.{[], ◌∷◌, ◌++◌, length, map, take, drop, get_or, Option, Some, None}
use Rattle.std.proofs.Common.{refl, sym, ap, ◌∙◌, arith, append_assoc, add-one, drop-cons}
use Rattle.std.specs.Prelude.{if◌then◌else◌, ◌==◌, ◌||◌}
use Rattle.std.specs.Option.{option_or}
use Rattle.std.proofs.lemmas.List.{append-nil, drop_all, drop-map, length-map, length-append}
use Rattle.std.proofs.lemmas.List.{take-append-drop, drop-drop, length-take-le, length-drop}
use Rattle.name_tree.specs.Value.{TreeValue}
use Rattle.name_tree.specs.Tree.{value_of}
use Rattle.dtab_table.specs.declared.entry.Entry.{Entry}
use Rattle.dtab_table.specs.Pattern.{Pattern}
use Rattle.dtab_table.specs.Rules.{Rule, rule_of}
use Rattle.dtab_check.specs.declared.hidden_list.Hidden.{Hidden}
use Rattle.dtab_check.specs.Hidden.{covers, last_cover, hidden_by, hidden_from, is_named}
use Rattle.dtab_check.specs.Hidden.{without_from}

-- the rules of a table from an entry on
pub rules_cut : (entries : List Entry) (at : ℕ) (e : Entry) → at < length entries
    → e ≡ get_or entries at e → drop at (map rule_of entries)
    ≡ rule_of e ∷ drop (at + 1) (map rule_of entries)
rules_cut entries at e within is = rw (drop-map, drop-map, drop-cons entries at e, ← is, add-one)
    refl

pub rules_end : (entries : List Entry) (at : ℕ) → length entries ≤ at
    → drop at (map rule_of entries) ≡ []
rules_end entries at past = let long = length-map entries rule_of in
    drop_all at (map rule_of entries) (omega (arith, long))

or_none : {A : Type 0} (x : Option A) → option_or x None ≡ x
or_none None = refl
or_none (Some a) = refl

or_assoc : {A : Type 0} (x y z : Option A) → option_or (option_or x y) z
    ≡ option_or x (option_or y z)
or_assoc None y z = refl
or_assoc (Some a) y z = refl

none_either : (b : Bool) (at : ℕ) → (if b && false then Some at else None) ≡ None
none_either true at = refl
none_either false at = refl

get_or-map-at : {A : Type 0} (f : A → Bool) (xs : List A) (at : ℕ) (d : A) (b : Bool)
    → at < length xs → get_or (map f xs) at b ≡ f (get_or xs at d)
get_or-map-at f [] at d b within = absurd (omega arith)
get_or-map-at f (x ∷ xs) zero d b within = refl
get_or-map-at f (x ∷ xs) (suc at) d b within = get_or-map-at f xs at d b (omega arith)

one_or_none : (b : Bool) (r : Rule) (rest : List Rule)
    → (if b then [] else r ∷ []) ++ rest ≡ (if b then rest else r ∷ rest)
one_or_none true r rest = refl
one_or_none false r rest = refl

one_at_most : (b : Bool) (r : Rule) → length (if b then [] else r ∷ []) ≤ 1
one_at_most true r = omega arith
one_at_most false r = omega arith

module _ (is_sure : TreeValue → Bool) (prefix : List Pattern) where
  -- a cover is looked for behind some rules, and then among them
  last_cover-append : (at : ℕ) (rs qs : List Rule) → last_cover is_sure at (rs ++ qs) prefix
      ≡ option_or (last_cover is_sure (at + length rs) qs prefix) (last_cover is_sure at rs prefix)
  last_cover-append at [] qs = let same : at + 0 ≡ at = omega arith in
      rw same (sym (or_none (last_cover is_sure at qs prefix)))
  last_cover-append at (r ∷ rs) qs =
      let same : at + 1 + length rs ≡ at + suc (length rs) = omega arith in
      let own : Option ℕ = if covers r.prefix prefix && is_sure r.tree then Some at else None in
      ap (λ (x : Option ℕ). option_or x own) (last_cover-append (at + 1) rs qs)
      ∙ (or_assoc (last_cover is_sure (at + 1 + length rs) qs prefix)
      (last_cover is_sure (at + 1) rs prefix) own
      ∙ ap (λ (n : ℕ). option_or (last_cover is_sure n qs prefix)
      (option_or (last_cover is_sure (at + 1) rs prefix) own)) same)

  -- so the last cover from a position on is that from an earlier one on
  pub earlier : (from at : ℕ) (rules : List Rule) (by : ℕ) → from ≤ at → at ≤ length rules
      → last_cover is_sure at (drop at rules) prefix ≡ Some by
      → last_cover is_sure from (drop from rules) prefix ≡ Some by
  earlier from at rules by before within is =
      let front : List Rule = take (at - from) (drop from rules) in
      let there : from + (at - from) ≡ at = omega arith in
      let parts : drop from rules ≡ front ++ drop at rules =
      sym (ap (λ (qs : List Rule). front ++ qs)
      (sym (drop-drop (at - from) from rules ∙ ap (λ (n : ℕ). drop n rules) there))
      ∙ take-append-drop (at - from) (drop from rules)) in
      let left = length-drop from rules in
      let long : length front ≡ at - from =
      length-take-le (at - from) (drop from rules) (omega (arith, left)) in
      let place : from + length front ≡ at = omega (arith, long) in
      ap (λ (qs : List Rule). last_cover is_sure from qs prefix) parts
      ∙ (last_cover-append from front (drop at rules)
      ∙ (ap (λ (n : ℕ). option_or (last_cover is_sure n (drop at rules) prefix)
      (last_cover is_sure from front prefix)) place
      ∙ ap (λ (x : Option ℕ). option_or x (last_cover is_sure from front prefix)) is))

  module _ (entries : List Entry) (at : ℕ) (e : Entry) (within : at < length entries)
      (is : e ≡ get_or entries at e)
      (none : last_cover is_sure (at + 1) (drop (at + 1) (map rule_of entries)) prefix ≡ None) where
    here : last_cover is_sure at (drop at (map rule_of entries)) prefix
        ≡ (if covers e.prefix prefix && is_sure (value_of e.tree) then Some at else None)
    here = rw (rules_cut entries at e within is, none) refl

    pub is_here : is_sure (value_of e.tree) ≡ true → covers e.prefix prefix ≡ true
        → last_cover is_sure at (drop at (map rule_of entries)) prefix ≡ Some at
    is_here sure cover = here ∙ (rw (cover, sure) refl)

    pub no_cover : covers e.prefix prefix ≡ false
        → last_cover is_sure at (drop at (map rule_of entries)) prefix ≡ None
    no_cover other = here ∙ (rw other refl)

    pub not_sure : is_sure (value_of e.tree) ≡ false
        → last_cover is_sure at (drop at (map rule_of entries)) prefix ≡ None
    not_sure other = here ∙ (rw other (none_either (covers e.prefix prefix) at))

  pub past_all : (entries : List Entry) (at : ℕ) → length entries ≤ at
      → last_cover is_sure at (drop at (map rule_of entries)) prefix ≡ None
  past_all entries at past = rw (rules_end entries at past) refl

-- one entry is looked at
pub hidden_next : (is_sure : TreeValue → Bool) (entries : List Entry) (at : ℕ) (e : Entry)
    (old new : List Hidden) (by : Option ℕ) (total : List Hidden) → at < length entries
    → e ≡ get_or entries at e
    → by ≡ last_cover is_sure (at + 1) (drop (at + 1) (map rule_of entries)) e.prefix
    → new ≡ old ++ hidden_by at by → old ++ hidden_from is_sure at (drop at (map rule_of entries))
    ≡ total
    → new ++ hidden_from is_sure (at + 1) (drop (at + 1) (map rule_of entries)) ≡ total
hidden_next is_sure entries at e old new by total within is found pushed stands =
    let rest : List Hidden = hidden_from is_sure (at + 1) (drop (at + 1) (map rule_of entries)) in
    let cut : hidden_from is_sure at (drop at (map rule_of entries)) ≡ hidden_by at by ++ rest =
    ap (hidden_from is_sure at) (rules_cut entries at e within is)
    ∙ ap (λ (o : Option ℕ). hidden_by at o ++ rest) (sym found) in
    ap (λ (hs : List Hidden). hs ++ rest) pushed
    ∙ (append_assoc old (hidden_by at by) rest
    ∙ (ap (λ (hs : List Hidden). old ++ hs) (sym cut) ∙ stands))

pub hidden_end : (is_sure : TreeValue → Bool) (entries : List Entry) (at : ℕ) (all : List Hidden)
    (total : List Hidden) → length entries ≤ at
    → all ++ hidden_from is_sure at (drop at (map rule_of entries)) ≡ total → all ≡ total
hidden_end is_sure entries at all total past stands = let none =
    ap (hidden_from is_sure at) (rules_end entries at past) in
    sym (append-nil all) ∙ (ap (λ (hs : List Hidden). all ++ hs) (sym none) ∙ stands)

-- one entry is kept or not
pub kept_next : (list : List Hidden) (entries : List Entry) (at : ℕ) (e : Entry)
    (old new : List Rule) (is_hidden : Bool) (total : List Rule) → at < length entries
    → e ≡ get_or entries at e → is_hidden ≡ is_named list at
    → new ≡ old ++ (if is_hidden then [] else rule_of e ∷ [])
    → old ++ without_from at list (drop at (map rule_of entries)) ≡ total
    → new ++ without_from (at + 1) list (drop (at + 1) (map rule_of entries)) ≡ total
kept_next list entries at e old new is_hidden total within is named put stands =
    let rest : List Rule = without_from (at + 1) list (drop (at + 1) (map rule_of entries)) in
    let cut : without_from at list (drop at (map rule_of entries))
    ≡ (if is_hidden then rest else rule_of e ∷ rest) =
    ap (without_from at list) (rules_cut entries at e within is)
    ∙ ap (λ (b : Bool). if b then rest else rule_of e ∷ rest) (sym named) in
    ap (λ (rs : List Rule). rs ++ rest) put
    ∙ (append_assoc old (if is_hidden then [] else rule_of e ∷ []) rest
    ∙ (ap (λ (rs : List Rule). old ++ rs) (one_or_none is_hidden (rule_of e) rest ∙ sym cut)
    ∙ stands))

pub kept_end : (list : List Hidden) (entries : List Entry) (at : ℕ) (all total : List Rule)
    → length entries ≤ at → all ++ without_from at list (drop at (map rule_of entries)) ≡ total
    → all ≡ total
kept_end list entries at all total past stands = let none =
    ap (without_from at list) (rules_end entries at past) in
    sym (append-nil all) ∙ (ap (λ (rs : List Rule). all ++ rs) (sym none) ∙ stands)

pub kept_few : (old new : List Entry) (e : Rule) (is_hidden : Bool) (at : ℕ)
    → map rule_of new ≡ map rule_of old ++ (if is_hidden then [] else e ∷ []) → length old ≤ at
    → length new ≤ at + 1
kept_few old new e is_hidden at put few =
    let all : length new ≡ length old + length (if is_hidden then [] else e ∷ []) =
    sym (length-map new rule_of)
    ∙ (ap length put ∙ (length-append (map rule_of old) (if is_hidden then [] else e ∷ [])
    ∙ ap (λ n. n + length (if is_hidden then [] else e ∷ [])) (length-map old rule_of))) in
    let one = one_at_most is_hidden e in
    omega (arith, all, one, few)

-- one place more is looked at, from the last on
module _ (is_sure : TreeValue → Bool) (prefix : List Pattern) (entries : List Entry)
    (sure : List Bool) (place at : ℕ) (e : Entry) (next : place + 1 ≡ at)
    (within : place < length entries) (is : e ≡ get_or entries place e)
    (are : sure ≡ map (λ e. is_sure (value_of e.tree)) entries)
    (none : last_cover is_sure at (drop at (map rule_of entries)) prefix ≡ None) where
  none_there : last_cover is_sure (place + 1) (drop (place + 1) (map rule_of entries)) prefix ≡ None
  none_there = rw next none

  sure_there : get_or sure place false ≡ is_sure (value_of e.tree)
  sure_there = let f : Entry → Bool = λ e. is_sure (value_of e.tree) in
      ap (λ (bs : List Bool). get_or bs place false) are
      ∙ (get_or-map-at f entries place e false within ∙ ap f (sym is))

  pub cover_found : (from : ℕ) → from ≤ place → get_or sure place false ≡ true
      → covers e.prefix prefix ≡ true → Some place
      ≡ last_cover is_sure from (drop from (map rule_of entries)) prefix
  cover_found from above holds cover =
      let long = length-map entries rule_of in
      sym (earlier is_sure prefix from place (map rule_of entries) place above
      (omega (arith, long))
      (is_here is_sure prefix entries place e within is none_there (sym sure_there ∙ holds) cover))

  pub no_cover_here : covers e.prefix prefix ≡ false
      → last_cover is_sure place (drop place (map rule_of entries)) prefix ≡ None
  no_cover_here other = no_cover is_sure prefix entries place e within is none_there other

  pub not_sure_here : get_or sure place false ≡ false
      → last_cover is_sure place (drop place (map rule_of entries)) prefix ≡ None
  not_sure_here other = not_sure is_sure prefix entries place e within is none_there
      (sym sure_there ∙ other)

-- an entry's position is looked for from a place on
abbrev pub NamedFrom : List Hidden → ℕ → ℕ → Type 0
NamedFrom list at i = is_named list at ≡ is_named (drop i list) at

named_cut : (list : List Hidden) (at i : ℕ) (h : Hidden) → i < length list → h ≡ get_or list i h
    → is_named (drop i list) at ≡ ((h.entry == at) || is_named (drop (i + 1) list) at)
named_cut list at i h within is = rw (drop-cons list i h, ← is, add-one) refl

pub named_here : (list : List Hidden) (at i : ℕ) (h : Hidden) → NamedFrom list at i
    → i < length list → h ≡ get_or list i h → (h.entry == at) ≡ true → true ≡ is_named list at
named_here list at i h from within is same =
    sym (from ∙ (named_cut list at i h within is ∙ (rw same refl)))

pub named_later : (list : List Hidden) (at i : ℕ) (h : Hidden) → NamedFrom list at i
    → i < length list → h ≡ get_or list i h → (h.entry == at) ≡ false → NamedFrom list at (i + 1)
named_later list at i h from within is other = from
    ∙ (named_cut list at i h within is ∙ (rw other refl))

pub named_nowhere : (list : List Hidden) (at i : ℕ) → NamedFrom list at i → length list ≤ i
    → false ≡ is_named list at
named_nowhere list at i from past = let none : drop i list ≡ [] = drop_all i list past in
    sym (from ∙ (rw none refl))

-- which entries are sure, by the rules and by the entries
pub map-trees : (f : TreeValue → Bool) (entries : List Entry)
    → map (λ r. f r.tree) (map rule_of entries) ≡ map (λ e. f (value_of e.tree)) entries
map-trees f [] = refl
map-trees f (e ∷ es) = ap (λ (bs : List Bool). f (value_of e.tree) ∷ bs) (map-trees f es)
