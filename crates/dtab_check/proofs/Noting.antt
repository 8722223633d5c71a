-- Idle branches and leaves that lead to services, one more at a time; texts that are the same, one
-- more at a time; and the notes on a table, entry by entry.
use Rattle.std.proofs.Common.{◌≡◌, ℕ, zero, suc, ◌+◌, ◌<◌, ◌≤◌, Bool, true, false, List, [], ◌∷◌}
use Rattle.std.proofs.Common.{◌++◌, length, map, take, drop, get_or, Option, Some, None, Bor, refl}
use Rattle.std.proofs.Common.{sym, ap, subst, ◌∙◌, ◌-◌, arith, append_assoc, add-one, drop-cons}
use Rattle.std.specs.Prelude.{◌||◌, if◌then◌else◌}
use Rattle.std.specs.Option.{option_or}
use Rattle.std.specs.Str.{bytes_eq}
use Rattle.std.proofs.Math.Bool.{or-false}
use Rattle.std.proofs.lemmas.List.{append-nil, take_more, take_all, map-append, drop-map}
use Rattle.std.proofs.lemmas.List.{length-map, length-drop}
use Rattle.std.proofs.lemmas.Option.{none-some}
use Rattle.name_tree.specs.declared.path.Path.{Path}
use Rattle.name_tree.specs.declared.tree.Tree.{Tree}
use Rattle.name_tree.specs.declared.tree.Branch.{Branch}
use Rattle.name_tree.specs.Path.{Labels}
use Rattle.name_tree.specs.Tree.{value_of, listed}
use Rattle.name_tree.specs.Value.{TreeValue, tree_values}
use Rattle.dtab_table.specs.declared.entry.Entry.{Entry}
use Rattle.dtab_table.specs.Rules.{rule_of}
use Rattle.dtab_table.specs.TableCanon.{canon_rule}
use Rattle.dtab_check.specs.declared.note_list.Note.{Note}
use Rattle.dtab_check.specs.declared.entry_text.EntryText.{EntryText}
use Rattle.dtab_check.specs.Live.{paths_of, some_leaf}
use Rattle.dtab_check.specs.Notes.{leads_to_services, has_idle, some_has_idle, some_is_idle}
use Rattle.dtab_check.specs.Notes.{branch_is_idle, last_same, notes_at, notes_from}
use Rattle.dtab_check.specs.Texts.{texts_in}
use Rattle.dtab_check.proofs.Searching.{rules_cut, rules_end}

or_assoc : (a b c : Bool) → ((a || b) || c) ≡ (a || (b || c))
or_assoc true b c = refl
or_assoc false b c = refl

-- one alternative more
idle-last : (ts : List TreeValue) (t : TreeValue)
    → some_has_idle (tree_values (ts ++ t ∷ []))
    ≡ (some_has_idle (tree_values ts) || has_idle t)
idle-last [] t = or-false (has_idle t)
idle-last (u ∷ us) t =
    ap (λ (s : Bool). has_idle u || s) (idle-last us t)
    ∙ sym (or_assoc (has_idle u) (some_has_idle (tree_values us)) (has_idle t))

abbrev pub front_idle : List Tree → ℕ → Bool
front_idle trees i = some_has_idle (tree_values (map value_of (take i trees)))

pub next_idle : (trees : List Tree) (i : ℕ) (t : Tree) → i < length trees → t ≡ get_or trees i t
    → front_idle trees (i + 1) ≡ (front_idle trees i || has_idle (value_of t))
next_idle trees i t within is =
    let values
    : map value_of (take (i + 1) trees) ≡ map value_of (take i trees) ++ value_of t ∷ [] =
    rw (take_more trees i t within, ← is, map-append) refl in
    rw values (idle-last (map value_of (take i trees)) (value_of t))

-- one branch more
idle_branch-last : (bs : List Branch) (b : Branch)
    → some_is_idle (listed (bs ++ b ∷ [])) ≡ (some_is_idle (listed bs) || branch_is_idle b)
idle_branch-last [] b = or-false (branch_is_idle b)
idle_branch-last (a ∷ bs) b =
    ap (λ (s : Bool). branch_is_idle a || s) (idle_branch-last bs b)
    ∙ sym (or_assoc (branch_is_idle a) (some_is_idle (listed bs)) (branch_is_idle b))

abbrev pub front_idle_branches : List Branch → ℕ → Bool
front_idle_branches bs i = some_is_idle (listed (take i bs))

pub next_idle_branch : (bs : List Branch) (i : ℕ) (b : Branch) → i < length bs
    → b ≡ get_or bs i b
    → front_idle_branches bs (i + 1) ≡ (front_idle_branches bs i || branch_is_idle b)
next_idle_branch bs i b within is =
    let values : take (i + 1) bs ≡ take i bs ++ b ∷ [] = rw (take_more bs i b within, ← is) refl in
    rw values (idle_branch-last (take i bs) b)

-- one leaf more
leads-last : (ls : List Labels) (l : Labels)
    → some_leaf leads_to_services (ls ++ l ∷ [])
    ≡ (some_leaf leads_to_services ls || leads_to_services l)
leads-last [] l = or-false (leads_to_services l)
leads-last (k ∷ ks) l =
    ap (λ (s : Bool). leads_to_services k || s) (leads-last ks l)
    ∙ sym (or_assoc (leads_to_services k) (some_leaf leads_to_services ks) (leads_to_services l))

abbrev pub front_leads : List (Bor Path) → ℕ → Bool
front_leads leaves i = some_leaf leads_to_services (paths_of (take i leaves))

pub next_leads : (leaves : List (Bor Path)) (i : ℕ) (l : Bor Path) → i < length leaves
    → l ≡ get_or leaves i l
    → front_leads leaves (i + 1) ≡ (front_leads leaves i || leads_to_services l.now)
next_leads leaves i l within is =
    let values : paths_of (take (i + 1) leaves) ≡ paths_of (take i leaves) ++ l.now ∷ [] =
    rw (take_more leaves i l within, ← is, map-append) refl in
    rw values (leads-last (paths_of (take i leaves)) l.now)

-- one text more
abbrev pub where_same : List ℕ → List ℕ → ℕ → Option ℕ
where_same t text at = if bytes_eq t text then Some at else None

module _ (text : List ℕ) where
  -- a text that is found among the last ones is the last of all
  same_behind : (first : ℕ) (texts : List EntryText) (at x : ℕ)
      → last_same (first + at) (texts_in (drop at texts)) text ≡ Some x
      → last_same first (texts_in texts) text ≡ Some x
  same_behind first texts zero x is = let same : first + 0 ≡ first = omega arith in rw same at is
  same_behind first [] (suc at) x is = absurd (none-some x is)
  same_behind first (t ∷ ts) (suc at) x is =
      let step : first + suc at ≡ (first + 1) + at = omega arith in
      let own : Option ℕ = where_same t.bytes.items text first in
      ap (λ (o : Option ℕ). option_or o own) (same_behind (first + 1) ts at x (rw step at is))

  pub none_same : (texts : List EntryText) (first at : ℕ) → at ≡ 0
      → last_same (first + at) (texts_in (drop at texts)) text ≡ None
      → None ≡ last_same first (texts_in texts) text
  none_same texts first at start none =
      let P : ℕ → Type 0 = λ n. last_same (first + n) (texts_in (drop n texts)) text ≡ None in
      let same : first + 0 ≡ first = omega arith in
      sym (rw same at (subst P start none))

  module _ (texts : List EntryText) (first at next : ℕ) (t : EntryText) (step : at + 1 ≡ next)
      (within : at < length texts) (is : t ≡ get_or texts at t)
      (none : last_same (first + next) (texts_in (drop next texts)) text ≡ None) where
    from_here : last_same (first + at) (texts_in (drop at texts)) text
        ≡ where_same t.bytes.items text (first + at)
    from_here =
        let rest : drop at texts ≡ t ∷ drop (at + 1) texts =
        rw (drop-cons texts at t within, ← is, add-one) refl in
        let P : ℕ → Type 0 = λ n. last_same (first + n) (texts_in (drop n texts)) text ≡ None in
        let place : (first + at) + 1 ≡ first + (at + 1) = omega arith in
        let own : Option ℕ = where_same t.bytes.items text (first + at) in
        ap (λ (ts : List EntryText). last_same (first + at) (texts_in ts) text) rest
        ∙ ap (λ (o : Option ℕ). option_or o own)
        (ap (λ (n : ℕ). last_same n (texts_in (drop (at + 1) texts)) text) place
        ∙ subst P (sym step) none)

    pub same_found : bytes_eq t.bytes.items text ≡ true
        → Some (first + at) ≡ last_same first (texts_in texts) text
    same_found h =
        sym
        (same_behind first texts at (first + at)
        (from_here ∙ ap (λ (b : Bool). if b then Some (first + at) else None) h))

    pub not_same : bytes_eq t.bytes.items text ≡ false
        → last_same (first + at) (texts_in (drop at texts)) text ≡ None
    not_same h = from_here ∙ ap (λ (b : Bool). if b then Some (first + at) else None) h

-- the notes on one entry
pub notes_next : (entries : List Entry) (at : ℕ) (e : Entry) (old new : List Note)
    (same : Option ℕ) (total : List Note)
    → at < length entries → e ≡ get_or entries at e
    → same
    ≡ last_same (at + 1) (map canon_rule (drop (at + 1) (map rule_of entries)))
    (canon_rule (rule_of e))
    → new ≡ old ++ notes_at at (value_of e.tree) same
    → old ++ notes_from at (drop at (map rule_of entries)) ≡ total
    → new ++ notes_from (at + 1) (drop (at + 1) (map rule_of entries)) ≡ total
notes_next entries at e old new same total within is found pushed stands =
    let tree : TreeValue = value_of e.tree in
    let rest : List Note = notes_from (at + 1) (drop (at + 1) (map rule_of entries)) in
    let cut : notes_from at (drop at (map rule_of entries)) ≡ notes_at at tree same ++ rest =
    ap (notes_from at) (rules_cut entries at e within is)
    ∙ ap (λ (o : Option ℕ). notes_at at tree o ++ rest) (sym found) in
    ap (λ (ns : List Note). ns ++ rest) pushed
    ∙ (append_assoc old (notes_at at tree same) rest
    ∙ (ap (λ (ns : List Note). old ++ ns) (sym cut) ∙ stands))

pub notes_end : (entries : List Entry) (at : ℕ) (all total : List Note) → length entries ≤ at
    → all ++ notes_from at (drop at (map rule_of entries)) ≡ total → all ≡ total
notes_end entries at all total past stands =
    let none = ap (notes_from at) (rules_end entries at past) in
    sym (append-nil all) ∙ (ap (λ (ns : List Note). all ++ ns) (sym none) ∙ stands)

-- the texts of a table are those of its entries
pub texts-long : (texts : List EntryText) (entries : List Entry)
    → texts_in texts ≡ map canon_rule (map rule_of entries) → length texts ≡ length entries
texts-long texts entries are =
    sym (length-map texts (λ text. text.bytes.items))
    ∙ (ap length are ∙ (length-map (map rule_of entries) canon_rule ∙ length-map entries rule_of))

pub text-at : (texts : List EntryText) (entries : List Entry) (at : ℕ) (t : EntryText) (e : Entry)
    → texts_in texts ≡ map canon_rule (map rule_of entries) → at < length entries
    → t ≡ get_or texts at t → e ≡ get_or entries at e → t.bytes.items ≡ canon_rule (rule_of e)
text-at texts [] at t e are within is own = absurd (omega arith)
text-at [] (f ∷ fs) at t e are within is own =
    let long = texts-long [] (f ∷ fs) are in absurd (omega (arith, long))
text-at (s ∷ ss) (f ∷ fs) zero t e are within is own =
    ap (λ (x : EntryText). x.bytes.items) is
    ∙ (ap (λ (xs : List (List ℕ)). get_or xs 0 []) are
    ∙ ap (λ (x : Entry). canon_rule (rule_of x)) (sym own))
text-at (s ∷ ss) (f ∷ fs) (suc at) t e are within is own =
    let rest = ap (λ (xs : List (List ℕ)). drop 1 xs) are in
    text-at ss fs at t e rest (omega arith) is own

pub later_texts : (texts later : List EntryText) (entries : List Entry) (k : ℕ)
    → texts_in texts ≡ map canon_rule (map rule_of entries) → later ≡ drop k texts
    → texts_in later ≡ map canon_rule (drop k (map rule_of entries))
later_texts texts later entries k are is =
    ap texts_in is
    ∙ (sym (drop-map (λ (t : EntryText). t.bytes.items) k texts)
    ∙ (ap (drop k) are ∙ drop-map canon_rule k (map rule_of entries)))

-- what is left of a list behind a place
pub rest_from : {A : Type 0} (n : ℕ) (xs : List A) → take (length xs - n) (drop n xs) ≡ drop n xs
rest_from n xs =
    let left = length-drop n xs in
    take_all (length xs - n) (drop n xs) (omega (arith, left))
