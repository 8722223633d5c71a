-- A table without its hidden entries may stand in its place.
use Rattle.std.proofs.Common.{◌≡◌, ◌-◌, ◌+◌, ◌≤◌, ◌<◌, ⊎_elim, ◌⊎◌, inl, inr, ℕ, zero, suc, Bool}
use Rattle.std.proofs.Common.{true, false, ◌&&◌, List, [], ◌∷◌, ◌++◌, length, map, drop, min}
use Rattle.std.proofs.Common.{Option, Some, None, refl, sym, ap, ◌∙◌, append_assoc, arith}
use Rattle.std.specs.Prelude.{nat_lt, ◌==◌, if◌then◌else◌, is_some}
use Rattle.std.specs.Option.{option_or, option_to_list}
use Rattle.std.specs.Str.{bytes_eq}
use Rattle.std.proofs.lemmas.Bool.{and_parts, and_from, cases_Bool, ne_eqb, eq-eqb}
use Rattle.std.proofs.lemmas.List.{append-nil}
use Rattle.std.proofs.lemmas.Slice.Eq.{bytes_eq-Decides}
use Rattle.name_tree.specs.Path.{Label, Labels, canon_path}
use Rattle.name_tree.specs.Value.{TreeValue, append_rest}
use Rattle.dtab_index.specs.Index.{fits, matches}
use Rattle.dtab_table.specs.Pattern.{Pattern}
use Rattle.dtab_table.specs.Rules.{Rule}
use Rattle.dtab_table.specs.Dtab.{rewrite, rewrites}
use Rattle.addr_book.specs.Book.{Contents}
use Rattle.addr_book.specs.Namer.{named_in}
use Rattle.bind_core.specs.Delegation.{Told, too_deep, or_else, walk, first_of, named_ending}
use Rattle.bind_core.specs.Delegation.{visited, lookup, told_in, within_width, visits_within}
use Rattle.bind_core.specs.Delegation.{most_deep, most_wide, most_path_bytes}
use Rattle.bind_core.proofs.Narrow.{IsNarrow, lookup-IsNarrow}
use Rattle.dtab_check.specs.declared.hidden_list.Hidden.{Hidden}
use Rattle.dtab_check.specs.Sure.{is_sure}
use Rattle.dtab_check.specs.Hidden.{pattern_covers, covers, last_cover, hidden_by, hidden_from}
use Rattle.dtab_check.specs.Hidden.{hidden_in, is_named, without_from, without}
use Rattle.dtab_check.specs.Laws.{ComesToSame, MayReplace}
use Rattle.dtab_check.proofs.Stopping.{IsStop, first_of-append, first_of-IsStop_left}
use Rattle.dtab_check.proofs.Stopping.{first_of-IsStop_right, first_of-stop, first_of-same}
use Rattle.dtab_check.proofs.Surely.{look, sure_tree-IsStop, rewrites-among, rewrite-matching}
use Rattle.dtab_check.proofs.Surely.{rewrite-other, first_of-one}

equal_labels : (m l k : Label) → bytes_eq m l ≡ true → bytes_eq l k ≡ true → bytes_eq m k ≡ true
equal_labels m l k first second =
    let same : m ≡ l = (bytes_eq-Decides m l).0 first in
    let also : l ≡ k = (bytes_eq-Decides l k).0 second in
    (bytes_eq-Decides m k).1 (same ∙ also)

-- a prefix that covers another matches what that one matches
pattern_covers-fits : (p q : Pattern) (l : Label) → pattern_covers p q ≡ true → fits q l ≡ true
    → fits p l ≡ true
pattern_covers-fits None q l cover h = refl
pattern_covers-fits (Some m) None l cover h = cc
pattern_covers-fits (Some m) (Some k) l cover h = equal_labels m k l cover h

covers-matches : (ps qs : List Pattern) (path : Labels) → covers ps qs ≡ true
    → matches qs path ≡ true → matches ps path ≡ true
covers-matches [] qs path cover h = refl
covers-matches (p ∷ ps) [] path cover h = cc
covers-matches (p ∷ ps) (q ∷ qs) [] cover h = cc
covers-matches (p ∷ ps) (q ∷ qs) (l ∷ ls) cover h =
    let parts = and_parts (fits q l) (matches qs ls) h in
    let covered = and_parts (pattern_covers p q) (covers ps qs) cover in
    and_from (fits p l) (matches ps ls) (pattern_covers-fits p q l covered.0 parts.0)
    (covers-matches ps qs ls covered.1 parts.1)

some_or : {A : Type 0} (x y : Option A) → is_some (option_or x y) ≡ true
    → (is_some x ≡ true) ⊎ (is_some y ≡ true)
some_or None y h = inr h
some_or (Some a) y h = inl refl

if_some : {A : Type 0} (test : Bool) (x : A) → is_some (if test then Some x else None) ≡ true
    → test ≡ true
if_some true x h = refl
if_some false x h = cc

-- the entries that have no cover behind them
module _ (sure : TreeValue → Bool) where
  abbrev pub kept_from : ℕ → List Rule → List Rule
  kept_from at [] = []
  kept_from at (r ∷ rs) = if is_some (last_cover sure (at + 1) rs r.prefix) then kept_from
      (at + 1) rs else r ∷ kept_from (at + 1) rs

  module _ (look : Labels → Told) (narrow : (path : Labels) → IsNarrow (look path))
      (stop : (t : TreeValue) (rest : Labels) → sure t ≡ true
      → IsStop (walk look (append_rest t rest))) (path : Labels) where
    -- a search is stopped by a cover of an entry that matches
    cover-stops : (at : ℕ) (rs : List Rule) (prefix : List Pattern) → matches prefix path ≡ true
        → is_some (last_cover sure at rs prefix) ≡ true → IsStop (first_of look (rewrites rs path))
    cover-stops at [] prefix fit h = cc
    cover-stops at (r ∷ rs) prefix fit h =
        ⊎_elim (λ later. first_of-IsStop_left look (rewrites rs path)
        (option_to_list (rewrite r path)) (cover-stops (at + 1) rs prefix fit later))
        (λ here.
        let parts = and_parts (covers r.prefix prefix) (sure r.tree)
        (if_some (covers r.prefix prefix && sure r.tree) at here) in
        let behind = drop (length r.prefix) path in
        let one = first_of-one look (append_rest r.tree behind) (stop r.tree behind parts.1) in
        let last : IsStop (first_of look (option_to_list (rewrite r path))) =
        rw (rewrite-matching r path (covers-matches r.prefix prefix path parts.0 fit)) one in
        first_of-IsStop_right look narrow (rewrites rs path) (option_to_list (rewrite r path)) last)
        (some_or (last_cover sure (at + 1) rs prefix)
        (if covers r.prefix prefix && sure r.tree then Some at else None) h)

    -- so the search comes to the same without the entries that have one
    hidden-skipped : (at : ℕ) (r : Rule) (rs : List Rule)
        → is_some (last_cover sure at rs r.prefix) ≡ true
        → first_of look (rewrites (r ∷ rs) path) ≡ first_of look (rewrites rs path)
    hidden-skipped at r rs covered =
        ⊎_elim (λ fit. first_of-stop look (rewrites rs path) (option_to_list (rewrite r path))
        (cover-stops at rs r.prefix fit covered))
        (λ other. rw (rewrite-other r path other)
        (ap (first_of look) (append-nil (rewrites rs path))))
        (cases_Bool (matches r.prefix path))

    pub kept_from-same : (at : ℕ) (rs : List Rule)
        → first_of look (rewrites (kept_from at rs) path) ≡ first_of look (rewrites rs path)
    kept_from-same at [] = refl
    kept_from-same at (r ∷ rs) =
        let rest = kept_from-same (at + 1) rs in
        let P : Bool → Type 0 = λ covered. is_some (last_cover sure (at + 1) rs r.prefix) ≡ covered
        → first_of look (rewrites (if covered then kept_from (at + 1) rs else r
        ∷ kept_from (at + 1) rs) path) ≡ first_of look (rewrites (r ∷ rs) path) in
        let each : P (is_some (last_cover sure (at + 1) rs r.prefix)) =
        elim (is_some (last_cover sure (at + 1) rs r.prefix)) as P [
          | true ↦ (λ covered. rest ∙ sym (hidden-skipped (at + 1) r rs covered))
          | false ↦ (λ free.
              let last = option_to_list (rewrite r path) in
              first_of-append look (rewrites (kept_from (at + 1) rs) path) last
              ∙ (ap (λ (t : Told). or_else t (first_of look last)) rest
              ∙ sym (first_of-append look (rewrites rs path) last)))
        ] in
        each refl

-- two lists of rules of which a search comes to the same, with others before them and behind
among : (look : Labels → Told) (front old new back : List Rule) (path : Labels)
    → first_of look (rewrites new path) ≡ first_of look (rewrites old path)
    → first_of look (rewrites (front ++ (new ++ back)) path)
    ≡ first_of look (rewrites (front ++ (old ++ back)) path)
among look front old new back path same =
    let parts : (rules : List Rule) → first_of look (rewrites (front ++ (rules ++ back)) path)
    ≡ or_else (or_else (first_of look (rewrites back path)) (first_of look (rewrites rules path)))
    (first_of look (rewrites front path)) =
    λ rules. ap (first_of look) (rewrites-among front rules back path)
    ∙ (first_of-append look (rewrites back path ++ rewrites rules path) (rewrites front path)
    ∙ ap (λ (t : Told). or_else t (first_of look (rewrites front path)))
    (first_of-append look (rewrites back path) (rewrites rules path))) in
    parts new ∙ (ap (λ (t : Told). or_else (or_else (first_of look (rewrites back path)) t)
    (first_of look (rewrites front path))) same ∙ sym (parts old))

module _ (front rules back : List Rule) (book : Contents) where
  abbrev kept : List Rule
  kept = kept_from (is_sure rules) 0 rules

  abbrev old : List Rule
  old = front ++ (rules ++ back)

  abbrev new : List Rule
  new = front ++ (kept ++ back)

  -- by induction on the lookups that are left
  lookup-same : (left : ℕ) (path : Labels) → lookup new (named_in book) left path
      ≡ lookup old (named_in book) left path
  unfolding lookup
  lookup-same zero path = refl
  lookup-same (suc left) path =
      let before : Labels → Told = lookup old (named_in book) left in
      let after : Labels → Told = lookup new (named_in book) left in
      let found : first_of after (rewrites new path) ≡ first_of before (rewrites old path) =
      first_of-same before after (lookup-same left) (rewrites new path)
      ∙ among before front rules kept back path
      (kept_from-same (is_sure rules) before (lookup-IsNarrow old (named_in book) left)
      (λ t rest sure. sure_tree-IsStop front rules back book left t rest sure) path 0 rules) in
      ap (λ (t : Told). if nat_lt most_path_bytes (length (canon_path path)) then
      (too_deep, []) else visited (most_deep - suc left) path
      (or_else t (named_ending (named_in book path), []))) found

  told-same : (path : Labels) → told_in new (named_in book) path ≡ told_in old (named_in book) path
  told-same path = lookup-same most_deep path

  pub comes_to_same : (path : Labels) → ComesToSame old new (named_in book) path
  comes_to_same path =
      let same = told-same path in
      record {
        outcome = ap within_width same;
        cost = ap (λ (t : Told). min (length t.1) (most_wide + 1)) same;
        asked = ap (λ (t : Told). map (λ v. v.path) t.1) same;
        trace = ap (visits_within most_wide) same;
      }

pub kept_may_replace : (rules : List Rule) → MayReplace rules (kept_from (is_sure rules) 0 rules)
kept_may_replace rules front back book path = comes_to_same front rules back book path

-- the entries that have no cover are those that are not among the hidden ones

-- each stands at a position from this one on; each stands before it
abbrev AreFrom : ℕ → List Hidden → Type 0
AreFrom at [] = Unit {0}
AreFrom at (h ∷ hs) = (at ≤ h.entry) × AreFrom at hs

abbrev AreBefore : ℕ → List Hidden → Type 0
AreBefore at [] = Unit {0}
AreBefore at (h ∷ hs) = (h.entry < at) × AreBefore at hs

not_before : (at : ℕ) (hs : List Hidden) → AreBefore at hs → (more : List Hidden)
    → is_named (hs ++ more) at ≡ is_named more at
not_before at [] before more = refl
not_before at (h ∷ hs) before more = let differs : (h.entry == at) ≡ false =
    ne_eqb h.entry at (λ same. omega (arith, before.0, same)) in
    rw differs (not_before at hs before.1 more)

not_behind : (at : ℕ) (hs : List Hidden) → AreFrom (at + 1) hs → is_named hs at ≡ false
not_behind at [] behind = refl
not_behind at (h ∷ hs) behind = let differs : (h.entry == at) ≡ false =
    ne_eqb h.entry at (λ same. omega (arith, behind.0, same)) in
    rw differs (not_behind at hs behind.1)

from_later : (at : ℕ) (hs : List Hidden) → AreFrom (at + 1) hs → AreFrom at hs
from_later at [] from = tt
from_later at (h ∷ hs) from = (omega (arith, from.0), from_later at hs from.1)

before_more : (at : ℕ) (hs : List Hidden) (by : ℕ) → AreBefore at hs
    → AreBefore (at + 1) (hs ++ record { entry = at; by = by } ∷ [])
before_more at [] by before = (omega arith, tt)
before_more at (h ∷ hs) by before = (omega (arith, before.0), before_more at hs by before.1)

before_later : (at : ℕ) (hs : List Hidden) → AreBefore at hs → AreBefore (at + 1) hs
before_later at [] before = tt
before_later at (h ∷ hs) before = (omega (arith, before.0), before_later at hs before.1)

module _ (sure : TreeValue → Bool) where
  pub hidden-from : (at : ℕ) (rs : List Rule) → AreFrom at (hidden_from sure at rs)
  hidden-from at [] = tt
  hidden-from at (r ∷ rs) =
      elim (last_cover sure (at + 1) rs r.prefix) as (λ o.
      AreFrom at (hidden_by at o ++ hidden_from sure (at + 1) rs)) [
        | None ↦ from_later at (hidden_from sure (at + 1) rs) (hidden-from (at + 1) rs)
        | Some by ↦ (
          omega arith,
          from_later at (hidden_from sure (at + 1) rs)
              (hidden-from (at + 1) rs),
        )
      ]

  without-kept : (at : ℕ) (before : List Hidden) (rs : List Rule) → AreBefore at before
      → without_from at (before ++ hidden_from sure at rs) rs ≡ kept_from sure at rs
  without-kept at before [] are = refl
  without-kept at before (r ∷ rs) are =
      let P : Option ℕ → Type 0 =
      λ o. (if is_named (before ++ (hidden_by at o ++ hidden_from sure (at + 1) rs)) at then
      without_from (at + 1) (before ++ (hidden_by at o ++ hidden_from sure (at + 1) rs)) rs
      else r ∷ without_from (at + 1) (before ++ (hidden_by at o ++ hidden_from sure (at + 1) rs))
      rs) ≡ (if is_some o then kept_from sure (at + 1) rs else r ∷ kept_from sure (at + 1) rs) in
      let each : P (last_cover sure (at + 1) rs r.prefix) =
      elim (last_cover sure (at + 1) rs r.prefix) as P [
        | None ↦
            (let not_named : is_named (before ++ hidden_from sure (at + 1) rs) at ≡ false =
            not_before at before are (hidden_from sure (at + 1) rs)
            ∙ not_behind at (hidden_from sure (at + 1) rs) (hidden-from (at + 1) rs) in
            rw not_named (ap (λ (qs : List Rule). r ∷ qs)
            (without-kept (at + 1) before rs (before_later at before are))))
        | Some by ↦
            (let entry : Hidden = record { entry = at; by = by } in
            let more : List Hidden = hidden_from sure (at + 1) rs in
            let same_at : (at == at) ≡ true = eq-eqb at at refl in
            let named : is_named (before ++ (entry ∷ more)) at ≡ true =
            not_before at before are (entry ∷ more) ∙ (rw same_at refl) in
            let moved : (before ++ entry ∷ []) ++ more ≡ before ++ (entry ∷ more) =
            append_assoc before (entry ∷ []) more in
            rw named (ap (λ (hs : List Hidden). without_from (at + 1) hs rs) (sym moved)
            ∙ without-kept (at + 1) (before ++ entry ∷ []) rs (before_more at before by are)))
      ] in
      each

-- so the table without them may stand in its place
pub without-is-kept : (rules : List Rule) → without (hidden_in rules) rules
    ≡ kept_from (is_sure rules) 0 rules
without-is-kept rules = without-kept (is_sure rules) 0 [] rules tt

pub may_replace : (rules : List Rule) → MayReplace rules (without (hidden_in rules) rules)
may_replace rules = rw (without-is-kept rules) (kept_may_replace rules)
