-- A table is read as it is spelled.
use Rattle.std.proofs.Common.{◌≡◌, ℕ, List, [], ◌∷◌, ◌++◌, true, false, Option, Some, None, refl}
use Rattle.std.proofs.Common.{sym, ap, subst, ◌∙◌, append_assoc}
use Rattle.std.specs.Prelude.{◌==◌, codes, ⊤}
use Rattle.std.specs.Option.{option_and_then}
use Rattle.std.proofs.lemmas.Bool.{eqb-true}
use Rattle.std.proofs.lemmas.List.{append-nil}
use Rattle.std.proofs.lemmas.Option.{none-some, same_Some, option_and_then_some}
use Rattle.std.proofs.lemmas.Option.{MatchOption-at_some}
use Rattle.name_tree.specs.Path.{Labels, is_plain}
use Rattle.name_tree.specs.Value.{TreeValue}
use Rattle.name_tree.specs.Grammar.{AreBlanks, no_blank, blank, TreeText, tree as tree_text}
use Rattle.name_tree.specs.Recogniser.{run, value_from}
use Rattle.name_tree.specs.LabelReading.{is_path_byte}
use Rattle.name_tree.specs.PathReading.{end_walk as end_path_walk}
use Rattle.name_tree.specs.TreeReading.{State as TreeState, Place, Mode as TreeMode, behind_path}
use Rattle.name_tree.specs.TreeReading.{next as next_in_tree, next_state as next_tree}
use Rattle.name_tree.specs.TreeReading.{ended_state as ended_tree}
use Rattle.name_tree.proofs.Bytes.{fails}
use Rattle.name_tree.proofs.Recognisers.{value-append}
use Rattle.name_tree.proofs.TreeLaws.{tree_laws, tree_start}
use Rattle.dtab_table.specs.Pattern.{Pattern}
use Rattle.dtab_table.specs.Rules.{Rule}
use Rattle.dtab_table.specs.TableGrammar.{SpellsEntry, entry, SpellsPlace, nothing, filled}
use Rattle.dtab_table.specs.TableGrammar.{SpellsTable, place, places, DtabText, table}
use Rattle.dtab_table.specs.PrefixReading.{Walk, walk_start, next_walk, end_walk, is_prefix_byte}
use Rattle.dtab_table.specs.TableReading.{Mode, with_rule, next_state, ended_state}
use Rattle.dtab_table.proofs.PrefixWalks.{prefix_walk, walk_byte}
use Rattle.dtab_table.proofs.PrefixLaws.{blank-prefix}

abbrev pub from : List Rule → Mode → List ℕ → Option (List Rule)
from rs m s = value_from next_state ended_state (rs, m) s

-- no tree goes on with `;`

ended_path_none : (p : Place) (w : Option ℕ) (o : Option Labels) → behind_path p w 59 o ≡ None
ended_path_none p w None = refl
ended_path_none p w (Some ls) = refl

other_59 : is_path_byte 59 ≡ false
unfolding is_plain
other_59 = refl

tree_none : (p : Place) (m : TreeMode) → next_in_tree p m 59 ≡ None
tree_none p TreeMode.start = refl
tree_none p (TreeMode.whole n k) = refl
tree_none p (TreeMode.point n) = refl
tree_none p (TreeMode.decimals n u) = refl
tree_none p (TreeMode.weight n) = refl
tree_none p (TreeMode.star n) = refl
tree_none p (TreeMode.walk w at) = rw other_59 (ended_path_none p w (end_path_walk at))
tree_none p TreeMode.behind = refl

pub tree_byte : (q to : TreeState) (b : ℕ) → next_tree q b ≡ Some to → (b == 59) ≡ false
tree_byte q to b e = fails (b == 59)
    (λ h. none-some to (sym (tree_none q.0 q.1)
    ∙ subst (λ (c : ℕ). next_tree q c ≡ Some to) (eqb-true b 59 h) e))

-- blanks

pub blanks_start : {a : List ℕ} → AreBlanks a → (rs : List Rule) (more : List ℕ)
    → from rs Mode.start (a ++ more) ≡ from rs Mode.start more
blanks_start no_blank rs more = refl
blanks_start (blank h r) rs more = rw h (blanks_start r rs more)

blanks_behind : {a : List ℕ} → AreBlanks a → (rs : List Rule) (ps : List Pattern) (more : List ℕ)
    → from rs (Mode.behind ps) (a ++ more) ≡ from rs (Mode.behind ps) more
blanks_behind no_blank rs ps more = refl
blanks_behind (blank h r) rs ps more = rw h (blanks_behind r rs ps more)

-- a prefix and its `=>`

pub walk_in : (rs : List Rule) (s : List ℕ) (at to : Walk) → run next_walk at s ≡ Some to
    → (more : List ℕ) → from rs (Mode.walk at) (s ++ more) ≡ from rs (Mode.walk to) more
walk_in rs [] at to e more = ap (λ x. from rs (Mode.walk x) more) (same_Some at to e)
walk_in rs (b ∷ bs) at to e more =
    option_and_then_some (λ x. run next_walk x bs) (next_walk at b) to e
    (λ via i r. let test : is_prefix_byte b ≡ true =
    MatchOption-at_some ⊤ (λ _. is_prefix_byte b ≡ true) via i (walk_byte at b) in
    rw (test, i) (walk_in rs bs via to r more))

other_61 : is_prefix_byte 61 ≡ false
unfolding is_plain
other_61 = refl

pub to_arrow : {a : List ℕ} → AreBlanks a → (rs : List Rule) (at : Walk) (ps : List Pattern)
    → end_walk at ≡ Some ps → (more : List ℕ)
    → from rs (Mode.walk at) (a ++ 61 ∷ 62 ∷ more) ≡ from rs (Mode.tree ps tree_start) more
to_arrow no_blank rs at ps e more = rw (other_61, e) refl
to_arrow (blank {b = b} h r) rs at ps e more =
    rw (blank-prefix b h, e, h) (blanks_behind r rs ps (61 ∷ 62 ∷ more))

-- a tree

pub tree_in : (rs : List Rule) (ps : List Pattern) (s : List ℕ) (q to : TreeState)
    → run next_tree q s ≡ Some to → (more : List ℕ)
    → from rs (Mode.tree ps q) (s ++ more) ≡ from rs (Mode.tree ps to) more
tree_in rs ps [] q to e more = ap (λ x. from rs (Mode.tree ps x) more) (same_Some q to e)
tree_in rs ps (b ∷ bs) q to e more =
    option_and_then_some (λ x. run next_tree x bs) (next_tree q b) to e
    (λ via i r. let test = tree_byte q via b i in rw (test, i) (tree_in rs ps bs via to r more))

record TreeRead (s : List ℕ) (v : TreeValue) : Type 0 where
  state : TreeState
  reads : run next_tree tree_start s ≡ Some state
  ends : ended_tree state ≡ Some v

tree_read : {s : List ℕ} {v : TreeValue} → TreeText s v → TreeRead s v
tree_read {s} {v} r =
    let whole : option_and_then (λ q. ended_tree q) (run next_tree tree_start s) ≡ Some v
    = sym (value-append next_tree ended_tree s [] tree_start)
    ∙ (ap (value_from next_tree ended_tree tree_start) (append-nil s) ∙ tree_laws.reads s v r) in
    option_and_then_some (λ q. ended_tree q) (run next_tree tree_start s) v whole
    (λ q i e. record { state = q; reads = i; ends = e })

-- what may follow an entry
data Tail : List ℕ → Type 0 where
  at_end : Tail []
  before : {s : List ℕ} → Tail (59 ∷ s)

tree_ends : (rs : List Rule) (ps : List Pattern) (q : TreeState) (v : TreeValue)
    → ended_tree q ≡ Some v → {more : List ℕ} → Tail more
    → from rs (Mode.tree ps q) more ≡ from (with_rule rs ps v) Mode.start more
tree_ends rs ps q v e at_end = rw e refl
tree_ends rs ps q v e before = rw e refl

entry_reads : {s : List ℕ} {r : Rule} → SpellsEntry s r → {a : List ℕ} → AreBlanks a
    → {more : List ℕ} → Tail more → (rs : List Rule)
    → from rs Mode.start (s ++ (a ++ more)) ≡ from (rs ++ r ∷ []) Mode.start more
entry_reads (entry {p = p} {a = a} {b = b} {t = t} {ps = ps} r x y rt) {a = c} z {more} tail rs =
    let w = prefix_walk r in
    let k = tree_read (tree_text y rt z) in
    let whole : p ++ a ++ codes "=>" ++ b ++ t ++ (c ++ more)
    ≡ p ++ (a ++ 61 ∷ 62 ∷ ((b ++ t ++ c) ++ more)) = simp append_assoc in
    ap (from rs Mode.start) (whole ∙ ap (λ u. u ++ (a ++ 61 ∷ 62 ∷ ((b ++ t ++ c) ++ more))) w.head)
    ∙ (walk_in rs w.tail walk_start w.at w.reads (a ++ 61 ∷ 62 ∷ ((b ++ t ++ c) ++ more))
    ∙ (to_arrow x rs w.at ps w.ends ((b ++ t ++ c) ++ more)
    ∙ (tree_in rs ps (b ++ t ++ c) tree_start k.state k.reads more
    ∙ tree_ends rs ps k.state _ k.ends tail)))

place_reads : {s : List ℕ} {ps : List Rule} → SpellsPlace s ps → {a : List ℕ} → AreBlanks a
    → {more : List ℕ} → Tail more → (rs : List Rule)
    → from rs Mode.start (s ++ (a ++ more)) ≡ from (rs ++ ps) Mode.start more
place_reads nothing z {more} tail rs = blanks_start z rs more
    ∙ ap (λ x. from x Mode.start more) (sym (append-nil rs))
place_reads (filled r) z tail rs = entry_reads r z tail rs

table_reads : {s : List ℕ} {qs : List Rule} → SpellsTable s qs → {b : List ℕ} → AreBlanks b
    → (rs : List Rule) → from rs Mode.start (s ++ b) ≡ Some (rs ++ qs)
table_reads (place {s = s} r) {b} z rs = ap (λ u. from rs Mode.start (s ++ u)) (sym (append-nil b))
    ∙ place_reads r z at_end rs
table_reads (places {s = s} {a = a} {b = c} {t = t} {rs = ps} {qs = qs} r x y k) {b} z rs =
    let whole : s ++ a ++ codes ";" ++ c ++ t ++ b ≡ s ++ (a ++ 59 ∷ (c ++ (t ++ b))) =
    simp append_assoc in
    ap (from rs Mode.start) whole
    ∙ (place_reads r x before rs
    ∙ (blanks_start y (rs ++ ps) (t ++ b)
    ∙ (table_reads k z (rs ++ ps) ∙ ap Some (append_assoc rs ps qs))))

pub dtab_reads : {s : List ℕ} {rs : List Rule} → DtabText s rs → from [] Mode.start s ≡ Some rs
dtab_reads (table {a = a} {s = s} {b = b} x r y) =
    ap (from [] Mode.start) (append_assoc a s b) ∙ (blanks_start x [] (s ++ b) ∙ table_reads r y [])
