-- The laws of the recogniser of tables.
use Rattle.std.proofs.Common.{◌≡◌, ℕ, List, [], ◌∷◌, ◌++◌, length, true, Option, Some, None}
use Rattle.std.proofs.Common.{option_map, refl, sym, ap, subst, subst₂, ◌∙◌, append_assoc, ⊎_elim}
use Rattle.std.specs.Prelude.{◌==◌, codes, IfSome}
use Rattle.std.specs.Option.{option_and_then}
use Rattle.std.proofs.lemmas.Bool.{eqb-true, or_cases}
use Rattle.std.proofs.lemmas.List.{append-nil}
use Rattle.std.proofs.lemmas.Option.{none-some, same_Some, option_and_then_some}
use Rattle.name_tree.specs.Value.{TreeValue, leaf, BranchValue}
use Rattle.name_tree.specs.Grammar.{is_blank, AreBlanks, no_blank, TreeText, tree as tree_text}
use Rattle.name_tree.specs.Recogniser.{run, value_from}
use Rattle.name_tree.specs.Faults.{open_after}
use Rattle.name_tree.specs.TreeReading.{State as TreeState, Place, Frame, Mode as TreeMode}
use Rattle.name_tree.specs.TreeReading.{end_tree, ended_path, ended as ended_in_tree}
use Rattle.name_tree.specs.TreeReading.{next_state as next_tree, ended_state as ended_tree}
use Rattle.name_tree.specs.PathReading.{end_walk as end_path_walk}
use Rattle.name_tree.specs.Path.{Labels}
use Rattle.name_tree.specs.LabelReading.{is_path_byte}
use Rattle.name_tree.proofs.Answered.{if_test, if_mapped, if_mapped_from}
use Rattle.name_tree.proofs.Blanks.{blanks_snoc}
use Rattle.name_tree.proofs.Quiet.{quiet_at, quiet_blank, quiet_path}
use Rattle.name_tree.proofs.Recognisers.{Recognises, completes, run-append, value-append, one_value}
use Rattle.name_tree.proofs.Places.{Counts}
use Rattle.name_tree.proofs.TreeLaws.{tree_laws, tree_start, tree_counts, tree_depth}
use Rattle.dtab_table.specs.Pattern.{Pattern}
use Rattle.dtab_table.specs.Rules.{Rule}
use Rattle.dtab_table.specs.TableGrammar.{SpellsPrefix, entry, SpellsPlace, nothing, filled}
use Rattle.dtab_table.specs.TableGrammar.{SpellsTable, place, places, DtabText, table}
use Rattle.dtab_table.specs.PrefixReading.{Walk, walk_start, next_walk, end_walk, is_prefix_byte}
use Rattle.dtab_table.specs.TableReading.{Mode, State, with_rule, behind_prefix, behind_walk, next}
use Rattle.dtab_table.specs.TableReading.{next_state, ended, ended_state, table_start, depth_in}
use Rattle.dtab_table.specs.TableReading.{table_depth}
use Rattle.dtab_table.proofs.PrefixWalks.{walk_can_end, WalkFront, walk_step, walk_begun, walk_end}
use Rattle.dtab_table.proofs.TableSpelled.{from, walk_in, to_arrow, tree_in, dtab_reads}

-- a table with blanks round it
data PaddedTable : List ℕ → List Rule → Type 0 where
  padded : {a s b : List ℕ} {rs : List Rule} → AreBlanks a → SpellsTable s rs → AreBlanks b
      → PaddedTable (a ++ (s ++ b)) rs

padded_text : {s : List ℕ} {rs : List Rule} → PaddedTable s rs → DtabText s rs
padded_text (padded {a = a} {s = s} {b = b} {rs = rs} x r y) =
    subst (λ (t : List ℕ). DtabText t rs) (append_assoc a s b) (table x r y)

-- a place with blanks round it
record WholePlace (ps : List Rule) (s : List ℕ) : Type 0 where
  blanks : List ℕ
  text : List ℕ
  after : List ℕ
  same : s ≡ blanks ++ (text ++ after)
  are_blanks : AreBlanks blanks
  spells : SpellsPlace text ps
  are_after : AreBlanks after

place_more : {a t b u : List ℕ} {ps qs : List Rule} → AreBlanks a → SpellsPlace t ps → AreBlanks b
    → PaddedTable u qs → PaddedTable (a ++ (t ++ (b ++ 59 ∷ u))) (ps ++ qs)
place_more {a} {t} {b} {ps = ps} x r y (padded {a = c} {s = s} {b = d} {rs = qs} z k w) =
    let same : (t ++ b ++ codes ";" ++ c ++ s) ++ d ≡ t ++ (b ++ 59 ∷ (c ++ (s ++ d))) =
    simp append_assoc in
    subst (λ (v : List ℕ). PaddedTable (a ++ v) (ps ++ qs)) same (padded x (places r y z k) w)

-- places, each with its `;`
record TableFront (s : List ℕ) (rs : List Rule) : Type 0 where
  extend : {t : List ℕ} {qs : List Rule} → PaddedTable t qs → PaddedTable (s ++ t) (rs ++ qs)

front_more : {s x : List ℕ} {rs ps : List Rule} → TableFront s rs → WholePlace ps x
    → TableFront (s ++ (x ++ 59 ∷ [])) (rs ++ ps)
front_more {s} {x} {rs} {ps} f k = record {
  extend = λ {t = u} {qs} r.
      let same : s ++ (k.blanks ++ (k.text ++ (k.after ++ 59 ∷ u))) ≡ (s ++ (x ++ 59 ∷ [])) ++ u =
      rw k.same (simp append_assoc) in
      subst₂ PaddedTable same (sym (append_assoc rs ps qs))
      (f.extend (place_more k.are_blanks k.spells k.are_after r));
}

front_last : {s x : List ℕ} {rs ps : List Rule} → TableFront s rs → WholePlace ps x
    → DtabText (s ++ x) (rs ++ ps)
front_last {s} {x} {rs} {ps} f k =
    let single : PaddedTable (k.blanks ++ (k.text ++ k.after)) ps =
    padded k.are_blanks (place k.spells) k.are_after in
    padded_text (f.extend (subst (λ (t : List ℕ). PaddedTable t ps) (sym k.same) single))

-- the bytes of an entry up to here

record InWalk (at : Walk) (s : List ℕ) : Type 0 where
  blanks : List ℕ
  prefix : List ℕ
  same : s ≡ blanks ++ prefix
  are_blanks : AreBlanks blanks
  walks : WalkFront at prefix

record BehindPrefix (ps : List Pattern) (s : List ℕ) : Type 0 where
  blanks : List ℕ
  prefix : List ℕ
  after : List ℕ
  same : s ≡ blanks ++ (prefix ++ after)
  are_blanks : AreBlanks blanks
  spells : SpellsPrefix prefix ps
  are_after : AreBlanks after

record InArrow (ps : List Pattern) (s : List ℕ) : Type 0 where
  before : List ℕ
  same : s ≡ before ++ 61 ∷ []
  behind : BehindPrefix ps before

record InTree (ps : List Pattern) (q : TreeState) (s : List ℕ) : Type 0 where
  before : List ℕ
  text : List ℕ
  same : s ≡ before ++ 61 ∷ 62 ∷ text
  behind : BehindPrefix ps before
  reads : run next_tree tree_start text ≡ Some q

abbrev InEntry : Mode → List ℕ → Type 0
InEntry Mode.start s = AreBlanks s
InEntry (Mode.walk at) s = InWalk at s
InEntry (Mode.behind ps) s = BehindPrefix ps s
InEntry (Mode.arrow ps) s = InArrow ps s
InEntry (Mode.tree ps q) s = InTree ps q s

-- the bytes up to here
record Front (rs : List Rule) (m : Mode) (s : List ℕ) : Type 0 where
  front : List ℕ
  rest : List ℕ
  same : s ≡ front ++ rest
  places : TableFront front rs
  entry : InEntry m rest

abbrev Next : List ℕ → ℕ → State → Type 0
Next s b q = Front q.0 q.1 (s ++ b ∷ [])

one_byte : (s front rest : List ℕ) (b : ℕ) → s ≡ front ++ rest
    → s ++ b ∷ [] ≡ front ++ (rest ++ b ∷ [])
one_byte s front rest b e = ap (λ t. t ++ b ∷ []) e ∙ append_assoc front rest (b ∷ [])

-- one byte more of the same entry
goes_on : {rs : List Rule} {m : Mode} {s : List ℕ} (f : Front rs m s) (to : Mode) (b : ℕ)
    → InEntry to (f.rest ++ b ∷ []) → Next s b (rs, to)
goes_on {rs} {m} {s} f to b k = record {
  front = f.front;
  rest = f.rest ++ b ∷ [];
  same = one_byte s f.front f.rest b f.same;
  places =
      f.places;
  entry = k;
}

-- behind a place and its `;`
next_place : {rs ps : List Rule} {m : Mode} {s : List ℕ} (f : Front rs m s) → WholePlace ps f.rest
    → (b : ℕ) → b ≡ 59 → Next s b (rs ++ ps, Mode.start)
next_place {rs} {ps} {m} {s} f k b e = record {
  front = s ++ b ∷ [];
  rest = [];
  same = sym (append-nil (s ++ b ∷ []));
  places =
      let same : f.front ++ (f.rest ++ 59 ∷ []) ≡ s ++ b ∷ [] =
      rw (f.same, e) (simp append_assoc) in
      subst (λ (t : List ℕ). TableFront t (rs ++ ps)) same (front_more f.places k);
  entry = no_blank;
}

empty_place : {s : List ℕ} → AreBlanks s → WholePlace [] s
empty_place {s} x = record {
  blanks = s;
  text = [];
  after = [];
  same = sym (append-nil s);
  are_blanks = x;
  spells = nothing;
  are_after = no_blank;
}

-- a prefix, `=>` and a tree's text are an entry and blanks
filled_place : {s text : List ℕ} {v : TreeValue} (ps : List Pattern) (before : List ℕ)
    → s ≡ before ++ 61 ∷ 62 ∷ text → BehindPrefix ps before → TreeText text v
    → WholePlace (record { prefix = ps; tree = v } ∷ []) s
filled_place {s} ps before same k (tree_text {a = a} {s = t} {b = b} {vs = vs} x r y) = record {
  blanks = k.blanks;
  text = k.prefix ++ k.after ++ codes "=>" ++ a ++ t;
  after = b;
  same = rw (same, k.same) (simp append_assoc);
  are_blanks = k.are_blanks;
  spells = filled (entry k.spells k.are_after x r);
  are_after = y;
}

tree_stands : (text : List ℕ) (q : TreeState) (v : TreeValue)
    → run next_tree tree_start text ≡ Some q → ended_tree q ≡ Some v → TreeText text v
tree_stands text q v e i =
    tree_laws.gives text v (ap (value_from next_tree ended_tree tree_start) (sym (append-nil text))
    ∙ (value-append next_tree ended_tree text [] tree_start
    ∙ (ap (option_and_then (λ to. ended_tree to)) e ∙ i)))

tree_place : {s : List ℕ} {ps : List Pattern} {q : TreeState} → InTree ps q s → (v : TreeValue)
    → ended_tree q ≡ Some v → WholePlace (record { prefix = ps; tree = v } ∷ []) s
tree_place {s} {ps} {q} f v e = filled_place ps f.before f.same f.behind
    (tree_stands f.text q v f.reads e)

-- steps

start_step : {rs : List Rule} {s : List ℕ} → Front rs Mode.start s → (b : ℕ)
    → IfSome (next rs Mode.start b) (Next s b)
start_step {rs} {s} f b =
    if_test (Next s b) (is_blank b) _ _ (λ h. goes_on f Mode.start b (blanks_snoc b f.entry h))
    (λ _. if_test (Next s b) (b == 59) _ _
    (λ h. subst (λ (qs : List Rule). Front qs Mode.start (s ++ b ∷ [])) (append-nil rs)
    (next_place f (empty_place f.entry) b (eqb-true b 59 h)))
    (λ _. if_test (Next s b) (b == 47) _ _
    (λ h. goes_on f (Mode.walk walk_start) b
    (record {
      blanks = f.rest;
      prefix = 47 ∷ [];
      same =
          ap (λ c. f.rest ++ c ∷ []) (eqb-true b 47 h);
      are_blanks = f.entry;
      walks = walk_begun;
    })) (λ _. tt)))

behind_step : {rs : List Rule} {ps : List Pattern} {s : List ℕ} → Front rs (Mode.behind ps) s
    → (b : ℕ) → IfSome (behind_prefix rs ps b) (Next s b)
behind_step {rs} {ps} {s} f b =
    if_test (Next s b) (is_blank b) _ _
    (λ h. goes_on f (Mode.behind ps) b (record {
      blanks = f.entry.blanks;
      prefix = f.entry.prefix;
      after = f.entry.after ++ b ∷ [];
      same = rw f.entry.same (simp append_assoc);
      are_blanks = f.entry.are_blanks;
      spells = f.entry.spells;
      are_after = blanks_snoc b f.entry.are_after h;
    }))
    (λ _. if_test (Next s b) (b == 61) _ _
    (λ h. goes_on f (Mode.arrow ps) b
    (record {
      before = f.rest;
      same = ap (λ c. f.rest ++ c ∷ []) (eqb-true b 61 h);
      behind =
          f.entry;
    })) (λ _. tt))

walk_ends : {rs : List Rule} {at : Walk} {s : List ℕ} → Front rs (Mode.walk at) s
    → (ps : List Pattern) → end_walk at ≡ Some ps → Front rs (Mode.behind ps) s
walk_ends {rs} {at} {s} f ps e = record {
  front = f.front;
  rest = f.rest;
  same = f.same;
  places = f.places;
  entry = record {
    blanks = f.entry.blanks;
    prefix = f.entry.prefix;
    after = [];
    same = f.entry.same ∙ ap (λ t. f.entry.blanks ++ t) (sym (append-nil f.entry.prefix));
    are_blanks = f.entry.are_blanks;
    spells = walk_end at f.entry.prefix ps f.entry.walks e;
    are_after = no_blank;
  };
}

walked_step : {rs : List Rule} {at : Walk} {s : List ℕ} → Front rs (Mode.walk at) s
    → (b : ℕ) (o : Option (List Pattern)) → end_walk at ≡ o → IfSome (behind_walk rs b o) (Next s b)
walked_step f b None e = tt
walked_step f b (Some ps) e = behind_step (walk_ends f ps e) b

walk_in_step : {rs : List Rule} {at : Walk} {s : List ℕ} → Front rs (Mode.walk at) s → (b : ℕ)
    → IfSome (next rs (Mode.walk at) b) (Next s b)
walk_in_step {rs} {at} {s} f b =
    if_test (Next s b) (is_prefix_byte b) _ _
    (λ _. if_mapped_from (Next s b) (λ to. WalkFront to (f.entry.prefix ++ b ∷ []))
    (λ to. (rs, Mode.walk to)) (next_walk at b) (walk_step at f.entry.prefix f.entry.walks b)
    (λ to k. goes_on f (Mode.walk to) b (record {
      blanks = f.entry.blanks;
      prefix = f.entry.prefix ++ b ∷ [];
      same = rw f.entry.same (append_assoc f.entry.blanks f.entry.prefix (b ∷ []));
      are_blanks = f.entry.are_blanks;
      walks = k;
    })))
    (λ _. walked_step f b (end_walk at) refl)

arrow_step : {rs : List Rule} {ps : List Pattern} {s : List ℕ} → Front rs (Mode.arrow ps) s
    → (b : ℕ) → IfSome (next rs (Mode.arrow ps) b) (Next s b)
arrow_step {rs} {ps} {s} f b =
    if_test (Next s b) (b == 62) _ _
    (λ h. goes_on f (Mode.tree ps tree_start) b
    (record {
      before = f.entry.before;
      text = [];
      same =
          rw (f.entry.same, eqb-true b 62 h) (simp append_assoc);
      behind = f.entry.behind;
      reads = refl;
    })) (λ _. tt)

tree_byte_step : {rs : List Rule} {ps : List Pattern} {q : TreeState} {s : List ℕ}
    (f : Front rs (Mode.tree ps q) s) (b : ℕ) (to : TreeState) → next_tree q b ≡ Some to
    → Next s b (rs, Mode.tree ps to)
tree_byte_step {rs} {ps} {q} {s} f b to e =
    goes_on f (Mode.tree ps to) b (record {
      before = f.entry.before;
      text = f.entry.text ++ b ∷ [];
      same = rw f.entry.same (append_assoc f.entry.before (61 ∷ 62 ∷ f.entry.text) (b ∷ []));
      behind = f.entry.behind;
      reads =
          run-append next_tree f.entry.text (b ∷ []) tree_start
          ∙ (ap (option_and_then (λ k. run next_tree k (b ∷ []))) f.entry.reads
          ∙ ap (option_and_then (λ k. run next_tree k [])) e);
    })

tree_step : {rs : List Rule} {ps : List Pattern} {q : TreeState} {s : List ℕ}
    → Front rs (Mode.tree ps q) s → (b : ℕ) → IfSome (next rs (Mode.tree ps q) b) (Next s b)
tree_step {rs} {ps} {q} {s} f b =
    if_test (Next s b) (b == 59) _ _
    (λ h. if_mapped (Next s b) (λ v. (with_rule rs ps v, Mode.start)) (ended_tree q)
    (λ v e. next_place f (tree_place f.entry v e) b (eqb-true b 59 h)))
    (λ _. if_mapped (Next s b) (λ to. (rs, Mode.tree ps to)) (next_tree q b)
    (λ to e. tree_byte_step f b to e))

step : (rs : List Rule) (m : Mode) (s : List ℕ) → Front rs m s → (b : ℕ)
    → IfSome (next rs m b) (Next s b)
step rs Mode.start s f b = start_step f b
step rs (Mode.walk at) s f b = walk_in_step f b
step rs (Mode.behind ps) s f b = behind_step f b
step rs (Mode.arrow ps) s f b = arrow_step f b
step rs (Mode.tree ps q) s f b = tree_step f b

-- the end

last_tree : (rs : List Rule) (ps : List Pattern) (q : TreeState) (s : List ℕ)
    → Front rs (Mode.tree ps q) s → (d : List Rule) (o : Option TreeValue) → ended_tree q ≡ o
    → option_map (λ v. with_rule rs ps v) o ≡ Some d → DtabText s d
last_tree rs ps q s f d None i e = absurd (none-some d e)
last_tree rs ps q s f d (Some v) i e =
    subst₂ DtabText (sym f.same) (same_Some (with_rule rs ps v) d e)
    (front_last f.places (tree_place f.entry v i))

ends : (rs : List Rule) (m : Mode) (s : List ℕ) → Front rs m s → (d : List Rule)
    → ended rs m ≡ Some d → DtabText s d
ends rs Mode.start s f d e = subst₂ DtabText (sym f.same) (append-nil rs ∙ same_Some rs d e)
    (front_last f.places (empty_place f.entry))
ends rs (Mode.walk at) s f d e = absurd (none-some d e)
ends rs (Mode.behind ps) s f d e = absurd (none-some d e)
ends rs (Mode.arrow ps) s f d e = absurd (none-some d e)
ends rs (Mode.tree ps q) s f d e = last_tree rs ps q s f d (ended_tree q) refl e

at_first : Front [] Mode.start []
at_first = record {
  front = [];
  rest = [];
  same = refl;
  places = record { extend = λ r. r };
  entry = no_blank;
}

-- each state can be completed

tree_can_end : (rs : List Rule) (ps : List Pattern) (q : TreeState)
    → (more : List ℕ) × (d : List Rule) × (from rs (Mode.tree ps q) more ≡ Some d)
tree_can_end rs ps q =
    let k = tree_laws.can_end q in
    let whole : option_and_then (λ to. ended_tree to) (run next_tree q k.0) ≡ Some k.1
    = sym (value-append next_tree ended_tree k.0 [] q)
    ∙ (ap (value_from next_tree ended_tree q) (append-nil k.0) ∙ k.2) in
    option_and_then_some (λ to. ended_tree to) (run next_tree q k.0) k.1 whole
    (λ to i e. (
      k.0 ++ [],
      with_rule rs ps k.1,
      tree_in rs ps k.0 q to i []
          ∙ ap (option_map (λ v. with_rule rs ps v)) e,
    ))

can_end : (rs : List Rule) (m : Mode) → (more : List ℕ) × (d : List Rule)
    × (from rs m more ≡ Some d)
can_end rs Mode.start = ([], rs, refl)
can_end rs (Mode.walk at) =
    let k = walk_can_end at in (
      k.more ++ 61 ∷ 62 ∷ 126 ∷ [],
      _,
      walk_in rs k.more at k.to k.reads (61 ∷ 62 ∷ 126 ∷ [])
          ∙ (to_arrow no_blank rs k.to k.patterns k.ends (126 ∷ []) ∙ refl),
    )
can_end rs (Mode.behind ps) = (61 ∷ 62 ∷ 126 ∷ [], _, refl)
can_end rs (Mode.arrow ps) = (62 ∷ 126 ∷ [], _, refl)
can_end rs (Mode.tree ps q) = tree_can_end rs ps q

pub table_laws : Recognises next_state ended_state table_start DtabText
table_laws = record {
  reads = λ s v r. dtab_reads r;
  gives = λ s v e. completes next_state ended_state (λ q t. Front q.0 q.1 t) DtabText
      (λ q t f b. step q.0 q.1 t f b) (λ q t f w i. ends q.0 q.1 t f w i) s table_start [] at_first
      v e;
  can_end = λ q. can_end q.0 q.1;
}

-- the parentheses that are open

flat_end : (fs : List Frame) (vs : List TreeValue) (ps : List BranchValue) (v : TreeValue)
    → end_tree (record { outer = fs; alts = vs; parts = ps }) ≡ Some v → length fs ≡ 0
flat_end [] vs ps v e = refl
flat_end (f ∷ fs) vs ps v e = absurd (none-some v e)

flat_path : (p : Place) (w : Option ℕ) (o : Option Labels) (v : TreeValue)
    → ended_path p w o ≡ Some v → length p.outer ≡ 0
flat_path p w None v e = absurd (none-some v e)
flat_path p w (Some ls) v e = flat_end p.outer p.alts (p.parts ++ (w, leaf ls) ∷ []) v e

-- no parenthesis is open where a tree may end
flat : (p : Place) (m : TreeMode) (v : TreeValue) → ended_in_tree p m ≡ Some v → length p.outer ≡ 0
flat p TreeMode.start v e = absurd (none-some v e)
flat p (TreeMode.whole n k) v e = absurd (none-some v e)
flat p (TreeMode.point n) v e = absurd (none-some v e)
flat p (TreeMode.decimals n u) v e = absurd (none-some v e)
flat p (TreeMode.weight n) v e = absurd (none-some v e)
flat p (TreeMode.star n) v e = absurd (none-some v e)
flat p (TreeMode.walk w at) v e = flat_path p w (end_path_walk at) v e
flat p TreeMode.behind v e = flat_end p.outer p.alts p.parts v e

-- as many parentheses are open as before
abbrev Still : ℕ → ℕ → State → Type 0
Still n b q = table_depth q ≡ open_after n b

quiet_prefix : (n b : ℕ) → is_prefix_byte b ≡ true → open_after n b ≡ n
quiet_prefix n b h = ⊎_elim (λ p. quiet_path n b p) (λ e. quiet_at n b 42 (eqb-true b 42 e) refl)
    (or_cases (is_path_byte b) (b == 42) h)

still_behind : (rs : List Rule) (ps : List Pattern) (b : ℕ)
    → IfSome (behind_prefix rs ps b) (Still 0 b)
still_behind rs ps b =
    if_test (Still 0 b) (is_blank b) _ _ (λ h. sym (quiet_blank 0 b h))
    (λ _. if_test (Still 0 b) (b == 61) _ _ (λ h. sym (quiet_at 0 b 61 (eqb-true b 61 h) refl))
    (λ _. tt))

still_walk : (rs : List Rule) (b : ℕ) (o : Option (List Pattern))
    → IfSome (behind_walk rs b o) (Still 0 b)
still_walk rs b None = tt
still_walk rs b (Some ps) = still_behind rs ps b

step_depth : (rs : List Rule) (m : Mode) (b : ℕ) → IfSome (next rs m b) (Still (depth_in m) b)
step_depth rs Mode.start b =
    if_test (Still 0 b) (is_blank b) _ _ (λ h. sym (quiet_blank 0 b h))
    (λ _. if_test (Still 0 b) (b == 59) _ _ (λ h. sym (quiet_at 0 b 59 (eqb-true b 59 h) refl))
    (λ _. if_test (Still 0 b) (b == 47) _ _ (λ h. sym (quiet_at 0 b 47 (eqb-true b 47 h) refl))
    (λ _. tt)))
step_depth rs (Mode.walk at) b =
    if_test (Still 0 b) (is_prefix_byte b) _ _
    (λ h. if_mapped (Still 0 b) (λ to. (rs, Mode.walk to)) (next_walk at b)
    (λ to _. sym (quiet_prefix 0 b h)))
    (λ _. still_walk rs b (end_walk at))
step_depth rs (Mode.behind ps) b = still_behind rs ps b
step_depth rs (Mode.arrow ps) b = if_test (Still 0 b) (b == 62) _ _
    (λ h. sym (quiet_at 0 b 62 (eqb-true b 62 h) refl)) (λ _. tt)
step_depth rs (Mode.tree ps q) b =
    if_test (Still (tree_depth q) b) (b == 59) _ _
    (λ h. if_mapped (Still (tree_depth q) b) (λ v. (with_rule rs ps v, Mode.start)) (ended_tree q)
    (λ v e. sym (quiet_at (tree_depth q) b 59 (eqb-true b 59 h) refl ∙ flat q.0 q.1 v e)))
    (λ _. if_mapped_from (Still (tree_depth q) b)
    (λ to. tree_depth to ≡ open_after (tree_depth q) b) (λ to. (rs, Mode.tree ps to))
    (next_tree q b) (tree_counts.each q b) (λ to k. k))

pub table_counts : Counts next_state table_start table_depth
table_counts = record { at_start = refl; each = λ q b. step_depth q.0 q.1 b }

pub one_table : (text : List ℕ) (v w : List Rule) → DtabText text v → DtabText text w → v ≡ w
one_table text v w p q = one_value next_state ended_state table_start DtabText table_laws text v w
    p q
