-- A prefix is read as it is spelled, and what was read spells it.
use Rattle.std.proofs.Common.{◌≡◌, ℕ, List, [], ◌∷◌, ◌++◌, true, Option, Some, None, option_map}
use Rattle.std.proofs.Common.{refl, sym, ap, subst, subst₂, ◌∙◌, append_assoc}
use Rattle.std.specs.Prelude.{◌==◌, IfSome, ⊤}
use Rattle.std.proofs.Math.Bool.{true-or}
use Rattle.std.proofs.lemmas.Bool.{eqb-true}
use Rattle.std.proofs.lemmas.List.{append-nil}
use Rattle.std.proofs.lemmas.Option.{none-some, same_Some, option_and_then_some}
use Rattle.std.proofs.lemmas.Option.{MatchOption-at_some}
use Rattle.name_tree.specs.Path.{Label, is_plain}
use Rattle.name_tree.specs.Recogniser.{run}
use Rattle.name_tree.specs.Grammar.{SpellsLabel}
use Rattle.name_tree.specs.LabelReading.{Spelling, next_spelling, end_spelling, is_path_byte}
use Rattle.name_tree.proofs.Answered.{if_test, if_mapped, if_mapped_from}
use Rattle.name_tree.proofs.Labels.{InLabels, label_read, label_ends, spelling_in, spelling_can_end}
use Rattle.name_tree.proofs.Labels.{SpellingFront, spelling_step, spelling_end}
use Rattle.dtab_table.specs.Pattern.{Pattern}
use Rattle.dtab_table.specs.TableGrammar.{SpellsPattern, star, named, SpellsPatterns, pattern}
use Rattle.dtab_table.specs.TableGrammar.{patterns, SpellsPrefix, root, under}
use Rattle.dtab_table.specs.PrefixReading.{PartialPattern, Walk, walk_start, next_pattern}
use Rattle.dtab_table.specs.PrefixReading.{star_behind, next_part, end_part, next_walk}
use Rattle.dtab_table.specs.PrefixReading.{root_patterns, with_last, end_walk, is_prefix_byte}

-- from the spelling to the reading

abbrev pub at_part : List Pattern → PartialPattern → Walk
at_part ps at = record { before = ps; part = at }

abbrev at_bytes : List Pattern → Label → Walk
at_bytes ps l = at_part ps (PartialPattern.label (Spelling.bytes l))

-- in a prefix a label is read as it is read alone
spelling_walk : (s : List ℕ) (ps : List Pattern) (at to : Spelling)
    → run next_spelling at s ≡ Some to → (more : List ℕ)
    → run next_walk (at_part ps (PartialPattern.label at)) (s ++ more)
    ≡ run next_walk (at_part ps (PartialPattern.label to)) more
spelling_walk [] ps at to e more = ap
    (λ x. run next_walk (at_part ps (PartialPattern.label x)) more) (same_Some at to e)
spelling_walk (b ∷ bs) ps at to e more =
    option_and_then_some (λ x. run next_spelling x bs) (next_spelling at b) to e
    (λ via i r. let k = MatchOption-at_some ⊤ (λ _. InLabels b) via i (spelling_in at b) in
    rw (k.slash, k.star, i) (spelling_walk bs ps via to r more))

-- a label or a `*` is read up to its end
record PatternWalked (s : List ℕ) (p : Pattern) : Type 0 where
  part : PartialPattern
  reads : (ps : List Pattern) (more : List ℕ) → run next_walk (at_bytes ps []) (s ++ more)
      ≡ run next_walk (at_part ps part) more
  ends : end_part part ≡ Some p

pattern_walk : {s : List ℕ} {p : Pattern} → SpellsPattern s p → PatternWalked s p
pattern_walk star = record { part = PartialPattern.star; reads = λ ps more. refl; ends = refl }
pattern_walk (named {s = s} {l = l} r) = record {
  part = PartialPattern.label (Spelling.bytes l);
  reads = λ ps more. spelling_walk s ps (Spelling.bytes []) (Spelling.bytes l) (label_read r) more;
  ends = ap (option_map (λ k. Some k)) (label_ends r);
}

slash_walk : (part : PartialPattern) (p : Pattern) → end_part part ≡ Some p
    → (ps : List Pattern) (more : List ℕ)
    → run next_walk (at_part ps part) (47 ∷ more) ≡ run next_walk (at_bytes (ps ++ p ∷ []) []) more
slash_walk part p e ps more = rw e refl

-- labels lead from a `/` to the end of the last one
record Walked (s : List ℕ) (before ps : List Pattern) : Type 0 where
  tail : List ℕ
  head : s ≡ 47 ∷ tail
  front : List Pattern
  part : PartialPattern
  last : Pattern
  same : before ++ ps ≡ front ++ last ∷ []
  reads : (more : List ℕ) → run next_walk (at_bytes before []) (tail ++ more)
      ≡ run next_walk (at_part front part) more
  ends : end_part part ≡ Some last

patterns_walk : {s : List ℕ} {ps : List Pattern} → SpellsPatterns s ps → (before : List Pattern)
    → Walked s before ps
patterns_walk (pattern {s = s} {p = p} r) before =
    let k = pattern_walk r in
    record {
      tail = s;
      head = refl;
      front = before;
      part = k.part;
      last = p;
      same = refl;
      reads =
          λ more. k.reads before more;
      ends = k.ends;
    }
patterns_walk (patterns {s = s} {t = t} {p = p} {ps = ps} r rs) before =
    let k = pattern_walk r in
    let w = patterns_walk rs (before ++ p ∷ []) in
    record {
      tail = s ++ t;
      head = refl;
      front = w.front;
      part = w.part;
      last = w.last;
      same = sym (append_assoc before (p ∷ []) ps) ∙ w.same;
      reads = λ more.
          rw append_assoc
          (k.reads before (t ++ more)
          ∙ (ap (λ u. run next_walk (at_part before k.part) (u ++ more)) w.head
          ∙ (slash_walk k.part p k.ends before (w.tail ++ more) ∙ w.reads more)));
      ends = w.ends;
    }

-- a prefix is read up to a place where it may end
pub record PrefixWalked (s : List ℕ) (ps : List Pattern) : Type 0 where
  pub tail : List ℕ
  pub head : s ≡ 47 ∷ tail
  pub at : Walk
  pub reads : run next_walk walk_start tail ≡ Some at
  pub ends : end_walk at ≡ Some ps

pub prefix_walk : {s : List ℕ} {ps : List Pattern} → SpellsPrefix s ps → PrefixWalked s ps
prefix_walk root = record { tail = []; head = refl; at = walk_start; reads = refl; ends = refl }
prefix_walk (under r) =
    let w = patterns_walk r [] in
    record {
      tail = w.tail;
      head = w.head;
      at = at_part w.front w.part;
      reads = ap (run next_walk walk_start) (sym (append-nil w.tail)) ∙ w.reads [];
      ends = rw w.ends (ap Some (sym w.same));
    }

slash_byte : is_prefix_byte 47 ≡ true
unfolding is_plain
slash_byte = refl

star_byte : is_prefix_byte 42 ≡ true
unfolding is_plain
star_byte = refl

path_prefix : (b : ℕ) → is_path_byte b ≡ true → is_prefix_byte b ≡ true
path_prefix b h = rw h (true-or (b == 42))

part_byte : (at : PartialPattern) (b : ℕ) → IfSome (next_part at b) (λ _. is_prefix_byte b ≡ true)
part_byte (PartialPattern.label at) b =
    if_mapped_from (λ _. is_prefix_byte b ≡ true) (λ _. InLabels b) (λ to. PartialPattern.label to)
    (next_spelling at b) (spelling_in at b) (λ to k. path_prefix b k.path)
part_byte PartialPattern.star b = tt

star_part : (at : PartialPattern) (b : ℕ) → b ≡ 42
    → IfSome (star_behind at) (λ _. is_prefix_byte b ≡ true)
star_part at b e = all (star_behind at)
  where
    all : (o : Option PartialPattern) → IfSome o (λ _. is_prefix_byte b ≡ true)
    all None = tt
    all (Some x) = rw e star_byte

-- a prefix goes on with bytes of prefixes alone
pub walk_byte : (at : Walk) (b : ℕ) → IfSome (next_walk at b) (λ _. is_prefix_byte b ≡ true)
walk_byte at b =
    if_test (λ _. is_prefix_byte b ≡ true) (b == 47) _ _
    (λ h. if_mapped (λ _. is_prefix_byte b ≡ true) (λ p. next_pattern at p) (end_part at.part)
    (λ _ _. rw (eqb-true b 47 h) slash_byte))
    (λ _. if_mapped_from (λ _. is_prefix_byte b ≡ true) (λ _. is_prefix_byte b ≡ true)
    (λ to. record at { part = to }) _
    (if_test (λ _. is_prefix_byte b ≡ true) (b == 42) _ _
    (λ h. star_part at.part b (eqb-true b 42 h)) (λ _. part_byte at.part b)) (λ _ e. e))

-- each place in a prefix can be completed
pub record WalkCanEnd (at : Walk) : Type 0 where
  pub more : List ℕ
  pub to : Walk
  pub patterns : List Pattern
  pub reads : run next_walk at more ≡ Some to
  pub ends : end_walk to ≡ Some patterns

pub walk_can_end : (at : Walk) → WalkCanEnd at
walk_can_end at = go at.before at.part
  where
    go : (ps : List Pattern) (part : PartialPattern) → WalkCanEnd (at_part ps part)
    go ps (PartialPattern.label sp) =
        let k = spelling_can_end sp in
        record {
          more = k.more;
          to = at_bytes ps k.label;
          patterns = ps ++ Some k.label ∷ [];
          reads = ap (run next_walk (at_part ps (PartialPattern.label sp)))
              (sym (append-nil k.more)) ∙ spelling_walk k.more ps sp
              (Spelling.bytes k.label) k.reads [];
          ends = rw k.ends refl;
        }
    go ps PartialPattern.star =
        record {
          more = [];
          to = at_part ps PartialPattern.star;
          patterns = ps ++ None ∷ [];
          reads = refl;
          ends = refl;
        }

-- from the reading to the spelling

patterns_snoc : {s t : List ℕ} {ps : List Pattern} {p : Pattern} → SpellsPatterns s ps
    → SpellsPattern t p → SpellsPatterns (s ++ 47 ∷ t) (ps ++ p ∷ [])
patterns_snoc (pattern r) q = patterns r (pattern q)
patterns_snoc (patterns r rs) q = rw append_assoc (patterns r (patterns_snoc rs q))

-- these bytes begin the spelling of a prefix with these labels
pub record PatternsFront (s : List ℕ) (ps : List Pattern) : Type 0 where
  pub extend : {t : List ℕ} {p : Pattern} → SpellsPattern t p
      → SpellsPatterns (s ++ 47 ∷ t) (ps ++ p ∷ [])
  pub alone : ps ≡ [] → s ≡ []

abbrev pub PartFront : PartialPattern → List ℕ → Type 0
PartFront (PartialPattern.label at) s = SpellingFront at s
PartFront PartialPattern.star s = s ≡ 42 ∷ []

-- the bytes of a prefix up to here
pub record WalkFront (at : Walk) (s : List ℕ) : Type 0 where
  pub front : List ℕ
  pub last : List ℕ
  pub same : s ≡ front ++ 47 ∷ last
  pub before : PatternsFront front at.before
  pub part : PartFront at.part last

not_empty : (ps : List Pattern) (p : Pattern) → ps ++ p ∷ [] ≡ [] → ⊥
not_empty [] p e = cc
not_empty (k ∷ ks) p e = cc

pattern_after : {s t : List ℕ} {ps : List Pattern} {p : Pattern} → PatternsFront s ps
    → SpellsPattern t p → PatternsFront (s ++ 47 ∷ t) (ps ++ p ∷ [])
pattern_after {s} {t} {ps} {p} f r =
    record { extend = λ q. patterns_snoc (f.extend r) q; alone = λ e. absurd (not_empty ps p e) }

named_end : (s : List ℕ) (p : Pattern) (o : Option Label)
    → ((l : Label) → o ≡ Some l → SpellsLabel s l) → option_map (λ l. Some l) o ≡ Some p
    → SpellsPattern s p
named_end s p None f e = absurd (none-some p e)
named_end s p (Some l) f e = subst (λ (q : Pattern). SpellsPattern s q) (same_Some (Some l) p e)
    (named (f l refl))

part_end : (at : PartialPattern) (s : List ℕ) (p : Pattern) → PartFront at s → end_part at ≡ Some p
    → SpellsPattern s p
part_end (PartialPattern.label at) s p f e =
    named_end s p (end_spelling at) (λ l i. spelling_end at s l f i) e
part_end PartialPattern.star s p f e = subst₂ SpellsPattern (sym f) (same_Some None p e) star

star_step : (at : PartialPattern) (s : List ℕ) → PartFront at s → (b : ℕ) → b ≡ 42
    → IfSome (star_behind at) (λ to. PartFront to (s ++ b ∷ []))
star_step (PartialPattern.label (Spelling.bytes [])) s f b e = rw (f, e) refl
star_step (PartialPattern.label (Spelling.bytes (c ∷ cs))) s f b e = tt
star_step (PartialPattern.label (Spelling.escape l)) s f b e = tt
star_step (PartialPattern.label (Spelling.hex l)) s f b e = tt
star_step (PartialPattern.label (Spelling.digit l m)) s f b e = tt
star_step PartialPattern.star s f b e = tt

part_step : (at : PartialPattern) (s : List ℕ) → PartFront at s → (b : ℕ)
    → IfSome (next_part at b) (λ to. PartFront to (s ++ b ∷ []))
part_step (PartialPattern.label at) s f b =
    if_mapped_from (λ to. PartFront to (s ++ b ∷ [])) (λ to. SpellingFront to (s ++ b ∷ []))
    (λ to. PartialPattern.label to) (next_spelling at b) (spelling_step at s f b) (λ to k. k)
part_step PartialPattern.star s f b = tt

pub walk_step : (at : Walk) (s : List ℕ) → WalkFront at s → (b : ℕ)
    → IfSome (next_walk at b) (λ to. WalkFront to (s ++ b ∷ []))
walk_step at s f b =
    if_test (λ to. WalkFront to (s ++ b ∷ [])) (b == 47) _ _
    (λ h. if_mapped (λ to. WalkFront to (s ++ b ∷ [])) (λ p. next_pattern at p) (end_part at.part)
    (λ p e. record {
      front = f.front ++ 47 ∷ f.last;
      last = [];
      same = rw (f.same, eqb-true b 47 h) refl;
      before = pattern_after f.before (part_end at.part f.last p f.part e);
      part = refl;
    }))
    (λ _. if_mapped_from (λ to. WalkFront to (s ++ b ∷ [])) (λ to. PartFront to (f.last ++ b ∷ []))
    (λ to. record at { part = to }) _
    (if_test (λ to. PartFront to (f.last ++ b ∷ [])) (b == 42) _ _
    (λ h. star_step at.part f.last f.part b (eqb-true b 42 h))
    (λ _. part_step at.part f.last f.part b))
    (λ to k. record {
      front = f.front;
      last = f.last ++ b ∷ [];
      same =
          rw f.same (append_assoc f.front (47 ∷ f.last) (b ∷ []));
      before = f.before;
      part = k;
    }))

pub walk_begun : WalkFront walk_start (47 ∷ [])
walk_begun = record {
  front = [];
  last = [];
  same = refl;
  before =
      record { extend = λ q. pattern q; alone = λ _. refl };
  part = refl;
}

root_end : (before : List Pattern) (at : PartialPattern) (s front last : List ℕ)
    (ps : List Pattern) → s ≡ front ++ 47 ∷ last → PatternsFront front before → PartFront at last
    → root_patterns before at ≡ Some ps → SpellsPrefix s ps
root_end [] (PartialPattern.label (Spelling.bytes [])) s front last ps same f g e =
    let whole : s ≡ 47 ∷ [] = rw (same, f.alone refl, g) refl in
    subst₂ SpellsPrefix (sym whole) (same_Some [] ps e) root
root_end [] (PartialPattern.label (Spelling.bytes (b ∷ bs))) s front last ps same f g e =
    absurd (none-some ps e)
root_end [] (PartialPattern.label (Spelling.escape l)) s front last ps same f g e =
    absurd (none-some ps e)
root_end [] (PartialPattern.label (Spelling.hex l)) s front last ps same f g e =
    absurd (none-some ps e)
root_end [] (PartialPattern.label (Spelling.digit l m)) s front last ps same f g e =
    absurd (none-some ps e)
root_end [] PartialPattern.star s front last ps same f g e = absurd (none-some ps e)
root_end (k ∷ ks) at s front last ps same f g e = absurd (none-some ps e)

walk_end_at : (at : Walk) (s : List ℕ) (ps : List Pattern) → WalkFront at s → (o : Option Pattern)
    → end_part at.part ≡ o → with_last at.before at.part o ≡ Some ps → SpellsPrefix s ps
walk_end_at at s ps f None i e = root_end at.before at.part s f.front f.last ps f.same f.before
    f.part e
walk_end_at at s ps f (Some p) i e =
    subst₂ SpellsPrefix (sym f.same) (same_Some (at.before ++ p ∷ []) ps e)
    (under (f.before.extend (part_end at.part f.last p f.part i)))

pub walk_end : (at : Walk) (s : List ℕ) (ps : List Pattern) → WalkFront at s
    → end_walk at ≡ Some ps → SpellsPrefix s ps
walk_end at s ps f e = walk_end_at at s ps f (end_part at.part) refl e
