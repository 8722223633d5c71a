-- A path is read as it is spelled, and what was read spells it.
use Rattle.std.proofs.Common.{◌≡◌, ℕ, List, [], ◌∷◌, ◌++◌, true, Option, Some, None, refl, sym, ap}
use Rattle.std.proofs.Common.{subst₂, ◌∙◌, append_assoc}
use Rattle.std.specs.Prelude.{◌==◌, IfSome, ⊤}
use Rattle.std.proofs.lemmas.Bool.{eqb-true}
use Rattle.std.proofs.lemmas.List.{append-nil}
use Rattle.std.proofs.lemmas.Option.{none-some, same_Some, option_and_then_some}
use Rattle.std.proofs.lemmas.Option.{MatchOption-at_some}
use Rattle.name_tree.specs.Path.{Label, Labels, is_plain}
use Rattle.name_tree.specs.Grammar.{SpellsLabel, SpellsLabels, label, labels, SpellsPath, root}
use Rattle.name_tree.specs.Grammar.{under}
use Rattle.name_tree.specs.Recogniser.{run}
use Rattle.name_tree.specs.LabelReading.{Spelling, next_spelling, end_spelling, is_path_byte}
use Rattle.name_tree.specs.PathReading.{Walk, walk_start, next_label, next_walk, root_labels}
use Rattle.name_tree.specs.PathReading.{with_last, end_walk}
use Rattle.name_tree.proofs.Answered.{if_test, if_mapped, if_mapped_from}
use Rattle.name_tree.proofs.Labels.{InLabels, label_read, label_ends, spelling_in, spelling_can_end}
use Rattle.name_tree.proofs.Labels.{SpellingFront, spelling_step, spelling_end}

-- from the spelling to the reading

abbrev pub at_label : Labels → Spelling → Walk
at_label ls at = record { before = ls; label = at }

-- in a path a label is read as it is read alone
spelling_walk : (s : List ℕ) (ls : Labels) (at to : Spelling) → run next_spelling at s ≡ Some to
    → (more : List ℕ)
    → run next_walk (at_label ls at) (s ++ more) ≡ run next_walk (at_label ls to) more
spelling_walk [] ls at to e more = ap (λ x. run next_walk (at_label ls x) more) (same_Some at to e)
spelling_walk (b ∷ bs) ls at to e more =
    option_and_then_some (λ x. run next_spelling x bs) (next_spelling at b) to e
    (λ via i r. let k = MatchOption-at_some ⊤ (λ _. InLabels b) via i (spelling_in at b) in
    rw (k.slash, i) (spelling_walk bs ls via to r more))

label_walk : {s : List ℕ} {l : Label} → SpellsLabel s l → (ls : Labels) (more : List ℕ)
    → run next_walk (at_label ls (Spelling.bytes [])) (s ++ more)
    ≡ run next_walk (at_label ls (Spelling.bytes l)) more
label_walk {s} {l} r ls more = spelling_walk s ls (Spelling.bytes []) (Spelling.bytes l)
    (label_read r) more

slash_walk : {s : List ℕ} {l : Label} → SpellsLabel s l → (ls : Labels) (more : List ℕ)
    → run next_walk (at_label ls (Spelling.bytes l)) (47 ∷ more)
    ≡ run next_walk (at_label (ls ++ l ∷ []) (Spelling.bytes [])) more
slash_walk r ls more = rw (label_ends r) refl

-- labels lead from a `/` to the end of the last one
record Walked (s : List ℕ) (before ls : Labels) : Type 0 where
  tail : List ℕ
  head : s ≡ 47 ∷ tail
  front : Labels
  last : Label
  same : before ++ ls ≡ front ++ last ∷ []
  reads : (more : List ℕ) → run next_walk (at_label before (Spelling.bytes [])) (tail ++ more)
      ≡ run next_walk (at_label front (Spelling.bytes last)) more
  ends : end_spelling (Spelling.bytes last) ≡ Some last

labels_walk : {s : List ℕ} {ls : Labels} → SpellsLabels s ls → (before : Labels)
    → Walked s before ls
labels_walk (label {s = s} {l = l} r) before = record {
  tail = s;
  head = refl;
  front = before;
  last = l;
  same = refl;
  reads = λ more. label_walk r before more;
  ends = label_ends r;
}
labels_walk (labels {s = s} {t = t} {l = l} {ls = ls} r rs) before =
    let w = labels_walk rs (before ++ l ∷ []) in
    record {
      tail = s ++ t;
      head = refl;
      front = w.front;
      last = w.last;
      same = sym (append_assoc before (l ∷ []) ls) ∙ w.same;
      reads = λ more.
          rw append_assoc
          (label_walk r before (t ++ more)
          ∙ (ap (λ u. run next_walk (at_label before (Spelling.bytes l)) (u ++ more)) w.head
          ∙ (slash_walk r before (w.tail ++ more) ∙ w.reads more)));
      ends = w.ends;
    }

-- a path is read up to a place where it may end
pub record PathWalked (s : List ℕ) (ls : Labels) : Type 0 where
  pub tail : List ℕ
  pub head : s ≡ 47 ∷ tail
  pub at : Walk
  pub reads : run next_walk walk_start tail ≡ Some at
  pub ends : end_walk at ≡ Some ls

pub path_walk : {s : List ℕ} {ls : Labels} → SpellsPath s ls → PathWalked s ls
path_walk root = record { tail = []; head = refl; at = walk_start; reads = refl; ends = refl }
path_walk (under r) =
    let w = labels_walk r [] in
    record {
      tail = w.tail;
      head = w.head;
      at = at_label w.front (Spelling.bytes w.last);
      reads = ap (run next_walk walk_start) (sym (append-nil w.tail)) ∙ w.reads [];
      ends = rw w.ends (ap Some (sym w.same));
    }

slash_byte : is_path_byte 47 ≡ true
unfolding is_plain
slash_byte = refl

-- a path goes on with bytes of paths alone
pub walk_byte : (at : Walk) (b : ℕ) → IfSome (next_walk at b) (λ _. is_path_byte b ≡ true)
walk_byte at b =
    if_test (λ _. is_path_byte b ≡ true) (b == 47) _ _
    (λ h. if_mapped (λ _. is_path_byte b ≡ true) (λ l. next_label at l) (end_spelling at.label)
    (λ _ _. rw (eqb-true b 47 h) slash_byte))
    (λ _. if_mapped_from (λ _. is_path_byte b ≡ true) (λ _. InLabels b)
    (λ to. record at { label = to }) (next_spelling at.label b) (spelling_in at.label b)
    (λ to k. k.path))

-- each place in a path can be completed
pub record WalkCanEnd (at : Walk) : Type 0 where
  pub more : List ℕ
  pub to : Walk
  pub labels : Labels
  pub reads : run next_walk at more ≡ Some to
  pub ends : end_walk to ≡ Some labels

pub walk_can_end : (at : Walk) → WalkCanEnd at
walk_can_end at =
    let k = spelling_can_end at.label in
    record {
      more = k.more;
      to = at_label at.before (Spelling.bytes k.label);
      labels = at.before ++ k.label ∷ [];
      reads = ap (run next_walk at) (sym (append-nil k.more))
          ∙ spelling_walk k.more at.before at.label (Spelling.bytes k.label) k.reads [];
      ends = rw k.ends refl;
    }

-- from the reading to the spelling

labels_snoc : {s t : List ℕ} {ls : Labels} {l : Label} → SpellsLabels s ls → SpellsLabel t l
    → SpellsLabels (s ++ 47 ∷ t) (ls ++ l ∷ [])
labels_snoc (label r) q = labels r (label q)
labels_snoc (labels r rs) q = rw append_assoc (labels r (labels_snoc rs q))

-- these bytes begin the spelling of a path with these labels
pub record LabelsFront (s : List ℕ) (ls : Labels) : Type 0 where
  pub extend : {t : List ℕ} {l : Label} → SpellsLabel t l
      → SpellsLabels (s ++ 47 ∷ t) (ls ++ l ∷ [])
  pub alone : ls ≡ [] → s ≡ []

-- the bytes of a path up to here
pub record WalkFront (at : Walk) (s : List ℕ) : Type 0 where
  pub labels : List ℕ
  pub last : List ℕ
  pub same : s ≡ labels ++ 47 ∷ last
  pub before : LabelsFront labels at.before
  pub label : SpellingFront at.label last

not_empty : (ls : Labels) (l : Label) → ls ++ l ∷ [] ≡ [] → ⊥
not_empty [] l e = cc
not_empty (k ∷ ks) l e = cc

label_after : {s t : List ℕ} {ls : Labels} {l : Label} → LabelsFront s ls → SpellsLabel t l
    → LabelsFront (s ++ 47 ∷ t) (ls ++ l ∷ [])
label_after {s} {t} {ls} {l} f r = record
    { extend = λ q. labels_snoc (f.extend r) q; alone = λ e. absurd (not_empty ls l e) }

pub walk_step : (at : Walk) (s : List ℕ) → WalkFront at s → (b : ℕ)
    → IfSome (next_walk at b) (λ to. WalkFront to (s ++ b ∷ []))
walk_step at s f b =
    if_test (λ to. WalkFront to (s ++ b ∷ [])) (b == 47) _ _
    (λ h. if_mapped (λ to. WalkFront to (s ++ b ∷ [])) (λ l. next_label at l)
    (end_spelling at.label)
    (λ l e. record {
      labels = f.labels ++ 47 ∷ f.last;
      last = [];
      same = rw (f.same, eqb-true b 47 h) refl;
      before = label_after f.before (spelling_end at.label f.last l f.label e);
      label = refl;
    }))
    (λ _. if_mapped_from (λ to. WalkFront to (s ++ b ∷ []))
    (λ to. SpellingFront to (f.last ++ b ∷ [])) (λ to. record at { label = to })
    (next_spelling at.label b)
    (spelling_step at.label f.last f.label b)
    (λ to k. record {
      labels = f.labels;
      last = f.last ++ b ∷ [];
      same =
          rw f.same (append_assoc f.labels (47 ∷ f.last) (b ∷ []));
      before = f.before;
      label = k;
    }))

pub walk_begun : WalkFront walk_start (47 ∷ [])
walk_begun = record {
  labels = [];
  last = [];
  same = refl;
  before =
      record { extend = λ q. label q; alone = λ _. refl };
  label = refl;
}

root_end : (before : Labels) (at : Spelling) (s front last : List ℕ) (ls : Labels)
    → s ≡ front ++ 47 ∷ last → LabelsFront front before → SpellingFront at last
    → root_labels before at ≡ Some ls → SpellsPath s ls
root_end [] (Spelling.bytes []) s front last ls same f g e =
    let whole : s ≡ 47 ∷ [] = rw (same, f.alone refl, g) refl in
    subst₂ SpellsPath (sym whole) (same_Some [] ls e) root
root_end [] (Spelling.bytes (b ∷ bs)) s front last ls same f g e = absurd (none-some ls e)
root_end [] (Spelling.escape l) s front last ls same f g e = absurd (none-some ls e)
root_end [] (Spelling.hex l) s front last ls same f g e = absurd (none-some ls e)
root_end [] (Spelling.digit l m) s front last ls same f g e = absurd (none-some ls e)
root_end (k ∷ ks) at s front last ls same f g e = absurd (none-some ls e)

walk_end_at : (at : Walk) (s : List ℕ) (ls : Labels) → WalkFront at s → (o : Option Label)
    → end_spelling at.label ≡ o → with_last at.before at.label o ≡ Some ls → SpellsPath s ls
walk_end_at at s ls f None i e = root_end at.before at.label s f.labels f.last ls f.same f.before
    f.label e
walk_end_at at s ls f (Some l) i e =
    subst₂ SpellsPath (sym f.same) (same_Some (at.before ++ l ∷ []) ls e)
    (under (f.before.extend (spelling_end at.label f.last l f.label i)))

pub walk_end : (at : Walk) (s : List ℕ) (ls : Labels) → WalkFront at s → end_walk at ≡ Some ls
    → SpellsPath s ls
walk_end at s ls f e = walk_end_at at s ls f (end_spelling at.label) refl e
