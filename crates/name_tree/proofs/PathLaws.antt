-- The laws of the recogniser of paths.
use Rattle.std.proofs.Common.{◌≡◌, ℕ, List, [], ◌∷◌, ◌++◌, true, Option, Some, refl, sym, ap, subst}
use Rattle.std.proofs.Common.{◌∙◌, append_assoc}
use Rattle.std.specs.Prelude.{◌==◌, IfSome, ⊤}
use Rattle.std.proofs.lemmas.Bool.{eqb-true}
use Rattle.std.proofs.lemmas.List.{append-nil}
use Rattle.std.proofs.lemmas.Option.{none-some, same_Some, option_and_then_some}
use Rattle.std.proofs.lemmas.Option.{MatchOption-at_some}
use Rattle.name_tree.specs.Path.{Labels}
use Rattle.name_tree.specs.Grammar.{is_blank, AreBlanks, no_blank, blank, SpellsPath, PathText}
use Rattle.name_tree.specs.Grammar.{path}
use Rattle.name_tree.specs.Recogniser.{run, value_from}
use Rattle.name_tree.specs.LabelReading.{is_path_byte}
use Rattle.name_tree.specs.PathReading.{Walk, walk_start, next_walk, end_walk, PathAt, before}
use Rattle.name_tree.specs.PathReading.{inside, behind, next_path, end_path}
use Rattle.name_tree.proofs.Answered.{if_test, if_mapped, if_mapped_from}
use Rattle.name_tree.proofs.Bytes.{blank-path}
use Rattle.name_tree.proofs.Blanks.{blanks_snoc}
use Rattle.name_tree.proofs.Walks.{path_walk, walk_byte, walk_can_end, WalkFront, walk_step}
use Rattle.name_tree.proofs.Walks.{walk_begun, walk_end}
use Rattle.name_tree.specs.Faults.{open_after}
use Rattle.name_tree.proofs.Quiet.{quiet_at, quiet_blank, quiet_path}
use Rattle.name_tree.proofs.Recognisers.{Recognises, completes}
use Rattle.name_tree.proofs.Places.{Counts}

abbrev from : PathAt → List ℕ → Option Labels
from q s = value_from next_path end_path q s

-- from the spelling to the reading

blanks_before : {a : List ℕ} → AreBlanks a → (more : List ℕ)
    → from before (a ++ more) ≡ from before more
blanks_before no_blank more = refl
blanks_before (blank h r) more = rw h (blanks_before r more)

blanks_behind : {a : List ℕ} → AreBlanks a → (ls : Labels) → from (behind ls) a ≡ Some ls
blanks_behind no_blank ls = refl
blanks_behind (blank h r) ls = rw h (blanks_behind r ls)

walk_in : (s : List ℕ) (at to : Walk) → run next_walk at s ≡ Some to → (more : List ℕ)
    → from (inside at) (s ++ more) ≡ from (inside to) more
walk_in [] at to e more = ap (λ x. from (inside x) more) (same_Some at to e)
walk_in (b ∷ bs) at to e more =
    option_and_then_some (λ x. run next_walk x bs) (next_walk at b) to e
    (λ via i r. let test : is_path_byte b ≡ true =
    MatchOption-at_some ⊤ (λ _. is_path_byte b ≡ true) via i (walk_byte at b) in
    rw (test, i) (walk_in bs via to r more))

walk_ends : {a : List ℕ} → AreBlanks a → (at : Walk) (ls : Labels) → end_walk at ≡ Some ls
    → from (inside at) a ≡ Some ls
walk_ends no_blank at ls e = e
walk_ends (blank {b = b} h r) at ls e = rw (blank-path b h, h, e) (blanks_behind r ls)

path_reads : {s : List ℕ} {ls : Labels} → PathText s ls → from before s ≡ Some ls
path_reads (path {a = a} {s = s} {b = b} {ls = ls} x r y) =
    let w = path_walk r in
    let whole : a ++ s ++ b ≡ a ++ (47 ∷ (w.tail ++ b)) =
    append_assoc a s b ∙ ap (λ t. a ++ (t ++ b)) w.head in
    ap (from before) whole
    ∙ (blanks_before x (47 ∷ (w.tail ++ b))
    ∙ (walk_in w.tail walk_start w.at w.reads b ∙ walk_ends y w.at ls w.ends))

-- from the reading to the spelling

record Inside (at : Walk) (s : List ℕ) : Type 0 where
  blanks : List ℕ
  walked : List ℕ
  same : s ≡ blanks ++ walked
  are_blanks : AreBlanks blanks
  walks : WalkFront at walked

record Behind (ls : Labels) (s : List ℕ) : Type 0 where
  blanks : List ℕ
  walked : List ℕ
  after : List ℕ
  same : s ≡ blanks ++ walked ++ after
  are_blanks : AreBlanks blanks
  spells : SpellsPath walked ls
  are_after : AreBlanks after

abbrev Front : PathAt → List ℕ → Type 0
Front before s = AreBlanks s
Front (inside at) s = Inside at s
Front (behind ls) s = Behind ls s

behind_more : (ls : Labels) (s : List ℕ) → Behind ls s → (b : ℕ) → is_blank b ≡ true
    → Behind ls (s ++ b ∷ [])
behind_more ls s f b h = record {
  blanks = f.blanks;
  walked = f.walked;
  after = f.after ++ b ∷ [];
  same = rw f.same (append_assoc (f.blanks ++ f.walked) f.after (b ∷ []));
  are_blanks = f.are_blanks;
  spells = f.spells;
  are_after = blanks_snoc b f.are_after h;
}

walk_ended : (at : Walk) (s : List ℕ) → Inside at s → (ls : Labels) → end_walk at ≡ Some ls
    → Behind ls s
walk_ended at s f ls e = record {
  blanks = f.blanks;
  walked = f.walked;
  after = [];
  same = f.same ∙ sym (append-nil (f.blanks ++ f.walked));
  are_blanks = f.are_blanks;
  spells = walk_end at f.walked ls f.walks e;
  are_after = no_blank;
}

step : (q : PathAt) (s : List ℕ) → Front q s → (b : ℕ)
    → IfSome (next_path q b) (λ to. Front to (s ++ b ∷ []))
step before s f b =
    if_test (λ to. Front to (s ++ b ∷ [])) (is_blank b) _ _ (λ h. blanks_snoc b f h)
    (λ _. if_test (λ to. Front to (s ++ b ∷ [])) (b == 47) _ _
    (λ h. record {
      blanks = s;
      walked = 47 ∷ [];
      same = ap (λ c. s ++ c ∷ []) (eqb-true b 47 h);
      are_blanks = f;
      walks = walk_begun;
    }) (λ _. tt))
step (inside at) s f b =
    if_test (λ to. Front to (s ++ b ∷ [])) (is_path_byte b) _ _
    (λ _. if_mapped_from (λ to. Front to (s ++ b ∷ [])) (λ to. WalkFront to (f.walked ++ b ∷ []))
    (λ to. inside to) (next_walk at b) (walk_step at f.walked f.walks b)
    (λ to k. record {
      blanks = f.blanks;
      walked = f.walked ++ b ∷ [];
      same =
          rw f.same (append_assoc f.blanks f.walked (b ∷ []));
      are_blanks = f.are_blanks;
      walks = k;
    }))
    (λ _. if_test (λ to. Front to (s ++ b ∷ [])) (is_blank b) _ _
    (λ h. if_mapped (λ to. Front to (s ++ b ∷ [])) (λ ls. behind ls) (end_walk at)
    (λ ls e. behind_more ls s (walk_ended at s f ls e) b h)) (λ _. tt))
step (behind ls) s f b = if_test (λ to. Front to (s ++ b ∷ [])) (is_blank b) _ _
    (λ h. behind_more ls s f b h) (λ _. tt)

behind_text : (ls : Labels) (s : List ℕ) → Behind ls s → PathText s ls
behind_text ls s f = subst (λ (t : List ℕ). PathText t ls) (sym f.same)
    (path f.are_blanks f.spells f.are_after)

ends : (q : PathAt) (s : List ℕ) → Front q s → (v : Labels) → end_path q ≡ Some v → PathText s v
ends before s f v e = absurd (none-some v e)
ends (inside at) s f v e = behind_text v s (walk_ended at s f v e)
ends (behind ls) s f v e = subst (λ (k : Labels). PathText s k) (same_Some ls v e)
    (behind_text ls s f)

-- each state can be completed
can_end : (q : PathAt) → (more : List ℕ) × (v : Labels) × (from q more ≡ Some v)
can_end before = (47 ∷ [], [], refl)
can_end (inside at) =
    let k = walk_can_end at in
    (k.more ++ [], k.labels, walk_in k.more at k.to k.reads [] ∙ k.ends)
can_end (behind ls) = ([], ls, refl)

pub path_laws : Recognises next_path end_path before PathText
path_laws = record {
  reads = λ s v r. path_reads r;
  gives = λ s v e. completes next_path end_path (λ q t. Front q t) PathText step ends s before []
      no_blank v e;
  can_end = can_end;
}

-- a path opens no parenthesis
no_depth : (q : PathAt) (b : ℕ) → IfSome (next_path q b) (λ _. 0 ≡ open_after 0 b)
no_depth before b =
    if_test (λ _. 0 ≡ open_after 0 b) (is_blank b) _ _ (λ h. sym (quiet_blank 0 b h))
    (λ _. if_test (λ _. 0 ≡ open_after 0 b) (b == 47) _ _
    (λ h. sym (quiet_at 0 b 47 (eqb-true b 47 h) refl)) (λ _. tt))
no_depth (inside at) b =
    if_test (λ _. 0 ≡ open_after 0 b) (is_path_byte b) _ _
    (λ h. if_mapped (λ _. 0 ≡ open_after 0 b) (λ to. inside to) (next_walk at b)
    (λ _ _. sym (quiet_path 0 b h)))
    (λ _. if_test (λ _. 0 ≡ open_after 0 b) (is_blank b) _ _
    (λ h. if_mapped (λ _. 0 ≡ open_after 0 b) (λ ls. behind ls) (end_walk at)
    (λ _ _. sym (quiet_blank 0 b h))) (λ _. tt))
no_depth (behind ls) b = if_test (λ _. 0 ≡ open_after 0 b) (is_blank b) _ _
    (λ h. sym (quiet_blank 0 b h)) (λ _. tt)

pub path_counts : Counts next_path before (λ _. 0)
path_counts = record { at_start = refl; each = no_depth }
