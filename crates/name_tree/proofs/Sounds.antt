-- What a text that is not too long stands for is sound.
use Rattle.std.proofs.Common.{◌≡◌, ℕ, suc, ◌+◌, ◌-◌, ◌*◌, ◌/◌, ◌^◌, ◌<◌, ◌≤◌, arith, Bool, true}
use Rattle.std.proofs.Common.{List, [], ◌∷◌, ◌++◌, length, Option, Some, None, refl, ap, ⊎_elim}
use Rattle.std.proofs.Common.{length-append}
use Rattle.std.specs.Prelude.{◌||◌, ◌&&◌, ◌==◌, nat_le, codes, unwrap_or}
use Rattle.std.specs.Char.{is_ascii_alphanumeric}
use Rattle.std.specs.Int.{is_in_range}
use Rattle.std.proofs.lemmas.Bool.{or_cases, and_parts, leb-true, eqb-true}
use Rattle.std.proofs.lemmas.List.Elements.{All-cons, All-nil}
use Rattle.std.proofs.lemmas.Option.{none-some, same_Some}
use Rattle.std.proofs.Math.Nat.{mul-le-mul_right}
use Rattle.name_tree.specs.Path.{Label, Labels, is_plain}
use Rattle.name_tree.specs.Value.{TreeValue, BranchValue, tree_values, branches, lone, one_or_alt}
use Rattle.name_tree.specs.Value.{union_of, one_whole}
use Rattle.name_tree.specs.Grammar.{hex_value, is_digit, AreDigits, no_digit, digit, number}
use Rattle.name_tree.specs.Grammar.{fraction, SpellsByte, plain, escape, SpellsLabel, byte, bytes}
use Rattle.name_tree.specs.Grammar.{SpellsLabels, label, labels, SpellsPath, root, under}
use Rattle.name_tree.specs.Grammar.{SpellsWeight, whole, decimal, SpellsSimple, path, failing}
use Rattle.name_tree.specs.Grammar.{negative, nothing, group, SpellsBranch, bare, weighed}
use Rattle.name_tree.specs.Grammar.{SpellsUnion, branch as one_branch, branches as more_branches}
use Rattle.name_tree.specs.Grammar.{SpellsTree, union as one_union, unions, TreeText, tree}
use Rattle.name_tree.specs.Grammar.{PathText}
use Rattle.name_tree.specs.Canon.{IsSound, AreSound, AreSoundBranches, IsByteLabel, AreByteLabels}
use Rattle.name_tree.specs.Canon.{HasLabels, HaveLabels, BranchesHaveLabels, count_names}
use Rattle.name_tree.specs.Canon.{count_branches, most_members}
use Rattle.name_tree.proofs.Bytes.{chosen}

-- bytes

range_low : (lo hi b : ℕ) → is_in_range lo hi b ≡ true → b ≤ hi
range_low lo hi b h = leb-true b hi (and_parts (nat_le lo b) (nat_le b hi) h).1

alphanumeric_small : (b : ℕ) → is_ascii_alphanumeric b ≡ true → b < 256
alphanumeric_small b h =
    ⊎_elim (λ x. ⊎_elim (λ y. let k = range_low 48 57 b y in omega arith)
    (λ y. let k = range_low 65 90 b y in omega arith)
    (or_cases (is_in_range 48 57 b) (is_in_range 65 90 b) x))
    (λ x. let k = range_low 97 122 b x in omega arith)
    (or_cases (is_in_range 48 57 b || is_in_range 65 90 b) (is_in_range 97 122 b) h)

other_small : (p : Bool) (b c : ℕ) → c < 256 → (p ≡ true → b < 256) → (p || b == c) ≡ true → b < 256
other_small p b c small f h = ⊎_elim f (λ e. let k = eqb-true b c e in omega arith)
    (or_cases p (b == c) h)

plain_small : (b : ℕ) → is_plain b ≡ true → b < 256
unfolding is_plain
plain_small b h =
    other_small _ b 45 (omega arith)
    (other_small _ b 37 (omega arith)
    (other_small _ b 36 (omega arith) (other_small _ b 35 (omega arith)
    (other_small _ b 46 (omega arith)
    (other_small _ b 58 (omega arith)
    (other_small _ b 95 (omega arith) (alphanumeric_small b))))))) h

hex_small : (b n : ℕ) → hex_value b ≡ Some n → n < 16
hex_small b n h =
    ⊎_elim (λ d. let k = range_low 48 57 b d.0 in let e = same_Some (b - 48) n d.1 in omega arith)
    (λ d. ⊎_elim (λ u. let k = leb-true b 70 (and_parts (nat_le 65 b) (nat_le b 70) u.0).1 in
    let e = same_Some (b - 55) n u.1 in omega arith)
    (λ u. ⊎_elim (λ l. let k = leb-true b 102 (and_parts (nat_le 97 b) (nat_le b 102) l.0).1 in
    let e = same_Some (b - 87) n l.1 in omega arith)
    (λ l. absurd (none-some n l.1)) (chosen (nat_le 97 b && nat_le b 102) _ _ (Some n) u.1))
    (chosen (nat_le 65 b && nat_le b 70) _ _ (Some n) d.1))
    (chosen (is_digit b) _ _ (Some n) h)

-- labels

byte_small : {s : List ℕ} {b : ℕ} → SpellsByte s b → b < 256
byte_small (plain {b = b} h) = plain_small b h
byte_small (escape {h = x} {l = y} {m = m} {n = n} p q) = let i = hex_small x m p in
    let j = hex_small y n q in omega arith

pub label_is : {s : List ℕ} {l : Label} → SpellsLabel s l → IsByteLabel l
label_is (byte {b = b} r) =
    (omega arith, All-cons (λ c. c < 256) b [] (byte_small r) (All-nil (λ c. c < 256)))
label_is (bytes {b = b} {l = l} r rs) =
    (omega arith, All-cons (λ c. c < 256) b l (byte_small r) (label_is rs).1)

labels_are : {s : List ℕ} {ls : Labels} → SpellsLabels s ls → AreByteLabels ls
labels_are (label r) = (label_is r, tt)
labels_are (labels r rs) = (label_is r, labels_are rs)

pub path_labels : {s : List ℕ} {ls : Labels} → SpellsPath s ls → AreByteLabels ls
path_labels root = tt
path_labels (under r) = labels_are r

-- weights

pub path_text_labels : {s : List ℕ} {ls : Labels} → PathText s ls → AreByteLabels ls
path_text_labels (PathText.path a s b) = path_labels s

digit_small : (d : ℕ) → is_digit d ≡ true → d - 48 ≤ 9
digit_small d h = let k = range_low 48 57 d h in omega arith

number_small : {ds : List ℕ} → AreDigits ds → length ds ≤ 6 → number 0 ds < 1000000
number_small no_digit few = omega arith
number_small (digit {b = a} ha no_digit) few = let ka = digit_small a ha in omega arith
number_small (digit {b = a} ha (digit {b = b} hb no_digit)) few = let ka = digit_small a ha in
    let kb = digit_small b hb in omega arith
number_small (digit {b = a} ha (digit {b = b} hb (digit {b = c} hc no_digit))) few = let ka =
    digit_small a ha in let kb = digit_small b hb in let kc = digit_small c hc in omega arith
number_small (digit {b = a} ha (digit {b = b} hb (digit {b = c} hc (digit {b = d} hd no_digit))))
    few = let ka = digit_small a ha in let kb = digit_small b hb in let kc = digit_small c hc in
    let kd = digit_small d hd in omega arith
number_small (digit {b = a} ha
    (digit {b = b} hb (digit {b = c} hc (digit {b = d} hd (digit {b = e} he no_digit))))) few =
    let ka = digit_small a ha in let kb = digit_small b hb in let kc = digit_small c hc in
    let kd = digit_small d hd in let ke = digit_small e he in omega arith
number_small (digit {b = a} ha
    (digit {b = b} hb (digit {b = c} hc
    (digit {b = d} hd (digit {b = e} he (digit {b = f} hf no_digit)))))) few = let ka =
    digit_small a ha in let kb = digit_small b hb in let kc = digit_small c hc in
    let kd = digit_small d hd in let ke = digit_small e he in let kf = digit_small f hf in
    omega arith
number_small (digit h0 (digit h1 (digit h2 (digit h3 (digit h4 (digit h5 (digit h6 r))))))) few =
    absurd (omega arith)

fraction_small : {ds : List ℕ} → AreDigits ds → (u : ℕ) → fraction u ds ≤ 10 * u - 1
fraction_small no_digit u = omega arith
fraction_small (digit {b = d} h r) u =
    let rest = fraction_small r (u / 10) in
    let most : (d - 48) * u ≤ 9 * u = mul-le-mul_right u (digit_small d h) in
    omega arith

weight_small : {s : List ℕ} {n : ℕ} → SpellsWeight s n → n < 10 ^ 12
weight_small (whole r some few) = let k = number_small r few in omega arith
weight_small (decimal r few q some) = let k = number_small r few in
    let j = fraction_small q 100000 in omega arith

-- trees

abbrev WeightIsSmall : Option ℕ → Type 0
WeightIsSmall None = Unit {0}
WeightIsSmall (Some n) = n < 10 ^ 12

record SoundName (v : TreeValue) : Type 0 where
  sound : IsSound v
  labels : HasLabels v

record SoundPart (p : BranchValue) : Type 0 where
  weight : WeightIsSmall p.0
  tree : SoundName p.1

abbrev SoundParts : List BranchValue → Type 0
SoundParts [] = Unit {0}
SoundParts (p ∷ ps) = SoundPart p × SoundParts ps

abbrev SoundNames : List TreeValue → Type 0
SoundNames [] = Unit {0}
SoundNames (v ∷ vs) = SoundName v × SoundNames vs

kept_small : (w : Option ℕ) → WeightIsSmall w → unwrap_or w one_whole < 10 ^ 12
kept_small None h = omega arith
kept_small (Some n) h = h

branches_sound : (ps : List BranchValue) → SoundParts ps
    → AreSoundBranches (branches ps) × BranchesHaveLabels (branches ps)
    × (count_branches (branches ps) ≡ length ps)
branches_sound [] h = (tt, tt, refl)
branches_sound (p ∷ ps) h =
    let k = branches_sound ps h.1 in
    let count = k.2 in
    ((kept_small p.0 h.0.weight, h.0.tree.sound, k.0), (h.0.tree.labels, k.1), omega arith)

names_sound : (vs : List TreeValue) → SoundNames vs
    → AreSound (tree_values vs) × HaveLabels (tree_values vs)
    × (count_names (tree_values vs) ≡ length vs)
names_sound [] h = (tt, tt, refl)
names_sound (v ∷ vs) h =
    let k = names_sound vs h.1 in
    let count = k.2 in
    ((h.0.sound, k.0), (h.0.labels, k.1), omega arith)

lone_sound : (w : Option ℕ) (v : TreeValue) → WeightIsSmall w → SoundName v → SoundName (lone w v)
lone_sound None v h k = k
lone_sound (Some n) v h k =
    record { sound = (omega arith, omega arith, (h, k.sound, tt)); labels = (k.labels, tt) }

union_sound : (ps : List BranchValue) → SoundParts ps → 1 ≤ length ps → length ps ≤ most_members
    → SoundName (union_of ps)
union_sound [] h some few = absurd (omega arith)
union_sound (p ∷ []) h some few = lone_sound p.0 p.1 h.0.weight h.0.tree
union_sound (p ∷ q ∷ ps) h some few =
    let k = branches_sound (p ∷ q ∷ ps) h in
    let count = k.2 in
    record { sound = (omega arith, omega arith, k.0); labels = k.1 }

choice_sound : (vs : List TreeValue) → SoundNames vs → 1 ≤ length vs → length vs ≤ most_members
    → SoundName (one_or_alt vs)
choice_sound [] h some few = absurd (omega arith)
choice_sound (v ∷ []) h some few = h.0
choice_sound (v ∷ u ∷ vs) h some few =
    let k = names_sound (v ∷ u ∷ vs) h in
    let count = k.2 in
    record { sound = (omega arith, omega arith, k.0); labels = k.1 }

-- what a text that is not too long spells

record SimpleIs (s : List ℕ) (v : TreeValue) : Type 0 where
  some : 1 ≤ length s
  sound : length s ≤ most_members → SoundName v

record BranchIs (s : List ℕ) (p : BranchValue) : Type 0 where
  some : 1 ≤ length s
  sound : length s ≤ most_members → SoundPart p

record UnionIs (s : List ℕ) (ps : List BranchValue) : Type 0 where
  some : 1 ≤ length ps
  few : length ps ≤ length s
  sound : length s ≤ most_members → SoundParts ps

record TreeIs (s : List ℕ) (vs : List TreeValue) : Type 0 where
  some : 1 ≤ length vs
  few : length vs ≤ length s
  sound : length s ≤ most_members → SoundNames vs

record TextIs (s : List ℕ) (v : TreeValue) : Type 0 where
  sound : length s ≤ most_members → SoundName v

-- the length of five pieces
pub five : (a b c d e : List ℕ) → length (a ++ b ++ c ++ d ++ e)
    ≡ length a + (length b + (length c + (length d + length e)))
five a b c d e = simp (length-append) (omega arith)

path_some : {s : List ℕ} {ls : Labels} → SpellsPath s ls → 1 ≤ length s
path_some root = omega arith
path_some (under (label r)) = omega arith
path_some (under (labels r rs)) = omega arith

mutual
  simple_is : {s : List ℕ} {v : TreeValue} → SpellsSimple s v → SimpleIs s v
  simple_is (path r) = record {
    some = path_some r;
    sound =
        λ _. record { sound = tt; labels = path_labels r };
  }
  simple_is failing = record { some = omega arith; sound = λ _. record { sound = tt; labels = tt } }
  simple_is negative = record {
    some = omega arith;
    sound =
        λ _. record { sound = tt; labels = tt };
  }
  simple_is nothing = record { some = omega arith; sound = λ _. record { sound = tt; labels = tt } }
  simple_is (group {s = s} r) =
      let k = text_is r in
      let longer : length (40 ∷ s ++ 41 ∷ []) ≡ suc (length s + 1) =
      ap suc (length-append s (41 ∷ [])) in
      record { some = omega arith; sound = λ h. k.sound (omega arith) }

  branch_is : {s : List ℕ} {p : BranchValue} → SpellsBranch s p → BranchIs s p
  branch_is (bare r) = let k = simple_is r in
      record { some = k.some; sound = λ h. record { weight = tt; tree = k.sound h } }
  branch_is (weighed {w = w} {a = a} {b = b} {s = s} q x y r) =
      let k = simple_is r in
      let some = k.some in
      let longer = five w a (codes "*") b s in
      record {
        some = omega arith;
        sound =
            λ h. record { weight = weight_small q; tree = k.sound (omega arith) };
      }

  union_is : {s : List ℕ} {ps : List BranchValue} → SpellsUnion s ps → UnionIs s ps
  union_is (one_branch r) = let k = branch_is r in let some = k.some in
      record { some = omega arith; few = omega arith; sound = λ h. (k.sound h, tt) }
  union_is (more_branches {s = s} {a = a} {b = b} {t = t} r x y rs) =
      let k = branch_is r in
      let ks = union_is rs in
      let some = k.some in
      let few = ks.few in
      let longer = five s a (codes "&") b t in
      record {
        some = omega arith;
        few = omega arith;
        sound =
            λ h. (k.sound (omega arith), ks.sound (omega arith));
      }

  tree_is : {s : List ℕ} {vs : List TreeValue} → SpellsTree s vs → TreeIs s vs
  tree_is (one_union {s = s} {ps = ps} r) =
      let k = union_is r in
      let some = k.some in
      let few = k.few in
      record {
        some = omega arith;
        few = omega arith;
        sound =
            λ h. (union_sound ps (k.sound h) k.some (omega arith), tt);
      }
  tree_is (unions {s = s} {a = a} {b = b} {t = t} {ps = ps} r x y rs) =
      let k = union_is r in
      let ks = tree_is rs in
      let some = k.some in
      let few = k.few in
      let fews = ks.few in
      let longer = five s a (codes "|") b t in
      record {
        some = omega arith;
        few = omega arith;
        sound =
            λ h. (
              union_sound ps (k.sound (omega arith)) k.some (omega arith),
              ks.sound (omega arith),
            );
      }

  text_is : {s : List ℕ} {v : TreeValue} → TreeText s v → TextIs s v
  text_is (tree {a = a} {s = s} {b = b} {vs = vs} x r y) =
      let k = tree_is r in
      let few = k.few in
      let longer : length (a ++ s ++ b) ≡ length a + length s + length b = simp length-append in
      record { sound = λ h. choice_sound vs (k.sound (omega arith)) k.some (omega arith) }

-- what a text that is not too long stands for is sound, and its labels are labels
pub text_sound : {s : List ℕ} {v : TreeValue} → TreeText s v → length s ≤ most_members → IsSound v
text_sound r h = ((text_is r).sound h).sound

pub text_labels : {s : List ℕ} {v : TreeValue} → TreeText s v → length s ≤ most_members
    → HasLabels v
text_labels r h = ((text_is r).sound h).labels
