-- The canonical texts of labels, one behind the other.
use Rattle.std.proofs.Common.{◌≡◌, ℕ, ◌+◌, ◌<◌, ◌≤◌, List, [], ◌∷◌, ◌++◌, length, take, get_or}
use Rattle.std.proofs.Common.{refl, ap, arith, length-append, IsTrue, true, false}
use Rattle.std.proofs.lemmas.List.{take_more, take_all, flat_map_more}
use Rattle.std.proofs.lemmas.List.Concat.{flat_map-cons, flat_map-append}
use Rattle.std.proofs.lemmas.List.Folds.{length-flat_map-take}
use Rattle.std.proofs.lemmas.Option.{get_or_from_slice_get}
use Rattle.std.specs.List.{flat_map}
use Rattle.std.specs.Prelude.{slice_get, Some}
use Rattle.name_tree.specs.Path.{Label, Labels, canon_byte, canon_label, canon_path}

-- the length of a text that is made piece by piece
module _ {A : Type 0} (f : A → List ℕ) where
  pub length_more : (xs : List A) (k : ℕ) (x : A) → k < length xs
      → length (flat_map f (take (k + 1) xs)) ≡ length (flat_map f (take k xs))
      + length (f (get_or xs k x))
  length_more xs k x less =
      rw (take_more xs k x less, flat_map-append, length-append, flat_map-cons)
      (simp length-append (omega arith))

pub label_too_long : (label : Label) (k left most : ℕ) → k < length label
    → left + (1 + length (flat_map canon_byte (take k label))) ≡ most
    → left < length (canon_byte (get_or label k 0)) → most < length (canon_label label)
label_too_long label k left most less stands few =
    omega (arith, length-flat_map-take canon_byte label k 0 less)

pub path_is : (ls : Labels) → 0 < length ls → canon_path ls ≡ flat_map canon_label ls
path_is [] some = absurd (omega arith)
path_is (l ∷ ls) some = refl

nonempty : (ls : Labels) → (ls ≡ [] → IsTrue false) → 0 < length ls
nonempty [] full = absurd (let no : IsTrue false = full refl in cc)
nonempty (l ∷ ls) full = omega arith

module _ (ls : Labels) (k left most : ℕ)
    (stands : left + length (flat_map canon_label (take k ls)) ≡ most) where
  pub path_too_long : (l : Label) → k < length ls → get_or ls k [] ≡ l
      → left < length (canon_label l) → (IsTrue false → length (canon_path ls) ≤ most)
      × (length (canon_path ls) ≤ most → IsTrue false)
  path_too_long l less at few =
      let here : length (canon_label (get_or ls k [])) ≡ length (canon_label l) =
      ap (λ (x : Label). length (canon_label x)) at in (
        λ no. absurd (cc),
        λ fits.
            absurd (omega (
              arith,
              length-flat_map-take canon_label ls k [] less,
              ap length (path_is ls (omega arith)),
            )),
      )

  pub path_fits : (ls ≡ [] → IsTrue false) → length ls ≤ k
      → (IsTrue true → length (canon_path ls) ≤ most)
      × (length (canon_path ls) ≤ most → IsTrue true)
  path_fits full past =
      let some : 0 < length ls = nonempty ls full in
      let all : left + length (flat_map canon_label ls) ≡ most =
      rw (take_all k ls past) at stands in
      (λ _. omega (arith, ap length (path_is ls some)), λ _. refl)

  pub path_more : (more : ℕ) (l : Label) → k < length ls → get_or ls k [] ≡ l
      → more + length (canon_label l) ≡ left
      → more + length (flat_map canon_label (take (k + 1) ls)) ≡ most
  path_more more l less at fits =
      let here : length (canon_label (get_or ls k [])) ≡ length (canon_label l) =
      ap (λ (x : Label). length (canon_label x)) at in
      omega (arith, length_more canon_label ls k [] less)

-- the text of one label more
pub put_more : (new old text : List ℕ) (ls : Labels) (k : ℕ) (l : Label) → k < length ls
    → slice_get ls k ≡ Some l → old ≡ text ++ flat_map canon_label (take k ls)
    → new ≡ old ++ canon_label l → new ≡ text ++ flat_map canon_label (take (k + 1) ls)
put_more new old text ls k l less at stands put =
    let here : get_or ls k l ≡ l = get_or_from_slice_get ls k l l at in
    rw (put, stands, take_more ls k l less, here) (flat_map_more canon_label text (take k ls) l)
