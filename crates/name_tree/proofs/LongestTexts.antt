-- How long the canonical text of a path is at most: four bytes for each byte of its labels.
use Rattle.std.proofs.Common.{◌≡◌, ℕ, ◌+◌, ◌*◌, ◌≤◌, Bool, true, false, List, [], ◌∷◌, ◌++◌, length}
use Rattle.std.proofs.Common.{refl, ap, arith, length-append}
use Rattle.std.proofs.lemmas.List.Concat.{flat_map-cons}
use Rattle.std.specs.List.{concat, flat_map}
use Rattle.name_tree.specs.Path.{Label, Labels, is_plain, canon_byte, canon_label, canon_path}

byte_by : (b : ℕ) (plain : Bool) → is_plain b ≡ plain → length (canon_byte b) ≤ 4
byte_by b true is = rw is (omega arith)
byte_by b false is = rw is (omega arith)

label_most : (l : Label) → length (flat_map canon_byte l) ≤ 4 * length l
label_most [] = omega arith
label_most (b ∷ bs) =
    rw flat_map-cons (omega (
      arith,
      length-append (canon_byte b) (flat_map canon_byte bs),
      byte_by b (is_plain b) refl,
      label_most bs,
    ))

labels_most : (ls : Labels) → length (flat_map canon_label ls) ≤ 4 * length (concat ls) + length ls
labels_most [] = omega arith
labels_most (l ∷ ls) =
    let cons : flat_map canon_label (l ∷ ls) ≡ canon_label l ++ flat_map canon_label ls =
    flat_map-cons canon_label l ls in
    omega (
      arith,
      ap length cons,
      length-append (canon_label l) (flat_map canon_label ls),
      length-append l (concat ls),
      label_most l,
      labels_most ls,
    )

pub path_most : (ls : Labels) → length (canon_path ls) ≤ 4 * length (concat ls) + length ls + 1
path_most [] = omega arith
path_most (l ∷ ls) = omega (arith, labels_most (l ∷ ls))
