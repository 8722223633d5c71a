-- Hashes, member by member.
use Rattle.std.proofs.Common.{◌≡◌, ℕ, zero, suc, ◌+◌, ◌<◌, List, [], ◌∷◌, length, map, drop, get_or}
use Rattle.std.proofs.Common.{Some, refl, ap, add-one, drop-cons}
use Rattle.std.specs.List.{slice_get}
use Rattle.std.specs.Prelude.{fold}
use Rattle.std.proofs.lemmas.Option.{none-some, same_Some}
use Rattle.name_tree.specs.Path.{Label, Labels}
use Rattle.bind_cache.specs.Hash.{with_label, with_labels}

pub fold_more : {X Y : Type 0} (f : ℕ → Y → ℕ) (v : X → Y) (xs : List X) (i hash next : ℕ) (x : X)
    → i < length xs → x ≡ get_or xs i x → next ≡ f hash (v x)
    → fold f next (map v (drop (i + 1) xs)) ≡ fold f hash (map v (drop i xs))
fold_more f v xs i hash next x within is mixed = rw (drop-cons xs i x, ← is, add-one, mixed) refl

-- one label of a path more
label_there : (path : Labels) (at : ℕ) (l : Label) → slice_get path at ≡ Some l
    → drop at path ≡ l ∷ drop (suc at) path
label_there [] at l is = absurd (none-some l is)
label_there (x ∷ path) zero l is = ap (λ (y : Label). y ∷ path) (same_Some x l is)
label_there (x ∷ path) (suc at) l is = label_there path at l is

pub label_mixed : (path : Labels) (at hash next : ℕ) (l : Label) → slice_get path at ≡ Some l
    → next ≡ with_label hash l → with_labels next (drop (at + 1) path)
    ≡ with_labels hash (drop at path)
label_mixed path at hash next l is mixed = rw (label_there path at l is, add-one, mixed) refl
