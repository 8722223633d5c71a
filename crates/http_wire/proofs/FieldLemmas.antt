-- What is told of the fields of one name.
use Rattle.std.proofs.Common.{◌≡◌, ◌≤◌, ◌&&◌, eqb, ltb, codes, arith, All, ℕ, Bool, true, false}
use Rattle.std.proofs.Common.{List, [], ◌∷◌, length, refl, sym, ap, ◌∙◌, Option, Some, None, cond}
use Rattle.std.proofs.Common.{map, filter, find}
use Rattle.std.specs.List.{count_by, slice_get, list_all, slice_split, before_first}
use Rattle.std.specs.List.{position_or_len}
use Rattle.std.specs.Option.{option_map, option_and_then}
use Rattle.std.proofs.lemmas.Bool.Decides.{nat_tests}
use Rattle.std.proofs.lemmas.List.{take_all}
use Rattle.std.proofs.lemmas.List.Folds.{list_all-append, list_all-map}
use Rattle.std.proofs.lemmas.List.Sums.{fails_before_first}
use Rattle.std.proofs.lemmas.List.Splits.{slice_split_first, slice_split_none}
use Rattle.httparse.specs.Ascii.{comma}
use Rattle.httparse.specs.Grammar.{trim_ows}
use Rattle.std.proofs.lemmas.List.Sums.{length-filter}
use Rattle.std.proofs.lemmas.List.{length-map}
use Rattle.std.proofs.lemmas.Option.{slice_get-map}
use Rattle.http_wire.specs.declared.head.Field.{Field}
use Rattle.http_wire.specs.Fields.{is_named, values_of}
use Rattle.http_wire.specs.Framing.{agreed, first_number, pieces_of, says}

-- the fields of a name are as many as their values
pub how_many : (name : List ℕ) (fields : List Field) (items : List Field) (n : ℕ) → items ≡ fields
    → n ≡ count_by (is_named name) items → n ≡ length (values_of name fields)
unfolding values_of
how_many name fields items n same is =
    let value : Field → List ℕ = λ (f : Field). f.value in
    is ∙ ap (count_by (is_named name)) same
    ∙ sym (length-map (filter (is_named name) fields) value ∙ length-filter (is_named name) fields)

-- the first that passes is the first of those that pass
first_passing : (p : Field → Bool) (fields : List Field)
    → find p fields ≡ slice_get (filter p fields) 0
first_passing p [] = refl
first_passing p (f ∷ fs) = by_test (p f) (first_passing p fs)
  where
    by_test : (b : Bool) → find p fs ≡ slice_get (filter p fs) 0
        → cond b (Some f) (find p fs) ≡ slice_get (cond b (f ∷ filter p fs) (filter p fs)) 0
    by_test true later = refl
    by_test false later = later

-- the first field of a name has the first of the values
pub first_value : (name : List ℕ) (fields : List Field) (items : List Field) (found : Option Field)
    → items ≡ fields
    → found ≡ find (is_named name) items
    → option_map (λ (f : Field). f.value) found ≡ slice_get (values_of name fields) 0
unfolding values_of
first_value name fields items found same is =
    let value : Field → List ℕ = λ (f : Field). f.value in
    ap (option_map value) (is ∙ ap (find (is_named name)) same
    ∙ first_passing (is_named name) fields)
    ∙ sym (slice_get-map value (filter (is_named name) fields) 0)

-- what every piece of every value says, by the fields
pub all_pieces : (n : ℕ) (fs : List Field)
    → list_all (says n) (pieces_of (map (λ (f : Field). f.value) fs))
    ≡ list_all (λ (f : Field). list_all (λ (piece : List ℕ). says n (trim_ows piece))
    (slice_split (λ (b : ℕ). eqb b comma) f.value)) fs
all_pieces n [] = refl
all_pieces n (f ∷ fs) =
    let pieces = slice_split (λ (b : ℕ). eqb b comma) f.value in
    list_all-append (says n) (map trim_ows pieces) (pieces_of (map (λ (f : Field). f.value) fs))
    ∙ (λ k. list_all-map (says n) trim_ows pieces k && all_pieces n fs k)

-- a value's first piece ends at its first comma
first_split : (p : ℕ → Bool) (bytes : List ℕ) → (more : List (List ℕ))
    × (slice_split p bytes ≡ before_first p bytes ∷ more)
first_split p bytes = by_place (ltb (position_or_len p bytes) (length bytes)) refl
  where
    none_passes : length bytes ≤ position_or_len p bytes → All (λ x. p x ≡ false) bytes
    none_passes past = λ k d within. fails_before_first p bytes k d (omega arith)

    by_place : (b : Bool) → ltb (position_or_len p bytes) (length bytes) ≡ b
        → (more : List (List ℕ)) × (slice_split p bytes ≡ before_first p bytes ∷ more)
    by_place true test = (_, slice_split_first p bytes 0 (grind (arith, nat_tests)))
    by_place false test =
        let past : length bytes ≤ position_or_len p bytes = grind (arith, nat_tests) in (
          [],
          slice_split_none p bytes (none_passes past)
              ∙ ap (λ (xs : List ℕ). xs ∷ []) (sym (take_all (position_or_len p bytes) bytes past)),
        )

-- the length of all pieces is that of the first, if each says it
pub agreed_first : (values : List (List ℕ))
    → agreed (pieces_of values) ≡ option_and_then
    (λ n. cond (list_all (says n) (pieces_of values)) (Some n) None) (first_number values)
agreed_first [] = refl
agreed_first (value ∷ values) = by_split (first_split (λ (b : ℕ). eqb b comma) value)
  where
    by_split : (more : List (List ℕ))
        × (slice_split (λ (b : ℕ). eqb b comma) value ≡ before_first (λ (b : ℕ). eqb b comma) value
        ∷ more)
        → agreed (pieces_of (value ∷ values))
        ≡ option_and_then (λ n. cond (list_all (says n) (pieces_of (value ∷ values)))
        (Some n) None) (first_number (value ∷ values))
    by_split (more, is) = rw is refl

-- the length that was found is the agreed one
pub agreed_some : (fields : List Field) (items : List Field) (n : ℕ) (said : Bool) → items ≡ fields
    → Some n ≡ first_number (values_of (codes "content-length") fields)
    → said ≡ list_all (λ (f : Field). list_all (λ (piece : List ℕ). says n (trim_ows piece))
    (slice_split (λ (b : ℕ). eqb b comma) f.value))
    (filter (is_named (codes "content-length")) items)
    → cond said (Some n) None ≡ agreed (pieces_of (values_of (codes "content-length") fields))
unfolding values_of
agreed_some fields items n said same first told =
    let named = filter (is_named (codes "content-length")) fields in
    let all : said ≡ list_all
    (λ (f : Field). list_all (λ (piece : List ℕ). says n (trim_ows piece))
    (slice_split (λ (b : ℕ). eqb b comma) f.value)) named =
    told ∙ (λ k. list_all
    (λ (f : Field). list_all (λ (piece : List ℕ). says n (trim_ows piece))
    (slice_split (λ (b : ℕ). eqb b comma) f.value))
    (filter (is_named (codes "content-length")) (same k))) in
    ap (λ (b : Bool). cond b (Some n) None) (all ∙ sym (all_pieces n named))
    ∙ ap (option_and_then
    (λ (m : ℕ). cond (list_all (says m) (pieces_of (map (λ (f : Field). f.value) named)))
    (Some m) None)) first
    ∙ sym (agreed_first (map (λ (f : Field). f.value) named))

-- where the first piece says no length, none is agreed
pub agreed_none : (values : List (List ℕ)) → None ≡ first_number values
    → None ≡ agreed (pieces_of values)
agreed_none values none =
    ap (option_and_then (λ (m : ℕ). cond (list_all (says m) (pieces_of values)) (Some m) None))
    none ∙ sym (agreed_first values)
