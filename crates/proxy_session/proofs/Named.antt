-- The path that a request names has bytes in its labels.
use Rattle.std.proofs.Common.{◌≡◌, ◌<◌, ℕ, zero, suc, Bool, true, false, cond, eqb, leb, length}
use Rattle.std.proofs.Common.{List, [], ◌∷◌, ◌++◌, filter, take, codes, refl, subst, arith, All}
use Rattle.std.proofs.Common.{IsTrue, Option, Some, None}
use Rattle.std.specs.Str.{bytes_eq}
use Rattle.std.specs.Char.{to_ascii_lowercase}
use Rattle.std.specs.List.{before_first, onto_first, position_or_len, slice_get, slice_split}
use Rattle.std.specs.Option.{option_and_then, option_map}
use Rattle.std.proofs.lemmas.Bool.Decides.{nat_tests}
use Rattle.std.proofs.lemmas.List.Elements.{All-cons, All-head, All-map, All-nil, All-tail}
use Rattle.std.proofs.lemmas.List.Elements.{All-take, All-weaker}
use Rattle.std.proofs.lemmas.List.Sums.{AllPass-from_list_all}
use Rattle.httparse.specs.Grammar.{AllPass}
use Rattle.http_uri.specs.ByteClasses.{question_mark, slash}
use Rattle.name_tree.specs.Path.{Labels}
use Rattle.name_tree.specs.Canon.{AreByteLabels, IsByteLabel}
use Rattle.name_tree.specs.Computed.{path_of}
use Rattle.name_tree.proofs.Computing.{computes_paths}
use Rattle.name_tree.proofs.Sounds.{path_text_labels}
use Rattle.http_wire.specs.declared.head.Field.{Field}
use Rattle.http_wire.specs.declared.head.Head.{Head}
use Rattle.http_wire.specs.Fields.{first_value, lower, same_ignoring_case, values_of}
use Rattle.identifier.specs.declared.rule.Kind.{Kind}
use Rattle.identifier.specs.declared.rule.Kind.TheVariants.{Token, MethodAndHost, Segments}
use Rattle.identifier.specs.declared.rule.Kind.TheVariants.{PathField, Static}
use Rattle.identifier.specs.declared.rule.Rule.{Rule}
use Rattle.identifier.specs.Naming.{by_method_and_host, by_token, first_of, has_byte, identified}
use Rattle.identifier.specs.Naming.{named_by, one_label, path_in, pieces_of}
use Rattle.proxy_session.proofs.Asked.{value_texts, IsByteTarget}
use Rattle.proxy_session.proofs.Received.{HasText, IsReceived}
use Rattle.proxy_session.proofs.FieldTexts.{bytes_are, field_bytes, is_byte, target_bytes}
use Rattle.proxy_session.proofs.FieldTexts.{IsFieldText}
use Rattle.proxy_session.specs.Laws.{HasByteLabels, IsByteRule}

abbrev IsByte : ℕ → Type 0
IsByte b = IsTrue (is_byte b)

-- ---- labels

labels-append : (a b : Labels) → AreByteLabels a → AreByteLabels b → AreByteLabels (a ++ b)
labels-append [] b first second = second
labels-append (l ∷ ls) b first second = (first.0, labels-append ls b first.1 second)

labels-take : (n : ℕ) (ls : Labels) → AreByteLabels ls → AreByteLabels (take n ls)
labels-take zero ls are = tt
labels-take (suc n) [] are = tt
labels-take (suc n) (l ∷ ls) are = (are.0, labels-take n ls are.1)

label : (text : List ℕ) → 0 < length text → AllPass is_byte text → IsByteLabel text
label text some bytes = (omega (arith, some), bytes_are text bytes)

one : (text : List ℕ) (labels : Labels) → AllPass is_byte text → one_label text ≡ Some labels
    → AreByteLabels labels
one [] labels bytes is = absurd (cc)
one (b ∷ bs) labels bytes is =
    let same : (b ∷ bs) ∷ [] ≡ labels = cc in
    subst AreByteLabels same (label (b ∷ bs) (omega arith) bytes, tt)

lowered : (text : List ℕ) → AllPass is_byte text → AllPass is_byte (lower text)
lowered text bytes =
    All-map IsByte to_ascii_lowercase text
    (All-weaker IsByte (λ b. IsByte (to_ascii_lowercase b)) (λ b is. grind (arith, nat_tests, is))
    text bytes)

-- ---- fields

first_is : (P : List ℕ → Type 0) (values : List (List ℕ)) (value : List ℕ) → All P values
    → slice_get values 0 ≡ Some value → P value
first_is P [] value all is = absurd (cc)
first_is P (v ∷ vs) value all is =
    let same : v ≡ value = cc in
    subst P same (All-head P v vs all)

first_bytes : (name : List ℕ) (fields : List Field) (value : List ℕ) → All HasText fields
    → first_value name fields ≡ Some value → AllPass is_byte value
first_bytes name fields value all is =
    let text = first_is IsFieldText (values_of name fields) value (value_texts name fields all) is
    in field_bytes value text.bytes

-- ---- pieces

split_bytes : (p : ℕ → Bool) (text : List ℕ) → AllPass is_byte text
    → All (AllPass is_byte) (slice_split p text)
split_bytes p [] bytes =
    All-cons (AllPass is_byte) [] [] (All-nil IsByte) (All-nil (AllPass is_byte))
split_bytes p (b ∷ bs) bytes = by_test (p b) (split_bytes p bs (All-tail IsByte b bs bytes))
  where
    put : (parts : List (List ℕ)) → All (AllPass is_byte) parts
        → All (AllPass is_byte) (onto_first b parts)
    put [] parts =
        All-cons (AllPass is_byte) (b ∷ []) [] (All-cons IsByte b [] (All-head IsByte b bs bytes)
        (All-nil IsByte)) (All-nil (AllPass is_byte))
    put (part ∷ more) all =
        All-cons (AllPass is_byte) (b ∷ part) more
        (All-cons IsByte b part (All-head IsByte b bs bytes)
        (All-head (AllPass is_byte) part more all)) (All-tail (AllPass is_byte) part more all)

    by_test : (t : Bool) → All (AllPass is_byte) (slice_split p bs)
        → All (AllPass is_byte) (cond t ([] ∷ slice_split p bs) (onto_first b (slice_split p bs)))
    by_test true later = All-cons (AllPass is_byte) [] (slice_split p bs) (All-nil IsByte) later
    by_test false later = put (slice_split p bs) later

pieces : (parts : List (List ℕ)) → All (AllPass is_byte) parts
    → AreByteLabels (filter has_byte parts)
pieces [] all = tt
pieces ([] ∷ parts) all = pieces parts (All-tail (AllPass is_byte) [] parts all)
pieces ((b ∷ bs) ∷ parts) all = (
  label (b ∷ bs) (omega arith) (All-head (AllPass is_byte) (b ∷ bs) parts all),
  pieces parts
      (All-tail (AllPass is_byte) (b ∷ bs) parts all),
)

path_bytes : (line : List ℕ) → AllPass is_byte line → AllPass is_byte (path_in line)
path_bytes line bytes = by_test (bytes_eq line (codes "*"))
  where
    by_test : (t : Bool) → AllPass is_byte (cond t [] (before_first (λ b. eqb b question_mark)
        line))
    by_test true = All-nil IsByte
    by_test false = All-take IsByte (position_or_len (λ b. eqb b question_mark) line) line bytes

first_so_many : (count : ℕ) (all labels : Labels) → AreByteLabels all → first_of count all
    ≡ Some labels → AreByteLabels labels
first_so_many count all labels are is = by_test (leb count (length all)) is
  where
    by_test : (t : Bool) → cond t (Some (take count all)) None ≡ Some labels → AreByteLabels labels
    by_test true some =
        let same : take count all ≡ labels = cc in
        subst AreByteLabels same (labels-take count all are)
    by_test false none = absurd (cc)

-- ---- the ways of naming

token : (name host : List ℕ) (fields : List Field) (labels : Labels) → All HasText fields
    → AllPass is_byte host → by_token name fields host ≡ Some labels → AreByteLabels labels
token name host fields labels all bytes is = by_test (same_ignoring_case name (codes "host")) is
  where
    by_value : (o : Option (List ℕ)) → first_value name fields ≡ o → option_and_then one_label o
        ≡ Some labels → AreByteLabels labels
    by_value None first none = absurd (cc)
    by_value (Some value) first some =
        one value labels (first_bytes name fields value all first) some

    by_test : (t : Bool) → cond t (one_label (lower host))
        (option_and_then one_label (first_value name fields)) ≡ Some labels → AreByteLabels labels
    by_test true some = one (lower host) labels (lowered host bytes) some
    by_test false some = by_value (first_value name fields) refl some

method_and_host : (minor : ℕ) (method host : List ℕ) (labels : Labels) → 0 < length method
    → AllPass is_byte method → AllPass is_byte host
    → by_method_and_host minor method host ≡ Some labels → AreByteLabels labels
method_and_host minor method host labels some method_bytes host_bytes is = by_test (eqb minor 0) is
  where
    with_host : (o : Option Labels) → one_label (lower host) ≡ o
        → option_map (λ more. codes "1.1" ∷ method ∷ more) o ≡ Some labels → AreByteLabels labels
    with_host None none given = absurd (cc)
    with_host (Some more) only given =
        let same : codes "1.1" ∷ method ∷ more ≡ labels = cc in
        subst AreByteLabels same (
          label (codes "1.1") (omega arith) (AllPass-from_list_all is_byte (codes "1.1") refl),
          (label method some method_bytes, one (lower host) more (lowered host host_bytes) only),
        )

    by_test : (t : Bool) → cond t (Some (codes "1.0" ∷ method ∷ []))
        (option_map (λ more. codes "1.1" ∷ method ∷ more) (one_label (lower host))) ≡ Some labels
        → AreByteLabels labels
    by_test true given =
        let same : codes "1.0" ∷ method ∷ [] ≡ labels = cc in
        subst AreByteLabels same (
          label (codes "1.0") (omega arith)
              (AllPass-from_list_all is_byte (codes "1.0") refl),
          (label method some method_bytes, tt),
        )
    by_test false given = with_host (one_label (lower host)) refl given

path_field : (name : List ℕ) (fields : List Field) (labels : Labels)
    → option_and_then path_of (first_value name fields) ≡ Some labels → AreByteLabels labels
path_field name fields labels is = by_value (first_value name fields) is
  where
    by_value : (o : Option (List ℕ)) → option_and_then path_of o ≡ Some labels
        → AreByteLabels labels
    by_value None none = absurd (cc)
    by_value (Some value) some = path_text_labels ((computes_paths value labels).0 some).stands

named : (kind : Kind) (head : Head) (host line : List ℕ) (labels : Labels) → HasByteLabels kind
    → IsReceived head → AllPass is_byte host → AllPass is_byte line
    → named_by kind head host line ≡ Some labels → AreByteLabels labels
named (Token name) head host line labels has received host_bytes line_bytes is =
    token name host head.fields labels received.fields host_bytes is
named MethodAndHost head host line labels has received host_bytes line_bytes is =
    method_and_host head.version head.method host labels received.sound.method.0 received.method
    host_bytes is
named (Segments count) head host line labels has received host_bytes line_bytes is =
    let path = path_in line in
    first_so_many count (pieces_of path) labels (pieces (slice_split (λ b. eqb b slash) path)
    (split_bytes (λ b. eqb b slash) path (path_bytes line line_bytes))) is
named (PathField name) head host line labels has received host_bytes line_bytes is =
    path_field name head.fields labels is
named (Static path) head host line labels has received host_bytes line_bytes is =
    let same : path ≡ labels = cc in
    subst AreByteLabels same has

-- the labels of the path that a request names are of bytes
pub named_labels : (rule : Rule) (head : Head) (host line : List ℕ) (path : Labels)
    → IsByteRule rule → IsReceived head → IsFieldText host → IsByteTarget line
    → identified rule head host line ≡ Some path → AreByteLabels path
named_labels rule head host line path bytes received text target is =
    by_named (named_by rule.kind head host line) refl is
  where
    by_named : (o : Option Labels) → named_by rule.kind head host line ≡ o
        → option_map (λ more. rule.prefix ++ more) o ≡ Some path → AreByteLabels path
    by_named None none given = absurd (cc)
    by_named (Some more) only given =
        let same : rule.prefix ++ more ≡ path = cc in
        subst AreByteLabels same
        (labels-append rule.prefix more bytes.prefix
        (named rule.kind head host line more bytes.kind received (field_bytes host text.bytes)
        (target_bytes line target.bytes) only))
