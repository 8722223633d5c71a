-- What a request asks has the bytes that may go on.
use Rattle.std.proofs.Common.{◌≡◌, ◌<◌, ◌+◌, ◌&&◌, ℕ, zero, suc, Bool, true, false, not, cond, eqb}
use Rattle.std.proofs.Common.{length, List, [], ◌∷◌, ◌++◌, map, filter, drop, get_or, codes, refl}
use Rattle.std.proofs.Common.{sym, ap, ◌∙◌, subst, arith, inl, inr, All, IsTrue, IsUtf8, Option}
use Rattle.std.proofs.Common.{Some, None, IfSome, append_assoc, length-append}
use Rattle.std.specs.Str.{bytes_eq, IsAscii}
use Rattle.std.specs.List.{list_any, prefix_len}
use Rattle.std.specs.Option.{option_map}
use Rattle.std.proofs.Math.Seq.{drop-append_seam}
use Rattle.std.proofs.lemmas.Bool.Decides.{nat_tests}
use Rattle.std.proofs.lemmas.List.{length-take, length-map}
use Rattle.std.proofs.lemmas.List.Elements.{All-cons, All-head, All-nil, All-tail, All-take}
use Rattle.std.proofs.lemmas.Slice.Eq.{bytes_eq-Decides}
use Rattle.std.proofs.lemmas.Str.{IsUtf8-append, IsUtf8-from_ascii}
use Rattle.httparse.specs.Grammar.{AllPass}
use Rattle.http_uri.specs.Uri.{uri_scheme, uri_authority, uri_data}
use Rattle.http_uri.specs.ByteClasses.{at_sign, lowercase}
use Rattle.http_uri.specs.Grammar.{IsAbsoluteForm, IsForm, IsOriginForm, IsTail, StartsOrigin}
use Rattle.http_uri.specs.Grammar.{normal_scheme, without_fragment}
use Rattle.http_wire.specs.declared.head.Field.{Field}
use Rattle.http_wire.specs.Fields.{is_named, values_of}
use Rattle.http_wire.specs.Host.{host_of, host_field, over}
use Rattle.http_wire.specs.Target.{line_behind, served, Form, IsServed}
use Rattle.proxy_session.proofs.Received.{HasText}
use Rattle.proxy_session.proofs.FieldTexts.{back, empty_text, front, is_target_byte, visible_text}
use Rattle.proxy_session.proofs.FieldTexts.{IsFieldText}

abbrev IsUri : ℕ → Type 0
IsUri b = IsTrue (is_target_byte b)

-- a target that may stand in a request line, of bytes
pub record IsByteTarget (text : List ℕ) : Type 0 where
  pub some : 0 < length text
  pub bytes : AllPass is_target_byte text
  pub utf8 : IsUtf8 text

-- ---- targets

-- a text of visible ASCII bytes
visible : (text : List ℕ) → 0 < length text → All IsUri text → IsUtf8 text → IsByteTarget text
visible text some bytes utf8 = record { some = some; bytes = bytes; utf8 = utf8 }

low_byte : (b : ℕ) → b < 128 → IsAscii (b ∷ [])
low_byte b low zero = low
low_byte b low (suc i) = omega arith

no_byte : IsAscii []
no_byte i = omega arith

one_byte : (b : ℕ) → IsUri b → b < 128 → IsByteTarget (b ∷ [])
one_byte b uri low =
    visible (b ∷ []) (omega arith) (All-cons IsUri b [] uri (All-nil IsUri))
    (IsUtf8-from_ascii (b ∷ []) (low_byte b low))

-- the bytes before a fragment's sign
some_before : (b : ℕ) (bs : List ℕ) → not (eqb b 35) ≡ true → 0 < length (without_fragment (b ∷ bs))
some_before b bs other =
    let p : ℕ → Bool = λ x. not (eqb x 35) in
    let some : prefix_len p (b ∷ bs) ≡ 1 + prefix_len p bs = ap
    (λ (t : Bool). cond t (1 + prefix_len p bs) 0) other in
    omega (arith, length-take (prefix_len p (b ∷ bs)) (b ∷ bs), some)

begun : (text : List ℕ) → 0 < length text → StartsOrigin text → 0 < length (without_fragment text)
begun [] some starts = absurd (omega (arith, some))
begun (b ∷ bs) some (inl star) =
    subst (λ (t : List ℕ). 0 < length (without_fragment t)) (sym star) (some_before 42 [] refl)
begun (b ∷ bs) some (inr slash) =
    subst (λ (x : ℕ). 0 < length (without_fragment (x ∷ bs))) (sym slash) (some_before 47 bs refl)

origin : (text : List ℕ) → IsByteTarget text → IsOriginForm text
    → IsByteTarget (without_fragment text)
origin text sound form = record {
  some = begun text sound.some form.0;
  bytes = All-take IsUri (prefix_len (λ x. not (eqb x 35)) text) text sound.bytes;
  utf8 = form.1.kept.utf8;
}

-- what stands behind an authority
behind : (method tail kept : List ℕ) → All IsUri tail → IsTail tail kept
    → IsByteTarget (line_behind method tail)
behind method tail kept bytes is = by_length (eqb (length (without_fragment tail)) 0) refl
  where
    clean : All IsUri (without_fragment tail)
    clean = All-take IsUri (prefix_len (λ x. not (eqb x 35)) tail) tail bytes

    text : IsTail tail kept → IsUtf8 (without_fragment tail)
    text (inl (none, root)) =
        subst (λ (t : List ℕ). IsUtf8 (without_fragment t)) (sym none)
        (IsUtf8-from_ascii [] no_byte)
    text (inr (ends, input, same)) = input.kept.utf8

    by_method : (t : Bool) → IsByteTarget (cond t (codes "*") (codes "/"))
    by_method true = one_byte 42 refl (omega arith)
    by_method false = one_byte 47 refl (omega arith)

    by_query : (t : Bool) → 0 < length (without_fragment tail)
        → IsByteTarget (cond t (47 ∷ without_fragment tail) (without_fragment tail))
    by_query true some =
        visible (47 ∷ without_fragment tail) (omega arith)
        (All-cons IsUri 47 (without_fragment tail) refl clean)
        (IsUtf8-append (47 ∷ []) (without_fragment tail) (one_byte 47 refl (omega arith)).utf8
        (text is))
    by_query false some = visible (without_fragment tail) some clean (text is)

    by_length : (t : Bool) → eqb (length (without_fragment tail)) 0 ≡ t
        → IsByteTarget (cond t (cond (bytes_eq method (codes "OPTIONS")) (codes "*") (codes "/"))
        (cond (eqb (get_or (without_fragment tail) 0 0) 63) (47 ∷ without_fragment tail)
        (without_fragment tail)))
    by_length true test = by_method (bytes_eq method (codes "OPTIONS"))
    by_length false test =
        let some : 0 < length (without_fragment tail) = grind (arith, nat_tests, test) in
        by_query (eqb (get_or (without_fragment tail) 0 0) 63) some

-- a scheme that is read as `http` has four bytes
four : (name : List ℕ) → codes "http" ≡ normal_scheme name → length name ≡ 4
four name is =
    by_tests (bytes_eq (lowercase name) (codes "http")) (bytes_eq (lowercase name) (codes "https"))
    refl is
  where
    by_tests : (s t : Bool) → bytes_eq (lowercase name) (codes "http") ≡ s → codes "http"
        ≡ cond s (codes "http") (cond t (codes "https") name) → length name ≡ 4
    by_tests true t test same =
        sym (length-map name _) ∙ ap length ((bytes_eq-Decides (lowercase name) (codes "http")).0
        test)
    by_tests false true test same = absurd (omega (arith, ap length same))
    by_tests false false test same = sym (ap length same)

absolute : (method text scheme authority kept : List ℕ) → IsByteTarget text
    → IsAbsoluteForm text scheme authority kept → scheme ≡ codes "http"
    → IsByteTarget (line_behind method (drop (length authority + 7) text)) × IsFieldText authority
absolute method text scheme authority kept sound form http =
    let all : All IsUri ((form.name ++ codes "://") ++ (authority ++ form.tail)) =
    subst (All IsUri) (form.spelled ∙ append_assoc (form.name ++ codes "://") authority form.tail)
    sound.bytes in
    let rest : All IsUri (authority ++ form.tail) = back IsUri (form.name ++ codes "://")
    (authority ++ form.tail) all in
    let long : length authority + 7 ≡ length ((form.name ++ codes "://") ++ authority) =
    omega (
      arith,
      length-append (form.name ++ codes "://") authority,
      length-append form.name
          (codes "://"),
      four form.name (sym http ∙ form.normal),
    ) in
    let tail : drop (length authority + 7) text ≡ form.tail =
    (λ i. drop (long i) (form.spelled i)) ∙ drop-append_seam
    ((form.name ++ codes "://") ++ authority) form.tail in (
      subst (λ (t : List ℕ). IsByteTarget (line_behind method t)) (sym tail)
          (behind method form.tail kept (back IsUri authority form.tail rest) form.is_tail),
      visible_text authority (front IsUri authority form.tail rest),
    )

-- the form of a target that is served
abbrev pub IsSoundPair : Form → Type 0
IsSoundPair form = IsByteTarget form.line × IfSome form.authority IsFieldText

served_form : (method text : List ℕ) (scheme authority : Option (List ℕ)) (kept : List ℕ)
    (form : Form) → IsByteTarget text
    → IsForm text scheme authority kept → served method text scheme authority ≡ Some form
    → IsSoundPair form
served_form method text None None kept form sound is given =
    by_test (bytes_eq text (codes "*") && not (bytes_eq method (codes "OPTIONS"))) given
  where
    plain : Form
    plain = record { authority = None; line = without_fragment text }

    by_test : (t : Bool) → cond t None (Some plain) ≡ Some form → IsSoundPair form
    by_test true none = absurd (cc)
    by_test false some =
        let same : plain ≡ form = cc in
        subst IsSoundPair same (origin text sound is.0, tt)
served_form method text None (Some authority) kept form sound is given = absurd (cc)
served_form method text (Some scheme) None kept form sound is given = absurd is
served_form method text (Some scheme) (Some authority) kept form sound is given =
    by_tests (bytes_eq scheme (codes "http")) (list_any (λ (b : ℕ). eqb b at_sign) authority) refl
    given
  where
    whole : Form
    whole = record {
      authority = Some authority;
      line = line_behind method (drop (length authority + 7) text);
    }

    by_tests : (s t : Bool) → bytes_eq scheme (codes "http") ≡ s
        → cond (s && not t) (Some whole) None ≡ Some form → IsSoundPair form
    by_tests false t test some = absurd (cc)
    by_tests true true test some = absurd (cc)
    by_tests true false test some =
        let same : whole ≡ form = cc in
        subst IsSoundPair same (absolute method text scheme authority kept sound is
        ((bytes_eq-Decides scheme (codes "http")).0 test))

-- what a target that is served asks, and what it goes on as
pub asked_form : (method text : List ℕ) (form : Form) → IsByteTarget text
    → IsServed method text form → IsSoundPair form
asked_form method text form sound (uri, spells, is) =
    served_form method text (uri_scheme uri) (uri_authority uri) (uri_data uri) form sound spells.1
    is

-- ---- hosts

-- the values of fields
pub value_texts : (name : List ℕ) (fields : List Field) → All HasText fields
    → All IsFieldText (values_of name fields)
unfolding values_of
value_texts name [] all = All-nil IsFieldText
value_texts name (f ∷ fs) all =
    by_test (is_named name f) (value_texts name fs (All-tail HasText f fs all))
  where
    by_test : (t : Bool) → All IsFieldText (map (λ (g : Field). g.value)
        (filter (is_named name) fs))
        → All IsFieldText (map (λ (g : Field). g.value)
        (cond t (f ∷ filter (is_named name) fs) (filter (is_named name) fs)))
    by_test true others =
        All-cons IsFieldText f.value (map (λ (g : Field). g.value) (filter (is_named name) fs))
        (All-head HasText f fs all) others
    by_test false others = others

field_host : (minor : ℕ) (hosts : List (List ℕ)) (authority : Option (List ℕ)) (host : List ℕ)
    → All IsFieldText hosts
    → IfSome authority IsFieldText → option_map (over authority) (host_field minor hosts)
    ≡ Some host → IsFieldText host
field_host minor [] authority host all named is = by_test (eqb minor 0) is
  where
    by_test : (t : Bool) → option_map (over authority) (cond t (Some []) None) ≡ Some host
        → IsFieldText host
    by_test true some =
        let same : over authority [] ≡ host = cc in subst IsFieldText same
        (chosen authority [] named empty_text)
      where
        chosen : (a : Option (List ℕ)) (h : List ℕ) → IfSome a IsFieldText → IsFieldText h
            → IsFieldText (over a h)
        chosen None h named own = own
        chosen (Some t) h named own = named
    by_test false none = absurd (cc)
field_host minor (h ∷ []) authority host all named is =
    let same : over authority h ≡ host = cc in
    subst IsFieldText same (chosen authority named)
  where
    chosen : (a : Option (List ℕ)) → IfSome a IsFieldText → IsFieldText (over a h)
    chosen None named = All-head IsFieldText h [] all
    chosen (Some t) named = named
field_host minor (h ∷ g ∷ hs) authority host all named is = absurd (cc)

-- the host that a request asks
pub asked_host : (minor : ℕ) (fields : List Field) (authority : Option (List ℕ)) (host : List ℕ)
    → All HasText fields → IfSome authority IsFieldText
    → host_of minor fields authority ≡ Some host → IsFieldText host
asked_host minor fields authority host all named is =
    field_host minor (values_of (codes "host") fields) authority host
    (value_texts (codes "host") fields all) named is
