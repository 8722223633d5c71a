-- There is room for every field: each ends in a line feed.
use Rattle.std.proofs.Common.{◌≡◌, ◌≢◌, ℕ, ◌+◌, ◌≤◌, List, [], ◌∷◌, ◌++◌, length, refl, ap, arith}
use Rattle.std.proofs.Common.{eqb, cond, append-nil, ◌∙◌}
use Rattle.std.specs.List.{flat_map, count_by}
use Rattle.std.proofs.lemmas.List.Concat.{flat_map-cons}
use Rattle.std.proofs.lemmas.List.Sums.{sum_by-append}
use Rattle.httparse.specs.declared.Error.{Error}
use Rattle.httparse.specs.Grammar.{LineEnd, crlf, lf, print_end, print_blank, print_version}
use Rattle.httparse.specs.Grammar.{print_section, Field, print_field, RequestHead, print_request}
use Rattle.httparse.specs.Grammar.{NeverHasRequest, print_reason, ResponseHead, print_response}
use Rattle.httparse.specs.Grammar.{NeverHasResponse}
use Rattle.httparse.specs.Spans.{RequestExceeds, ResponseExceeds}

-- how many line feeds the bytes have
abbrev feeds : List ℕ → ℕ
feeds bytes = count_by (λ (b : ℕ). eqb b 10) bytes

feeds-append : (xs ys : List ℕ) → feeds (xs ++ ys) ≡ feeds xs + feeds ys
feeds-append xs ys = sum_by-append (λ (b : ℕ). cond (eqb b 10) 1 0) xs ys

feeds-end : (e : LineEnd) → 1 ≤ feeds (print_end e)
feeds-end crlf = omega arith
feeds-end lf = omega arith

feeds-field : (f : Field) → 1 ≤ feeds (print_field f)
feeds-field f =
    omega (arith, feeds-append (f.name ++ 58 ∷ f.raw) (print_end f.end), feeds-end f.end)

feeds-fields : (fields : List Field) → length fields ≤ feeds (flat_map print_field fields)
feeds-fields [] = omega arith
feeds-fields (f ∷ fs) =
    rw flat_map-cons (omega (
      arith,
      feeds-append (print_field f) (flat_map print_field fs),
      feeds-field f,
      feeds-fields fs,
    ))

feeds-head : (h : RequestHead) → length h.fields + 2 ≤ feeds (print_request h)
unfolding print_request
feeds-head h =
    let line = print_blank h.blank ++ h.method ++ 32 ∷ h.target ++ 32 ∷ print_version h.minor in
    omega (
      arith,
      feeds-append (line ++ print_end h.line_end) (print_section h.fields h.last),
      feeds-append line (print_end h.line_end),
      feeds-append (flat_map print_field h.fields) (print_end h.last),
      feeds-end h.line_end,
      feeds-end h.last,
      feeds-fields h.fields,
    )

no_room : (room : ℕ) (bytes : List ℕ) → room ≡ feeds bytes → RequestExceeds room bytes → ⊥
no_room room bytes size x =
    -- the front of the bytes and a line feed are the head x.3
    let many = feeds-head x.3 in
    let same : feeds (x.0 ++ 10 ∷ []) ≡ feeds (print_request x.3) =
    ap feeds (x.4.1 ∙ append-nil (print_request x.3)) in
    let cut : feeds bytes ≡ feeds (x.0 ++ x.1) = ap feeds x.2 in
    let few = x.5 in
    omega (arith, feeds-append x.0 (10 ∷ []), feeds-append x.0 x.1)

-- with room for as many fields as there are line feeds, each refusal is for good
pub refuses : (room : ℕ) (bytes : List ℕ) (e : Error) → room ≡ feeds bytes
    → (e ≢ Error.TooManyHeaders → NeverHasRequest bytes)
    → (e ≡ Error.TooManyHeaders → RequestExceeds room bytes) → NeverHasRequest bytes
refuses room bytes Error.TooManyHeaders size other many =
    absurd (no_room room bytes size (many refl))
refuses room bytes e size other many = other (λ same. cc)

-- ---- the same for replies

feeds-reply : (h : ResponseHead) → length h.fields + 2 ≤ feeds (print_response h)
unfolding print_response
feeds-reply h =
    let line = print_blank h.blank ++ print_version h.minor ++ 32 ∷ h.digits
    ++ print_reason h.reason in
    omega (
      arith,
      feeds-append (line ++ print_end h.line_end) (print_section h.fields h.last),
      feeds-append line (print_end h.line_end),
      feeds-append (flat_map print_field h.fields) (print_end h.last),
      feeds-end h.line_end,
      feeds-end h.last,
      feeds-fields h.fields,
    )

no_room_reply : (room : ℕ) (bytes : List ℕ) → room ≡ feeds bytes → ResponseExceeds room bytes → ⊥
no_room_reply room bytes size x =
    let many = feeds-reply x.3 in
    let same : feeds (x.0 ++ 10 ∷ []) ≡ feeds (print_response x.3) =
    ap feeds (x.4.1 ∙ append-nil (print_response x.3)) in
    let cut : feeds bytes ≡ feeds (x.0 ++ x.1) = ap feeds x.2 in
    let few = x.5 in
    omega (arith, feeds-append x.0 (10 ∷ []), feeds-append x.0 x.1)

pub refuses_reply : (room : ℕ) (bytes : List ℕ) (e : Error) → room ≡ feeds bytes
    → (e ≢ Error.TooManyHeaders → NeverHasResponse bytes)
    → (e ≡ Error.TooManyHeaders → ResponseExceeds room bytes) → NeverHasResponse bytes
refuses_reply room bytes Error.TooManyHeaders size other many =
    absurd (no_room_reply room bytes size (many refl))
refuses_reply room bytes e size other many = other (λ same. cc)
