-- How the body of a request may be framed.
use Rattle.std.proofs.Common.{◌≡◌, ◌<◌, ◌^◌, ◌&&◌, ℕ, Bool, true, false, cond, eqb, ltb, length}
use Rattle.std.proofs.Common.{List, [], ◌∷◌, codes, refl, subst, arith, Option, Some, None, Ok, Err}
use Rattle.std.specs.Char.{is_ascii_digit}
use Rattle.std.specs.List.{list_all}
use Rattle.std.specs.Option.{option_and_then}
use Rattle.std.specs.Str.Parse.{digits_value}
use Rattle.std.proofs.lemmas.Bool.Decides.{nat_tests}
use Rattle.http_wire.specs.declared.head.Field.{Field}
use Rattle.http_wire.specs.declared.frames.Framing.{Framing}
use Rattle.http_wire.specs.declared.frames.FramingFault.{FramingFault}
use Rattle.http_wire.specs.Fields.{same_ignoring_case, values_of}
use Rattle.http_wire.specs.Framing.{agreed, coding_framing, framed, framing_of, length_framing}
use Rattle.http_wire.specs.Framing.{number_of, pieces_of, says}
use Rattle.forward.specs.Laws.{IsRequestFraming}

-- a length that is written is below 2^63
number_small : (digits : List ℕ) (n : ℕ) → number_of digits ≡ Some n → n < 2 ^ 63
number_small digits n is =
    by_tests (ltb 0 (length digits)) (list_all is_ascii_digit digits)
    (ltb (digits_value 10 digits) (2 ^ 63)) refl is
  where
    by_tests : (s t u : Bool) → ltb (digits_value 10 digits) (2 ^ 63) ≡ u
        → cond (s && t && u) (Some (digits_value 10 digits)) None ≡ Some n → n < 2 ^ 63
    by_tests true true true test some =
        let same : digits_value 10 digits ≡ n = cc in
        subst (λ (m : ℕ). m < 2 ^ 63) same (grind (arith, nat_tests, test))
    by_tests true true false test some = absurd (cc)
    by_tests true false u test some = absurd (cc)
    by_tests false t u test some = absurd (cc)

agreed_small : (pieces : List (List ℕ)) (n : ℕ) → agreed pieces ≡ Some n → n < 2 ^ 63
agreed_small [] n is = absurd (cc)
agreed_small (piece ∷ pieces) n is = by_number (number_of piece) refl is
  where
    by_test : (m : ℕ) (t : Bool) → number_of piece ≡ Some m → cond t (Some m) None ≡ Some n
        → n < 2 ^ 63
    by_test m true number some =
        let same : m ≡ n = cc in
        subst (λ (k : ℕ). k < 2 ^ 63) same (number_small piece m number)
    by_test m false number some = absurd (cc)

    by_number : (o : Option ℕ) → number_of piece ≡ o
        → option_and_then (λ m. cond (list_all (says m) (piece ∷ pieces)) (Some m) None) o ≡ Some n
        → n < 2 ^ 63
    by_number None number some = absurd (cc)
    by_number (Some m) number some = by_test m (list_all (says m) (piece ∷ pieces)) number some

by_length : (o : Option ℕ) (framing : Framing) → ((n : ℕ) → o ≡ Some n → n < 2 ^ 63)
    → length_framing o ≡ Ok framing → IsRequestFraming framing
by_length None framing small is = absurd (cc)
by_length (Some n) framing small is =
    let same : Framing.Length n ≡ framing = cc in
    subst IsRequestFraming same (small n refl)

by_coding : (codings : List (List ℕ)) (framing : Framing) → coding_framing codings ≡ Ok framing
    → IsRequestFraming framing
by_coding [] framing is =
    let same : Framing.Nothing ≡ framing = cc in
    subst IsRequestFraming same tt
by_coding (coding ∷ []) framing is = by_test (same_ignoring_case coding (codes "chunked")) is
  where
    by_test : (t : Bool) → cond t (Ok Framing.Chunked) (Err FramingFault.Coding) ≡ Ok framing
        → IsRequestFraming framing
    by_test true ok =
        let same : Framing.Chunked ≡ framing = cc in
        subst IsRequestFraming same tt
    by_test false ok = absurd (cc)
by_coding (coding ∷ other ∷ codings) framing is = absurd (cc)

framed_so : (minor : ℕ) (codings lengths : List (List ℕ)) (framing : Framing)
    → framed minor codings lengths ≡ Ok framing → IsRequestFraming framing
framed_so minor [] [] framing is =
    let same : Framing.Nothing ≡ framing = cc in
    subst IsRequestFraming same tt
framed_so minor [] (length ∷ lengths) framing is =
    by_length (agreed (pieces_of (length ∷ lengths))) framing
    (agreed_small (pieces_of (length ∷ lengths))) is
framed_so minor (coding ∷ codings) [] framing is = by_test (eqb minor 0) is
  where
    by_test : (t : Bool) → cond t (Err FramingFault.Length) (coding_framing (coding ∷ codings))
        ≡ Ok framing → IsRequestFraming framing
    by_test true ok = absurd (cc)
    by_test false ok = by_coding (coding ∷ codings) framing ok
framed_so minor (coding ∷ codings) (length ∷ lengths) framing is = absurd (cc)

-- a request's framing is one that goes on
pub request_framing : (minor : ℕ) (fields : List Field) (framing : Framing)
    → framing_of minor fields ≡ Ok framing → IsRequestFraming framing
request_framing minor fields framing is =
    framed_so minor (values_of (codes "transfer-encoding") fields)
    (values_of (codes "content-length") fields) framing is
