-- The framing of a request's body (RFC 9112 section 6, RFC 9110 section 8.6).
use Rattle.std.specs.Prelude.{ℕ, ◌^◌, Bool, ◌&&◌, ◌||◌, bytes_eq, List, [], ◌∷◌, ◌++◌, map, length}
use Rattle.std.specs.Prelude.{codes, ◌==◌, nat_lt, nat_eq, Option, Some, None, Result, Ok, Err}
use Rattle.std.specs.Prelude.{option_and_then, if◌then◌else◌}
use Rattle.std.specs.List.{before_first, list_all, slice_split}
use Rattle.std.specs.Option.{option_eq}
use Rattle.std.specs.Char.{is_ascii_digit}
use Rattle.std.specs.Str.Parse.{digits_value}
use Rattle.httparse.specs.Grammar.{trim_ows}
use Rattle.httparse.specs.Ascii.{comma}
use Rattle.http_wire.specs.declared.head.Field.{Field}
use Rattle.http_wire.specs.declared.frames.Framing.{Framing}
use Rattle.http_wire.specs.declared.frames.FramingFault.{FramingFault}
use Rattle.http_wire.specs.Fields.{values_of, same_ignoring_case}

-- a length: one or more digits, leading zeros among them, that write a number below 2^63
abbrev pub number_of : List ℕ → Option ℕ
number_of digits =
    if nat_lt 0 (length digits) && list_all is_ascii_digit digits
    && nat_lt (digits_value 10 digits) (2 ^ 63)
    then Some (digits_value 10 digits) else None

-- the pieces of a comma separated value, without the blanks around them (RFC 9110 section 5.6.1)
abbrev pub pieces_of_value : List ℕ → List (List ℕ)
pieces_of_value value = map trim_ows (slice_split (λ b. b == comma) value)

-- the pieces of all the values, in order
abbrev pub pieces_of : List (List ℕ) → List (List ℕ)
pieces_of [] = []
pieces_of (value ∷ values) = pieces_of_value value ++ pieces_of values

-- the piece writes this length
unfoldable pub says : ℕ → List ℕ → Bool
says n piece = option_eq nat_eq (number_of piece) (Some n)

-- the length that every piece writes, if they all write the same one
abbrev pub agreed : List (List ℕ) → Option ℕ
agreed [] = None
agreed (piece ∷ pieces) =
    option_and_then (λ n. if list_all (says n) (piece ∷ pieces) then Some n else None)
    (number_of piece)

-- the number that the first piece of the first value writes
abbrev pub first_number : List (List ℕ) → Option ℕ
first_number [] = None
first_number (value ∷ values) = number_of (trim_ows (before_first (λ b. b == comma) value))

-- the framing that Content-Length fields give
abbrev pub length_framing : Option ℕ → Result Framing FramingFault
length_framing None = Err FramingFault.Length
length_framing (Some n) = Ok (Framing.Length n)

-- the framing that Transfer-Encoding fields give: `chunked` alone, once
abbrev pub coding_framing : List (List ℕ) → Result Framing FramingFault
coding_framing [] = Ok Framing.Nothing
coding_framing (coding ∷ []) =
    if same_ignoring_case coding (codes "chunked") then Ok Framing.Chunked
    else Err FramingFault.Coding
coding_framing (coding ∷ other ∷ codings) = Err FramingFault.Coding

-- the framing of a request of this minor version, by the values of its Transfer-Encoding and
-- Content-Length fields
abbrev pub framed : ℕ → List (List ℕ) → List (List ℕ) → Result Framing FramingFault
framed minor [] [] = Ok Framing.Nothing
framed minor [] (length ∷ lengths) = length_framing (agreed (pieces_of (length ∷ lengths)))
framed minor (coding ∷ codings) [] =
    if minor == 0 then Err FramingFault.Length else coding_framing (coding ∷ codings)
framed minor (coding ∷ codings) (length ∷ lengths) = Err FramingFault.Length

-- the framing of a request with these fields
abbrev pub framing_of : ℕ → List Field → Result Framing FramingFault
framing_of minor fields =
    framed minor (values_of (codes "transfer-encoding") fields)
    (values_of (codes "content-length") fields)

-- the replies of this status to this method have no body, whatever their fields say (RFC 9112
-- section 6.3)
abbrev pub has_no_body : List ℕ → ℕ → Bool
has_no_body method status = bytes_eq method (codes "HEAD") || (status == 204) || (status == 304)

-- a body that no field frames goes up to the end of the connection
abbrev pub or_to_end : Framing → Framing
or_to_end Framing.Nothing = Framing.ToEnd
or_to_end (Framing.Length n) = Framing.Length n
or_to_end Framing.Chunked = Framing.Chunked
or_to_end Framing.ToEnd = Framing.ToEnd

-- the framing of a reply of this status to this method, by what its fields say
abbrev pub reply_framing_of : List ℕ → ℕ → Result Framing FramingFault → Result Framing FramingFault
reply_framing_of method status (Err fault) = Err fault
reply_framing_of method status (Ok framing) =
    Ok (if has_no_body method status then Framing.Nothing else or_to_end framing)
