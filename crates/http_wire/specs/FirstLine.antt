-- The first line of a request, as it is looked at before the head is parsed.
use Rattle.std.specs.Prelude.{ℕ, ◌-◌, Bool, ◌&&◌, not, List, [], ◌∷◌, length, take, drop, codes}
use Rattle.std.specs.Prelude.{bytes_eq, slice_index, ◌==◌, position, Option, option_map}
use Rattle.std.specs.Prelude.{if◌then◌else◌}
use Rattle.std.specs.Char.{is_ascii_digit}
use Rattle.httparse.specs.Ascii.{line_feed, carriage_return}

-- the bytes behind the empty lines at the front, each LF or CR LF (RFC 9112 section 2.2)
abbrev pub skip_empty_lines : List ℕ → List ℕ
skip_empty_lines [] = []
skip_empty_lines (a ∷ []) = if a == line_feed then [] else a ∷ []
skip_empty_lines (a ∷ b ∷ bytes) =
    if a == line_feed then skip_empty_lines (b ∷ bytes)
    else (if (a == carriage_return) && (b == line_feed) then skip_empty_lines bytes
    else a ∷ b ∷ bytes)

-- the bytes before the first line feed, if there is one
abbrev pub line_at : List ℕ → Option (List ℕ)
line_at bytes = option_map (λ at. take at bytes) (position (λ b. b == line_feed) bytes)

-- the first line that is not empty, without its line feed, if it has ended
unfoldable pub first_line : List ℕ → Option (List ℕ)
first_line bytes = line_at (skip_empty_lines bytes)

-- the line without a carriage return at its end
abbrev pub without_return : List ℕ → List ℕ
without_return line =
    if slice_index line (length line - 1) == carriage_return then take (length line - 1) line
    else line

-- a blank and a version: `HTTP/`, a digit, a point and a digit (RFC 9112 section 2.3)
unfoldable pub is_version : List ℕ → Bool
is_version text =
    (length text == 9) && bytes_eq (take 6 text) (codes " HTTP/")
    && is_ascii_digit (slice_index text 6) && (slice_index text 7 == 46)
    && is_ascii_digit (slice_index text 8)

-- a version other than 1.0 and 1.1
abbrev pub is_other_version : List ℕ → Bool
is_other_version text =
    is_version text && not (bytes_eq text (codes " HTTP/1.0"))
    && not (bytes_eq text (codes " HTTP/1.1"))

-- the last nine bytes
abbrev pub last_nine : List ℕ → List ℕ
last_nine text = drop (length text - 9) text

-- the line ends in a version other than 1.0 and 1.1
unfoldable pub ends_in_other_version : List ℕ → Bool
ends_in_other_version line = is_other_version (last_nine (without_return line))
