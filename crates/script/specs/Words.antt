-- The words of a script's line, and what they stand for.
use Rattle.std.specs.Prelude.{ℕ, Bool, false, not, nat_le, if◌then◌else◌, List, [], ◌∷◌, codes}
use Rattle.std.specs.Prelude.{length, Option, Some, None, option_map}
use Rattle.std.specs.Option.{option_and_then}
use Rattle.std.specs.Str.{bytes_eq}
use Rattle.text_parts.specs.Lines.{joined}
use Rattle.text_parts.specs.Numbers.{number_of}
use Rattle.text_parts.specs.Words.{before_byte, behind_byte, behind_word, drop_gaps, is_gap}
use Rattle.name_tree.specs.Grammar.{is_blank}
use Rattle.addr_book.specs.declared.addr.Addr.{Addr}
use Rattle.addr_book.specs.declared.addr.Weighted.{Weighted}
use Rattle.addr_book.specs.Addr.{addr_of, host_value, port_value}
use Rattle.addr_book.specs.AddrList.{first_places}
use Rattle.addr_book.specs.FileLine.{before_star, behind_star, line_weight}

-- a line behind its leading blanks: spaces, tabs, CRs and LFs
abbrev pub drop_blanks : List ℕ → List ℕ
drop_blanks [] = []
drop_blanks (b ∷ bs) = if is_blank b then drop_blanks bs else b ∷ bs

-- what follows the first word of a text, without the gap before it
abbrev pub behind : List ℕ → List ℕ
behind text = drop_gaps (behind_word text)

-- the byte before is of the same word
abbrev pub goes_on : List ℕ → Bool
goes_on [] = false
goes_on (b ∷ bs) = not (is_gap b)

-- the words of a text, in order: the pieces between its gaps
abbrev pub words_of : List ℕ → List (List ℕ)
words_of [] = []
words_of (b ∷ bs) =
    if is_gap b then words_of bs else if goes_on bs then joined b (words_of bs)
    else (b ∷ []) ∷ words_of bs

-- a version that a namespace must have, or `*` for any
abbrev pub version_of : List ℕ → Option (Option ℕ)
version_of word =
    if bytes_eq word (codes "*") then Some None else option_map (λ n. Some n) (number_of word)

-- the bytes before the first `:`, and those behind it, if there is one
abbrev pub before_colon : List ℕ → List ℕ
before_colon word = before_byte 58 word

abbrev pub behind_colon : List ℕ → Option (List ℕ)
behind_colon word = behind_byte 58 word

-- the address of a word `host:port`
abbrev pub addr_in : List ℕ → Option Addr
addr_in word =
    addr_of (host_value (before_colon word)) (option_and_then port_value (behind_colon word))

abbrev pub with_weight : Option Addr → Option ℕ → Option Weighted
with_weight (Some addr) (Some weight) = Some (record { addr = addr; weight = weight })
with_weight _ _ = None

-- an address with the weight behind its `*`, which is one where there is no `*`
abbrev pub weighted_in : List ℕ → Option Weighted
weighted_in word = with_weight (addr_in (before_star word)) (line_weight (behind_star word))

abbrev pub put_first : Option Weighted → Option (List Weighted) → Option (List Weighted)
put_first (Some item) (Some items) = Some (item ∷ items)
put_first _ _ = None

-- the addresses of some words, where each is one
abbrev pub addrs_in : List (List ℕ) → Option (List Weighted)
addrs_in [] = Some []
addrs_in (word ∷ words) = put_first (weighted_in word) (addrs_in words)

-- the addresses that a line gives a service: of at most 1,024 words, each kept once, at its first
-- place and with its first weight
abbrev pub list_in : List (List ℕ) → Option (List Weighted)
list_in words =
    if nat_le (length words) 1024 then option_map first_places (addrs_in words) else None
