-- The lines of an address file.
use Rattle.std.specs.Prelude.{ℕ, ◌==◌, if◌then◌else◌, List, Option, Some, None}
use Rattle.std.specs.Option.{option_and_then}
use Rattle.text_parts.specs.Words.{before_byte, behind_byte, behind_word, drop_gaps, is_empty}
use Rattle.text_parts.specs.Words.{single_word, word_of}
use Rattle.name_tree.specs.Weight.{weight_of}
use Rattle.addr_book.specs.declared.addr.Addr.{Addr}
use Rattle.addr_book.specs.declared.file_line.FileLine.{FileLine}
use Rattle.addr_book.specs.declared.file_line.FileLine.TheVariants.{Blank, Item, Bad}
use Rattle.addr_book.specs.Addr.{host_value, port_value, addr_of}
use Rattle.addr_book.specs.AddrList.{IsWeight}

-- the bytes before the first `*`, and those behind it, if there is one
abbrev pub before_star : List ℕ → List ℕ
before_star text = before_byte 42 text

abbrev pub behind_star : List ℕ → Option (List ℕ)
behind_star text = behind_byte 42 text

-- a weight that is not 0
abbrev pub some_weight : ℕ → Option ℕ
some_weight n = if n == 0 then None else Some n

-- the weight behind a `*`, in millionths; one where there is no `*`
abbrev pub line_weight : Option (List ℕ) → Option ℕ
line_weight None = Some 1000000
line_weight (Some text) = option_and_then some_weight (option_and_then weight_of (single_word text))

-- the weight of a line's address is one
abbrev pub HasWeight : FileLine → Type 0
HasWeight (Item item) = IsWeight item.weight
HasWeight _ = Unit {0}

abbrev pub item_line : Option Addr → Option ℕ → FileLine
item_line (Some addr) (Some weight) = Item (record { addr = addr; weight = weight })
item_line _ _ = Bad

-- what follows the host: a port, and `*` and a weight or nothing
abbrev pub behind_host : List ℕ → List ℕ → FileLine
behind_host host text =
    item_line (addr_of (host_value host)
    (option_and_then port_value (single_word (before_star text)))) (line_weight (behind_star text))

-- a line without its leading gaps: nothing, or a host and what follows it
abbrev pub words_value : List ℕ → FileLine
words_value text = if is_empty text then Blank else behind_host (word_of text) (behind_word text)

abbrev pub line_value : List ℕ → FileLine
line_value line = words_value (drop_gaps line)
