-- That hosts, ports and lines of address files are read as the grammar has them.
use Rattle.std.specs.Prelude.{◌≡◌, ◌↔◌, ℕ, List, Some}
use Rattle.text_parts.specs.Words.{AreGaps}
use Rattle.addr_book.specs.declared.addr.Weighted.{Weighted}
use Rattle.addr_book.specs.declared.file_line.FileLine.TheVariants.{Blank, Item}
use Rattle.addr_book.specs.Addr.{host_value, port_value}
use Rattle.addr_book.specs.FileLine.{line_value}
use Rattle.addr_book.specs.AddrGrammar.{AddrText, SpellsHost, SpellsPort}

-- the hosts that are computed are those of the grammar, and no others
abbrev pub ComputesHosts : Type 0
ComputesHosts = (text : List ℕ) (ip : ℕ) → (host_value text ≡ Some ip) ↔ SpellsHost text ip

-- the same of ports
abbrev pub ComputesPorts : Type 0
ComputesPorts = (text : List ℕ) (port : ℕ) → (port_value text ≡ Some port) ↔ SpellsPort text port

-- a line is blank exactly where it has gaps alone
abbrev pub ComputesBlanks : Type 0
ComputesBlanks = (line : List ℕ) → (line_value line ≡ Blank) ↔ AreGaps line

-- a line has an address exactly where the grammar has it, and that one. So each other line is bad
abbrev pub ComputesAddrs : Type 0
ComputesAddrs = (line : List ℕ) (item : Weighted)
    → (line_value line ≡ Item item) ↔ AddrText line item
