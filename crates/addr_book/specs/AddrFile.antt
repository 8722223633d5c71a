-- Address files.
use Rattle.std.specs.Prelude.{◌≡◌, ℕ, ◌+◌, ◌<◌, ◌≤◌, min, List, [], ◌∷◌, length, Result, Ok, Err}
use Rattle.std.specs.declared.vec.Vec.{Vec}
use Rattle.std.specs.declared.alloc.Global.{Global}
use Rattle.text_parts.specs.Lines.{lines_of}
use Rattle.addr_book.specs.declared.addr.Weighted.{Weighted}
use Rattle.addr_book.specs.declared.file_line.FileLine.{FileLine}
use Rattle.addr_book.specs.declared.file_line.FileLine.TheVariants.{Blank, Item, Bad}
use Rattle.addr_book.specs.declared.addr_file.AddrFault.{AddrFault}
use Rattle.addr_book.specs.declared.addr_file.AddrFault.TheVariants.{BadLine, TooMany, OutOfMemory}
use Rattle.addr_book.specs.AddrList.{first_places}
use Rattle.addr_book.specs.FileLine.{line_value}

-- what an address file says: its first bad line, or the addresses of its lines with their weights,
-- in order
pub data File : Type 0 where
  bad_at : ℕ → File
  addrs : List Weighted → File

-- the lines from number n on, of which the first says this and the others that
abbrev pub with_line : ℕ → FileLine → File → File
with_line n Blank rest = rest
with_line n Bad rest = bad_at n
with_line n (Item a) (bad_at m) = bad_at m
with_line n (Item a) (addrs list) = addrs (a ∷ list)

abbrev pub file_from : ℕ → List (List ℕ) → File
file_from n [] = addrs []
file_from n (l ∷ ls) = with_line n (line_value l) (file_from (n + 1) ls)

-- lines are counted from 1
abbrev pub file_value : List ℕ → File
file_value text = file_from 1 (lines_of text)

-- an answer on a file: the addresses without the repeated ones, the first bad line, or the number
-- of too many
abbrev pub IsFileAnswer : File → Result (List Weighted) AddrFault → Type 0
IsFileAnswer (addrs list) (Ok kept) = (length list ≤ 1024) × (kept ≡ first_places list)
IsFileAnswer (addrs list) (Err (TooMany n)) = (1024 < length list) × (n ≡ length list)
IsFileAnswer (addrs list) (Err (BadLine m)) = ⊥
IsFileAnswer (bad_at n) (Ok v) = ⊥
IsFileAnswer (bad_at n) (Err (TooMany m)) = ⊥
IsFileAnswer (bad_at n) (Err (BadLine m)) = m ≡ min n 4294967295
IsFileAnswer _ (Err OutOfMemory) = Unit {0}

-- the same of all its addresses
abbrev pub IsLinesAnswer : File → Result (Vec Weighted Global) AddrFault → Type 0
IsLinesAnswer (addrs list) (Ok v) = v.items ≡ list
IsLinesAnswer (addrs list) (Err (TooMany n)) = ⊥
IsLinesAnswer (addrs list) (Err (BadLine m)) = ⊥
IsLinesAnswer (bad_at n) (Ok v) = ⊥
IsLinesAnswer (bad_at n) (Err (TooMany m)) = ⊥
IsLinesAnswer (bad_at n) (Err (BadLine m)) = m ≡ min n 4294967295
IsLinesAnswer _ (Err OutOfMemory) = Unit {0}
