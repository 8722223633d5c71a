-- The texts that stand for hosts, ports and lines of an address file: a rule for each line of the
-- grammar.
use Rattle.std.specs.Prelude.{◌≢◌, ℕ, ◌+◌, ◌*◌, ◌≤◌, List, [], ◌∷◌, ◌++◌, length, codes}
use Rattle.text_parts.specs.Words.{AreGaps}
use Rattle.name_tree.specs.Value.{one_whole}
use Rattle.name_tree.specs.Grammar.{AreDigits, number, SpellsWeight}
use Rattle.addr_book.specs.declared.addr.Weighted.{Weighted}

-- a number in decimal digits: one, or several that don't begin with 0
pub data SpellsNumber : List ℕ → ℕ → Type 0 where
  one_digit : {d : ℕ} → AreDigits (d ∷ []) → SpellsNumber (d ∷ []) (number 0 (d ∷ []))
  digits : {d : ℕ} {ds : List ℕ} → d ≢ 48 → AreDigits (d ∷ ds)
      → SpellsNumber (d ∷ ds) (number 0 (d ∷ ds))

-- a part of an IPv4 address: 0 to 255
pub data SpellsOctet : List ℕ → ℕ → Type 0 where
  octet : {s : List ℕ} {n : ℕ} → SpellsNumber s n → n ≤ 255 → SpellsOctet s n

-- a host: `localhost`, which is 127.0.0.1, or four octets with points between them
pub data SpellsHost : List ℕ → ℕ → Type 0 where
  localhost : SpellsHost (codes "localhost") 2130706433
  octets : {s t u v : List ℕ} {a b c d : ℕ} → SpellsOctet s a → SpellsOctet t b → SpellsOctet u c
      → SpellsOctet v d
      → SpellsHost (s ++ codes "." ++ t ++ codes "." ++ u ++ codes "." ++ v)
      (((a * 256 + b) * 256 + c) * 256 + d)

-- a port: 1 to 65535
pub data SpellsPort : List ℕ → ℕ → Type 0 where
  port : {s : List ℕ} {n : ℕ} → SpellsNumber s n → 1 ≤ n → n ≤ 65535 → SpellsPort s n

-- the weight of an address, in millionths: nothing, which is one whole, or `*` and a weight that
-- isn't 0
pub data SpellsShare : List ℕ → ℕ → Type 0 where
  whole_share : SpellsShare [] one_whole
  share : {a w : List ℕ} {n : ℕ} → AreGaps a → SpellsWeight w n → 1 ≤ n
      → SpellsShare (codes "*" ++ a ++ w) n

-- the line of an address: a host, a gap, a port, and its weight
pub data AddrText : List ℕ → Weighted → Type 0 where
  addr : {a h g p b s c : List ℕ} {ip port weight : ℕ} → AreGaps a → SpellsHost h ip → AreGaps g
      → 1 ≤ length g → SpellsPort p port → AreGaps b → SpellsShare s weight → AreGaps c
      → AddrText (a ++ h ++ g ++ p ++ b ++ s ++ c)
      (record { addr = record { ip = ip; port = port }; weight = weight })
