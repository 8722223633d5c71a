-- The bytes of names are ASCII, so they are text.
use Rattle.std.proofs.Common.{◌≡◌, ℕ, ◌<◌, ◌≤◌, List, length, get_or, sym, subst, arith, ⊎_elim}
use Rattle.std.specs.Prelude.{IsTrue}
use Rattle.std.specs.Str.{IsAscii, IsUtf8}
use Rattle.std.proofs.lemmas.Bool.{cases_lt}
use Rattle.std.proofs.lemmas.Bool.Decides.{nat_tests}
use Rattle.std.proofs.lemmas.List.{get_or_past}
use Rattle.std.proofs.lemmas.Str.{IsUtf8-from_ascii}
use Rattle.addr_book.specs.Name.{IsName, is_name_byte}

byte_is_low : (b : ℕ) → IsTrue (is_name_byte b) → b < 128
byte_is_low b t = grind (arith, nat_tests)

bytes_are_low : (text : List ℕ) → IsName text → IsAscii text
bytes_are_low text name i =
    ⊎_elim
    (λ within. byte_is_low (get_or text i 0) (name.bytes i 0 within))
    (λ past. let zero_there = get_or_past text i 0 past in rw zero_there (omega arith))
    (cases_lt i (length text))

-- bytes that are those of a name are text
pub name_is_text : (bytes name : List ℕ) → bytes ≡ name → IsName name → IsUtf8 bytes
name_is_text bytes name same is =
    subst IsUtf8 (sym same) (IsUtf8-from_ascii name (bytes_are_low name is))
