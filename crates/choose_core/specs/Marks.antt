-- Marks by addresses.
use Rattle.std.specs.Prelude.{ℕ, ◌==◌, if◌then◌else◌, unwrap_or, refl}
use Rattle.std.specs.Coded.{Coded, code_by, coded×, coded_ℕ}
use Rattle.std.specs.FinMap.{FinMap, code, empty, get, insert, remove}
use Rattle.addr_book.specs.declared.addr.Addr.{Addr}
use Rattle.addr_book.specs.AddrList.{addr_cmp, addr_code}
use Rattle.choose_core.specs.declared.mark.Mark.{Mark}
use Rattle.choose_core.specs.Mark.{no_mark}

-- the marks of the addresses that have failures
abbrev pub MarkMap : Type 0
MarkMap = FinMap addr_cmp Mark

-- a mark is stored as its two numbers
abbrev pub mark_code : Coded Mark
mark_code =
    code_by (ℕ × ℕ) (coded× coded_ℕ coded_ℕ) (λ m. (m.count, m.until))
    (λ p. record { count = p.0; until = p.1 }) (λ _. refl)

abbrev pub marks_code : Coded MarkMap
marks_code = code addr_code mark_code

abbrev pub no_marks : MarkMap
no_marks = empty

-- the mark of an address
abbrev pub mark_at : MarkMap → Addr → Mark
mark_at marks addr = unwrap_or (get marks addr) no_mark

-- the marks with this one for an address; one without failures is not kept
abbrev pub with_mark : MarkMap → Addr → Mark → MarkMap
with_mark marks addr mark = if mark.count == 0 then remove marks addr else insert marks addr mark
