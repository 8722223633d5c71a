-- The texts of addresses.
use Rattle.std.proofs.Common.{◌<◌, ◌≤◌, ◌/◌, ◌%◌, ◌^◌, ℕ, List, [], ◌∷◌, ◌++◌, refl, arith, All}
use Rattle.std.proofs.Common.{IsTrue}
use Rattle.std.specs.Fmt.{decimal}
use Rattle.std.specs.Str.Parse.{AllDigits}
use Rattle.std.proofs.lemmas.Bool.Decides.{nat_tests}
use Rattle.std.proofs.lemmas.Fmt.{decimal_is_IsNumeral}
use Rattle.std.proofs.lemmas.List.Elements.{All-append, All-cons, All-nil}
use Rattle.std.proofs.lemmas.Str.Parse.{digit_at}
use Rattle.addr_book.specs.declared.addr.Addr.{Addr}
use Rattle.addr_book.specs.Addr.{addr_text}
use Rattle.proxy_session.proofs.FieldTexts.{is_target_byte, visible_text, IsFieldText}

abbrev IsVisible : ℕ → Type 0
IsVisible b = IsTrue (is_target_byte b)

digits_visible : (digits : List ℕ) → AllDigits 10 digits → All IsVisible digits
digits_visible [] all = All-nil IsVisible
digits_visible (d ∷ ds) all =
    All-cons IsVisible d ds (digit d (digit_at (d ∷ []) 0 (all.0, tt) (omega arith)))
    (digits_visible ds all.1)
  where
    digit : (x : ℕ) → (48 ≤ x) × (x ≤ 57) → IsVisible x
    digit x range = let low = range.0 in let high = range.1 in grind (arith, nat_tests, low, high)

number_visible : (n : ℕ) → n < 2 ^ 64 → All IsVisible (decimal n)
number_visible n small = digits_visible (decimal n) (decimal_is_IsNumeral n small).0.1

-- a number, with a byte behind it
then : (front : List ℕ) (n b : ℕ) → All IsVisible front → n < 2 ^ 64 → IsVisible b
    → All IsVisible (front ++ decimal n ++ b ∷ [])
then front n b so_far small mark =
    All-append IsVisible (front ++ decimal n) (b ∷ []) (All-append IsVisible front (decimal n)
    so_far (number_visible n small))
    (All-cons IsVisible b [] mark (All-nil IsVisible))

-- the text of an address may stand in a field as it is
pub addr_field : (addr : Addr) → addr.ip < 2 ^ 32 → addr.port < 2 ^ 16
    → IsFieldText (addr_text addr)
addr_field addr ip port =
    let a1 = decimal (addr.ip / 16777216) ++ 46 ∷ [] in
    let a2 = a1 ++ decimal (addr.ip / 65536 % 256) ++ 46 ∷ [] in
    let a3 = a2 ++ decimal (addr.ip / 256 % 256) ++ 46 ∷ [] in
    let a4 = a3 ++ decimal (addr.ip % 256) ++ 58 ∷ [] in
    let t1 : All IsVisible a1 = then [] (addr.ip / 16777216) 46 (All-nil IsVisible) (omega arith)
    refl in
    let t2 : All IsVisible a2 = then a1 (addr.ip / 65536 % 256) 46 t1 (grind arith) refl in
    let t3 : All IsVisible a3 = then a2 (addr.ip / 256 % 256) 46 t2 (grind arith) refl in
    let t4 : All IsVisible a4 = then a3 (addr.ip % 256) 58 t3 (grind arith) refl in
    visible_text (addr_text addr) (All-append IsVisible a4 (decimal addr.port) t4
    (number_visible addr.port (grind arith)))
