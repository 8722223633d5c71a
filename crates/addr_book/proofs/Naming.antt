-- Which texts are names.
use Rattle.std.proofs.Common.{◌≡◌, ℕ, ◌≤◌, List, length, Bool, true, false, Some, None, refl, ap}
use Rattle.std.proofs.Common.{arith}
use Rattle.std.specs.Prelude.{◌&&◌, nat_le, if◌then◌else◌}
use Rattle.std.specs.List.{list_all}
use Rattle.std.proofs.lemmas.Bool.Decides.{nat_tests}
use Rattle.std.proofs.lemmas.Option.{cond_some}
use Rattle.std.proofs.lemmas.List.Sums.{AllPass-from_list_all, list_all-from_AllPass}
use Rattle.addr_book.specs.Name.{is_name_byte, IsName, name_of}

both_are : (a b : Bool) → (a && b) ≡ true → (a ≡ true) × (b ≡ true)
both_are true b e = (refl, e)
both_are false b e = cc

all_are : (a b c : Bool) → a ≡ true → b ≡ true → c ≡ true → ((a && b) && c) ≡ true
all_are true true true p q r = refl
all_are false b c p q r = cc
all_are true false c p q r = cc
all_are true true false p q r = cc

small : (a b : ℕ) → a ≤ b → nat_le a b ≡ true
small a b h = grind (arith, nat_tests)

within : (a b : ℕ) → nat_le a b ≡ true → a ≤ b
within a b h = grind (arith, nat_tests)

pub name_known : (text : List ℕ) → IsName text → name_of text ≡ Some text
name_known text h =
    ap (λ b. if b then Some text else None)
    (all_are (nat_le 1 (length text)) (nat_le (length text) 255) (list_all is_name_byte text)
    (small 1 (length text) h.some) (small (length text) 255 h.few)
    (list_all-from_AllPass is_name_byte text h.bytes))

pub name_found : (text v : List ℕ) → name_of text ≡ Some v → IsName text × (text ≡ v)
name_found text v e =
    let found = cond_some ((nat_le 1 (length text) && nat_le (length text) 255)
    && list_all is_name_byte text) text v e in
    let parts = both_are (nat_le 1 (length text) && nat_le (length text) 255)
    (list_all is_name_byte text) found.0 in
    let sizes = both_are (nat_le 1 (length text)) (nat_le (length text) 255) parts.0 in (
      record {
        some = within 1 (length text) sizes.0;
        few = within (length text) 255 sizes.1;
        bytes = AllPass-from_list_all is_name_byte text parts.1;
      },
      found.1,
    )

pub name_unknown : (text : List ℕ) → (IsName text → ⊥) → name_of text ≡ None
name_unknown text unnamed =
    more ((nat_le 1 (length text) && nat_le (length text) 255) && list_all is_name_byte text) refl
  where
    more : (b : Bool) → ((nat_le 1 (length text) && nat_le (length text) 255)
        && list_all is_name_byte text) ≡ b → name_of text ≡ None
    more true e =
        let parts = both_are (nat_le 1 (length text) && nat_le (length text) 255)
        (list_all is_name_byte text) e in
        let sizes = both_are (nat_le 1 (length text)) (nat_le (length text) 255) parts.0 in
        absurd
        (unnamed (record {
          some = within 1 (length text) sizes.0;
          few =
              within (length text) 255 sizes.1;
          bytes = AllPass-from_list_all is_name_byte text parts.1;
        }))
    more false e = ap (λ b. if b then Some text else None) e
