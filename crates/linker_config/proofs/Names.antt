-- Names by the test that computes.
use Rattle.std.proofs.Common.{◌≡◌, ℕ, ◌&&◌, nat_le, Bool, true, false, if◌then◌else◌, List, length}
use Rattle.std.proofs.Common.{Some, None, refl}
use Rattle.std.specs.List.{list_all}
use Rattle.std.proofs.lemmas.Bool.{leb-true, le-leb, and_parts}
use Rattle.std.proofs.lemmas.List.Sums.{AllPass-from_list_all, list_all-from_AllPass}
use Rattle.addr_book.specs.Name.{is_name_byte, IsName}
use Rattle.linker_config.specs.Listening.{is_name, name_value}

-- the test is passed by names
pub is_name-IsName : (text : List ℕ) → IsName text → is_name text ≡ true
is_name-IsName text h =
    rw (
      le-leb 1 (length text) h.some,
      le-leb (length text) 255 h.few,
      list_all-from_AllPass is_name_byte text h.bytes,
    )

-- and by nothing else
pub IsName-is_name : (text : List ℕ) → is_name text ≡ true → IsName text
IsName-is_name text h =
    let parts = and_parts (nat_le 1 (length text) && nat_le (length text) 255)
    (list_all is_name_byte text) h in
    let ends = and_parts (nat_le 1 (length text)) (nat_le (length text) 255) parts.0 in
    record {
      some = leb-true 1 (length text) ends.0;
      few = leb-true (length text) 255 ends.1;
      bytes = AllPass-from_list_all is_name_byte text parts.1;
    }

pub name_value-name : (text : List ℕ) → IsName text → name_value text ≡ Some text
unfolding name_value
name_value-name text h = rw (is_name-IsName text h)

none_of : (b : Bool) (text : List ℕ) → (b ≡ true → ⊥) → (if b then Some text else None) ≡ None
none_of true text h = absurd (h refl)
none_of false text h = refl

pub name_value-other : (text : List ℕ) → ¬ (IsName text) → name_value text ≡ None
unfolding name_value
name_value-other text h = none_of (is_name text) text (λ e. h (IsName-is_name text e))
