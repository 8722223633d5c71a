-- JSON texts, and the code's values of them.
use Rattle.std.proofs.Common.{◌≡◌, ℕ, Bool, true, false, List, [], ◌∷◌, length, map, Some}
use Rattle.std.proofs.Common.{None, refl, sym, ap, ◌∙◌, arith, String}
use Rattle.std.specs.Prelude.{if◌then◌else◌, IsUtf8, unwrap_or, option_map}
use Rattle.std.specs.declared.alloc.Global.{Global}
use Rattle.std.specs.Str.{is_utf8}
use Rattle.std.proofs.lemmas.Str.{IsUtf8-from_is_utf8, is_utf8-from_IsUtf8}
use Rattle.serde_json.specs.Data.{Data}
use Rattle.serde_json.specs.Read.{read}
use Rattle.serde_json.specs.Find.{as_object}
use Rattle.serde_json.specs.View.{members_of, members_view, view}
use Rattle.serde_json.specs.declared.value.Value.{Value}
use Rattle.api_wire.specs.Json.{count_members, json_of, members_in}

pub json_known : (text : List ℕ) (d : Data) → IsUtf8 text → read text ≡ Some d
    → Some d ≡ json_of text
unfolding json_of
json_known text d utf8 is = sym (rw (is_utf8-from_IsUtf8 text utf8) is)

pub json_unknown : (text : List ℕ) → (IsUtf8 text → read text ≡ None) → None ≡ json_of text
unfolding json_of
json_unknown text none = sym (go (is_utf8 text) refl)
  where
    go : (b : Bool) → is_utf8 text ≡ b → (if b then read text else None) ≡ None
    go true e = none (IsUtf8-from_is_utf8 text e)
    go false e = refl

count-members : (ms : List (String Global × Data)) → count_members (members_of ms) ≡ length ms
count-members [] = refl
count-members (m ∷ ms) = omega (arith, count-members ms)

map_length : {A B : Type 0} (f : A → B) (xs : List A) → length (map f xs) ≡ length xs
map_length f [] = refl
map_length f (x ∷ xs) = omega (arith, map_length f xs)

-- a map of so many entries is an object of so many members
pub members_are : (d : Data) (ms : List (String Global × Value)) (n : ℕ)
    → Some (members_view ms) ≡ as_object d → n ≡ length ms → n ≡ members_in d
members_are d ms n is count =
    let same : n ≡ count_members (members_view ms) =
    count ∙ (sym (map_length (λ (m : String Global × Value). (m.0, view m.1)) ms)
    ∙ sym (count-members (map (λ (m : String Global × Value). (m.0, view m.1)) ms))) in
    same ∙ ap (λ o. unwrap_or (option_map count_members o) 0) is
