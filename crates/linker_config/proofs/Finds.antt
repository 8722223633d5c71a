-- Looking through a list that was made from another one.
use Rattle.std.proofs.Common.{◌≡◌, ℕ, Bool, true, false, ◌||◌, cond, List, [], ◌∷◌, map, Some}
use Rattle.std.proofs.Common.{option_map, refl, ap, String, string_bytes}
use Rattle.std.specs.List.{find, list_any}
use Rattle.std.specs.declared.alloc.Global.{Global}
use Rattle.serde_json.specs.declared.value.Value.{Value}
use Rattle.serde_json.specs.View.{members_view}
use Rattle.linker_config.specs.Keys.{keys_in}

-- what is found in the list is what is made of what is found in the other one
pub find_map : {A B : Type 0} (p : B → Bool) (f : A → B) (xs : List A)
    → find p (map f xs) ≡ option_map f (find (λ x. p (f x)) xs)
find_map p f [] = refl
find_map p f (x ∷ xs) =
    elim (p (f x)) as (λ b. cond b (Some (f x)) (find p (map f xs))
    ≡ option_map f (cond b (Some x) (find (λ y. p (f y)) xs)))
    [ true ↦ refl | false ↦ find_map p f xs ]

pub any_map : {A B : Type 0} (p : B → Bool) (f : A → B) (xs : List A)
    → list_any p (map f xs) ≡ list_any (λ x. p (f x)) xs
any_map p f [] = refl
any_map p f (x ∷ xs) = ap (λ b. p (f x) || b) (any_map p f xs)

-- the keys of an object are those of its entries
pub keys_in-members : (ms : List (String Global × Value))
    → keys_in (members_view ms) ≡ map (λ m. string_bytes m.0) ms
keys_in-members [] = refl
keys_in-members (m ∷ ms) = ap (λ ks. string_bytes m.0 ∷ ks) (keys_in-members ms)

-- what is found among the keys of an object is found among those of its entries
pub find_key : (p : List ℕ → Bool) (ms : List (String Global × Value))
    → find p (keys_in (members_view ms))
    ≡ option_map string_bytes (find (λ k. p (string_bytes k)) (map (λ m. m.0) ms))
find_key p [] = refl
find_key p (m ∷ ms) =
    elim (p (string_bytes m.0)) as (λ b. cond b (Some (string_bytes m.0))
    (find p (keys_in (members_view ms)))
    ≡ option_map string_bytes
    (cond b (Some m.0) (find (λ k. p (string_bytes k)) (map (λ n. n.0) ms))))
    [ true ↦ refl | false ↦ find_key p ms ]
