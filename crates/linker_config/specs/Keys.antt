-- The keys of an object of the configuration, by one rule for all objects.
use Rattle.std.specs.Prelude.{⊤, ℕ, Bool, not, List, [], ◌∷◌, ◌++◌, codes, Option, Some, None}
use Rattle.std.specs.Prelude.{is_none, Result, Ok, Err}
use Rattle.std.specs.List.{list_any, find}
use Rattle.std.specs.Str.{bytes_eq}
use Rattle.serde_json.specs.Data.{Data, Members, no_members, member}
use Rattle.serde_json.specs.Find.{get, as_object}
use Rattle.linker_config.specs.declared.fault.ConfigFault.{ConfigFault}
use Rattle.linker_config.specs.declared.fault.ConfigFault.TheVariants.{Bad, Missing, Unknown}

-- a value of the configuration, or the first fault
abbrev pub Told : Type 0 → Type 0
Told V = Result V ConfigFault

-- what comes next is told where there was no fault
abbrev pub and_then : {V W : Type 0} → Told V → (V → Told W) → Told W
and_then (Ok v) next = next v
and_then (Err fault) next = Err fault

-- the key of a place, from the top. The place of the whole is the empty text
abbrev pub key_of : List ℕ → List ℕ
key_of [] = codes "top"
key_of (b ∷ bs) = b ∷ bs

-- the key of what stands under a key of the object at a place
abbrev pub inside : List ℕ → List ℕ → List ℕ
inside [] key = key
inside (b ∷ bs) key = (b ∷ bs) ++ 46 ∷ key

-- the keys of an object's members, in the order of their bytes
abbrev pub keys_in : Members → List (List ℕ)
keys_in no_members = []
keys_in (member key d ms) = key ∷ keys_in ms

abbrev pub is_among : List (List ℕ) → List ℕ → Bool
is_among keys key = list_any (λ known. bytes_eq known key) keys

-- the first key of an object that is not among the known ones
abbrev pub first_unknown : List (List ℕ) → Members → Option (List ℕ)
first_unknown known members = find (λ key. not (is_among known key)) (keys_in members)

-- the first of some keys that an object lacks
abbrev pub first_missing : List (List ℕ) → Data → Option (List ℕ)
first_missing required d = find (λ key. is_none (get key d)) required

-- what a value says, or else this fault
abbrev pub or_fault : {V : Type 0} → ConfigFault → Option V → Told V
or_fault fault None = Err fault
or_fault fault (Some v) = Ok v

-- this key has such a fault, or none has
abbrev pub no_key : (List ℕ → ConfigFault) → List ℕ → Option (List ℕ) → Told ⊤
no_key fault place None = Ok tt
no_key fault place (Some key) = Err (fault (inside place key))

-- the rule for what stands at a place: it has to be an object; else the first of its keys, in the
-- order of their bytes, that is not known is told; else the first that is required and missing, in
-- the order of the required ones
unfoldable pub keys_told : List ℕ → List (List ℕ) → List (List ℕ) → Data → Told ⊤
keys_told place known required d =
    and_then (or_fault (Bad (key_of place)) (as_object d)) (λ members.
    and_then (no_key Unknown place (first_unknown known members)) (λ _.
    no_key Missing place (first_missing required d)))
