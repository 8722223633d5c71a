-- The values under the keys of an object.
use Rattle.std.specs.Prelude.{⊤, ℕ, ◌&&◌, nat_le, if◌then◌else◌, List, [], ◌∷◌, Option, Some, None}
use Rattle.std.specs.Prelude.{option_and_then, Ok}
use Rattle.std.specs.Str.{bytes_eq}
use Rattle.serde_json.specs.Data.{Data, Items, no_items, item}
use Rattle.serde_json.specs.Find.{get, as_array, as_number, as_str, as_u64}
use Rattle.linker_config.specs.declared.fault.ConfigFault.TheVariants.{Bad}
use Rattle.linker_config.specs.Keys.{Told, and_then, inside, or_fault}

-- what a value says, or the default where there is none
abbrev pub or_default : {V : Type 0} → V → (Data → Told V) → Option Data → Told V
or_default default told None = Ok default
or_default default told (Some d) = told d

-- what a value says, if there is one
abbrev pub if_there : {V : Type 0} → (Data → Told V) → Option Data → Told (Option V)
if_there told None = Ok None
if_there told (Some d) = and_then (told d) (λ v. Ok (Some v))

-- a number between two others, both included
abbrev pub between : ℕ → ℕ → ℕ → Option ℕ
between low high n = if nat_le low n && nat_le n high then Some n else None

-- a number in JSON without fraction and exponent, within a range
abbrev pub number_in : ℕ → ℕ → Data → Option ℕ
number_in low high d = option_and_then (between low high) (option_and_then as_u64 (as_number d))

-- a text in JSON that a reader takes
abbrev pub text_by : {V : Type 0} → (List ℕ → Option V) → Data → Option V
text_by reader d = option_and_then reader (as_str d)

-- the number under a key of the object at a place
unfoldable pub number_at : List ℕ → List ℕ → ℕ → ℕ → ℕ → Data → Told ℕ
number_at place key default low high d =
    or_default default (λ v. or_fault (Bad (inside place key)) (number_in low high v)) (get key d)

-- the text under a key of the object at a place, by its reader
unfoldable pub text_at : {V : Type 0} → List ℕ → List ℕ → V → (List ℕ → Option V) → Data → Told V
text_at place key default reader d =
    or_default default (λ v. or_fault (Bad (inside place key)) (text_by reader v)) (get key d)

-- the text under a key that has to be there
unfoldable pub needed_text : {V : Type 0} → List ℕ → List ℕ → (List ℕ → Option V) → Data → Told V
needed_text place key reader d =
    or_fault (Bad (inside place key)) (option_and_then (text_by reader) (get key d))

-- this word and no other text
abbrev pub exactly : List ℕ → List ℕ → Option ⊤
exactly word text = if bytes_eq text word then Some tt else None

-- a text of one or more bytes
abbrev pub non_empty : List ℕ → Option (List ℕ)
non_empty [] = None
non_empty (b ∷ bs) = Some (b ∷ bs)

-- the one element
abbrev pub only : Items → Option Data
only no_items = None
only (item d no_items) = Some d
only (item d (item e ds)) = None

-- the one element, or none; nothing where there are more
abbrev pub at_most_one : Items → Option (Option Data)
at_most_one no_items = Some None
at_most_one (item d no_items) = Some (Some d)
at_most_one (item d (item e ds)) = None

-- the one element of the array under a key
abbrev pub element : List ℕ → Data → Told Data
element key d = or_fault (Bad key) (option_and_then only (as_array d))
