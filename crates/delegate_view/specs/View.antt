-- The text of a delegation's view, a compact JSON object.
use Rattle.std.specs.Prelude.{ℕ, List, [], ◌∷◌, ◌++◌, codes}
use Rattle.std.specs.List.{flat_map}
use Rattle.std.specs.Fmt.{decimal}
use Rattle.text_parts.specs.Json.{json_string}
use Rattle.name_tree.specs.Path.{Labels, canon_path}
use Rattle.bind_core.specs.Delegation.{Ending, negative, failing, no_replica, too_deep, too_wide}
use Rattle.bind_core.specs.Delegation.{bound}
use Rattle.bind_core.specs.declared.trace.LookupEnd.{LookupEnd}
use Rattle.bind_core.specs.declared.trace.LookupEnd.TheVariants as ended
use Rattle.bind_core.specs.declared.trace.TraceItem.{TraceItem}

-- what a delegation came to, in a word
abbrev pub outcome_word : Ending → List ℕ
outcome_word negative = codes "negative"
outcome_word failing = codes "failing"
outcome_word no_replica = codes "empty"
outcome_word too_deep = codes "too-deep"
outcome_word too_wide = codes "too-wide"
outcome_word (bound found) = codes "bound"

-- how a lookup ended, in a word
abbrev pub ended_word : LookupEnd → List ℕ
ended_word ended.Negative = codes "negative"
ended_word ended.Failing = codes "failing"
ended_word ended.Empty = codes "empty"
ended_word ended.TooDeep = codes "too-deep"
ended_word ended.Bound = codes "bound"

-- a path's canonical text as a JSON string
abbrev pub path_string : Labels → List ℕ
path_string path = json_string (canon_path path)

-- a lookup as a JSON object
abbrev pub lookup_text : TraceItem → List ℕ
lookup_text item =
    codes "{\"depth\":" ++ decimal item.depth ++ codes ",\"outcome\":\"" ++ ended_word item.ended
    ++ codes "\",\"path\":" ++ path_string item.path ++ codes "}"

-- each lookup behind a comma
abbrev pub more_lookups : List TraceItem → List ℕ
more_lookups items = flat_map (λ item. 44 ∷ lookup_text item) items

abbrev pub lookups_text : List TraceItem → List ℕ
lookups_text [] = []
lookups_text (item ∷ items) = lookup_text item ++ more_lookups items

-- the lookups in the order in which they began, and what the delegation came to
abbrev pub view_of : Ending → List TraceItem → List ℕ
view_of ending items =
    codes "{\"lookups\":[" ++ lookups_text items ++ codes "],\"outcome\":\"" ++ outcome_word ending
    ++ codes "\"}"
