-- How requests are named.
use Rattle.std.specs.Prelude.{ℕ, Bool, ◌||◌, ◌&&◌, ◌==◌, nat_le, if◌then◌else◌, List, [], ◌∷◌}
use Rattle.std.specs.Prelude.{length, codes, Option, Some, None, Ok, Err}
use Rattle.std.specs.Char.{is_ascii_alphanumeric}
use Rattle.std.specs.List.{list_all, list_any}
use Rattle.std.specs.Str.{bytes_eq}
use Rattle.serde_json.specs.Data.{Data}
use Rattle.name_tree.specs.Path.{Labels}
use Rattle.name_tree.specs.Computed.{path_of}
use Rattle.identifier.specs.declared.rule.Kind.{Kind}
use Rattle.identifier.specs.declared.rule.Kind.TheVariants.{Token, MethodAndHost, Segments}
use Rattle.identifier.specs.declared.rule.Kind.TheVariants.{PathField, Static}
use Rattle.linker_config.specs.declared.fault.ConfigFault.TheVariants.{Bad}
use Rattle.linker_config.specs.Keys.{Told, and_then, inside, keys_told}
use Rattle.linker_config.specs.Values.{needed_text, number_at, text_at}

abbrev pub identifier_place : List ℕ
identifier_place = codes "routers[0].identifier"

-- a byte of a token (RFC 9110 section 5.6.2)
unfoldable pub is_token_byte : ℕ → Bool
is_token_byte b = is_ascii_alphanumeric b || list_any (λ mark. mark == b) (codes "!#$%&'*+-.^_`|~")

-- the name of a field is a token (RFC 9110 section 5.1)
unfoldable pub field_name : List ℕ → Option (List ℕ)
field_name text = if nat_le 1 (length text) && list_all is_token_byte text then Some text else None

-- the path of a text, or else the path of the text behind a slash
abbrev pub or_behind_slash : List ℕ → Option Labels → Option Labels
or_behind_slash text None = path_of (47 ∷ text)
or_behind_slash text (Some path) = Some path

unfoldable pub static_path : List ℕ → Option Labels
static_path text = or_behind_slash text (path_of text)

-- a field's value or the host
unfoldable pub token_told : Data → Told Kind
token_told d =
    and_then (keys_told identifier_place (codes "kind" ∷ codes "header" ∷ []) [] d) (λ _.
    and_then (text_at identifier_place (codes "header") (codes "Host") field_name d) (λ name.
    Ok (Token name)))

-- version, method and host
unfoldable pub method_told : Data → Told Kind
method_told d =
    and_then (keys_told identifier_place (codes "kind" ∷ []) [] d) (λ _.
    Ok MethodAndHost)

-- the first pieces of the target's path
unfoldable pub segments_told : Data → Told Kind
segments_told d =
    and_then (keys_told identifier_place (codes "kind" ∷ codes "segments" ∷ []) [] d) (λ _.
    and_then (number_at identifier_place (codes "segments") 1 1 16 d) (λ count.
    Ok (Segments count)))

-- the path in a field's value
unfoldable pub header_told : Data → Told Kind
header_told d =
    and_then (keys_told identifier_place (codes "kind" ∷ codes "header" ∷ []) [] d) (λ _.
    and_then (text_at identifier_place (codes "header") (codes "l5d-name") field_name d) (λ name.
    Ok (PathField name)))

-- always the same path
unfoldable pub static_told : Data → Told Kind
static_told d =
    and_then (keys_told identifier_place (codes "kind" ∷ codes "path" ∷ []) (codes "path" ∷ []) d)
    (λ _.
    and_then (needed_text identifier_place (codes "path") static_path d) (λ path.
    Ok (Static path)))

-- what a kind of identifier is called
unfoldable pub kind_told : Data → List ℕ → Told Kind
kind_told d name =
    if bytes_eq name (codes "io.l5d.header.token") then token_told d
    else if bytes_eq name (codes "io.l5d.methodAndHost") then method_told d
    else if bytes_eq name (codes "io.l5d.path") then segments_told d
    else if bytes_eq name (codes "io.l5d.header") then header_told d
    else if bytes_eq name (codes "io.l5d.static") then static_told d
    else Err (Bad (inside identifier_place (codes "kind")))

-- a key that no kind has is told before the kind, and one that the kind does not have behind it
unfoldable pub identifier_told : Data → Told Kind
identifier_told d =
    and_then (keys_told identifier_place
    (codes "kind" ∷ codes "header" ∷ codes "segments" ∷ codes "path" ∷ []) (codes "kind" ∷ []) d)
    (λ _.
    and_then (needed_text identifier_place (codes "kind") Some d)
    (kind_told d))
