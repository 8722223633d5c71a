-- Which path a request names.
use Rattle.std.specs.Prelude.{◌≡◌, ◌≢◌, ⊤, ℕ, Bool, true, false, ◌==◌, nat_le, if◌then◌else◌, List}
use Rattle.std.specs.Prelude.{[], ◌∷◌, ◌++◌, length, take, filter, codes, bytes_eq, Option, Some}
use Rattle.std.specs.Prelude.{None, option_map, Result, Ok, Err}
use Rattle.std.specs.List.{before_first, slice_split}
use Rattle.std.specs.Option.{option_and_then}
use Rattle.name_tree.specs.Path.{Labels}
use Rattle.name_tree.specs.Computed.{path_of}
use Rattle.http_wire.specs.declared.head.Field.{Field}
use Rattle.http_wire.specs.declared.head.Head.{Head}
use Rattle.http_wire.specs.Fields.{first_value, lower, same_ignoring_case}
use Rattle.http_wire.specs.Target.{Form, IsServed}
use Rattle.http_uri.specs.ByteClasses.{question_mark, slash}
use Rattle.identifier.specs.declared.rule.Kind.{Kind}
use Rattle.identifier.specs.declared.rule.Kind.TheVariants.{Token, MethodAndHost, Segments}
use Rattle.identifier.specs.declared.rule.Kind.TheVariants.{PathField, Static}
use Rattle.identifier.specs.declared.rule.Rule.{Rule}
use Rattle.identifier.specs.declared.fault.IdentifyFault.{IdentifyFault}
use Rattle.identifier.specs.declared.fault.IdentifyFault.TheVariants.{Unidentified, OutOfMemory}

-- the labels of one label, which has a byte
abbrev pub one_label : List ℕ → Option Labels
one_label [] = None
one_label (b ∷ bs) = Some ((b ∷ bs) ∷ [])

-- by a field's value as it was received; by the host where the field is Host
abbrev pub by_token : List ℕ → List Field → List ℕ → Option Labels
by_token name fields host =
    if same_ignoring_case name (codes "host") then one_label (lower host)
    else option_and_then one_label (first_value name fields)

-- by the version, the method and the host; an HTTP/1.0 request may have no host, and is named
-- without it
abbrev pub by_method_and_host : ℕ → List ℕ → List ℕ → Option Labels
by_method_and_host minor method host =
    if minor == 0 then Some (codes "1.0" ∷ method ∷ [])
    else option_map (λ label. codes "1.1" ∷ method ∷ label) (one_label (lower host))

-- the path of a target that goes on: what stands before its query. `*` has none
abbrev pub path_in : List ℕ → List ℕ
path_in line = if bytes_eq line (codes "*") then [] else before_first (λ b. b == question_mark) line

abbrev pub has_byte : List ℕ → Bool
has_byte [] = false
has_byte (b ∷ bs) = true

-- the pieces of a path between its slashes that have a byte
abbrev pub pieces_of : List ℕ → List (List ℕ)
pieces_of path = filter has_byte (slice_split (λ b. b == slash) path)

-- the first so many, if there are so many
abbrev pub first_of : ℕ → Labels → Option Labels
first_of count pieces = if nat_le count (length pieces) then Some (take count pieces) else None

-- what a request is named behind the prefix, by the host that it asks and the target that goes on
abbrev pub named_by : Kind → Head → List ℕ → List ℕ → Option Labels
named_by (Token name) head host line = by_token name head.fields host
named_by MethodAndHost head host line = by_method_and_host head.version head.method host
named_by (Segments count) head host line = first_of count (pieces_of (path_in line))
named_by (PathField name) head host line = option_and_then path_of (first_value name head.fields)
named_by (Static path) head host line = Some path

-- the path that a request names
abbrev pub identified : Rule → Head → List ℕ → List ℕ → Option Labels
identified rule head host line =
    option_map (λ more. rule.prefix ++ more) (named_by rule.kind head host line)

-- the target of the head is one that is served, and the method is not CONNECT
pub record IsTaken (head : Head) : Type 0 where
  pub other : head.method ≢ codes "CONNECT"
  pub form : Form
  pub served : IsServed head.method head.target form

-- an answer that gives these labels, or that there are none
abbrev pub Answers : Option Labels → Result Labels IdentifyFault → Type 0
Answers named (Ok path) = named ≡ Some path
Answers named (Err Unidentified) = named ≡ None
Answers named (Err OutOfMemory) = ⊤

-- an answer that gives these labels behind a prefix
abbrev pub AnswersBehind : Labels → Option Labels → Result Labels IdentifyFault → Type 0
AnswersBehind prefix labels result = Answers (option_map (λ more. prefix ++ more) labels) result

-- an answer by the target that goes on
abbrev pub AnswersBy : Head → (List ℕ → Option Labels) → Result Labels IdentifyFault → Type 0
AnswersBy head named result =
    (form : Form) → IsServed head.method head.target form → Answers (named form.line) result
