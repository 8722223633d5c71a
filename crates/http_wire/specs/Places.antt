-- How far the bytes of a head have come, each place by what may follow there (RFC 9112 sections 2
-- and 5).
use Rattle.std.specs.Prelude.{◌≡◌, ◌↔◌, ◌⊎◌, ℕ, List, [], ◌∷◌, ◌++◌, Bool, true, false, ◌&&◌, ◌||◌}
use Rattle.std.specs.Prelude.{not, None, IsSome}
use Rattle.httparse.specs.Ascii.{line_feed, carriage_return, colon}
use Rattle.httparse.specs.Grammar.{LineEnd, print_end, Field, ReadsSection, AllPass, is_token_byte}
use Rattle.httparse.specs.Grammar.{is_value_byte, RequestHead, ReadsRequest, NeverHasRequest}
use Rattle.http_wire.specs.declared.section.Place.{Place}
use Rattle.http_wire.specs.declared.section.Place.TheVariants.{Start, Name, Value, ValueReturn}
use Rattle.http_wire.specs.declared.section.Place.TheVariants.{LastReturn, Ended, Refused}
use Rattle.http_wire.specs.declared.watch.Progress.{Progress}
use Rattle.http_wire.specs.declared.watch.Progress.TheVariants.{Before, BeforeReturn, Line, Fields}
use Rattle.http_wire.specs.declared.watch.Watch.{Watch}
use Rattle.http_wire.specs.FirstLine.{first_line, line_at}
use Rattle.http_wire.specs.Heads.{IsOpen}

-- field lines and the empty line that ends them, and nothing more
abbrev pub IsSection : List ℕ → Type 0
IsSection bytes = (fields : List Field) × (last : LineEnd) × ReadsSection bytes fields last []

-- the rest of a value, its line's end, and the lines that follow
abbrev pub EndsField : List ℕ → Type 0
EndsField bytes =
    (raw : List ℕ) × (end : LineEnd) × (rest : List ℕ)
    × AllPass is_value_byte raw × IsSection rest × (bytes ≡ raw ++ (print_end end ++ rest))

-- the bytes that may follow at a place of the field lines, up to the head's end
abbrev pub Completes : Place → List ℕ → Type 0
Completes Start bytes = IsSection bytes
Completes Name bytes =
    (name : List ℕ) × (rest : List ℕ) × AllPass is_token_byte name × EndsField rest
    × (bytes ≡ name ++ colon ∷ rest)
Completes Value bytes = EndsField bytes
Completes ValueReturn bytes = (rest : List ℕ) × IsSection rest × (bytes ≡ line_feed ∷ rest)
Completes LastReturn bytes = bytes ≡ line_feed ∷ []
Completes Ended bytes = bytes ≡ []
Completes Refused bytes = ⊥

-- the byte leads from the one place to the other: what may follow it there is what may follow at
-- the other
abbrev pub Leads : Place → ℕ → Place → Type 0
Leads from byte to = (more : List ℕ) → Completes from (byte ∷ more) ↔ Completes to more

-- the head has ended, or there is none
abbrev pub is_over : Place → Bool
is_over Start = false
is_over Name = false
is_over Value = false
is_over ValueReturn = false
is_over LastReturn = false
is_over Ended = true
is_over Refused = true

-- the bytes begin with what may follow at the place
abbrev pub Begins : Place → List ℕ → Type 0
Begins place bytes =
    (front : List ℕ) × (rest : List ℕ) × Completes place front × (bytes ≡ front ++ rest)

-- field lines that have come to this place: the whole of them ends exactly where what follows ends
-- there
pub record Reaches (bytes : List ℕ) (place : Place) : Type 0 where
  pub joins : (more : List ℕ) → Completes place more → IsSection (bytes ++ more)
  pub splits : (more : List ℕ) → Begins Start (bytes ++ more) → Begins place more

-- the first line that is not empty has ended
abbrev pub HasLine : List ℕ → Type 0
HasLine bytes = IsSome (first_line bytes)

-- bytes of a request line that has begun: it ends at the next line feed
abbrev pub IsInLine : List ℕ → Type 0
IsInLine bytes = (more : List ℕ) → HasLine (bytes ++ more) ↔ IsSome (line_at more)

-- a request line, its line feed, and field lines that have come to this place; where they are over,
-- any bytes behind them
pub record ReachesFields (bytes : List ℕ) (place : Place) : Type 0 where
  pub line : List ℕ
  pub fields : List ℕ
  pub behind : List ℕ
  pub in_line : IsInLine line
  pub reached : Reaches fields place
  pub all : bytes ≡ line ++ line_feed ∷ (fields ++ behind)
  pub none_behind : is_over place ≡ false → behind ≡ []

-- the bytes have come so far
abbrev pub StandsAt : Progress → List ℕ → Type 0
StandsAt Before bytes = (more : List ℕ) → HasLine (bytes ++ more) ↔ HasLine more
StandsAt BeforeReturn bytes =
    (more : List ℕ) → HasLine (bytes ++ more) ↔ HasLine (carriage_return ∷ more)
StandsAt Line bytes = IsInLine bytes
StandsAt (Fields place) bytes = ReachesFields bytes place

-- the head has ended, or there is none
abbrev pub is_at_end : Progress → Bool
is_at_end Before = false
is_at_end BeforeReturn = false
is_at_end Line = false
is_at_end (Fields place) = is_over place

-- the request line has ended
abbrev pub is_in_fields : Progress → Bool
is_in_fields Before = false
is_in_fields BeforeReturn = false
is_in_fields Line = false
is_in_fields (Fields place) = true

-- the bytes are to be looked at where they come from the one to the other: the request line has
-- ended, or the end is reached
abbrev pub is_news : Progress → Progress → Bool
is_news from to = (is_in_fields to && not (is_in_fields from)) || is_at_end to

-- the byte leads from the one to the other
abbrev pub Advances : Progress → ℕ → Progress → Type 0
Advances from byte to =
    is_at_end from ≡ false → (bytes : List ℕ) → StandsAt from bytes
    → StandsAt to (bytes ++ byte ∷ [])

-- the bytes begin with a head, or no continuation of them does
abbrev pub IsDecided : List ℕ → Type 0
IsDecided bytes =
    ((head : RequestHead) × (rest : List ℕ) × ReadsRequest bytes head rest) ⊎ NeverHasRequest bytes

-- what a watch says that has followed the bytes from `before` on: where they are not to be looked
-- at, they show no head and no refusal; where they are, they show one, or their request line has
-- just ended
pub record Follows (before now : List ℕ) (watch : Watch) : Type 0 where
  pub followed : List ℕ
  pub all : now ≡ before ++ followed
  pub stands : StandsAt watch.progress now
  pub at_end : is_at_end watch.progress ≡ true → watch.due ≡ true
  pub quiet : watch.due ≡ false → IsOpen now
  pub due : watch.due ≡ true → IsDecided now ⊎ ((first_line before ≡ None) × HasLine now)
