-- Where a decoder stands in a body: what is left of its content, and what was taken of its
-- trailers.
use Rattle.std.specs.Prelude.{ℕ, ◌+◌, ◌*◌, ◌-◌}
use Rattle.body_wire.specs.declared.decoder.Place.{Place}

-- how many content bytes are announced and were not taken
abbrev pub left_at : Place → ℕ
left_at (Place.Counted left) = left
left_at (Place.ToEnd left) = left
left_at Place.Line = 0
left_at (Place.Content left) = left
left_at (Place.Trailers at seen) = 0
left_at Place.LongLength = 0
left_at Place.LongChunk = 0
left_at Place.Whole = 0

-- how many bytes of the trailers were taken
abbrev pub seen_at : Place → ℕ
seen_at (Place.Counted left) = 0
seen_at (Place.ToEnd left) = 0
seen_at Place.Line = 0
seen_at (Place.Content left) = 0
seen_at (Place.Trailers at seen) = seen
seen_at Place.LongLength = 0
seen_at Place.LongChunk = 0
seen_at Place.Whole = 0

-- content stands at this place
abbrev pub IsRun : Place → Type 0
IsRun (Place.Counted left) = Unit {0}
IsRun (Place.ToEnd left) = Unit {0}
IsRun (Place.Content left) = Unit {0}
IsRun Place.Line = ⊥
IsRun (Place.Trailers at seen) = ⊥
IsRun Place.LongLength = ⊥
IsRun Place.LongChunk = ⊥
IsRun Place.Whole = ⊥

-- the place behind so many bytes of its content
abbrev pub behind : Place → ℕ → Place
behind (Place.Counted left) run = Place.Counted (left - run)
behind (Place.ToEnd left) run = Place.ToEnd (left - run)
behind (Place.Content left) run = Place.Content (left - run)
behind Place.Line run = Place.Line
behind (Place.Trailers at seen) run = Place.Trailers at seen
behind Place.LongLength run = Place.LongLength
behind Place.LongChunk run = Place.LongChunk
behind Place.Whole run = Place.Whole

-- a body may be whole here, whatever follows
abbrev pub CanEnd : Place → Type 0
CanEnd (Place.Counted left) = Unit {0}
CanEnd Place.Whole = Unit {0}
CanEnd (Place.ToEnd left) = ⊥
CanEnd (Place.Content left) = ⊥
CanEnd Place.Line = ⊥
CanEnd (Place.Trailers at seen) = ⊥
CanEnd Place.LongLength = ⊥
CanEnd Place.LongChunk = ⊥

-- the most bytes that a body can have behind this place, where the limit leaves `room` for content
abbrev pub most_at : Place → ℕ → ℕ
most_at (Place.Counted left) room = left
most_at (Place.ToEnd left) room = left + 1
most_at Place.Line room = room * 4099 + 69632
most_at (Place.Content left) room = left + 2 + (room - left) * 4099 + 69632
most_at (Place.Trailers at seen) room = 65536 - seen
most_at Place.LongLength room = 0
most_at Place.LongChunk room = 0
most_at Place.Whole room = 0
