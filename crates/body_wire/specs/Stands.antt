-- What of a body was taken, by its framing, and what a decoder that stands inside a body has taken.
use Rattle.std.specs.Prelude.{◌≡◌, ℕ, ◌+◌, ◌-◌, ◌<◌, ◌≤◌, List, [], ◌++◌, length, take, Some}
use Rattle.std.specs.Prelude.{Result, Ok, Err}
use Rattle.std.specs.declared.alloc.AllocError.{AllocError}
use Rattle.http_wire.specs.declared.frames.Framing.{Framing}
use Rattle.body_wire.specs.declared.form.Form.{Form}
use Rattle.body_wire.specs.declared.decoder.Decoder.{Decoder}
use Rattle.body_wire.specs.declared.decoder.Place.{Place}
use Rattle.body_wire.specs.declared.decoder.Step.{Step}
use Rattle.body_wire.specs.declared.decoder.Step.TheVariants.{Moved, Stopped}
use Rattle.body_wire.specs.declared.decoder.StopCause.{StopCause}
use Rattle.body_wire.specs.declared.trailers.LineAt.{LineAt}
use Rattle.body_wire.specs.declared.trailers.LineAt.TheVariants.{Fresh}
use Rattle.body_wire.specs.Chunks.{line_behind, most_line, AreChunks, InChunk, AtLine, InTrailers}
use Rattle.body_wire.specs.Chunks.{AreAllChunks}
use Rattle.body_wire.specs.Bodies.{IsPlain, IsWholeBody, IsUnfinished, IsBadBody, IsTooLong}
use Rattle.body_wire.specs.Places.{CanEnd, most_at}

-- the framing has this length
abbrev pub IsCounted : Framing → ℕ → Type 0
IsCounted Framing.Nothing n = n ≡ 0
IsCounted (Framing.Length length) n = n ≡ length
IsCounted Framing.Chunked n = ⊥
IsCounted Framing.ToEnd n = ⊥

-- the framing has a length over the limit
abbrev pub IsLonger : Framing → ℕ → Type 0
IsLonger Framing.Nothing limit = ⊥
IsLonger (Framing.Length length) limit = limit < length
IsLonger Framing.Chunked limit = ⊥
IsLonger Framing.ToEnd limit = ⊥

-- the chunk whose line and some of whose content were taken, with so much left
pub record InContent (form : Form) (bytes passed : List ℕ) (count left : ℕ) : Type 0 where
  pub size : ℕ
  pub got : ℕ
  pub chunk : InChunk form bytes passed count size got
  pub rest : got + left ≡ size

-- the trailers that were taken, whose line stands there
pub record Following (form : Form) (bytes passed : List ℕ) (count : ℕ) (at : LineAt) (seen : ℕ)
    : Type 0 where
  pub trailers : List ℕ
  pub taken : InTrailers form bytes passed count trailers
  pub line : line_behind Fresh trailers ≡ Some at
  pub seen_is : length trailers ≡ seen

-- a line of a chunk over the limit, or a length over it
pub record LineOver (form : Form) (bytes passed : List ℕ) (count limit : ℕ) : Type 0 where
  pub size : ℕ
  pub line : AtLine form bytes passed count size
  pub over : limit < count + size

-- what a decoder at this place has taken of a body of this framing, and what of it goes on
abbrev pub HoldsAt : Place → Framing → Decoder → List ℕ → List ℕ → Type 0
HoldsAt (Place.Counted left) framing d taken passed =
    IsCounted framing (d.count + left) × IsPlain taken passed d.count
HoldsAt (Place.ToEnd left) framing d taken passed =
    (framing ≡ Framing.ToEnd) × IsPlain taken passed d.count × (d.count + left ≡ d.limit)
HoldsAt Place.Line framing d taken passed =
    (framing ≡ Framing.Chunked) × AreChunks d.form taken passed d.count
HoldsAt (Place.Content left) framing d taken passed =
    (framing ≡ Framing.Chunked) × InContent d.form taken passed d.count left
HoldsAt (Place.Trailers at seen) framing d taken passed =
    (framing ≡ Framing.Chunked) × Following d.form taken passed d.count at seen
HoldsAt Place.LongLength framing d taken passed =
    IsLonger framing d.limit × IsPlain taken passed d.count × (taken ≡ [])
HoldsAt Place.LongChunk framing d taken passed =
    (framing ≡ Framing.Chunked) × LineOver d.form taken passed d.count d.limit
HoldsAt Place.Whole framing d taken passed =
    (framing ≡ Framing.Chunked) × AreAllChunks d.form taken passed d.count

abbrev pub Holds : Framing → Decoder → List ℕ → List ℕ → Type 0
Holds framing d taken passed = HoldsAt d.place framing d taken passed

-- the most bytes that a body can have behind those that were taken
abbrev pub most_left : Decoder → ℕ
most_left d = most_at d.place (d.limit - d.count)

-- one decoder goes on as the other, of the same body, behind `took` bytes of it, of which `put`
-- goes on
pub record GoesOn (old new : Decoder) (took put : List ℕ) : Type 0 where
  pub form : new.form ≡ old.form
  pub limit : new.limit ≡ old.limit
  pub holds : (framing : Framing) (taken passed : List ℕ) → Holds framing old taken passed
      → Holds framing new (taken ++ took) (passed ++ put)
  pub lean : most_left new + length took ≤ most_left old

-- a decoder has moved the first `n` of these bytes
pub record Moves (old new : Decoder) (kept : List ℕ) (n : ℕ) (out_old out_new : List ℕ) : Type 0
  where
    pub some : 0 < n
    pub within : n ≤ length kept
    pub put : List ℕ
    pub out : out_new ≡ out_old ++ put
    pub goes : GoesOn old new (take n kept) put

-- what the bytes show behind which a decoder stopped
abbrev pub Shown : Framing → Decoder → List ℕ → List ℕ → List ℕ → StopCause → Type 0
Shown framing d taken passed kept StopCause.More =
    IsUnfinished framing d.form d.limit taken passed d.count kept
Shown framing d taken passed kept StopCause.Whole =
    IsWholeBody framing d.form taken passed d.count kept
Shown framing d taken passed kept StopCause.Bad = IsBadBody framing d.form taken passed d.count kept
Shown framing d taken passed kept StopCause.TooLong =
    IsTooLong framing d.form d.limit taken passed d.count kept

-- where more bytes are wanted, few are kept, and more may come
abbrev pub WaitsFor : Decoder → List ℕ → StopCause → Type 0
WaitsFor d kept StopCause.More = (length kept < most_line) × (length kept < most_left d)
WaitsFor d kept StopCause.Whole = CanEnd d.place
WaitsFor d kept StopCause.Bad = Unit {0}
WaitsFor d kept StopCause.TooLong = Unit {0}

-- a decoder stopped before these bytes
pub record Stops (d : Decoder) (kept : List ℕ) (stop : StopCause) : Type 0 where
  pub shows : (framing : Framing) (taken passed : List ℕ) → Holds framing d taken passed
      → Shown framing d taken passed kept stop
  pub waits : WaitsFor d kept stop

-- one step of a decoder over the bytes that are kept; want of memory changes nothing
abbrev pub Steps : Decoder → Decoder → List ℕ → List ℕ → List ℕ → Result Step AllocError → Type 0
Steps old new kept out_old out_new (Ok (Moved n)) = Moves old new kept n out_old out_new
Steps old new kept out_old out_new (Ok (Stopped stop)) =
    (new ≡ old) × (out_new ≡ out_old) × Stops old kept stop
Steps old new kept out_old out_new (Err e) = (new ≡ old) × (out_new ≡ out_old)
