-- What bytes are of a body, by its framing (RFC 9112 section 6): the whole of it, a front, or one
-- that is refused. `taken` are the bytes of the body, `passed` is what goes on for them, `count` is
-- the number of its content bytes, and `kept` are the bytes behind those that were taken.
use Rattle.std.specs.Prelude.{◌≡◌, ◌≢◌, ◌⊎◌, ℕ, ◌+◌, ◌<◌, ◌≤◌, List, [], length}
use Rattle.http_wire.specs.declared.frames.Framing.{Framing}
use Rattle.body_wire.specs.declared.form.Form.{Form}
use Rattle.body_wire.specs.Chunks.{most_trailers, AreChunks, InChunk, AtLine, InTrailers}
use Rattle.body_wire.specs.Chunks.{AreAllChunks, AreOpenTrailers, IsOpenLine, IsBadLine, IsOpenEnd}
use Rattle.body_wire.specs.Chunks.{IsBadEnd}

-- bytes that are content alone, and go on as they are
pub record IsPlain (taken passed : List ℕ) (count : ℕ) : Type 0 where
  pub same : passed ≡ taken
  pub total : count ≡ length taken

-- a whole body. One that runs to the end of the connection has all bytes up to there
abbrev pub IsWholeBody : Framing → Form → List ℕ → List ℕ → ℕ → List ℕ → Type 0
IsWholeBody Framing.Nothing form taken passed count kept = IsPlain taken passed count × (taken ≡ [])
IsWholeBody (Framing.Length n) form taken passed count kept =
    IsPlain taken passed count × (count ≡ n)
IsWholeBody Framing.Chunked form taken passed count kept = AreAllChunks form taken passed count
IsWholeBody Framing.ToEnd form taken passed count kept = IsPlain taken passed count × (kept ≡ [])

-- the front of a chunk and the bytes behind it: content is wanting, or its line end is
abbrev pub IsShort : ℕ → ℕ → List ℕ → Type 0
IsShort size got kept = ((got < size) × (kept ≡ [])) ⊎ ((got ≡ size) × IsOpenEnd kept)

-- a chunked body that has not ended: inside a chunk line, a chunk that the limit allows, or the
-- trailers
abbrev pub AreUnfinished : Form → ℕ → List ℕ → List ℕ → ℕ → List ℕ → Type 0
AreUnfinished form limit taken passed count kept =
    (AreChunks form taken passed count × IsOpenLine kept)
    ⊎ (((size : ℕ) × (got : ℕ) × InChunk form taken passed count size got × IsShort size got kept
    × (count + size ≤ limit + got))
    ⊎ ((trailers : List ℕ) × InTrailers form taken passed count trailers × AreOpenTrailers trailers
    × (length trailers < most_trailers) × (kept ≡ [])))

-- a body that more bytes may go on with, within the limit by all that it announced
abbrev pub IsUnfinished : Framing → Form → ℕ → List ℕ → List ℕ → ℕ → List ℕ → Type 0
IsUnfinished Framing.Nothing form limit taken passed count kept = ⊥
IsUnfinished (Framing.Length n) form limit taken passed count kept =
    IsPlain taken passed count × (count < n) × (kept ≡ []) × (n ≤ limit)
IsUnfinished Framing.Chunked form limit taken passed count kept =
    AreUnfinished form limit taken passed count kept
IsUnfinished Framing.ToEnd form limit taken passed count kept =
    IsPlain taken passed count × (kept ≡ [])

-- chunks behind which stands no chunk line, other bytes than CR LF, or too many bytes of trailers
abbrev pub AreBad : Form → List ℕ → List ℕ → ℕ → List ℕ → Type 0
AreBad form taken passed count kept =
    (AreChunks form taken passed count × IsBadLine kept)
    ⊎ (((size : ℕ) × InChunk form taken passed count size size × IsBadEnd kept)
    ⊎ ((trailers : List ℕ) × InTrailers form taken passed count trailers × AreOpenTrailers trailers
    × (length trailers ≡ most_trailers)))

-- a body that is badly chunked
abbrev pub IsBadBody : Framing → Form → List ℕ → List ℕ → ℕ → List ℕ → Type 0
IsBadBody Framing.Nothing form taken passed count kept = ⊥
IsBadBody (Framing.Length n) form taken passed count kept = ⊥
IsBadBody Framing.Chunked form taken passed count kept = AreBad form taken passed count kept
IsBadBody Framing.ToEnd form taken passed count kept = ⊥

-- a body over the limit: by its length, by the chunk line that announces too much, or by a byte
-- past the limit
abbrev pub IsTooLong : Framing → Form → ℕ → List ℕ → List ℕ → ℕ → List ℕ → Type 0
IsTooLong Framing.Nothing form limit taken passed count kept = ⊥
IsTooLong (Framing.Length n) form limit taken passed count kept =
    (limit < n) × IsPlain taken passed count × (taken ≡ [])
IsTooLong Framing.Chunked form limit taken passed count kept =
    (size : ℕ) × AtLine form taken passed count size × (limit < count + size)
IsTooLong Framing.ToEnd form limit taken passed count kept =
    IsPlain taken passed count × (count ≡ limit) × (kept ≢ [])

-- a front of a chunked body, whatever follows: whole chunks, a part of a chunk that the limit
-- allows, a part of the trailers, the line of a chunk over the limit, or the whole body
abbrev pub AreFront : Form → ℕ → List ℕ → List ℕ → ℕ → Type 0
AreFront form limit taken passed count =
    AreChunks form taken passed count
    ⊎ (((size : ℕ) × (got : ℕ) × InChunk form taken passed count size got × (got ≤ size)
    × (count + size ≤ limit + got))
    ⊎ (((trailers : List ℕ) × InTrailers form taken passed count trailers
    × AreOpenTrailers trailers)
    ⊎ (((size : ℕ) × AtLine form taken passed count size × (limit < count + size))
    ⊎ AreAllChunks form taken passed count)))

-- a front of a body, whatever follows; none of one whose length is over the limit
abbrev pub IsFrontBody : Framing → Form → ℕ → List ℕ → List ℕ → ℕ → Type 0
IsFrontBody Framing.Nothing form limit taken passed count =
    IsPlain taken passed count × (taken ≡ [])
IsFrontBody (Framing.Length n) form limit taken passed count =
    IsPlain taken passed count × (count ≤ n) × ((n ≤ limit) ⊎ (taken ≡ []))
IsFrontBody Framing.Chunked form limit taken passed count = AreFront form limit taken passed count
IsFrontBody Framing.ToEnd form limit taken passed count = IsPlain taken passed count
