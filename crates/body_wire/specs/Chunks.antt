-- A body in chunks (RFC 9112 section 7.1): chunks, a last chunk line, and trailers. The grammar of
-- a chunk line is that of the crate httparse.
use Rattle.std.specs.Prelude.{◌≡◌, ◌≢◌, ◌⊎◌, ℕ, false, ◌+◌, ◌<◌, ◌≤◌, ◌==◌, if◌then◌else◌, List, []}
use Rattle.std.specs.Prelude.{◌∷◌, ◌++◌, length, take, sum_by, codes, All, Option, Some, None}
use Rattle.std.specs.Prelude.{option_and_then, IsSome}
use Rattle.std.specs.List.{flat_map}
use Rattle.std.specs.Fmt.{digits}
use Rattle.httparse.specs.Ascii.{line_feed, carriage_return, crlf_bytes}
use Rattle.httparse.specs.Grammar.{ChunkLine, IsChunkLine, print_chunk_line, chunk_size}
use Rattle.httparse.specs.Grammar.{HasNoChunkLine, NeverHasChunkLine, MayBecomeChunkLine}
use Rattle.body_wire.specs.declared.form.Form.{Form}
use Rattle.body_wire.specs.declared.trailers.LineAt.{LineAt}
use Rattle.body_wire.specs.declared.trailers.LineAt.TheVariants.{Fresh, Return, Inside}

-- the longest chunk line, its line end included
abbrev pub most_line : ℕ
most_line = 4096

-- the longest trailers, their empty line included
abbrev pub most_trailers : ℕ
most_trailers = 65536

-- a chunk: its line and its content
pub record Chunk : Type 0 where
  pub line : ChunkLine
  pub content : List ℕ

-- a chunk line that is not too long
pub record IsLine (line : ChunkLine) : Type 0 where
  pub good : IsChunkLine line
  pub short : length (print_chunk_line line) ≤ most_line

-- a chunk that is not the last one, with as much content as its line says
pub record IsChunk (chunk : Chunk) : Type 0 where
  pub line : IsLine chunk.line
  pub some : 0 < chunk_size chunk.line
  pub size : length chunk.content ≡ chunk_size chunk.line

-- the bytes of a chunk
abbrev pub print_chunk : Chunk → List ℕ
print_chunk chunk = print_chunk_line chunk.line ++ (chunk.content ++ crlf_bytes)

-- the line that goes on for a chunk of this size: in lower case, with no leading zeros and no
-- extension
abbrev pub size_line : Form → ℕ → List ℕ
size_line Form.Chunks size = digits 16 false size ++ crlf_bytes
size_line Form.Content size = []

-- what goes on behind a chunk's content
abbrev pub chunk_end : Form → List ℕ
chunk_end Form.Chunks = crlf_bytes
chunk_end Form.Content = []

-- what goes on for the last chunk and the trailers
abbrev pub last_chunk : Form → List ℕ
last_chunk Form.Chunks = codes "0\r\n\r\n"
last_chunk Form.Content = []

-- what goes on for a chunk
abbrev pub passed_chunk : Form → Chunk → List ℕ
passed_chunk form chunk =
    size_line form (chunk_size chunk.line) ++ (chunk.content ++ chunk_end form)

-- the bytes are these chunks, and go on so; `count` is the number of content bytes
pub record AreChunks (form : Form) (taken passed : List ℕ) (count : ℕ) : Type 0 where
  pub chunks : List Chunk
  pub each : All IsChunk chunks
  pub bytes : taken ≡ flat_map print_chunk chunks
  pub out : passed ≡ flat_map (passed_chunk form) chunks
  pub total : count ≡ sum_by (λ (c : Chunk). length c.content) chunks

-- where a line of trailers stands behind one byte more: nowhere, where the byte ends an empty line,
-- LF or CR LF
abbrev pub line_after : LineAt → ℕ → Option LineAt
line_after Fresh b =
    if b == line_feed then None else (if b == carriage_return then Some Return else Some Inside)
line_after Return b = if b == line_feed then None else Some Inside
line_after Inside b = if b == line_feed then Some Fresh else Some Inside

-- where a line of trailers stands behind some bytes
abbrev pub line_behind : LineAt → List ℕ → Option LineAt
line_behind at [] = Some at
line_behind at (b ∷ bytes) = option_and_then (λ next. line_behind next bytes) (line_after at b)

-- trailers that have not ended
abbrev pub AreOpenTrailers : List ℕ → Type 0
AreOpenTrailers bytes = IsSome (line_behind Fresh bytes)

-- trailers that have: their last byte ends the first empty line
pub record AreTrailers (trailers : List ℕ) : Type 0 where
  pub front : List ℕ
  pub last : ℕ
  pub bytes : trailers ≡ front ++ last ∷ []
  pub open_ : AreOpenTrailers front
  pub ended : line_behind Fresh trailers ≡ None
  pub short : length trailers ≤ most_trailers

-- chunks, and the front of one: its line, and so much of its content
pub record InChunk (form : Form) (taken passed : List ℕ) (count size got : ℕ) : Type 0 where
  pub front : List ℕ
  pub passed_front : List ℕ
  pub count_front : ℕ
  pub chunks : AreChunks form front passed_front count_front
  pub line : ChunkLine
  pub content : List ℕ
  pub good : IsLine line
  pub sized : size ≡ chunk_size line
  pub some : 0 < size
  pub has : got ≡ length content
  pub bytes : taken ≡ front ++ (print_chunk_line line ++ content)
  pub out : passed ≡ passed_front ++ (size_line form size ++ content)
  pub total : count ≡ count_front + got

-- chunks, and the line of one that is so large
pub record AtLine (form : Form) (taken passed : List ℕ) (count size : ℕ) : Type 0 where
  pub front : List ℕ
  pub passed_front : List ℕ
  pub chunks : AreChunks form front passed_front count
  pub line : ChunkLine
  pub good : IsLine line
  pub sized : size ≡ chunk_size line
  pub bytes : taken ≡ front ++ print_chunk_line line
  pub out : passed ≡ passed_front ++ size_line form size

-- chunks, the last chunk line, and these bytes of the trailers. Nothing goes on for the last line
-- yet
pub record InTrailers (form : Form) (taken passed : List ℕ) (count : ℕ) (trailers : List ℕ) : Type 0
  where
    pub front : List ℕ
    pub chunks : AreChunks form front passed count
    pub line : ChunkLine
    pub good : IsLine line
    pub last : chunk_size line ≡ 0
    pub bytes : taken ≡ front ++ (print_chunk_line line ++ trailers)

-- a whole body in chunks
pub record AreAllChunks (form : Form) (taken passed : List ℕ) (count : ℕ) : Type 0 where
  pub passed_front : List ℕ
  pub trailers : List ℕ
  pub all : InTrailers form taken passed_front count trailers
  pub ended : AreTrailers trailers
  pub out : passed ≡ passed_front ++ last_chunk form

-- the front of a chunk line, which some bytes can follow that make it one
pub record IsOpenLine (bytes : List ℕ) : Type 0 where
  pub few : length bytes < most_line
  pub none : HasNoChunkLine bytes
  pub may : MayBecomeChunkLine bytes

-- no chunk line, whatever follows, or none that is short enough
abbrev pub IsBadLine : List ℕ → Type 0
IsBadLine bytes =
    NeverHasChunkLine (take most_line bytes)
    ⊎ ((most_line ≤ length bytes) × HasNoChunkLine (take most_line bytes))

-- behind a chunk's content, the front of CR LF
abbrev pub IsOpenEnd : List ℕ → Type 0
IsOpenEnd bytes = (bytes ≡ []) ⊎ (bytes ≡ carriage_return ∷ [])

-- behind a chunk's content, other bytes than CR LF
abbrev pub IsBadEnd : List ℕ → Type 0
IsBadEnd [] = ⊥
IsBadEnd (a ∷ []) = a ≢ carriage_return
IsBadEnd (a ∷ b ∷ bytes) = (a ≡ carriage_return) → b ≢ line_feed
