-- What the parts of the decoder find in the bytes before them.
use Rattle.std.specs.Prelude.{◌≡◌, ℕ, ◌<◌, ◌≤◌, List, [], ◌∷◌, ◌++◌, length, take, Some, None}
use Rattle.httparse.specs.Grammar.{ChunkLine, print_chunk_line, chunk_size, HasNoChunkLine}
use Rattle.httparse.specs.Grammar.{NeverHasChunkLine, MayBecomeChunkLine}
use Rattle.body_wire.specs.declared.line.LineSeen.{LineSeen}
use Rattle.body_wire.specs.declared.line.LineSeen.TheVariants.{Found, Open, Bad}
use Rattle.body_wire.specs.declared.trailers.LineAt.{LineAt}
use Rattle.body_wire.specs.declared.trailers.Followed.{Followed}
use Rattle.body_wire.specs.Chunks.{IsLine, IsOpenLine, IsBadLine, line_behind}

-- the first `len` bytes are this chunk line, of this size
pub record IsLineAt (bytes : List ℕ) (len size : ℕ) : Type 0 where
  pub line : ChunkLine
  pub good : IsLine line
  pub within : len ≤ length bytes
  pub front : take len bytes ≡ print_chunk_line line
  pub sized : size ≡ chunk_size line

-- what the parser finds in bytes that are no more than a line may have
abbrev pub Parses : List ℕ → LineSeen → Type 0
Parses bytes (Found len size) = IsLineAt bytes len size
Parses bytes Open = HasNoChunkLine bytes × MayBecomeChunkLine bytes
Parses bytes Bad = NeverHasChunkLine bytes

-- what the bytes begin with, where a chunk line should be
abbrev pub Sees : List ℕ → LineSeen → Type 0
Sees bytes (Found len size) = IsLineAt bytes len size
Sees bytes Open = IsOpenLine bytes
Sees bytes Bad = IsBadLine bytes

-- the first `n` bytes end trailers that stood there before, and no fewer do
pub record EndsAt (at : LineAt) (bytes : List ℕ) (n : ℕ) : Type 0 where
  pub front : List ℕ
  pub last : ℕ
  pub place : LineAt
  pub some : 0 < n
  pub within : n ≤ length bytes
  pub taken : take n bytes ≡ front ++ last ∷ []
  pub open_ : line_behind at front ≡ Some place
  pub ended : line_behind at (take n bytes) ≡ None

-- where trailers stand behind these bytes
abbrev pub Follows : LineAt → List ℕ → Followed → Type 0
Follows at bytes (Followed.Ended n) = EndsAt at bytes n
Follows at bytes (Followed.Open next) = line_behind at bytes ≡ Some next
