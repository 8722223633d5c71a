-- Chunk lines at the front of bytes.
use Rattle.std.proofs.Common.{◌≡◌, ℕ, ◌<◌, ◌≤◌, List, ◌++◌, length, take, drop, sym, ap, ◌∙◌, subst}
use Rattle.std.proofs.Common.{arith, length-append}
use Rattle.std.proofs.lemmas.List.{length-take, take_all, take-append-le, take-append-drop}
use Rattle.httparse.specs.Grammar.{ChunkLine, IsChunkLine, print_chunk_line, HasNoChunkLine}
use Rattle.httparse.specs.Grammar.{MayBecomeChunkLine}
use Rattle.body_wire.specs.declared.decoder.Decoder.{Decoder}
use Rattle.body_wire.specs.Chunks.{most_line, IsOpenLine}
use Rattle.body_wire.specs.Pieces.{IsLineAt}
use Rattle.body_wire.specs.Stands.{GoesOn, Moves}

take_take : (n m : ℕ) (xs : List ℕ) → n ≤ length (take m xs) → take n (take m xs) ≡ take n xs
take_take n m xs le =
    sym (take-append-le n (take m xs) (drop m xs) le) ∙ ap (take n) (take-append-drop m xs)

-- a line in the first so many bytes
pub found : (bytes : List ℕ) (len size : ℕ) → IsLineAt (take most_line bytes) len size
    → IsLineAt bytes len size
found bytes len size at =
    let fits = at.within in
    record {
      line = at.line;
      good = at.good;
      within = omega (arith, length-take most_line bytes);
      front = sym (take_take len most_line bytes at.within) ∙ at.front;
      sized = at.sized;
    }

few : (bytes : List ℕ) → length bytes < most_line → take most_line bytes ≡ bytes
few bytes less = take_all most_line bytes (omega arith)

pub open_line : (bytes : List ℕ) → length bytes < most_line → HasNoChunkLine (take most_line bytes)
    → MayBecomeChunkLine (take most_line bytes) → IsOpenLine bytes
open_line bytes less none may = record {
  few = less;
  none = subst HasNoChunkLine (few bytes less) none;
  may = subst MayBecomeChunkLine (few bytes less) may;
}

-- a line has a byte
print_some : (line : ChunkLine) → IsChunkLine line → 0 < length (print_chunk_line line)
unfolding print_chunk_line
print_some line good =
    let some = good.digits.0 in
    simp length-append (omega arith)

-- a decoder that takes the line moves it
pub moves_line : (old new : Decoder) (kept out_old out_new put : List ℕ) (len size : ℕ)
    → (at : IsLineAt kept len size) → out_new ≡ out_old ++ put
    → GoesOn old new (print_chunk_line at.line) put → Moves old new kept len out_old out_new
moves_line old new kept out_old out_new put len size at out goes = record {
  some =
      let long : length (take len kept) ≡ length (print_chunk_line at.line) = ap length at.front in
      omega (arith, length-take len kept, print_some at.line at.good.good);
  within = at.within;
  put = put;
  out = out;
  goes = subst (λ (took : List ℕ). GoesOn old new took put) (sym at.front) goes;
}
