-- How a decoder goes on from place to place.
use Rattle.std.proofs.Common.{get_or, ◌≡◌, ℕ, ◌+◌, ◌-◌, ◌<◌, ◌≤◌, List, [], ◌∷◌, ◌++◌, length, take}
use Rattle.std.proofs.Common.{refl, sym, ap, ◌∙◌, subst, arith, length-append, append_assoc}
use Rattle.std.proofs.Common.{append-nil, Some, IsSome}
use Rattle.std.proofs.lemmas.Grind.{flat_map-append}
use Rattle.std.proofs.lemmas.List.{length-take, length-take-le}
use Rattle.std.proofs.lemmas.List.Elements.{All-push}
use Rattle.std.proofs.lemmas.List.Sums.{sum_by-append}
use Rattle.body_wire.specs.declared.trailers.LineAt.{LineAt}
use Rattle.body_wire.specs.declared.trailers.LineAt.TheVariants.{Fresh}
use Rattle.http_wire.specs.declared.frames.Framing.{Framing}
use Rattle.httparse.specs.Ascii.{crlf_bytes, line_feed, carriage_return}
use Rattle.httparse.specs.Grammar.{ChunkLine, print_chunk_line, chunk_size}
use Rattle.body_wire.specs.declared.form.Form.{Form}
use Rattle.body_wire.specs.declared.decoder.Decoder.{Decoder}
use Rattle.body_wire.specs.declared.decoder.Place.{Place}
use Rattle.body_wire.specs.declared.decoder.Place.TheVariants.{Counted, ToEnd, Line, Content}
use Rattle.body_wire.specs.declared.decoder.Place.TheVariants.{Trailers, LongLength, LongChunk}
use Rattle.body_wire.specs.declared.decoder.Place.TheVariants.{Whole}
use Rattle.body_wire.specs.Chunks.{Chunk, IsChunk, IsLine, AreChunks, InChunk, InTrailers}
use Rattle.body_wire.specs.Chunks.{AreTrailers, AreAllChunks, most_trailers, last_chunk}
use Rattle.body_wire.specs.Chunks.{line_behind, size_line, chunk_end}
use Rattle.body_wire.specs.Bodies.{IsPlain}
use Rattle.body_wire.specs.Pieces.{EndsAt}
use Rattle.body_wire.specs.Places.{IsRun, behind, left_at, most_at}
use Rattle.body_wire.specs.Stands.{IsCounted, HoldsAt, GoesOn, Moves}
use Rattle.body_wire.proofs.Trails.{behind_more, ends_within}

-- content that is taken and goes on as it is
plain_more : (taken passed bytes : List ℕ) (count run : ℕ) → IsPlain taken passed count
    → length bytes ≡ run
    → IsPlain (taken ++ bytes) (passed ++ bytes) (count + run)
plain_more taken passed bytes count run plain long = record {
  same = ap (λ xs. xs ++ bytes) plain.same;
  total = omega (arith, plain.total, length-append taken bytes);
}

chunk_more : (form : Form) (taken passed bytes : List ℕ) (count size got run : ℕ)
    → InChunk form taken passed count size got → length bytes ≡ run
    → InChunk form (taken ++ bytes) (passed ++ bytes) (count + run) size (got + run)
chunk_more form taken passed bytes count size got run chunk long = record {
  front = chunk.front;
  passed_front = chunk.passed_front;
  count_front = chunk.count_front;
  chunks = chunk.chunks;
  line = chunk.line;
  content = chunk.content ++ bytes;
  good = chunk.good;
  sized = chunk.sized;
  some = chunk.some;
  has = omega (arith, chunk.has, length-append chunk.content bytes);
  bytes = rw chunk.bytes (simp append_assoc);
  out = rw chunk.out (simp append_assoc);
  total = omega (arith, chunk.total);
}

-- what holds at a place of content goes on to hold behind more of it
run_at : (p : Place) (framing : Framing) (old new : Decoder) (run : ℕ) (taken passed bytes : List ℕ)
    → IsRun p → run ≤ left_at p → new.form ≡ old.form → new.limit ≡ old.limit
    → new.count ≡ old.count + run → length bytes ≡ run → HoldsAt p framing old taken passed
    → HoldsAt (behind p run) framing new (taken ++ bytes) (passed ++ bytes)
run_at (Counted left) framing old new run taken passed bytes is within form limit count long holds =
    let sum : old.count + left ≡ new.count + (left - run) = omega arith in (
      subst (IsCounted framing) sum holds.0,
      subst (IsPlain (taken ++ bytes) (passed ++ bytes)) (sym count)
          (plain_more taken passed bytes old.count run holds.1 long),
    )
run_at (ToEnd left) framing old new run taken passed bytes is within form limit count long holds = (
  holds.0,
  subst (IsPlain (taken ++ bytes) (passed ++ bytes)) (sym count)
      (plain_more taken passed bytes old.count run holds.1 long),
  omega (arith, holds.2),
)
run_at (Content left) framing old new run taken passed bytes is within form limit count long holds =
    let c = holds.1 in (
      holds.0,
      record {
        size = c.size;
        got = c.got + run;
        chunk = subst
            (λ (f : Form). InChunk f (taken ++ bytes) (passed ++ bytes) new.count c.size
            (c.got + run))
            (sym form)
            (subst (λ (n : ℕ). InChunk old.form (taken ++ bytes) (passed ++ bytes) n c.size
            (c.got + run)) (sym count)
            (chunk_more old.form taken passed bytes old.count c.size c.got run c.chunk long));
        rest = omega (arith, c.rest);
      },
    )
run_at Line framing old new run taken passed bytes is within form limit count long holds = absurd is
run_at (Trailers at seen) framing old new run taken passed bytes is within form limit count long
    holds = absurd is
run_at LongLength framing old new run taken passed bytes is within form limit count long holds =
    absurd is
run_at LongChunk framing old new run taken passed bytes is within form limit count long holds =
    absurd is
run_at Whole framing old new run taken passed bytes is within form limit count long holds =
    absurd is

run_lean : (p : Place) (limit count run : ℕ) → IsRun p → run ≤ left_at p
    → count + left_at p ≤ limit
    → most_at (behind p run) (limit - (count + run)) + run ≤ most_at p (limit - count)
run_lean (Counted left) limit count run is within room = omega arith
run_lean (ToEnd left) limit count run is within room = omega arith
run_lean (Content left) limit count run is within room = omega arith
run_lean Line limit count run is within room = absurd is
run_lean (Trailers at seen) limit count run is within room = absurd is
run_lean LongLength limit count run is within room = absurd is
run_lean LongChunk limit count run is within room = absurd is
run_lean Whole limit count run is within room = absurd is

-- what is left behind so many bytes of the content
pub left_behind : (p : Place) (run : ℕ) → run ≤ left_at p → run + left_at (behind p run) ≡ left_at p
left_behind (Counted left) run within = omega arith
left_behind (ToEnd left) run within = omega arith
left_behind (Content left) run within = omega arith
left_behind Line run within = omega arith
left_behind (Trailers at seen) run within = omega arith
left_behind LongLength run within = omega arith
left_behind LongChunk run within = omega arith
left_behind Whole run within = omega arith

-- so many bytes of content were taken
pub passes : (old new : Decoder) (run : ℕ) → IsRun old.place → run ≤ left_at old.place
    → old.count + left_at old.place ≤ old.limit → new.place ≡ behind old.place run
    → new.form ≡ old.form → new.limit ≡ old.limit → new.count ≡ old.count + run
    → (bytes : List ℕ) → length bytes ≡ run → GoesOn old new bytes bytes
passes old new run is within room place form limit count bytes long = record {
  form = form;
  limit = limit;
  holds = λ framing taken passed holds.
      subst (λ (p : Place). HoldsAt p framing new (taken ++ bytes) (passed ++ bytes)) (sym place)
      (run_at old.place framing old new run taken passed bytes is within form limit count long
      holds);
  lean = rw (place, limit, count, long) (run_lean old.place old.limit old.count run is within room);
}

-- a chunk line that begins a chunk within the limit
pub begins_chunk : (old new : Decoder) (size : ℕ) (line : ChunkLine) → IsLine line
    → size ≡ chunk_size line → 0 < size
    → old.place ≡ Line → size ≤ old.limit - old.count → old.count ≤ old.limit
    → new.place ≡ Content size → new.form ≡ old.form → new.limit ≡ old.limit → new.count ≡ old.count
    → GoesOn old new (print_chunk_line line) (size_line old.form size)
begins_chunk old new size line good sized some at_line within room place form limit count = record {
  form = form;
  limit = limit;
  holds = λ framing taken passed holds.
      let h = subst (λ (p : Place). HoldsAt p framing old taken passed) at_line holds in
      let chunk : InChunk old.form (taken ++ print_chunk_line line)
      (passed ++ size_line old.form size) old.count size 0 = record {
        front = taken;
        passed_front = passed;
        count_front = old.count;
        chunks = h.1;
        line = line;
        content = [];
        good = good;
        sized = sized;
        some = some;
        has = refl;
        bytes = simp append-nil;
        out = simp append-nil;
        total = omega arith;
      } in
      subst (λ (p : Place). HoldsAt p framing new (taken ++ print_chunk_line line)
      (passed ++ size_line old.form size)) (sym place) (
        h.0,
        record {
          size = size;
          got = 0;
          chunk = subst
              (λ (f : Form). InChunk f (taken ++ print_chunk_line line)
              (passed ++ size_line old.form size) new.count size 0) (sym form)
              (subst (λ (n : ℕ). InChunk old.form (taken ++ print_chunk_line line)
              (passed ++ size_line old.form size) n size 0) (sym count) chunk);
          rest = omega arith;
        },
      );
  lean = let short = good.short in rw (place, at_line, limit, count) (omega arith);
}

-- a chunk with all its content, and its line end
chunk_whole : (form : Form) (taken passed : List ℕ) (count size : ℕ)
    → InChunk form taken passed count size size
    → AreChunks form (taken ++ crlf_bytes) (passed ++ chunk_end form) count
chunk_whole form taken passed count size c =
    let chunk : Chunk = record { line = c.line; content = c.content } in
    let sized : chunk_size c.line ≡ size = sym c.sized in
    record {
      chunks = c.chunks.chunks ++ chunk ∷ [];
      each = All-push IsChunk c.chunks.chunks chunk c.chunks.each
          (record {
            line = c.good;
            some = subst (λ (n : ℕ). 0 < n) c.sized c.some;
            size = sym c.has ∙ c.sized;
          });
      bytes = rw (c.bytes, c.chunks.bytes) (simp (flat_map-append, append_assoc, append-nil));
      out = rw (c.out, c.chunks.out) (simp (flat_map-append, append_assoc, append-nil, sized));
      total =
          let sum = sum_by-append (λ (x : Chunk). length x.content) c.chunks.chunks (chunk ∷ []) in
          omega (arith, sum, c.total, c.has, c.chunks.total);
    }

pub ends_chunk : (old new : Decoder) → old.place ≡ Content 0 → old.count ≤ old.limit
    → new.place ≡ Line → new.form ≡ old.form → new.limit ≡ old.limit → new.count ≡ old.count
    → GoesOn old new crlf_bytes (chunk_end old.form)
ends_chunk old new at_content room place form limit count = record {
  form = form;
  limit = limit;
  holds = λ framing taken passed holds.
      let h = subst (λ (p : Place). HoldsAt p framing old taken passed) at_content holds in
      let c = h.1 in
      let all : c.got ≡ c.size = omega (arith, c.rest) in
      let whole = chunk_whole old.form taken passed old.count c.size
      (subst (λ (got : ℕ). InChunk old.form taken passed old.count c.size got) all c.chunk) in
      subst (λ (p : Place). HoldsAt p framing new (taken ++ crlf_bytes)
      (passed ++ chunk_end old.form)) (sym place) (
        h.0,
        subst (λ (f : Form). AreChunks f (taken ++ crlf_bytes) (passed ++ chunk_end old.form)
            new.count) (sym form)
            (subst (λ (n : ℕ). AreChunks old.form (taken ++ crlf_bytes)
            (passed ++ chunk_end old.form) n) (sym count) whole),
      );
  lean = rw (place, at_content, limit, count) (omega arith);
}

-- more bytes of the trailers, which have not ended
pub follows : (old new : Decoder) (at next : LineAt) (seen : ℕ) (bytes : List ℕ)
    → old.place ≡ Trailers at seen → line_behind at bytes ≡ Some next
    → new.place ≡ Trailers next (seen + length bytes) → new.form ≡ old.form
    → new.limit ≡ old.limit → new.count ≡ old.count → seen + length bytes ≤ most_trailers
    → GoesOn old new bytes []
follows old new at next seen bytes here line place form limit count short = record {
  form = form;
  limit = limit;
  holds = λ framing taken passed holds.
      let h = subst (λ (p : Place). HoldsAt p framing old taken passed) here holds in
      let f = h.1 in
      let more : InTrailers old.form (taken ++ bytes) (passed ++ []) old.count (f.trailers ++ bytes)
      = record {
        front = f.taken.front;
        chunks = subst (λ (xs : List ℕ). AreChunks old.form f.taken.front xs old.count)
            (sym (append-nil passed)) f.taken.chunks;
        line = f.taken.line;
        good = f.taken.good;
        last = f.taken.last;
        bytes = ap (λ xs. xs ++ bytes) f.taken.bytes ∙ simp append_assoc;
      } in
      subst (λ (p : Place). HoldsAt p framing new (taken ++ bytes) (passed ++ [])) (sym place) (
        h.0,
        record {
          trailers = f.trailers ++ bytes;
          taken = subst
              (λ (f' : Form). InTrailers f' (taken ++ bytes) (passed ++ []) new.count
              (f.trailers ++ bytes)) (sym form)
              (subst (λ (n : ℕ). InTrailers old.form (taken ++ bytes) (passed ++ []) n
              (f.trailers ++ bytes)) (sym count) more);
          line = behind_more Fresh at f.trailers bytes f.line ∙ line;
          seen_is = length-append f.trailers bytes ∙ omega (arith, f.seen_is);
        },
      );
  lean = rw (place, here) (omega arith);
}

-- the bytes that end them
pub ends_trailers : (old new : Decoder) (at : LineAt) (seen : ℕ) (kept : List ℕ) (n : ℕ)
    → old.place ≡ Trailers at seen → EndsAt at kept n → seen + n ≤ most_trailers
    → new.place ≡ Whole → new.form ≡ old.form → new.limit ≡ old.limit → new.count ≡ old.count
    → GoesOn old new (take n kept) (last_chunk old.form)
ends_trailers old new at seen kept n here ends short place form limit count =
    let bytes = take n kept in
    let long : length bytes ≡ n = length-take-le n kept ends.within in
    record {
      form = form;
      limit = limit;
      holds = λ framing taken passed holds.
          let h = subst (λ (p : Place). HoldsAt p framing old taken passed) here holds in
          let f = h.1 in
          let open_front : line_behind Fresh (f.trailers ++ ends.front)
          ≡ Some ends.place = behind_more Fresh at f.trailers ends.front f.line ∙ ends.open_ in
          let all : AreTrailers (f.trailers ++ bytes) = record {
            front = f.trailers ++ ends.front;
            last = ends.last;
            bytes = ap (λ xs. f.trailers ++ xs) ends.taken ∙ simp append_assoc;
            open_ = subst IsSome (sym open_front) refl;
            ended = behind_more Fresh at f.trailers bytes f.line ∙ ends.ended;
            short = let sum = f.seen_is in omega (arith, length-append f.trailers bytes);
          } in
          let whole : AreAllChunks old.form (taken ++ bytes) (passed ++ last_chunk old.form)
          old.count = record {
            passed_front = passed;
            trailers = f.trailers ++ bytes;
            all = record {
              front = f.taken.front;
              chunks = f.taken.chunks;
              line = f.taken.line;
              good = f.taken.good;
              last = f.taken.last;
              bytes = ap (λ xs. xs ++ bytes) f.taken.bytes ∙ simp append_assoc;
            };
            ended = all;
            out = refl;
          } in
          subst (λ (p : Place). HoldsAt p framing new (taken ++ bytes)
          (passed ++ last_chunk old.form)) (sym place) (
            h.0,
            subst (λ (f' : Form). AreAllChunks f' (taken ++ bytes) (passed ++ last_chunk old.form)
                new.count) (sym form)
                (subst (λ (m : ℕ). AreAllChunks old.form (taken ++ bytes)
                (passed ++ last_chunk old.form) m) (sym count) whole),
          );
      lean = rw (place, here) (omega arith);
    }

-- the steps over the trailers
pub moves_open : (old new : Decoder) (at next : LineAt) (seen : ℕ) (kept out : List ℕ) (run : ℕ)
    → 0 < run → run ≤ length kept → old.place ≡ Trailers at seen
    → line_behind at (take run kept) ≡ Some next → new.place ≡ Trailers next (seen + run)
    → new.form ≡ old.form → new.limit ≡ old.limit → new.count ≡ old.count
    → seen + run ≤ most_trailers → Moves old new kept run out out
moves_open old new at next seen kept out run some within here line place form limit count short =
    let long = length-take-le run kept within in record {
      some = some;
      within = within;
      put = [];
      out = sym (append-nil out);
      goes = follows old new at next seen (take run kept) here line
          (place ∙ ap (λ n. Trailers next (seen + n)) (sym long)) form limit count (omega arith);
    }

pub moves_end : (old new : Decoder) (at : LineAt) (seen : ℕ) (kept out_old out_new : List ℕ)
    (run n : ℕ) → old.place ≡ Trailers at seen → EndsAt at (take run kept) n
    → seen + run ≤ most_trailers → new.place ≡ Whole → new.form ≡ old.form → new.limit ≡ old.limit
    → new.count ≡ old.count → out_new ≡ out_old ++ last_chunk old.form
    → Moves old new kept n out_old out_new
moves_end old new at seen kept out_old out_new run n here ends short place form limit count out =
    let all = ends_within at kept run n ends in
    let less : n ≤ run = let w = ends.within in omega (arith, length-take run kept) in
    record {
      some = ends.some;
      within = all.within;
      put = last_chunk old.form;
      out = out;
      goes = ends_trailers old new at seen kept n here all (omega arith) place form limit count;
    }

-- CR LF at the front
two_bytes : (kept : List ℕ) → 2 ≤ length kept → get_or kept 0 0 ≡ carriage_return
    → get_or kept 1 0 ≡ line_feed → take 2 kept ≡ crlf_bytes
two_bytes [] long first second = absurd (omega arith)
two_bytes (a ∷ []) long first second = absurd (omega arith)
two_bytes (a ∷ b ∷ kept) long first second = (λ i. first i ∷ second i ∷ [])

pub moves_end_of_chunk : (old new : Decoder) (kept out_old out_new : List ℕ) → 2 ≤ length kept
    → get_or kept 0 0 ≡ carriage_return → get_or kept 1 0 ≡ line_feed
    → GoesOn old new crlf_bytes (chunk_end old.form) → out_new ≡ out_old ++ chunk_end old.form
    → Moves old new kept 2 out_old out_new
moves_end_of_chunk old new kept out_old out_new long first second goes out = record {
  some = omega arith;
  within = long;
  put = chunk_end old.form;
  out = out;
  goes = subst (λ (took : List ℕ). GoesOn old new took (chunk_end old.form))
      (sym (two_bytes kept long first second)) goes;
}
