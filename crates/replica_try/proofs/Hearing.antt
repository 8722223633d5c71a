-- How the heads of a reply are received, one behind the other.
use Rattle.std.proofs.Common.{◌≡◌, ℕ, ◌+◌, ◌≤◌, List, ◌++◌, true, refl, sym, ap, ◌∙◌, subst, Option}
use Rattle.std.proofs.Common.{Result, Ok, Err, add-one, arith}
use Rattle.line_base.specs.declared.dialer.DialEvent.{DialEvent}
use Rattle.http_wire.specs.declared.frames.Framing.{Framing}
use Rattle.http_wire.specs.declared.head.ReplyHead.{ReplyHead}
use Rattle.http_wire.specs.declared.reading.HeadEnd.{HeadEnd}
use Rattle.http_wire.specs.Reading.{is_fault, raised_at}
use Rattle.http_wire.specs.ReplyReading.{LogsGot, ReadsReply, SaysEnd}
use Rattle.replica_try.specs.declared.final_head.HeadFault.{HeadFault}
use Rattle.replica_try.specs.Heads.{Decides, EndsPieces, Hears, Interims, Shows, is_interim}
use Rattle.replica_try.proofs.Growing.{logs_more}

ends_pieces : (left : Option (List ℕ)) (pieces : List (List ℕ)) (result : Result ReplyHead HeadEnd)
    → SaysEnd left pieces result → EndsPieces pieces result
ends_pieces left pieces (Ok head) says = tt
ends_pieces left pieces (Err HeadEnd.Ended) says = says.1
ends_pieces left pieces (Err HeadEnd.Cut) says = says.1
ends_pieces left pieces (Err HeadEnd.Bad) says = tt
ends_pieces left pieces (Err HeadEnd.Version) says = tt
ends_pieces left pieces (Err HeadEnd.TooLarge) says = tt
ends_pieces left pieces (Err HeadEnd.ReadFault) says = tt
ends_pieces left pieces (Err HeadEnd.OutOfMemory) says = tt

-- the pieces of the heads that were dropped
pub record Dropped (l0 l1 : Option (List DialEvent)) (k0 k1 : List ℕ) (n : ℕ) : Type 0 where
  pub pieces : List (List ℕ)
  pub logged : LogsGot l0 l1 pieces
  pub interims : Interims n k0 k1 pieces

module _ (left0 left1 : Option (List ℕ)) (l0 l1 l2 : Option (List DialEvent)) (k0 k1 k2 : List ℕ)
    (n : ℕ) (before : Dropped l0 l1 k0 k1 n) where
  -- one more head was received, and shows this
  pub last_shows : (result : Result ReplyHead HeadEnd) (read : ReadsReply left0 left1 l1 l2 k1 k2
      result) → Shows k1 k2 read.pieces result
  last_shows result read = record {
    prompt = read.prompt;
    answers = read.answers;
    end = ends_pieces left1 read.pieces result read.end;
  }

  -- and is dropped
  pub one_dropped : (head : ReplyHead) → ReadsReply left0 left1 l1 l2 k1 k2 (Ok head)
      → is_interim head.status ≡ true → Dropped l0 l2 k0 k2 (n + 1)
  one_dropped head read interim = record {
    pieces = before.pieces ++ read.pieces;
    logged = logs_more l0 l1 l2 before.pieces read.pieces before.logged read.logged;
    interims =
        subst (λ m. Interims m k0 k2 (before.pieces ++ read.pieces)) (sym (add-one n)) (
          k1,
          before.pieces,
          read.pieces,
          head,
          before.interims,
          last_shows (Ok head) read,
          interim,
          refl,
        );
  }

  -- and it decides
  pub heard : (method : List ℕ) (f0 f1 f2 : ℕ) (shown : Result ReplyHead HeadEnd)
      (result : Result (ReplyHead × Framing) HeadFault) → n ≤ 8
      → (read : ReadsReply left0 left1 l1 l2 k1 k2 shown) → f1 ≡ f0 → f2
      ≡ raised_at (is_fault shown) f1 → f1 ≤ f2
      → Decides method n k2 shown result
      → (pieces : List (List ℕ)) × LogsGot l0 l2 pieces × Hears method k0 k2 pieces f0 f2 result
  heard method f0 f1 f2 shown result few read first raises second decides = (
    before.pieces ++ read.pieces,
    logs_more l0 l1 l2 before.pieces read.pieces before.logged read.logged,
    record {
      interims = n;
      few = few;
      mid = k1;
      before = before.pieces;
      last = read.pieces;
      shown = shown;
      dropped = before.interims;
      shows = last_shows shown read;
      decides = decides;
      causes = raises ∙ ap (λ (f : ℕ). raised_at (is_fault shown) f) first;
      whole = refl;
      later = omega (arith, first, second);
    },
  )
