-- What receiving in pieces adds up to.
use Rattle.std.proofs.Common.{◌≡◌, ◌≤◌, ◌<◌, inl, inr, ℕ, Bool, true, false, ltb, List, [], ◌∷◌}
use Rattle.std.proofs.Common.{◌++◌, length, take, drop, map, refl, sym, ap, ◌∙◌, subst, arith}
use Rattle.std.proofs.Common.{Option, Some, None, Result, Ok, Err, append_assoc, append-nil}
use Rattle.std.proofs.Common.{length-append}
use Rattle.std.proofs.lemmas.Bool.Decides.{nat_tests}
use Rattle.std.proofs.lemmas.List.{map-append, take_all, drop-append-le}
use Rattle.std.specs.Io.KnownBytes.{Consumes}
use Rattle.std.proofs.KnownBytes.{Consumes-trans}
use Rattle.line_base.specs.declared.dialer.DialEvent.{DialEvent}
use Rattle.line_base.specs.declared.dialer.DialEvent.TheVariants.{Got}
use Rattle.line_base.specs.Dials.{KeepsLog, Logs}
use Rattle.httparse.specs.Grammar.{print_response, ReadsResponse, HasNoResponse}
use Rattle.httparse.proofs.GrammarLemmas.{ReadsResponse-append}
use Rattle.http_wire.specs.declared.head.ReplyHead.{ReplyHead}
use Rattle.http_wire.specs.declared.reading.HeadEnd.{HeadEnd}
use Rattle.http_wire.specs.declared.reply_watch.StatusPlace.{StatusPlace}
use Rattle.http_wire.specs.FirstLine.{skip_empty_lines}
use Rattle.http_wire.specs.Heads.{window, most, most_piece}
use Rattle.http_wire.specs.Reading.{Whatever, is_fault, raised_at}
use Rattle.http_wire.specs.Replies.{BeginsWithReply, IsBadReply, IsDecidedReply, IsOpenReply}
use Rattle.http_wire.specs.Replies.{IsTooLargeReply, IsUnfinishedReply, Tracks, is_at_end}
use Rattle.http_wire.specs.ReplyReading.{AnswersReply, LooksReply, joined, LogsGot, IsPromptReply}
use Rattle.http_wire.specs.ReplyReading.{SaysEnd, ReadsReply, GotPiece, StopsAt}
use Rattle.http_wire.proofs.Settled.{window_more, window_full}
use Rattle.http_wire.proofs.Turning.{take_within, nothing_read}
use Rattle.http_wire.proofs.Replying.{open_reply}

-- ---- what the bytes show stays

pub begins_reply_within : (bytes : List ℕ) (head : ReplyHead) (len : ℕ)
    → BeginsWithReply bytes head len → len ≤ length bytes
unfolding window
begins_reply_within bytes head len begins =
    let cut : length (take most bytes) ≡ length
    (print_response begins.parts ++ drop len (take most bytes)) = ap length begins.reads.1 in
    omega (
      arith,
      cut,
      length-append (print_response begins.parts) (drop len (take most bytes)),
      begins.long,
      take_within most bytes,
    )

pub begins_reply_whatever : (bytes : List ℕ) (head : ReplyHead) (len : ℕ)
    → BeginsWithReply bytes head len → Whatever (λ all. BeginsWithReply all head len) bytes
begins_reply_whatever bytes head len begins more =
    let w = window_more bytes more in
    let cut : length (window bytes) ≡ length
    (print_response begins.parts ++ drop len (window bytes)) = ap length begins.reads.1 in
    let within : len ≤ length (window bytes) =
    omega (
      arith,
      cut,
      begins.long,
      length-append (print_response begins.parts)
          (drop len (window bytes)),
    ) in
    let longer = ReadsResponse-append (window bytes) begins.parts
    (drop len (window bytes)) w.0 begins.reads in
    let reads : ReadsResponse (window bytes ++ w.0) begins.parts (drop len (window bytes ++ w.0)) =
    subst (λ (rest : List ℕ). ReadsResponse (window bytes ++ w.0) begins.parts rest)
    (sym (drop-append-le len (window bytes) w.0 within)) longer in
    record {
      parts = begins.parts;
      reads = subst (λ (xs : List ℕ). ReadsResponse xs begins.parts (drop len xs)) (sym w.1) reads;
      long = begins.long;
      is = begins.is;
    }

pub bad_reply_whatever : (bytes : List ℕ) → IsBadReply bytes → Whatever IsBadReply bytes
bad_reply_whatever bytes bad more =
    let w = window_more bytes more in
    λ after. subst (λ (xs : List ℕ). HasNoResponse (xs ++ after)) (sym w.1)
    (subst HasNoResponse (sym (append_assoc (window bytes) w.0 after)) (bad (w.0 ++ after)))

pub large_reply_whatever : (bytes : List ℕ) → IsTooLargeReply bytes → Whatever IsTooLargeReply bytes
large_reply_whatever bytes large more = record {
  many = let enough = large.many in omega (arith, length-append bytes more);
  open_ = subst IsOpenReply (sym (window_full bytes more large.many)) large.open_;
}

-- decided bytes are not open
pub decided_or_open : (bytes : List ℕ) → length bytes < most → IsDecidedReply bytes
    → IsOpenReply (window bytes) → ⊥
unfolding window
decided_or_open bytes few decided open_ =
    by_case decided (subst IsOpenReply (take_all most bytes (omega arith)) open_)
  where
    by_case : IsDecidedReply bytes → IsOpenReply bytes → ⊥
    by_case (inl (h, rest, reads)) shown = shown.0 h rest reads
    by_case (inr never) shown = never shown.1.0 shown.1.1 [] shown.1.2

-- so open ones, where fewer would be decided, are as many as a head may have
pub too_large_reply : (bytes : List ℕ) → (length bytes < most → IsDecidedReply bytes)
    → IsOpenReply (window bytes) → IsTooLargeReply bytes
too_large_reply bytes decided open_ =
    record { many = many (ltb (length bytes) most) refl; open_ = open_ }
  where
    many : (t : Bool) → ltb (length bytes) most ≡ t → most ≤ length bytes
    many true test = let few : length bytes < most = grind (arith, nat_tests, test) in
        absurd (decided_or_open bytes few (decided few) open_)
    many false test = grind (arith, nat_tests, test)

unfinished_reply : (bytes : List ℕ) → length bytes < most → IsOpenReply bytes
    → IsUnfinishedReply bytes
unfolding window
unfinished_reply bytes few open_ = record
    { few = few; open_ = subst IsOpenReply (sym (take_all most bytes (omega arith))) open_ }

pub tracked_open : (bytes : List ℕ) (place : StatusPlace) → length bytes < most
    → is_at_end place ≡ false → Tracks bytes place → IsUnfinishedReply bytes
tracked_open bytes place few open_ tracks =
    unfinished_reply bytes few (open_reply bytes place open_ tracks)

-- ---- pieces

joined-push : (pieces : List (List ℕ)) (piece : List ℕ)
    → joined (pieces ++ piece ∷ []) ≡ joined pieces ++ piece
joined-push [] piece = append-nil piece
joined-push (p ∷ ps) piece = ap (λ (xs : List ℕ). p ++ xs) (joined-push ps piece)
    ∙ sym (append_assoc p (joined ps) piece)

logs_more : (l0 l1 l2 : Option (List DialEvent)) (pieces : List (List ℕ)) (piece : List ℕ)
    → LogsGot l0 l1 pieces → Logs l1 l2 (Got piece)
    → LogsGot l0 l2 (pieces ++ piece ∷ [])
logs_more None l1 l2 pieces piece before now = tt
logs_more (Some a) None l2 pieces piece before now = absurd before
logs_more (Some a) (Some b) None pieces piece before now = absurd now
logs_more (Some a) (Some b) (Some c) pieces piece before now =
    now ∙ (ap (λ (events : List DialEvent). events ++ Got piece ∷ []) before
    ∙ (append_assoc a (map Got pieces) (Got piece ∷ [])
    ∙ ap (λ (events : List DialEvent). a ++ events) (sym (map-append Got pieces (piece ∷ [])))))

logs_kept : (l0 l1 l2 : Option (List DialEvent)) (pieces : List (List ℕ)) → LogsGot l0 l1 pieces
    → KeepsLog l1 l2 → LogsGot l0 l2 pieces
logs_kept None l1 l2 pieces before now = tt
logs_kept (Some a) None l2 pieces before now = absurd before
logs_kept (Some a) (Some b) None pieces before now = absurd now
logs_kept (Some a) (Some b) (Some c) pieces before now = now ∙ before

pub no_pieces : (l : Option (List DialEvent)) → LogsGot l l []
no_pieces None = tt
no_pieces (Some events) = sym (append-nil events)

-- what has come so far
pub record SoFar
    (left_before left_now : Option (List ℕ)) (log_before log_now : Option (List DialEvent))
    (kept_before kept_now : List ℕ)
    : Type 0 where
  pub pieces : List (List ℕ)
  pub given : Consumes left_before left_now (joined pieces)
  pub logged : LogsGot log_before log_now pieces
  pub prompt : IsPromptReply kept_before pieces
  pub grown : kept_now ≡ kept_before ++ joined pieces

pub nothing_yet : (left : Option (List ℕ)) (log : Option (List DialEvent)) (kept : List ℕ)
    → SoFar left left log log kept kept
nothing_yet left log kept =
    record {
      pieces = [];
      given = nothing_read left;
      logged = no_pieces log;
      prompt = inl refl;
      grown = sym (append-nil kept);
    }

prompt_more : (kept now : List ℕ) (pieces : List (List ℕ)) (piece : List ℕ)
    → now ≡ kept ++ joined pieces → length piece ≤ most_piece → IsUnfinishedReply now
    → IsPromptReply kept (pieces ++ piece ∷ [])
prompt_more kept now pieces piece so_far short unfinished =
    inr (record {
      earlier = pieces;
      piece = piece;
      cut = refl;
      short = short;
      unfinished =
          subst IsUnfinishedReply so_far unfinished;
    })

pub one_more : (l0 l1 l2 : Option (List ℕ)) (g0 g1 g2 : Option (List DialEvent))
    (k0 k1 k2 : List ℕ) → SoFar l0 l1 g0 g1 k0 k1
    → IsUnfinishedReply k1 → GotPiece l1 l2 g1 g2 k1 k2 → SoFar l0 l2 g0 g2 k0 k2
one_more l0 l1 l2 g0 g1 g2 k0 k1 k2 before unfinished now = record {
  pieces = before.pieces ++ now.piece ∷ [];
  given = subst (Consumes l0 l2) (sym (joined-push before.pieces now.piece))
      (Consumes-trans l0 l1 l2 (joined before.pieces) now.piece before.given now.given);
  logged = logs_more g0 g1 g2 before.pieces now.piece before.logged now.logged;
  prompt = prompt_more k0 k1 before.pieces now.piece before.grown now.short unfinished;
  grown = now.grown ∙ (ap (λ (xs : List ℕ). xs ++ now.piece) before.grown
      ∙ (append_assoc k0 (joined before.pieces) now.piece
      ∙ ap (λ (xs : List ℕ). k0 ++ xs) (sym (joined-push before.pieces now.piece))));
}

-- a look is no failed receive
pub quiet_after : (before now : ℕ) (k0 k1 : List ℕ) (result : Result ReplyHead HeadEnd)
    → now ≡ before → LooksReply k0 k1 result
    → now ≡ raised_at (is_fault result) before
quiet_after before now k0 k1 (Ok head) same l = same
quiet_after before now k0 k1 (Err HeadEnd.Ended) same l = absurd l
quiet_after before now k0 k1 (Err HeadEnd.Cut) same l = absurd l
quiet_after before now k0 k1 (Err HeadEnd.ReadFault) same l = absurd l
quiet_after before now k0 k1 (Err HeadEnd.Version) same l = absurd l
quiet_after before now k0 k1 (Err HeadEnd.Bad) same l = same
quiet_after before now k0 k1 (Err HeadEnd.TooLarge) same l = same
quiet_after before now k0 k1 (Err HeadEnd.OutOfMemory) same l = same

-- an answer by a look
pub looked_reply : (l0 l1 : Option (List ℕ)) (g0 g1 : Option (List DialEvent)) (k0 k1 k2 : List ℕ)
    (result : Result ReplyHead HeadEnd) → SoFar l0 l1 g0 g1 k0 k1
    → LooksReply k1 k2 result → ReadsReply l0 l1 g0 g1 k0 k2 result
looked_reply l0 l1 g0 g1 k0 k1 k2 result before looks = record {
  pieces = before.pieces;
  given = before.given;
  logged = before.logged;
  prompt = before.prompt;
  answers = subst (λ (all : List ℕ). AnswersReply all k2 result) before.grown
      (answers result looks);
  end = end result looks;
}
  where
    answers : (r : Result ReplyHead HeadEnd) → LooksReply k1 k2 r → AnswersReply k1 k2 r
    answers (Ok head) l = l
    answers (Err HeadEnd.Ended) l = absurd l
    answers (Err HeadEnd.Cut) l = absurd l
    answers (Err HeadEnd.ReadFault) l = absurd l
    answers (Err HeadEnd.Version) l = absurd l
    answers (Err HeadEnd.Bad) l = l
    answers (Err HeadEnd.TooLarge) l = l
    answers (Err HeadEnd.OutOfMemory) l = l

    end : (r : Result ReplyHead HeadEnd) → LooksReply k1 k2 r → SaysEnd l1 before.pieces r
    end (Ok head) l = tt
    end (Err HeadEnd.Ended) l = absurd l
    end (Err HeadEnd.Cut) l = absurd l
    end (Err HeadEnd.ReadFault) l = tt
    end (Err HeadEnd.Version) l = tt
    end (Err HeadEnd.Bad) l = tt
    end (Err HeadEnd.TooLarge) l = tt
    end (Err HeadEnd.OutOfMemory) l = tt

-- with a last receive that gave the end
abbrev and_end : List (List ℕ) → List (List ℕ)
and_end pieces = pieces ++ [] ∷ []

-- no piece came
pub stopped_reply : (l0 l1 l2 : Option (List ℕ)) (g0 g1 g2 : Option (List DialEvent))
    (k0 k1 k2 : List ℕ) (e : HeadEnd) → SoFar l0 l1 g0 g1 k0 k1
    → IsUnfinishedReply k1 → Consumes l1 l2 [] × (k2 ≡ k1) × StopsAt e l2 g1 g2 k1
    → ReadsReply l0 l2 g0 g2 k0 k2 (Err e)
stopped_reply l0 l1 l2 g0 g1 g2 k0 k1 k2 e before unfinished (none, same, why) = by_end e why
  where
    kept : k2 ≡ k0 ++ joined before.pieces
    kept = same ∙ before.grown

    given : Consumes l0 l2 (joined before.pieces)
    given = subst (Consumes l0 l2) (append-nil (joined before.pieces))
        (Consumes-trans l0 l1 l2 (joined before.pieces) [] before.given none)

    all : joined (and_end before.pieces) ≡ joined before.pieces
    all = joined-push before.pieces [] ∙ append-nil (joined before.pieces)

    at_end : (end : HeadEnd) → Logs g1 g2 (Got [])
        → AnswersReply (k0 ++ joined before.pieces) k2 (Err end)
        → SaysEnd l2 (and_end before.pieces) (Err end) → ReadsReply l0 l2 g0 g2 k0 k2 (Err end)
    at_end end logged answers says = record {
      pieces = and_end before.pieces;
      given = subst (Consumes l0 l2) (sym all) given;
      logged = logs_more g0 g1 g2 before.pieces [] before.logged logged;
      prompt = prompt_more k0 k1 before.pieces [] before.grown (omega arith) unfinished;
      answers = subst (λ (xs : List ℕ). AnswersReply (k0 ++ xs) k2 (Err end)) (sym all) answers;
      end = says;
    }

    at_fault : (end : HeadEnd) → KeepsLog g1 g2
        → AnswersReply (k0 ++ joined before.pieces) k2 (Err end)
        → SaysEnd l2 before.pieces (Err end) → ReadsReply l0 l2 g0 g2 k0 k2 (Err end)
    at_fault end logged answers says = record {
      pieces = before.pieces;
      given = given;
      logged = logs_kept g0 g1 g2 before.pieces before.logged logged;
      prompt = before.prompt;
      answers = answers;
      end = says;
    }

    by_end : (end : HeadEnd) → StopsAt end l2 g1 g2 k1 → ReadsReply l0 l2 g0 g2 k0 k2 (Err end)
    by_end HeadEnd.Ended (logged, left, blank) =
        at_end HeadEnd.Ended logged (
          subst IsUnfinishedReply before.grown unfinished,
          ap skip_empty_lines (sym before.grown) ∙ blank,
          kept,
        ) (left, (before.pieces, refl))
    by_end HeadEnd.Cut (logged, left, some) =
        at_end HeadEnd.Cut logged (
          subst IsUnfinishedReply before.grown unfinished,
          λ none. some (ap skip_empty_lines before.grown ∙ none),
          kept,
        ) (left, (before.pieces, refl))
    by_end HeadEnd.ReadFault logged = at_fault HeadEnd.ReadFault logged
        (subst IsUnfinishedReply before.grown unfinished, kept) tt
    by_end HeadEnd.OutOfMemory logged = at_fault HeadEnd.OutOfMemory logged kept tt
    by_end HeadEnd.Bad never = absurd never
    by_end HeadEnd.Version never = absurd never
    by_end HeadEnd.TooLarge never = absurd never
