-- What reading in pieces adds up to.
use Rattle.std.proofs.Common.{◌≡◌, ◌≤◌, ◌<◌, ◌-◌, inl, inr, ℕ, Bool, false, List, [], ◌∷◌, ◌++◌}
use Rattle.std.proofs.Common.{length, take, drop, refl, sym, ap, ◌∙◌, subst, arith, Option, Some}
use Rattle.std.proofs.Common.{None, Result, Ok, Err, append_assoc, append-nil, length-append}
use Rattle.std.proofs.lemmas.List.{length-take, take_all, take_rest, drop_at}
use Rattle.std.specs.Io.KnownBytes.{Consumes}
use Rattle.std.proofs.KnownBytes.{Consumes-trans}
use Rattle.line_base.specs.Counts.{Rose, raised}
use Rattle.httparse.specs.Grammar.{print_request}
use Rattle.http_wire.specs.declared.head.Head.{Head}
use Rattle.http_wire.specs.declared.reading.HeadEnd.{HeadEnd}
use Rattle.http_wire.specs.declared.reading.Turn.{Turn}
use Rattle.http_wire.specs.declared.reading.Turn.TheVariants.{Answered, More}
use Rattle.http_wire.specs.Heads.{window, most, most_piece, BeginsWith, IsOpen, IsUnfinished}
use Rattle.http_wire.specs.declared.watch.Progress.{Progress}
use Rattle.http_wire.specs.declared.watch.Watch.{Watch}
use Rattle.http_wire.specs.FirstLine.{first_line}
use Rattle.http_wire.specs.Places.{Follows, StandsAt}
use Rattle.http_wire.specs.Reading.{Answers, AnswersTurn, Grows, HasCauses, HasNoneLeft, IsPrompt}
use Rattle.http_wire.specs.Reading.{Looks, LooksFirst, ReadsHead, Trusts, is_end, is_fault}
use Rattle.http_wire.specs.Reading.{raised_at}
use Rattle.http_wire.proofs.Standing.{stands_first}

pub take_within : (n : ℕ) (bytes : List ℕ) → length (take n bytes) ≤ length bytes
take_within n bytes = omega (arith, length-take n bytes)

-- a head lies within the bytes that begin with it
pub begins_within : (bytes : List ℕ) (head : Head) (len : ℕ) → BeginsWith bytes head len
    → len ≤ length bytes
unfolding window
begins_within bytes head len begins =
    let cut : length (take most bytes) ≡ length
    (print_request begins.parts ++ drop len (take most bytes)) = ap length begins.reads.1 in
    omega (
      arith,
      cut,
      length-append (print_request begins.parts) (drop len (take most bytes)),
      begins.long,
      take_within most bytes,
    )

-- nothing was read
pub nothing_read : (left : Option (List ℕ)) → Consumes left left []
nothing_read None = tt
nothing_read (Some xs) = refl

-- an answer by a look alone, which reads nothing
pub looked : (left : Option (List ℕ)) (bytes kept : List ℕ) (result : Result Head HeadEnd)
    (ends faults : ℕ) → Looks bytes kept (Answered result)
    → AnswersTurn left left bytes kept ends ends faults faults result
looked left bytes kept result ends faults looks = by_result result looks
  where
    quiet : (r : Result Head HeadEnd) → is_end r ≡ false → is_fault r ≡ false
        → HasCauses ends ends faults faults r
    quiet r no_end no_fault = record {
      ends = ap (λ (b : Bool). raised_at b ends) (sym no_end);
      faults = ap (λ (b : Bool). raised_at b faults) (sym no_fault);
      ends_later = omega arith;
      faults_later = omega arith;
    }

    by_result : (r : Result Head HeadEnd) → Looks bytes kept (Answered r)
        → AnswersTurn left left bytes kept ends ends faults faults r
    by_result (Ok head) l =
        record {
          given = nothing_read left;
          answers = l;
          causes = quiet (Ok head) refl refl;
          end =
              tt;
        }
    by_result (Err HeadEnd.Ended) never = absurd never
    by_result (Err HeadEnd.Cut) never = absurd never
    by_result (Err HeadEnd.ReadFault) never = absurd never
    by_result (Err HeadEnd.Bad) l = record {
      given = nothing_read left;
      answers = l;
      causes = quiet (Err HeadEnd.Bad) refl refl;
      end =
          tt;
    }
    by_result (Err HeadEnd.Version) l =
        record {
          given = nothing_read left;
          answers = l;
          causes =
              quiet (Err HeadEnd.Version) refl refl;
          end = tt;
        }
    by_result (Err HeadEnd.TooLarge) l =
        record {
          given = nothing_read left;
          answers = l;
          causes =
              quiet (Err HeadEnd.TooLarge) refl refl;
          end = tt;
        }
    by_result (Err HeadEnd.OutOfMemory) l =
        record {
          given = nothing_read left;
          answers = l;
          causes =
              quiet (Err HeadEnd.OutOfMemory) refl refl;
          end = tt;
        }

-- what an answer's causes are, where the counts stood as they were before
pub causes_after : (e0 e1 e2 f0 f1 f2 : ℕ) (result : Result Head HeadEnd) → e1 ≡ e0 → f1 ≡ f0
    → HasCauses e1 e2 f1 f2 result → HasCauses e0 e2 f0 f2 result
causes_after e0 e1 e2 f0 f1 f2 result same_ends same_faults causes =
    subst (λ (e : ℕ). HasCauses e e2 f0 f2 result) same_ends
    (subst (λ (f : ℕ). HasCauses e1 e2 f f2 result) same_faults causes)

-- a count that is raised rose
pub rose : (before now : ℕ) → now ≡ raised before → Rose before now
rose before now is = omega (arith, is)

-- the bytes that came so far, with one piece more behind an unfinished head
pub prompt_more : (kept taken piece bytes : List ℕ) → bytes ≡ kept ++ taken
    → length piece ≤ most_piece → IsUnfinished bytes → IsPrompt kept (taken ++ piece)
prompt_more kept taken piece bytes so_far short unfinished =
    inr (record {
      earlier = taken;
      piece = piece;
      cut = refl;
      short = short;
      unfinished =
          subst IsUnfinished so_far unfinished;
    })

-- an answer behind the bytes that came so far
pub reads_after : (l0 l1 l2 : Option (List ℕ)) (k0 k1 k2 taken : List ℕ) (e0 e1 f0 f1 : ℕ)
    (result : Result Head HeadEnd)
    → Consumes l0 l1 taken → IsPrompt k0 taken → k1 ≡ k0 ++ taken
    → AnswersTurn l1 l2 k1 k2 e0 e1 f0 f1 result
    → ReadsHead l0 l2 k0 k2 result
reads_after l0 l1 l2 k0 k1 k2 taken e0 e1 f0 f1 result first prompt grown later = record {
  taken = taken;
  given = subst (Consumes l0 l2) (append-nil taken)
      (Consumes-trans l0 l1 l2 taken [] first later.given);
  prompt = prompt;
  answers = subst (λ (all : List ℕ). Answers all k2 result) grown later.answers;
  end = later.end;
}

-- ---- what a watch is trusted with

-- fewer bytes than count all count
all_open : (bytes : List ℕ) → IsUnfinished bytes → IsOpen bytes
unfolding window
all_open bytes unfinished = subst IsOpen
    (take_all most bytes (let few = unfinished.few in omega arith)) unfinished.open_

pub unfinished_quiet : (bytes : List ℕ) → length bytes < most → IsOpen bytes → IsUnfinished bytes
unfolding window
unfinished_quiet bytes few open_ = record
    { few = few; open_ = subst IsOpen (sym (take_all most bytes (omega arith))) open_ }

-- before any byte has come
pub nothing_unfinished : (bytes : List ℕ) → length bytes ≡ 0 → IsUnfinished bytes
unfolding first_line
nothing_unfinished [] none = unfinished_quiet [] (omega arith) tt
nothing_unfinished (b ∷ bytes) none = absurd (omega arith)

-- before anything was followed
pub trusts_first : (rest kept : List ℕ) (w0 w1 : Watch) → kept ≡ rest
    → w0.progress ≡ Progress.Before
    → ((before : List ℕ) → StandsAt w0.progress before → IsOpen before
    → Follows before (before ++ kept) w1) → Trusts w1 rest
unfolding first_line
trusts_first rest kept w0 w1 same first follows =
    let followed = follows [] (subst (λ (p : Progress). StandsAt p []) (sym first) stands_first)
    tt in
    subst (Trusts w1) same (record { stands = followed.stands; quiet = followed.quiet })

-- behind one piece more
pub trusts_more : (rest0 rest1 taken slice : List ℕ) (w0 w1 : Watch) → rest1 ≡ rest0 ++ taken
    → slice ≡ taken → StandsAt w0.progress rest0 → IsUnfinished rest0
    → ((before : List ℕ) → StandsAt w0.progress before → IsOpen before
    → Follows before (before ++ slice) w1) → Trusts w1 rest1
trusts_more rest0 rest1 taken slice w0 w1 grown same stands unfinished follows =
    let followed = follows rest0 stands (all_open rest0 unfinished) in
    subst (Trusts w1) (ap (λ (xs : List ℕ). rest0 ++ xs) same ∙ sym grown)
    (record { stands = followed.stands; quiet = followed.quiet })

-- what stands behind the bytes that were followed
pub behind_followed : (rest0 rest1 taken k0 k1 : List ℕ) → k0 ≡ rest0 → k1 ≡ rest1
    → rest1 ≡ rest0 ++ taken
    → take (length k1 - length k0) (drop (length k0) k1) ≡ taken
behind_followed rest0 rest1 taken k0 k1 same0 same1 grown =
    take_rest k1 (length k0)
    ∙ ((λ i. drop (length (same0 i)) ((same1 ∙ grown) i)) ∙ drop_at rest0 taken (length rest0) refl)

-- a piece more behind those that came so far
pub reads_on : (l0 l1 l2 : Option (List ℕ)) (k0 k1 k2 taken : List ℕ) → Consumes l0 l1 taken
    → k1 ≡ k0 ++ taken → Grows l1 l2 k1 k2
    → (all : List ℕ) × Consumes l0 l2 all × IsPrompt k0 all × (k2 ≡ k0 ++ all)
reads_on l0 l1 l2 k0 k1 k2 taken first so_far grows = (
  taken ++ grows.piece,
  Consumes-trans l0 l1 l2 taken grows.piece first grows.given,
  prompt_more k0 taken grows.piece k1 so_far grows.short grows.unfinished,
  grows.grown ∙ (ap (λ (xs : List ℕ). xs ++ grows.piece) so_far
      ∙ append_assoc k0 taken grows.piece),
)

-- a look at the bytes that are kept and at those that came behind them
pub looked_after : (l0 l1 : Option (List ℕ)) (k0 k1 k2 taken : List ℕ) (e0 e1 f0 f1 : ℕ)
    (turn : Turn) → Consumes l0 l1 taken → IsPrompt k0 taken → k1 ≡ k0 ++ taken
    → e1 ≡ e0 → f1 ≡ f0 → Looks k1 k2 turn → LooksFirst l0 l1 k0 k2 e0 e1 f0 f1 turn
looked_after l0 l1 k0 k1 k2 taken e0 e1 f0 f1 (Answered result) given prompt grown ends faults
    looks =
    let turn = looked l1 k1 k2 result e1 f1 looks in (
      reads_after l0 l1 l1 k0 k1 k2 taken e1 e1 f1 f1 result given prompt grown turn,
      causes_after e0 e1 e1 f0 f1 f1 result ends faults turn.causes,
    )
looked_after l0 l1 k0 k1 k2 taken e0 e1 f0 f1 More given prompt grown ends faults looks =
    ((taken, given, prompt, looks.1 ∙ grown), ends, faults)

-- a look at the bytes that are kept
pub looked_at_hand : (left : Option (List ℕ)) (k0 k1 : List ℕ) (ends faults : ℕ) (turn : Turn)
    → Looks k0 k1 turn → LooksFirst left left k0 k1 ends ends faults faults turn
looked_at_hand left k0 k1 ends faults turn looks =
    looked_after left left k0 k0 k1 [] ends ends faults faults turn (nothing_read left) (inl refl)
    (sym (append-nil k0)) refl refl looks

-- a look at the first piece
pub looked_at_first : (l0 l1 : Option (List ℕ)) (k0 k1 k2 : List ℕ) (e0 e1 f0 f1 : ℕ) (turn : Turn)
    → Grows l0 l1 k0 k1 × (e1 ≡ e0) × (f1 ≡ f0) → Looks k1 k2 turn
    → LooksFirst l0 l1 k0 k2 e0 e1 f0 f1 turn
looked_at_first l0 l1 k0 k1 k2 e0 e1 f0 f1 turn (grows, ends, faults) looks =
    looked_after l0 l1 k0 k1 k2 grows.piece e0 e1 f0 f1 turn grows.given
    (prompt_more k0 [] grows.piece k0 (sym (append-nil k0)) grows.short grows.unfinished)
    grows.grown ends faults looks

-- an answer in place of the first piece
pub answered_first : (l0 l1 : Option (List ℕ)) (k0 k1 : List ℕ) (e0 e1 f0 f1 : ℕ)
    (result : Result Head HeadEnd) → AnswersTurn l0 l1 k0 k1 e0 e1 f0 f1 result
    → LooksFirst l0 l1 k0 k1 e0 e1 f0 f1 (Answered result)
answered_first l0 l1 k0 k1 e0 e1 f0 f1 result turn = (
  reads_after l0 l0 l1 k0 k0 k1 [] e0 e1 f0 f1 result (nothing_read l0) (inl refl)
      (sym (append-nil k0)) turn,
  turn.causes,
)

-- ---- a head behind a first piece that was waited for

-- a piece that came where nothing was kept, and what came behind it
pub prompt_behind : (k0 k1 piece taken : List ℕ) → k1 ≡ k0 ++ piece → IsPrompt k0 piece
    → IsPrompt k1 taken → IsPrompt k0 (piece ++ taken)
prompt_behind k0 k1 piece taken grown first (inl none) =
    subst (IsPrompt k0) (sym (ap (λ (xs : List ℕ). piece ++ xs) none ∙ append-nil piece)) first
prompt_behind k0 k1 piece taken grown first (inr last) =
    inr (record {
      earlier = piece ++ last.earlier;
      piece = last.piece;
      cut = ap (λ (xs : List ℕ). piece ++ xs) last.cut
          ∙ sym (append_assoc piece last.earlier last.piece);
      short = last.short;
      unfinished =
          subst IsUnfinished (ap (λ (xs : List ℕ). xs ++ last.earlier) grown
          ∙ append_assoc k0 piece last.earlier)
          last.unfinished;
    })

pub reads_behind : (l0 l1 l2 : Option (List ℕ)) (k0 k1 k2 piece : List ℕ)
    (result : Result Head HeadEnd)
    → Consumes l0 l1 piece → IsPrompt k0 piece → k1 ≡ k0 ++ piece → ReadsHead l1 l2 k1 k2 result
    → ReadsHead l0 l2 k0 k2 result
reads_behind l0 l1 l2 k0 k1 k2 piece result first prompt grown later = record {
  taken = piece ++ later.taken;
  given = Consumes-trans l0 l1 l2 piece later.taken first later.given;
  prompt = prompt_behind k0 k1 piece later.taken grown prompt later.prompt;
  answers =
      subst (λ (all : List ℕ). Answers all k2 result)
      (ap (λ (xs : List ℕ). xs ++ later.taken) grown ∙ append_assoc k0 piece later.taken)
      later.answers;
  end = later.end;
}

-- no piece came where nothing was kept
pub ended_at_once : (l0 l1 : Option (List ℕ)) (k0 k1 : List ℕ) (result : Result Head HeadEnd)
    → Consumes l0 l1 []
    → Answers k0 k1 result → HasNoneLeft l1 result → ReadsHead l0 l1 k0 k1 result
ended_at_once l0 l1 k0 k1 result given answers end = record {
  taken = [];
  given = given;
  prompt = inl refl;
  answers = subst (λ (all : List ℕ). Answers all k1 result) (sym (append-nil k0)) answers;
  end = end;
}
