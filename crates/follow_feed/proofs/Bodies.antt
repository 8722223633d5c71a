-- What the calls that pass bodies on come to, for a request without a body and a reply with a
-- length.
use Rattle.std.proofs.Common.{◌≡◌, ℕ, ◌+◌, length, List, [], ◌++◌, Some, Result, Ok, Err, true}
use Rattle.std.proofs.Common.{false, refl, sym, subst, ap, ◌∙◌, inl, inr, arith, append-nil}
use Rattle.std.proofs.Common.{length-append}
use Rattle.std.specs.List.{concat}
use Rattle.std.specs.Io.KnownBytes.{Appends}
use Rattle.http_wire.specs.declared.frames.Framing.{Framing}
use Rattle.http_wire.specs.declared.head.ReplyHead.{ReplyHead}
use Rattle.body_wire.specs.declared.end.BodyEnd.{BodyEnd}
use Rattle.body_wire.specs.Bodies.{IsUnfinished}
use Rattle.body_wire.specs.Passing.{EndsPieces, IsFrontOf, PassesOn, form_of, most_passed}
use Rattle.follow_feed.specs.declared.feed.Feed.{Feed}
use Rattle.follow_feed.specs.declared.polling.PollEnd.{PollEnd}
use Rattle.follow_feed.specs.Feeds.{FeedValue}
use Rattle.follow_feed.specs.Polling.{IsFeedHead, IsSent, IsShort, SaysBehind, end_of_body}
use Rattle.follow_feed.specs.Polling.{given}
use Rattle.follow_feed.specs.Reading.{Reads, feed_in}

-- the body came whole, and was gathered
pub whole_body : (head : ReplyHead) (n m : ℕ) (before kept kept_after sent start gathered : List ℕ)
    (pieces : List (List ℕ))
    (result : Result Feed PollEnd) → IsFeedHead head n → before ≡ []
    → (count : ℕ)
    → PassesOn (Framing.Length n) (form_of false) most_passed before kept pieces sent kept_after
    count (Ok m)
    → start ≡ [] → Appends (Some start) (Some gathered) sent → Reads (feed_in gathered) result
    → SaysBehind head kept pieces (given result)
whole_body head n m before kept kept_after sent start gathered pieces result good none counted
    passes fresh gives reads =
    by result reads
  where
    body : gathered ≡ passes.taken
    body =
        let all : gathered ≡ sent = gives ∙ ap (λ l. l ++ sent) fresh in
        let went : sent ≡ passes.passed = passes.sends ∙ ap (λ l. l ++ passes.passed) none in
        (all ∙ went) ∙ passes.ends.1.0.same

    long : length gathered ≡ n
    long = ap length body ∙ (sym passes.ends.1.0.total ∙ passes.ends.1.1)

    cut : kept ++ concat pieces ≡ gathered ++ kept_after
    cut = passes.bytes ∙ ap (λ l. l ++ kept_after) (sym body)

    by : (r : Result Feed PollEnd) → Reads (feed_in gathered) r
        → SaysBehind head kept pieces (given r)
    by (Ok feed) h = record {
      count = n;
      good = good;
      body = gathered;
      whole = record { behind = kept_after; cut = cut; long = long };
      says = h;
    }
    by (Err PollEnd.Lost) h = absurd h
    by (Err PollEnd.Strange) h = inr (inl (record {
      count = n;
      good = good;
      body = gathered;
      whole = record { behind = kept_after; cut = cut; long = long };
      says = h;
    }))
    by (Err PollEnd.OutOfMemory) h = tt

-- the same where it is known how the reply's body ended
pub whole_body_by : (head : ReplyHead) (n m : ℕ)
    (before kept kept_after sent start gathered : List ℕ) (pieces : List (List ℕ))
    (result : Result Feed PollEnd) → IsFeedHead head n → before ≡ []
    → (count : ℕ) (end : Result ℕ BodyEnd) → end ≡ Ok m
    → PassesOn (Framing.Length n) (form_of false) most_passed before kept pieces sent kept_after
    count end
    → start ≡ [] → Appends (Some start) (Some gathered) sent → Reads (feed_in gathered) result
    → SaysBehind head kept pieces (given result)
whole_body_by head n m before kept kept_after sent start gathered pieces result good none count end
    is passes fresh gives reads =
    let whole = subst (λ (e : Result ℕ BodyEnd). PassesOn (Framing.Length n) (form_of false)
    most_passed before kept pieces sent kept_after count e) is passes in
    whole_body head n m before kept kept_after sent start gathered pieces result good none count
    whole fresh gives reads

-- or it has not come whole
short_body : (head : ReplyHead) (n count : ℕ) (kept kept_after taken passed : List ℕ)
    (pieces : List (List ℕ)) → IsFeedHead head n → kept ++ concat pieces ≡ taken ++ kept_after
    → IsUnfinished (Framing.Length n) (form_of false) most_passed taken passed count kept_after
    → IsShort head (kept ++ concat pieces)
short_body head n count kept kept_after taken passed pieces good bytes open_ =
    let few = open_.1 in
    let nothing : length kept_after ≡ 0 = ap length open_.2 in
    let total = open_.0.total in
    let size : length (kept ++ concat pieces) ≡ length taken + length kept_after =
    ap length bytes ∙ length-append taken kept_after in
    record { count = n; good = good; short = omega (arith, few, nothing, total, size) }

-- or its passing ended so
pub cut_body : (head : ReplyHead) (n : ℕ) (before kept kept_after sent : List ℕ)
    (pieces : List (List ℕ)) (end : BodyEnd)
    → IsFeedHead head n
    → (count : ℕ)
    → PassesOn (Framing.Length n) (form_of false) most_passed before kept pieces sent kept_after
    count (Err end)
    → EndsPieces (Framing.Length n) pieces (Err end)
    → SaysBehind head kept pieces (Err (end_of_body end))
cut_body head n before kept kept_after sent pieces (BodyEnd.BadChunk m) good counted passes ends =
    absurd passes.ends.1
cut_body head n before kept kept_after sent pieces BodyEnd.Cut good counted passes ends =
    inr (inr (
      ends refl,
      short_body head n counted kept kept_after passes.taken passes.passed pieces
          good passes.bytes passes.ends.1,
    ))
cut_body head n before kept kept_after sent pieces BodyEnd.TooLong good counted passes ends =
    let long = passes.ends.0 in
    let short = good.short in
    absurd (omega (arith, long, short))
cut_body head n before kept kept_after sent pieces BodyEnd.ReadFault good counted passes ends = tt
cut_body head n before kept kept_after sent pieces BodyEnd.WriteFault good counted passes ends = tt
cut_body head n before kept kept_after sent pieces BodyEnd.SendFault good counted passes ends = tt
cut_body head n before kept kept_after sent pieces BodyEnd.RecvFault good counted passes ends =
    short_body head n counted kept kept_after passes.taken passes.passed pieces good passes.bytes
    passes.ends
cut_body head n before kept kept_after sent pieces BodyEnd.OutOfMemory good counted passes ends = tt

-- the same where it is known how the reply's body ended
pub cut_body_by : (head : ReplyHead) (n : ℕ) (before kept kept_after sent : List ℕ)
    (pieces : List (List ℕ)) (why : BodyEnd)
    → IsFeedHead head n
    → (count : ℕ) (end : Result ℕ BodyEnd) → end ≡ Err why
    → PassesOn (Framing.Length n) (form_of false) most_passed before kept pieces sent kept_after
    count end
    → EndsPieces (Framing.Length n) pieces end
    → SaysBehind head kept pieces (Err (end_of_body why))
cut_body_by head n before kept kept_after sent pieces why good count end is passes ends =
    let cut = subst (λ (e : Result ℕ BodyEnd). PassesOn (Framing.Length n) (form_of false)
    most_passed before kept pieces sent kept_after count e) is passes in
    let ended = subst (λ (e : Result ℕ BodyEnd). EndsPieces (Framing.Length n) pieces e) is ends in
    cut_body head n before kept kept_after sent pieces why good count cut ended

-- a request without a body went on whole
pub whole_request : (request kept kept_after sent : List ℕ) (pieces : List (List ℕ)) (count n : ℕ)
    → PassesOn Framing.Nothing (form_of true) most_passed request kept pieces sent kept_after count
    (Ok n)
    → sent ≡ request
whole_request request kept kept_after sent pieces count n passes =
    passes.sends ∙ (ap (λ l. request ++ l) (passes.ends.1.0.same ∙ passes.ends.1.1)
    ∙ append-nil request)

pub whole_request_by : (request kept kept_after sent : List ℕ) (pieces : List (List ℕ))
    (count n : ℕ) (end : Result ℕ BodyEnd) → end ≡ Ok n
    → PassesOn Framing.Nothing (form_of true) most_passed request kept pieces sent kept_after count
    end
    → sent ≡ request
whole_request_by request kept kept_after sent pieces count n end is passes =
    let whole = subst (λ (e : Result ℕ BodyEnd). PassesOn Framing.Nothing (form_of true)
    most_passed request kept pieces sent kept_after count e) is passes in
    whole_request request kept kept_after sent pieces count n whole

-- or a front of it did, where a send failed
pub cut_request_by : (request kept kept_after sent : List ℕ) (pieces : List (List ℕ))
    (count : ℕ) (end : Result ℕ BodyEnd) (why : BodyEnd) → end ≡ Err why → why ≡ BodyEnd.SendFault
    → PassesOn Framing.Nothing (form_of true) most_passed request kept pieces sent kept_after count
    end
    → IsFrontOf request sent
cut_request_by request kept kept_after sent pieces count end why is failed passes =
    let cut = subst (λ (e : Result ℕ BodyEnd). PassesOn Framing.Nothing (form_of true)
    most_passed request kept pieces sent kept_after count e)
    (is ∙ ap (λ (e : BodyEnd). Err e) failed) passes in
    subst (λ (l : List ℕ). IsFrontOf l sent)
    (ap (λ l. request ++ l) (cut.ends.0.same ∙ cut.ends.1) ∙ append-nil request) cut.sends

pub sent_whole : (request sent : List ℕ) (result : Result FeedValue PollEnd) → sent ≡ request
    → IsSent request sent result
sent_whole request sent (Ok feed) same = same
sent_whole request sent (Err PollEnd.Lost) same = ([], append-nil sent ∙ same)
sent_whole request sent (Err PollEnd.Strange) same = same
sent_whole request sent (Err PollEnd.OutOfMemory) same = ([], append-nil sent ∙ same)
