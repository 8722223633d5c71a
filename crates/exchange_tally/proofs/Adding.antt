-- What one exchange does to each count.
use Rattle.std.proofs.Common.{◌≡◌, ◌≢◌, ℕ, ◌+◌, ◌<◌, ◌==◌, true, false, List, length, min, max}
use Rattle.std.proofs.Common.{arith}
use Rattle.std.proofs.Common.{refl, sym, ap, subst, ◌∙◌, ⊎_elim, slice_index_or, slice_set, lit<}
use Rattle.std.proofs.Common.{get_or-set_same, get_or-set_other, length-set, Option, Some, None}
use Rattle.std.proofs.lemmas.Bool.{cases_eq}
use Rattle.std.proofs.lemmas.Bool.Decides.{nat_tests}
use Rattle.access_log.specs.declared.ending.Answer.{Answer}
use Rattle.access_log.specs.declared.ending.Answer.TheVariants.{Nothing, Own, Passed}
use Rattle.access_log.specs.Ending.{status_in}
use Rattle.metrics_text.specs.Classes.{bucket_of, class_of}
use Rattle.own_reply.specs.declared.error.OwnError.{OwnError}
use Rattle.own_reply.specs.declared.error.OwnError.TheVariants as own
use Rattle.exchange_tally.specs.declared.done.Timed.{Timed}
use Rattle.exchange_tally.specs.declared.figure.Figure.{Figure}
use Rattle.exchange_tally.specs.declared.figure.Figure.TheVariants as figure
use Rattle.exchange_tally.specs.declared.tally.Tally.{Tally}
use Rattle.exchange_tally.specs.Figures.{class_place, own_place}
use Rattle.exchange_tally.specs.Tallies.{Adds, grown, with_answer, with_one}
use Rattle.exchange_tally.specs.Worth.{lasted, one_if, own_worth}

-- a count that nothing is added to stays as it is
grown_none : (count : ℕ) → count ≡ grown count 0
grown_none count = omega arith

-- of some counts the one that is raised is one more, and the others are as they were
reads_one : (counts : List ℕ) (at place : ℕ) → at < length counts
    → slice_index_or (with_one at counts) place 0
    ≡ grown (slice_index_or counts place 0) (one_if (place == at))
reads_one counts at place within = ⊎_elim
    (λ (e : place ≡ at).
    let test : (place == at) ≡ true = grind (arith, nat_tests) in
    rw test (subst
    (λ (k : ℕ). slice_index_or (with_one at counts) k 0 ≡ grown (slice_index_or counts k 0) 1)
    (sym e)
    (get_or-set_same counts at (grown (slice_index_or counts at 0) 1) 0 within)))
    (λ (e : place ≢ at).
    let test : (place == at) ≡ false = grind (arith, nat_tests) in
    rw test (
    get_or-set_other counts at place (grown (slice_index_or counts at 0) 1) 0 e
    ∙ grown_none (slice_index_or counts place 0)))
    (cases_eq place at)

pub own_within : (err : OwnError) → own_place err < 19
own_within own.Version = lit< tt
own_within own.BadHead = lit< tt
own_within own.HeadTooLarge = lit< tt
own_within own.Connect = lit< tt
own_within own.Target = lit< tt
own_within own.Length = lit< tt
own_within own.Coding = lit< tt
own_within own.TooLong = lit< tt
own_within own.Host = lit< tt
own_within own.Unidentified = lit< tt
own_within own.Dtab = lit< tt
own_within own.Body = lit< tt
own_within own.Negative = lit< tt
own_within own.Failing = lit< tt
own_within own.Empty = lit< tt
own_within own.TooDeep = lit< tt
own_within own.TooWide = lit< tt
own_within own.Dial = lit< tt
own_within own.Upstream = lit< tt

pub as_many : (answer : Answer) (counts : List ℕ)
    → length (with_answer answer counts) ≡ length counts
as_many Nothing counts = refl
as_many (Own err) counts = length-set counts (own_place err) _
as_many (Passed status) counts = refl

reads_answer : (answer : Answer) (counts : List ℕ) (word : OwnError) → length counts ≡ 19
    → slice_index_or (with_answer answer counts) (own_place word) 0
    ≡ grown (slice_index_or counts (own_place word) 0) (own_worth word answer)
reads_answer Nothing counts word many = grown_none (slice_index_or counts (own_place word) 0)
reads_answer (Own err) counts word many =
    reads_one counts (own_place err) (own_place word) (omega (arith, own_within err, many))
reads_answer (Passed status) counts word many =
    grown_none (slice_index_or counts (own_place word) 0)

-- each count of a tally to which an exchange was added
pub counted : (old new : Tally) (timed : Timed)
    → new.requests ≡ with_one (class_place (class_of (status_in timed.done.answer))) old.requests
    → new.own_replies ≡ with_answer timed.done.answer old.own_replies
    → new.buckets ≡ with_one (bucket_of (lasted timed)) old.buckets
    → new.tries ≡ grown old.tries timed.done.tries
    → new.failures ≡ grown old.failures timed.done.failures
    → new.request_bytes ≡ grown old.request_bytes timed.done.request_bytes
    → new.reply_bytes ≡ grown old.reply_bytes timed.done.reply_bytes
    → new.milliseconds ≡ grown old.milliseconds (lasted timed)
    → new.hits ≡ grown old.hits timed.done.hits
    → new.misses ≡ grown old.misses timed.done.misses
    → class_place (class_of (status_in timed.done.answer)) < length old.requests
    → length old.own_replies ≡ 19 → bucket_of (lasted timed) < length old.buckets
    → Adds old timed new
counted old new timed r o b t f q p m h s wr wo wb (figure.Requests class) =
    ap (λ (xs : List ℕ). slice_index_or xs (class_place class) 0) r
    ∙ reads_one old.requests (class_place (class_of (status_in timed.done.answer)))
    (class_place class) wr
counted old new timed r o b t f q p m h s wr wo wb (figure.OwnReplies word) =
    ap (λ (xs : List ℕ). slice_index_or xs (own_place word) 0) o
    ∙ reads_answer timed.done.answer old.own_replies word wo
counted old new timed r o b t f q p m h s wr wo wb figure.Tries = t
counted old new timed r o b t f q p m h s wr wo wb figure.Failures = f
counted old new timed r o b t f q p m h s wr wo wb figure.RequestBytes = q
counted old new timed r o b t f q p m h s wr wo wb figure.ReplyBytes = p
counted old new timed r o b t f q p m h s wr wo wb (figure.Bucket place) =
    ap (λ (xs : List ℕ). slice_index_or xs (min place 13) 0) b
    ∙ reads_one old.buckets (bucket_of (lasted timed)) (min place 13) wb
counted old new timed r o b t f q p m h s wr wo wb figure.Milliseconds = m
counted old new timed r o b t f q p m h s wr wo wb figure.Hits = h
counted old new timed r o b t f q p m h s wr wo wb figure.Misses = s
