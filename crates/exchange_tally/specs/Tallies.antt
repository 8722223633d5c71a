-- The counts of a tally, and how they grow.
use Rattle.std.specs.Prelude.{◌≡◌, ℕ, ◌+◌, ◌-◌, ◌^◌, min, max, List, [], ◌∷◌, slice_index_or}
use Rattle.std.specs.Prelude.{slice_set}
use Rattle.access_log.specs.declared.ending.Answer.{Answer}
use Rattle.access_log.specs.declared.ending.Answer.TheVariants.{Nothing, Own, Passed}
use Rattle.exchange_tally.specs.declared.done.Timed.{Timed}
use Rattle.exchange_tally.specs.declared.figure.Figure.{Figure}
use Rattle.exchange_tally.specs.declared.figure.Figure.TheVariants as figure
use Rattle.exchange_tally.specs.declared.tally.Tally.{Tally}
use Rattle.exchange_tally.specs.Figures.{class_place, own_place}
use Rattle.exchange_tally.specs.Worth.{worth}

-- the number of a figure
abbrev pub count_in : Tally → Figure → ℕ
count_in t (figure.Requests class) = slice_index_or t.requests (class_place class) 0
count_in t (figure.OwnReplies word) = slice_index_or t.own_replies (own_place word) 0
count_in t figure.Tries = t.tries
count_in t figure.Failures = t.failures
count_in t figure.RequestBytes = t.request_bytes
count_in t figure.ReplyBytes = t.reply_bytes
count_in t (figure.Bucket place) = slice_index_or t.buckets (min place 13) 0
count_in t figure.Milliseconds = t.milliseconds
count_in t figure.Hits = t.hits
count_in t figure.Misses = t.misses

-- a count that is raised by so much: it never falls, and stands still at the last value of a `u64`
abbrev pub grown : ℕ → ℕ → ℕ
grown count by = max count (min (count + by) (2 ^ 64 - 1))

-- one of some counts is one more
abbrev pub with_one : ℕ → List ℕ → List ℕ
with_one place counts = slice_set counts place (grown (slice_index_or counts place 0) 1)

-- that of a reply's word, where the reply is the router's own
abbrev pub with_answer : Answer → List ℕ → List ℕ
with_answer Nothing counts = counts
with_answer (Own err) counts = with_one (own_place err) counts
with_answer (Passed status) counts = counts

-- a tally to which an exchange was added
abbrev pub Adds : Tally → Timed → Tally → Type 0
Adds old timed new = (f : Figure) → count_in new f ≡ grown (count_in old f) (worth f timed)

-- and to which these were, one after another
abbrev pub AddsAll : Tally → List Timed → Tally → Type 0
AddsAll old [] new = (f : Figure) → count_in new f ≡ count_in old f
AddsAll old (timed ∷ more) new = (mid : Tally) × Adds old timed mid × AddsAll mid more new
