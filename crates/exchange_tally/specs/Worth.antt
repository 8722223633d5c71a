-- What an exchange adds to each figure.
use Rattle.std.specs.Prelude.{ℕ, ◌-◌, Bool, ◌==◌, min, if◌then◌else◌}
use Rattle.access_log.specs.declared.ending.Answer.{Answer}
use Rattle.access_log.specs.declared.ending.Answer.TheVariants.{Nothing, Own, Passed}
use Rattle.access_log.specs.Ending.{status_in}
use Rattle.metrics_text.specs.Classes.{bucket_of, class_of}
use Rattle.own_reply.specs.declared.error.OwnError.{OwnError}
use Rattle.exchange_tally.specs.declared.done.Timed.{Timed}
use Rattle.exchange_tally.specs.declared.figure.Figure.{Figure}
use Rattle.exchange_tally.specs.declared.figure.Figure.TheVariants as figure
use Rattle.exchange_tally.specs.Figures.{class_place, own_place}

abbrev pub one_if : Bool → ℕ
one_if holds = if holds then 1 else 0

-- how long it took: a clock that went back shows nothing
abbrev pub lasted : Timed → ℕ
lasted timed = timed.ended - timed.begun

-- a reply of the router's own counts to its word
abbrev pub own_worth : OwnError → Answer → ℕ
own_worth word Nothing = 0
own_worth word (Own err) = one_if (own_place word == own_place err)
own_worth word (Passed status) = 0

abbrev pub worth : Figure → Timed → ℕ
worth (figure.Requests class) timed =
    one_if (class_place class == class_place (class_of (status_in timed.done.answer)))
worth (figure.OwnReplies word) timed = own_worth word timed.done.answer
worth figure.Tries timed = timed.done.tries
worth figure.Failures timed = timed.done.failures
worth figure.RequestBytes timed = timed.done.request_bytes
worth figure.ReplyBytes timed = timed.done.reply_bytes
worth (figure.Bucket place) timed = one_if (min place 13 == bucket_of (lasted timed))
worth figure.Milliseconds timed = lasted timed
worth figure.Hits timed = timed.done.hits
worth figure.Misses timed = timed.done.misses
