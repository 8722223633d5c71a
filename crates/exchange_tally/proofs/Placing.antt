-- A place tells which number stands there.
use Rattle.std.proofs.Common.{◌≡◌, ℕ, ◌+◌, ◌-◌, ◌==◌, nat_lt, min, true, false, refl, sym, ap, ◌∙◌}
use Rattle.std.proofs.Common.{arith, slice_index_or}
use Rattle.std.specs.Prelude.{if◌then◌else◌}
use Rattle.std.proofs.lemmas.Bool.Decides.{nat_tests}
use Rattle.metrics_text.specs.declared.class.Class.{Class}
use Rattle.metrics_text.specs.declared.class.Class.TheVariants.{Success, Redirection, ClientError}
use Rattle.metrics_text.specs.declared.class.Class.TheVariants.{ServerError, Other, NoReply}
use Rattle.own_reply.specs.declared.error.OwnError.{OwnError}
use Rattle.own_reply.specs.declared.error.OwnError.TheVariants as own
use Rattle.exchange_tally.specs.declared.figure.Figure.{Figure}
use Rattle.exchange_tally.specs.declared.figure.Figure.TheVariants as figure
use Rattle.exchange_tally.specs.declared.tally.Tally.{Tally}
use Rattle.exchange_tally.specs.Figures.{class_place, own_place, place_of}
use Rattle.exchange_tally.specs.Laws.{PlacesTellFigures}
use Rattle.exchange_tally.specs.Tallies.{count_in}

-- the number at a place behind the buckets
abbrev last_at : Tally → ℕ → ℕ
last_at t place =
    if place == 39 then t.tries
    else (if place == 40 then t.failures
    else (if place == 41 then t.request_bytes
    else (if place == 42 then t.reply_bytes
    else (if place == 43 then t.milliseconds
    else (if place == 44 then t.hits else t.misses)))))

-- the number at a place
abbrev count_at : Tally → ℕ → ℕ
count_at t place =
    if nat_lt place 6 then slice_index_or t.requests place 0
    else (if nat_lt place 25 then slice_index_or t.own_replies (place - 6) 0
    else (if nat_lt place 39 then slice_index_or t.buckets (place - 25) 0 else last_at t place))

of_class : (t : Tally) (class : Class)
    → count_at t (class_place class) ≡ slice_index_or t.requests (class_place class) 0
of_class t Success = refl
of_class t Redirection = refl
of_class t ClientError = refl
of_class t ServerError = refl
of_class t Other = refl
of_class t NoReply = refl

of_word : (t : Tally) (word : OwnError)
    → count_at t (6 + own_place word) ≡ slice_index_or t.own_replies (own_place word) 0
of_word t own.Version = refl
of_word t own.BadHead = refl
of_word t own.HeadTooLarge = refl
of_word t own.Connect = refl
of_word t own.Target = refl
of_word t own.Length = refl
of_word t own.Coding = refl
of_word t own.TooLong = refl
of_word t own.Host = refl
of_word t own.Unidentified = refl
of_word t own.Dtab = refl
of_word t own.Body = refl
of_word t own.Negative = refl
of_word t own.Failing = refl
of_word t own.Empty = refl
of_word t own.TooDeep = refl
of_word t own.TooWide = refl
of_word t own.Dial = refl
of_word t own.Upstream = refl

of_bucket : (t : Tally) (at : ℕ)
    → count_at t (25 + min at 13) ≡ slice_index_or t.buckets (min at 13) 0
of_bucket t at =
    let not_class : nat_lt (25 + min at 13) 6 ≡ false = grind (arith, nat_tests) in
    let not_word : nat_lt (25 + min at 13) 25 ≡ false = grind (arith, nat_tests) in
    let is : nat_lt (25 + min at 13) 39 ≡ true = grind (arith, nat_tests) in
    let place : 25 + min at 13 - 25 ≡ min at 13 = omega arith in
    rw (not_class, not_word, is) (ap (λ (n : ℕ). slice_index_or t.buckets n 0) place)

counted_at : (t : Tally) (f : Figure) → count_at t (place_of f) ≡ count_in t f
counted_at t (figure.Requests class) = of_class t class
counted_at t (figure.OwnReplies word) = of_word t word
counted_at t (figure.Bucket place) = of_bucket t place
counted_at t figure.Tries = refl
counted_at t figure.Failures = refl
counted_at t figure.RequestBytes = refl
counted_at t figure.ReplyBytes = refl
counted_at t figure.Milliseconds = refl
counted_at t figure.Hits = refl
counted_at t figure.Misses = refl

pub places_tell_figures : PlacesTellFigures
places_tell_figures f g same t =
    sym (counted_at t f) ∙ (ap (λ (n : ℕ). count_at t n) same ∙ counted_at t g)
