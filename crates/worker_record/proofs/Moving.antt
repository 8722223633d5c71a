-- Which counts an exchange raises: the others are as they were published.
use Rattle.std.proofs.Common.{◌≡◌, ◌≢◌, ℕ, zero, suc, ◌+◌, ◌≤◌, ◌==◌, min, false}
use Rattle.std.proofs.Common.{List, [], ◌∷◌, ◌++◌, refl, sym, ap, ◌∙◌, subst, inl, inr, ⊎_elim}
use Rattle.std.proofs.Common.{arith}
use Rattle.std.proofs.Common.{slice_index_or}
use Rattle.std.specs.Prelude.{◌⊎◌}
use Rattle.std.proofs.lemmas.Bool.{cases_eq}
use Rattle.std.proofs.lemmas.Bool.Decides.{nat_tests}
use Rattle.access_log.specs.declared.ending.Answer.{Answer}
use Rattle.access_log.specs.declared.ending.Answer.TheVariants as answers
use Rattle.access_log.specs.Ending.{status_in}
use Rattle.exchange_tally.specs.declared.done.Timed.{Timed}
use Rattle.exchange_tally.specs.declared.figure.Figure.{Figure}
use Rattle.exchange_tally.specs.declared.figure.Figure.TheVariants as figure
use Rattle.exchange_tally.specs.declared.tally.Tally.{Tally}
use Rattle.exchange_tally.specs.Figures.{class_place, own_place, place_of}
use Rattle.exchange_tally.specs.Tallies.{Adds, count_in, grown}
use Rattle.exchange_tally.specs.Worth.{lasted, one_if, own_worth, worth}
use Rattle.metrics_text.specs.Classes.{bucket_of, class_of}
use Rattle.own_reply.specs.declared.error.OwnError.{OwnError}
use Rattle.worker_record.specs.Publishing.{AreBelow, ArePublished, ArePublishedBut, IsAmong}
use Rattle.worker_record.specs.Publishing.{moved_places, own_places, some_place}

-- ---- places among others

among_front : (place : ℕ) (ps qs : List ℕ) → IsAmong place ps → IsAmong place (ps ++ qs)
among_front place [] qs none = absurd none
among_front place (p ∷ ps) qs (inl same) = inl same
among_front place (p ∷ ps) qs (inr among) = inr (among_front place ps qs among)

among_behind : (place : ℕ) (ps qs : List ℕ) → IsAmong place qs → IsAmong place (ps ++ qs)
among_behind place [] qs among = among
among_behind place (p ∷ ps) qs among = inr (among_behind place ps qs among)

-- a count was not raised, or its place is there
raised_or_not : (by place : ℕ) → (by ≡ 0) ⊎ IsAmong place (some_place by place)
raised_or_not zero place = inl refl
raised_or_not (suc n) place = inr (inl refl)

-- ---- a count that was not raised

unmoved : (word old new by : ℕ) → word ≡ old → new ≡ grown old by → by ≡ 0 → word ≡ new
unmoved word old new by is grew none = omega (arith, is, grew, none)

no_more : (word old new by : ℕ) → word ≡ old → new ≡ grown old by → word ≤ new
no_more word old new by is grew = omega (arith, is, grew)

not_one : (a b : ℕ) → a ≢ b → one_if (a == b) ≡ 0
not_one a b other =
    let test : (a == b) ≡ false = grind (arith, nat_tests) in ap one_if test

same_bucket : (place at : ℕ) → min place 13 ≡ at → 25 + min place 13 ≡ 25 + min at 13
same_bucket place at e = omega (arith, e)

module _
    (old new : Tally) (timed : Timed) (counts : List ℕ) (adds : Adds old timed new)
    (published : ArePublished old counts)
  where
    -- so far none is more than it is to be
    pub are_below : AreBelow new counts
    are_below f =
        no_more (slice_index_or counts (place_of f) 0) (count_in old f) (count_in new f)
        (worth f timed) (published f) (adds f)

    abbrev Is : Figure → Type 0
    Is f =
        IsAmong (place_of f) (moved_places timed)
        ⊎ (slice_index_or counts (place_of f) 0 ≡ count_in new f)

    stays : (f : Figure) → worth f timed ≡ 0 → Is f
    stays f none =
        inr (unmoved (slice_index_or counts (place_of f) 0) (count_in old f) (count_in new f)
        (worth f timed) (published f) (adds f) none)

    abbrev class : ℕ
    class = class_place (class_of (status_in timed.done.answer))

    abbrev bucket : ℕ
    bucket = 25 + min (bucket_of (lasted timed)) 13

    -- those of a sum, and those behind them
    abbrev misses : List ℕ
    misses = some_place timed.done.misses 45 ++ []

    abbrev hits : List ℕ
    hits = some_place timed.done.hits 44 ++ misses

    abbrev replies : List ℕ
    replies = some_place timed.done.reply_bytes 42 ++ hits

    abbrev requests : List ℕ
    requests = some_place timed.done.request_bytes 41 ++ replies

    abbrev failures : List ℕ
    failures = some_place timed.done.failures 40 ++ requests

    abbrev tries : List ℕ
    tries = some_place timed.done.tries 39 ++ failures

    abbrev times : List ℕ
    times = some_place (lasted timed) 43 ++ tries

    behind_all : (place : ℕ) → IsAmong place times → IsAmong place (moved_places timed)
    behind_all place among =
        among_behind place (own_places timed.done.answer) (class ∷ bucket ∷ times)
        (inr (inr among))

    -- a figure that is a sum
    summed : (f : Figure) (by : ℕ) → worth f timed ≡ by
        → (IsAmong (place_of f) (some_place by (place_of f)) → IsAmong (place_of f) times) → Is f
    summed f by is put = ⊎_elim
        (λ (none : by ≡ 0). stays f (is ∙ none))
        (λ (here : IsAmong (place_of f) (some_place by (place_of f))).
        inl (behind_all (place_of f) (put here)))
        (raised_or_not by (place_of f))

    own_word : (word : OwnError) (answer : Answer) → timed.done.answer ≡ answer
        → (own_worth word timed.done.answer ≡ 0)
        ⊎ IsAmong (6 + own_place word) (own_places timed.done.answer)
    own_word word answers.Nothing is = inl (ap (own_worth word) is)
    own_word word (answers.Passed status) is = inl (ap (own_worth word) is)
    own_word word (answers.Own err) is = ⊎_elim
        (λ (e : own_place word ≡ own_place err).
        inr (subst (λ (a : Answer). IsAmong (6 + own_place word) (own_places a)) (sym is)
        (inl (ap (λ (n : ℕ). 6 + n) e))))
        (λ (e : own_place word ≢ own_place err).
        inl (ap (own_worth word) is ∙ not_one (own_place word) (own_place err) e))
        (cases_eq (own_place word) (own_place err))

    -- the counts that an exchange raised are at these places
    pub moved_of : ArePublishedBut (moved_places timed) new counts
    moved_of (figure.Requests k) = ⊎_elim
        (λ (e : class_place k ≡ class).
        inl (among_behind (class_place k) (own_places timed.done.answer) (class ∷ bucket ∷ times)
        (inl e)))
        (λ (e : class_place k ≢ class).
        stays (figure.Requests k) (not_one (class_place k) class e))
        (cases_eq (class_place k) class)
    moved_of (figure.OwnReplies word) = ⊎_elim
        (λ (none : own_worth word timed.done.answer ≡ 0). stays (figure.OwnReplies word) none)
        (λ (here : IsAmong (6 + own_place word) (own_places timed.done.answer)).
        inl (among_front (6 + own_place word) (own_places timed.done.answer)
        (class ∷ bucket ∷ times) here))
        (own_word word timed.done.answer refl)
    moved_of (figure.Bucket place) = ⊎_elim
        (λ (e : min place 13 ≡ bucket_of (lasted timed)).
        inl (among_behind (25 + min place 13) (own_places timed.done.answer)
        (class ∷ bucket ∷ times) (inr (inl (same_bucket place (bucket_of (lasted timed)) e)))))
        (λ (e : min place 13 ≢ bucket_of (lasted timed)).
        stays (figure.Bucket place) (not_one (min place 13) (bucket_of (lasted timed)) e))
        (cases_eq (min place 13) (bucket_of (lasted timed)))
    moved_of figure.Milliseconds =
        summed figure.Milliseconds (lasted timed) refl
        (λ here. among_front 43 (some_place (lasted timed) 43) tries here)
    moved_of figure.Tries =
        summed figure.Tries timed.done.tries refl
        (λ here. among_behind 39 (some_place (lasted timed) 43) tries
        (among_front 39 (some_place timed.done.tries 39) failures here))
    moved_of figure.Failures =
        summed figure.Failures timed.done.failures refl
        (λ here. among_behind 40 (some_place (lasted timed) 43) tries
        (among_behind 40 (some_place timed.done.tries 39) failures
        (among_front 40 (some_place timed.done.failures 40) requests here)))
    moved_of figure.RequestBytes =
        summed figure.RequestBytes timed.done.request_bytes refl
        (λ here. among_behind 41 (some_place (lasted timed) 43) tries
        (among_behind 41 (some_place timed.done.tries 39) failures
        (among_behind 41 (some_place timed.done.failures 40) requests
        (among_front 41 (some_place timed.done.request_bytes 41) replies here))))
    moved_of figure.ReplyBytes =
        summed figure.ReplyBytes timed.done.reply_bytes refl
        (λ here. among_behind 42 (some_place (lasted timed) 43) tries
        (among_behind 42 (some_place timed.done.tries 39) failures
        (among_behind 42 (some_place timed.done.failures 40) requests
        (among_behind 42 (some_place timed.done.request_bytes 41) replies
        (among_front 42 (some_place timed.done.reply_bytes 42) hits here)))))
    moved_of figure.Hits =
        summed figure.Hits timed.done.hits refl
        (λ here. among_behind 44 (some_place (lasted timed) 43) tries
        (among_behind 44 (some_place timed.done.tries 39) failures
        (among_behind 44 (some_place timed.done.failures 40) requests
        (among_behind 44 (some_place timed.done.request_bytes 41) replies
        (among_behind 44 (some_place timed.done.reply_bytes 42) hits
        (among_front 44 (some_place timed.done.hits 44) misses here))))))
    moved_of figure.Misses =
        summed figure.Misses timed.done.misses refl
        (λ here. among_behind 45 (some_place (lasted timed) 43) tries
        (among_behind 45 (some_place timed.done.tries 39) failures
        (among_behind 45 (some_place timed.done.failures 40) requests
        (among_behind 45 (some_place timed.done.request_bytes 41) replies
        (among_behind 45 (some_place timed.done.reply_bytes 42) hits
        (among_behind 45 (some_place timed.done.hits 44) misses
        (among_front 45 (some_place timed.done.misses 45) [] here)))))))
