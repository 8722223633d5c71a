-- What is published of a worker's counts.
use Rattle.std.specs.Prelude.{◌≡◌, ◌⊎◌, ℕ, zero, suc, ◌+◌, ◌≤◌, min, List, [], ◌∷◌, ◌++◌}
use Rattle.std.specs.Prelude.{slice_index_or}
use Rattle.access_log.specs.declared.ending.Answer.{Answer}
use Rattle.access_log.specs.declared.ending.Answer.TheVariants as answers
use Rattle.access_log.specs.Ending.{status_in}
use Rattle.exchange_tally.specs.declared.done.Timed.{Timed}
use Rattle.exchange_tally.specs.declared.figure.Figure.{Figure}
use Rattle.exchange_tally.specs.declared.tally.Tally.{Tally}
use Rattle.exchange_tally.specs.Figures.{class_place, own_place, place_of}
use Rattle.exchange_tally.specs.Tallies.{count_in}
use Rattle.exchange_tally.specs.Worth.{lasted}
use Rattle.line_log.specs.declared.journal.LineCounts.{LineCounts}
use Rattle.metrics_text.specs.Classes.{bucket_of, class_of}

-- the counts that were published, by their places, are those of a tally
abbrev pub ArePublished : Tally → List ℕ → Type 0
ArePublished tally counts =
    (f : Figure) → slice_index_or counts (place_of f) 0 ≡ count_in tally f

-- none is more than that of the tally
abbrev pub AreBelow : Tally → List ℕ → Type 0
AreBelow tally counts = (f : Figure) → slice_index_or counts (place_of f) 0 ≤ count_in tally f

abbrev pub IsAmong : ℕ → List ℕ → Type 0
IsAmong place [] = ⊥
IsAmong place (p ∷ ps) = (place ≡ p) ⊎ IsAmong place ps

-- those that are not at one of these places are the tally's
abbrev pub ArePublishedBut : List ℕ → Tally → List ℕ → Type 0
ArePublishedBut pending tally counts =
    (f : Figure)
    → IsAmong (place_of f) pending ⊎ (slice_index_or counts (place_of f) 0 ≡ count_in tally f)

-- the counts behind those of the figures stay: those of an access log's lines, and of connections
abbrev pub KeepsOthers : List ℕ → List ℕ → Type 0
KeepsOthers old new =
    (place : ℕ) → 46 ≤ place → slice_index_or new place 0 ≡ slice_index_or old place 0

-- the counts of an access log's lines that were published are these
abbrev pub AreLines : LineCounts → List ℕ → Type 0
AreLines lines counts =
    (slice_index_or counts 46 0 ≡ lines.written) × (slice_index_or counts 47 0 ≡ lines.lost)

-- ---- the places of the counts that an exchange raises

abbrev pub own_places : Answer → List ℕ
own_places answers.Nothing = []
own_places (answers.Own err) = (6 + own_place err) ∷ []
own_places (answers.Passed status) = []

-- that of a count that is raised by so much, if it is
abbrev pub some_place : ℕ → ℕ → List ℕ
some_place zero place = []
some_place (suc by) place = place ∷ []

abbrev pub moved_places : Timed → List ℕ
moved_places timed =
    own_places timed.done.answer
    ++ (class_place (class_of (status_in timed.done.answer))
    ∷ (25 + min (bucket_of (lasted timed)) 13)
    ∷ (some_place (lasted timed) 43
    ++ (some_place timed.done.tries 39
    ++ (some_place timed.done.failures 40
    ++ (some_place timed.done.request_bytes 41
    ++ (some_place timed.done.reply_bytes 42
    ++ (some_place timed.done.hits 44 ++ (some_place timed.done.misses 45 ++ []))))))))
