-- The words in which workers publish are those of their writers.
use Rattle.std.proofs.Common.{◌≡◌, ◌<◌, ℕ, zero, suc, List, [], ◌∷◌, ◌++◌, append_assoc, append-nil}
use Rattle.std.proofs.Common.{map, length, ap, sym, refl, ◌∙◌, arith}
use Rattle.std.specs.Prelude.{slice_index_or}
use Rattle.std.proofs.lemmas.List.{map-append}
use Rattle.count_words.specs.declared.words.CountWriter.{CountWriter}
use Rattle.count_words.specs.Seats.{AreNumbered, first_of}
use Rattle.worker_record.specs.Recording.{RecordValue}
use Rattle.linker_commands.specs.Recorded.{AreSeated}

abbrev firsts : List RecordValue → List ℕ
firsts workers = map (λ (r : RecordValue). r.first) workers

-- one of the writers that are left went to a worker
pub one_seated : (writers : List CountWriter) (old new : List RecordValue) (made : RecordValue)
    (writer : CountWriter) (rest before : List CountWriter) → new ≡ old ++ made ∷ []
    → made.first ≡ first_of writer → before ≡ writer ∷ rest
    → firsts old ++ map first_of before ≡ map first_of writers
    → firsts new ++ map first_of rest ≡ map first_of writers
one_seated writers old new made writer rest before grown same cut all =
    ap (λ (rs : List RecordValue). firsts rs ++ map first_of rest) grown
    ∙ (ap (λ (ns : List ℕ). ns ++ map first_of rest)
    (map-append (λ (r : RecordValue). r.first) old (made ∷ []))
    ∙ (append_assoc (firsts old) (made.first ∷ []) (map first_of rest)
    ∙ (ap (λ (n : ℕ). firsts old ++ n ∷ map first_of rest) same
    ∙ (ap (λ (ws : List CountWriter). firsts old ++ map first_of ws) (sym cut) ∙ all))))

-- none is left
pub all_seated : (writers : List CountWriter) (made : List RecordValue) (left : List CountWriter)
    → length left ≡ 0 → firsts made ++ map first_of left ≡ map first_of writers
    → firsts made ≡ map first_of writers
all_seated writers made [] none all = sym (append-nil (firsts made)) ∙ all
all_seated writers made (w ∷ left) none all = absurd (omega (arith, none))

-- so each worker has the words of its writer
same_first : (workers : List RecordValue) (writers : List CountWriter)
    → firsts workers ≡ map first_of writers → (at : ℕ) (d : RecordValue) (e : CountWriter)
    → at < length workers
    → (slice_index_or workers at d).first ≡ first_of (slice_index_or writers at e)
same_first [] writers same at d e within = absurd (omega (arith, within))
same_first (r ∷ rs) [] same at d e within = absurd (cc same)
same_first (r ∷ rs) (w ∷ ws) same zero d e within = cc same
same_first (r ∷ rs) (w ∷ ws) same (suc at) d e within =
    same_first rs ws (cc same) at d e (omega (arith, within))

same_count : (workers : List RecordValue) (writers : List CountWriter)
    → firsts workers ≡ map first_of writers → length workers ≡ length writers
same_count [] [] same = refl
same_count [] (w ∷ ws) same = absurd (cc same)
same_count (r ∷ rs) [] same = absurd (cc same)
same_count (r ∷ rs) (w ∷ ws) same = ap suc (same_count rs ws (cc same))

pub are_seated : (workers : List RecordValue) (writers : List CountWriter)
    → firsts workers ≡ map first_of writers → AreNumbered writers → AreSeated workers
are_seated workers [] same numbered at d within =
    let count = same_count workers [] same in absurd (omega (arith, count, within))
are_seated workers (w ∷ ws) same numbered at d within =
    let count = same_count workers (w ∷ ws) same in
    same_first workers (w ∷ ws) same at d w within
    ∙ numbered at w (omega (arith, count, within))
