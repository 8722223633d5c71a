-- What contracts say of the words, of a writer and of a reader.
use Rattle.std.specs.Prelude.{◌≡◌, ◌≤◌, ◌<◌, ℕ, ◌+◌, ◌*◌, List, length, slice_index_or}
use Rattle.atomic_table.specs.Seated.{TableId}
use Rattle.count_words.specs.declared.words.CountReader.{CountReader}
use Rattle.count_words.specs.declared.words.CountWriter.{CountWriter}
use Rattle.count_words.specs.declared.words.Counts.{Counts}
use Rattle.count_words.specs.Owning.{places}

-- which words are meant: those of one start
abbrev pub WordsId : Type 0
WordsId = TableId

-- which words they are
abbrev pub words_of : Counts → WordsId
words_of counts = counts.table.shared.table_id

-- how many words there are
abbrev pub size_of : Counts → ℕ
size_of counts = counts.table.shared.key

-- the counts that a writer has published, by their places
abbrev pub counts_of : CountWriter → List ℕ
counts_of writer = writer.seat.me.0.counts

-- the first of a writer's words
abbrev pub first_of : CountWriter → ℕ
first_of writer = writer.seat.me.0.first

-- a writer was made with the words
abbrev pub Writes : Counts → CountWriter → Type 0
Writes counts writer = writer.seat.table_id ≡ words_of counts

-- and its words are among them
abbrev pub IsWriterOf : Counts → CountWriter → Type 0
IsWriterOf counts writer = Writes counts writer × (first_of writer + places ≤ size_of counts)

-- writers by their numbers: each has the words after those of the one before it
abbrev pub AreNumbered : List CountWriter → Type 0
AreNumbered writers =
    (at : ℕ) (d : CountWriter) → at < length writers
    → first_of (slice_index_or writers at d) ≡ places * at

-- a writer has published nothing: each of its counts is 0
abbrev pub HasCountedNone : CountWriter → Type 0
HasCountedNone writer = (place : ℕ) → slice_index_or (counts_of writer) place 0 ≡ 0

-- the words that a reader read, in order, with the numbers found
abbrev pub reads_of : CountReader → List (ℕ × ℕ)
reads_of reader = reader.seat.me.0.reads

-- a reader was made with the words
abbrev pub Reads : Counts → CountReader → Type 0
Reads counts reader = reader.seat.table_id ≡ words_of counts
