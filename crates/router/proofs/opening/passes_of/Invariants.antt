use Rattle.std.proofs.Common.{◌≡◌, ◌+◌, ◌≤◌, ◌++◌, length, map, Some}
use Rattle.load_words.specs.Seats.{words_of_seat, IsUnused}
use Rattle.std.specs.Prelude.{All, vec_len, vec_capacity}
use Rattle.std.specs.Vec.Iter.{into_iter_items, into_iter_len}
use Rattle.router.specs.Opening.{IsReady}
use Rattle.router.proofs.opening.passes_of.Given as goal

abbrev pub invariant-loop-reader : goal.invariant-loop-reader
invariant-loop-reader g l =
    (l.yielded ++ into_iter_items l.reader-iterator ≡ into_iter_items l.initial.reader-iterator)
    × All (IsReady g.J.Naming.cell g.J.Naming.settings) (into_iter_items l.reader-iterator)
    × (map (λ p. p.reader) l.passes.items ≡ l.yielded)
    × All (λ p. IsUnused p.seat) l.passes.items
    × (vec_len l.passes ≡ length l.yielded)
    × (length l.yielded + into_iter_len l.reader-iterator ≤ vec_capacity l.passes)
    × (into_iter_len l.reader-iterator ≡ length (into_iter_items l.reader-iterator))
    × (l.all.parts ≡ into_iter_len l.reader-iterator)
    × (l.all.amount ≡ 0)
    × (vec_len l.places ≡ into_iter_len l.reader-iterator)
    × All (λ s. Some (words_of_seat s) ≡ g.J.Naming.words) l.places.items
    × All IsUnused l.places.items
