-- Which addresses of a list may be chosen at a moment.
use Rattle.std.specs.Prelude.{ℕ, Bool, not, List, [], ◌∷◌, filter}
use Rattle.addr_book.specs.declared.addr.Weighted.{Weighted}
use Rattle.choose_core.specs.declared.mark.Limits.{Limits}
use Rattle.choose_core.specs.Mark.{is_dead_mark}
use Rattle.choose_core.specs.Marks.{MarkMap, mark_at}

abbrev pub is_alive : MarkMap → ℕ → Limits → Weighted → Bool
is_alive marks moment limits item = not (is_dead_mark (mark_at marks item.addr) moment limits)

-- all of a list where nothing of it is left
abbrev pub some_or_all : List Weighted → List Weighted → List Weighted
some_or_all [] all = all
some_or_all (item ∷ some) all = item ∷ some

-- the addresses that are alive, in the list's order, or all of them if none is
abbrev pub live_of : MarkMap → ℕ → Limits → List Weighted → List Weighted
live_of marks moment limits list = some_or_all (filter (is_alive marks moment limits) list) list
