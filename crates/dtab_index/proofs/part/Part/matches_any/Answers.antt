use Rattle.std.proofs.Common.{◌≡◌, ◌<◌, ◌≤◌, ℕ, List, Option, false, sym, ap, ◌∙◌}
use Rattle.std.specs.List.{list_any}
use Rattle.dtab_index.specs.Bits.{has}
use Rattle.dtab_index.specs.Columns.{passes}
use Rattle.dtab_index.specs.Listed.{listed}
use Rattle.dtab_index.specs.Part.{placed_in, positions_at, is_between}
use Rattle.dtab_index.specs.declared.column.Column.{Column}
use Rattle.dtab_index.specs.declared.part.Entry.{Entry}
use Rattle.dtab_index.proofs.Filing.{kept_found, kept_none_found, some_found}
use Rattle.dtab_index.proofs.part.Part.matches_any.Goals as goal

pub returns : goal.returns
returns c =
    let words = c.in-Some.left.words in
    let left : (place : ℕ) → c.first_place-first.result ≤ place → place < 1024
    → has words place ≡ passes c.args.self.now.columns.items c.args.path.now place =
    λ place past few. c.in-Some.ensures place past few
    ∙ ap (λ (cs : List Column). passes cs c.args.path.now place) c.as_slice.ensures.value in
    c.some_in_words.ensures
    ∙ (ap (λ (es : List (Option Entry)). list_any (is_between c.args.from c.args.to)
    (listed (has words) (positions_at es) 1024 0)) c.as_slice-2.ensures.value
    ∙ (ap (list_any (is_between c.args.from c.args.to))
    (kept_found c.args.self.now.entries.items c.args.self.now.columns.items
    c.first_place-first.result words c.args.path.now c.requires c.first_place-first.ensures.lowest
    left)
    ∙ sym (some_found c.args.from c.args.to (placed_in c.args.self.now.entries.items)
    c.args.path.now)))

pub returns-in_default : goal.returns-in_default
returns-in_default c =
    let none : (place : ℕ) → c.first_place-first.result ≤ place → place < 1024
    → passes c.args.self.now.columns.items c.args.path.now place ≡ false =
    λ place past few. ap (λ (cs : List Column). passes cs c.args.path.now place)
    (sym c.as_slice.ensures.value) ∙ c.in_default.ensures place past few in
    sym
    (some_found c.args.from c.args.to (placed_in c.args.self.now.entries.items) c.args.path.now
    ∙ ap (list_any (is_between c.args.from c.args.to))
    (kept_none_found c.args.self.now.entries.items c.args.self.now.columns.items
    c.first_place-first.result c.args.path.now c.requires c.first_place-first.ensures.lowest none))
