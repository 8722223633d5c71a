use Rattle.std.proofs.Common.{◌≡◌, ◌<◌, ◌≤◌, ◌++◌, ℕ, List, Option, sym, ap, ◌∙◌, append-nil, false}
use Rattle.dtab_index.specs.Bits.{has}
use Rattle.dtab_index.specs.Columns.{passes}
use Rattle.dtab_index.specs.Listed.{listed}
use Rattle.dtab_index.specs.Part.{positions_at}
use Rattle.dtab_index.specs.declared.column.Column.{Column}
use Rattle.dtab_index.specs.declared.part.Entry.{Entry}
use Rattle.dtab_index.proofs.Filing.{kept_found, kept_none_found}
use Rattle.dtab_index.proofs.part.Part.put_matching.Goals as goal

pub returns : goal.returns
returns c =
    let words = c.in-Some.left.words in
    let left : (place : ℕ) → c.first_place-first.result ≤ place → place < 1024
    → has words place ≡ passes c.args.self.now.columns.items c.args.path.now place =
    λ place past few. c.in-Some.ensures place past few
    ∙ ap (λ (cs : List Column). passes cs c.args.path.now place) c.as_slice.ensures.value in
    c.in_ok-put_words.ensures
    ∙ ap (λ (xs : List ℕ). c.args.found.now.items ++ xs)
    (ap (λ (es : List (Option Entry)). listed (has words) (positions_at es) 1024 0)
    c.as_slice-2.ensures.value
    ∙ kept_found c.args.self.now.entries.items c.args.self.now.columns.items
    c.first_place-first.result words c.args.path.now c.requires c.first_place-first.ensures.lowest
    left)

pub returns-in_default : goal.returns-in_default
returns-in_default c =
    let none : (place : ℕ) → c.first_place-first.result ≤ place → place < 1024
    → passes c.args.self.now.columns.items c.args.path.now place ≡ false =
    λ place past few. ap (λ (cs : List Column). passes cs c.args.path.now place)
    (sym c.as_slice.ensures.value) ∙ c.in_default.ensures place past few in
    sym
    (ap (λ (xs : List ℕ). c.args.found.now.items ++ xs)
    (kept_none_found c.args.self.now.entries.items c.args.self.now.columns.items
    c.first_place-first.result c.args.path.now c.requires c.first_place-first.ensures.lowest none)
    ∙ append-nil c.args.found.now.items)
