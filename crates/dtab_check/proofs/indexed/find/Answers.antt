use Rattle.std.proofs.Common.{◌∙◌, refl, subst, map, List, ℕ, get_or}
use Rattle.std.specs.List.{Contains}
use Rattle.std.proofs.lemmas.Option.{same_Some}
use Rattle.dtab_table.specs.Pattern.{Pattern}
use Rattle.dtab_check.proofs.Indexing.{stands-at, prefix_at-read}
use Rattle.dtab_check.proofs.indexed.find.Goals as goal

pub bounds-entries-place : goal.bounds-entries-place
bounds-entries-place c =
    let there = stands-at c.args.entries.now c.args.index.now c.in_ok-path.path
    c.deref-cover-items.result.now c.loop-cover.cover-index
    (get_or c.deref-cover-items.result.now c.loop-cover.cover-index 0) c.requires
    (c.deref-cover-items.ensures.value ∙ c.in-Ok.ensures) c.loop-cover-test.true refl in
    there.0

pub returns-then-are_same : goal.returns-then-are_same
returns-then-are_same c = λ place is.
    let found = get_or c.deref-cover-items.result.now c.loop-cover.cover-index 0 in
    let there = stands-at c.args.entries.now c.args.index.now c.in_ok-path.path
    c.deref-cover-items.result.now c.loop-cover.cover-index found c.requires
    (c.deref-cover-items.ensures.value ∙ c.in-Ok.ensures) c.loop-cover-test.true refl in
    let same = prefix_at-read c.args.entries.now found c.index-entries-place.result there.0
    ∙ c.are_same.ensures.0 c.if-are_same.true in
    let here = subst (λ (prefix : List Pattern). Contains c.args.index.now (prefix, found)) same
    there.1 in
    subst (λ (n : ℕ). Contains c.args.index.now (c.args.prefix.now, n))
    (same_Some found place is) here
