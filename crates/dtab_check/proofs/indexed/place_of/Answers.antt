use Rattle.std.proofs.Common.{◌∙◌, List, sym, subst}
use Rattle.std.specs.List.{Contains}
use Rattle.dtab_index.specs.Prefix.{patterns_of as indexed}
use Rattle.dtab_table.specs.Pattern.{Pattern}
use Rattle.dtab_check.proofs.Indexing.{prefix_at-read, below-more, added-below, added-of}
use Rattle.dtab_check.proofs.Indexing.{added-noted}
use Rattle.dtab_check.proofs.indexed.place_of.Goals as goal

pub returns-in-Some-clause-below : goal.returns-in-Some-clause-below
returns-in-Some-clause-below c = below-more c.args.at c.args.index.now c.requires.below

pub returns-in-Some-clause-noted : goal.returns-in-Some-clause-noted
returns-in-Some-clause-noted c =
    subst (λ (prefix : List Pattern). Contains c.args.index.now (prefix, c.in-Some.place))
    (sym (prefix_at-read c.args.entries.now c.args.at c.index-entries-at.result c.requires.within))
    (c.in_ok-place.ensures c.in-Some.place c.in-Some.is)

pub returns-clause-entries : goal.returns-clause-entries
returns-clause-entries c =
    let read = prefix_at-read c.args.entries.now c.args.at c.index-entries-at.result
    c.requires.within in
    added-of c.args.entries.now c.args.at c.args.index.now c.add.new.self
    (indexed c.in_ok-patterns_of.field-0.items) c.requires.within
    (c.in_ok-patterns_of.ensures ∙ sym read) c.in_ok-add.ensures.ok c.requires.entries

pub returns-clause-below : goal.returns-clause-below
returns-clause-below c =
    let read = prefix_at-read c.args.entries.now c.args.at c.index-entries-at.result
    c.requires.within in
    added-below c.args.entries.now c.args.at c.args.index.now c.add.new.self
    (indexed c.in_ok-patterns_of.field-0.items) c.requires.within
    (c.in_ok-patterns_of.ensures ∙ sym read) c.in_ok-add.ensures.ok c.requires.below

pub returns-clause-noted : goal.returns-clause-noted
returns-clause-noted c =
    let read = prefix_at-read c.args.entries.now c.args.at c.index-entries-at.result
    c.requires.within in
    added-noted c.args.entries.now c.args.at c.args.index.now c.add.new.self
    (indexed c.in_ok-patterns_of.field-0.items) c.requires.within
    (c.in_ok-patterns_of.ensures ∙ sym read) c.in_ok-add.ensures.ok
