use Rattle.std.proofs.Common.{◌∙◌, sym}
use Rattle.dtab_table.proofs.Matches.{entry_matches, entry_passed, no_entry_matches}
use Rattle.dtab_table.proofs.matching.some_entry_matches.Goals as goal

pub returns-then-matches : goal.returns-then-matches
returns-then-matches c =
    entry_matches c.args.entries.now c.args.path.now c.loop-entry.entry-index c.entry-item.result
    c.loop-entry.invariant c.loop-entry-test.true c.entry-item.is
    (sym c.matches.ensures ∙ c.if-matches.true)

pub loop-entry-preserved : goal.loop-entry-preserved
loop-entry-preserved c =
    entry_passed c.args.entries.now c.args.path.now c.loop-entry.entry-index c.entry-item.result
    c.loop-entry.invariant c.loop-entry-test.true c.entry-item.is
    (sym c.matches.ensures ∙ c.if-matches.false)

pub returns : goal.returns
returns c = no_entry_matches c.args.entries.now c.args.path.now c.loop-entry.entry-index
    c.loop-entry.invariant c.loop-entry-test.false
