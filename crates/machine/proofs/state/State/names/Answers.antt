use Rattle.std.proofs.Common.{◌≡◌, Some, ap, ◌∙◌, rules}
use Rattle.std.specs.FinMap as fin
use Rattle.machine.specs.Code.{state_of}
use Rattle.machine.proofs.Listing.{one_more, all_listed}
use Rattle.machine.proofs.state.State.names.Goals as goal

pub loop-at-preserved : goal.loop-at-preserved
loop-at-preserved c =
    let same : c.name.result.now ≡ c.in_ok-clone.field-0 =
    search (rules, c.in_ok-clone.ensures.cases) in
    c.in_ok-push.ensures.items
    ∙ one_more c.loop-at.names.items (fin.keys (state_of c.args.self.now).store.spaces)
    c.loop-at.at c.in_ok-clone.field-0 c.loop-at.invariant (c.name.ensures ∙ ap Some same)

pub returns : goal.returns
returns c =
    c.of.ensures
    ∙ all_listed (state_of c.args.self.now).store.spaces c.loop-at.names.items c.count-count.result
    c.loop-at.at c.count-count.ensures.count c.loop-at-test.false c.loop-at.invariant
