use Rattle.std.proofs.Common.{refl, ap, sym, ◌∙◌, ◌≡◌, true, List}
use Rattle.std.specs.Prelude.{is_some}
use Rattle.machine.specs.Code.{change_of}
use Rattle.machine.specs.State.{reply_of}
use Rattle.machine.specs.Values.{SettingsValue}
use Rattle.snap_cell.specs.Writers.{published_by, opening_written}
use Rattle.router_log.specs.Operation.{Operation}
use Rattle.router_log.specs.Value.{Value, value_of}
use Rattle.router.specs.Passes.{seen_in}
use Rattle.router.specs.Update.{operations_of}
use Rattle.router.specs.Whole.{whole_of}
use Rattle.router.proofs.Accepting.{accepted_is, changed_is, unanswered}
use Rattle.router.proofs.desk.Desk.change.Goals as goal

pub returns-in_ok-publish_change-in-Some-clause-changed :
    goal.returns-in_ok-publish_change-in-Some-clause-changed
returns-in_ok-publish_change-in-Some-clause-changed g c =
    let S = g.J.Naming.settings in
    let w = c.args.self.now.writer in
    let change = change_of c.args.change in
    let whole = whole_of (opening_written w) (published_by w) in
    let mid = c.show.new.pass in
    let seen = c.show.ensures.seen ∙ ap operations_of c.prepare_in.ensures.same.published in
    let value : whole ≡ value_of S (seen_in mid) =
    c.in_ok-reply.ensures.whole
    ∙ (ap (λ (s : SettingsValue). value_of s (operations_of (published_by w)))
    c.args.self.now.settings ∙ ap (λ (l : List Operation). value_of S l) (sym seen)) in
    let accepted = accepted_is c.in_ok-reply.ready true whole
    (value_of S (seen_in mid)) change c.in_ok-reply.ensures.accepted value
    (ap is_some c.in-Some.is) in
    let reply = c.in_ok-reply.ensures.reply
    ∙ (ap (λ (s : SettingsValue). reply_of s whole.state change) c.args.self.now.settings
    ∙ ap (λ (v : Value). reply_of S v.state change) value) in
    let e = c.in_ok-publish_change-in-Some.ensures in
    changed_is c.args.pass.now mid c.publish_change.new.pass
    (unanswered c.args.pass.now mid c.show.ensures.more) c.show.ensures.number
    c.show.ensures.counts.0 c.show.ensures.counts.1
    (seen_in mid) refl change c.in_ok-reply.reply true accepted reply e.called e.seen e.made e.kept
    e.refusals e.seat
