use Rattle.std.proofs.Common.{◌≡◌, Some, refl, sym, ◌∙◌, subst}
use Rattle.machine.specs.declared.change.Change.{Change}
use Rattle.machine.specs.Code.{change_of, reply_value}
use Rattle.machine.specs.State.{refusal}
use Rattle.router_log.specs.Call.{changing}
use Rattle.router_log.specs.Value.{value_of}
use Rattle.router.specs.Passes.{seen_in, Entered}
use Rattle.router.proofs.Accepting.{success_refused, refused_so, answered_so, refused_is}
use Rattle.router.proofs.router.Router.report.Goals as goal

pub returns-clause-changed : goal.returns-clause-changed
returns-clause-changed g c =
    let S = g.J.Naming.settings in
    let change = change_of c.args.change.now in
    let mid = c.glance.new.self in
    let new = c.note.new.self in
    let state = (value_of S (seen_in mid)).state in
    let said = reply_value c.in_ok-reply.reply in
    let refused : refusal state change ≡ Some said =
    success_refused state change c.in_ok-addr.addr said
    (sym c.success_of.ensures ∙ c.in_ok-addr.was) c.in_ok-reply.ensures.reply in
    refused_is c.args.pass.now mid new c.glance.ensures.saw c.glance.ensures.number
    c.glance.ensures.counts.0 c.glance.ensures.counts.1
    (seen_in mid) refl change c.in_ok-reply.reply (refused_so state change said refused)
    (answered_so S state change said refused)
    (subst (λ (x : Change). Entered mid new (changing (change_of x))) c.of.ensures
    c.note.ensures.entered) c.note.ensures.reads c.note.ensures.seen
