use Rattle.std.proofs.Common.{rules, refl, ap, sym, ◌∙◌, ◌+◌, subst}
use Rattle.machine.specs.declared.change.Change.{Change}
use Rattle.machine.specs.Code.{change_of, ready_of}
use Rattle.router.specs.Passes.{number_in, made_in, kept_in}
use Rattle.router.specs.Views.{call_of}
use Rattle.machine.specs.Ready.{IsReadyFor}
use Rattle.machine.specs.State.{is_accepted}
use Rattle.machine.specs.Values.{SettingsValue}
use Rattle.snap_cell.specs.Writers.{published_by, opening_written}
use Rattle.router_log.specs.Call.{changing}
use Rattle.router_log.specs.Value.{Value}
use Rattle.router.specs.Update.{operations_of}
use Rattle.router.specs.Whole.{whole_of}
use Rattle.router.proofs.Entering.{whole_settings}
use Rattle.router.proofs.Readers.{change_found, published_called, published_change}
use Rattle.router.proofs.desk.Desk.publish_change.Goals as goal

pub publish_for-requires-clause-fits : goal.publish_for-requires-clause-fits
publish_for-requires-clause-fits g c =
    let w = c.args.self.now.writer in
    subst (λ (S : SettingsValue). IsReadyFor S
    (whole_of (opening_written w) (published_by w)).state (change_of c.args.change)
    (ready_of c.args.ready))
    (sym (whole_settings (opening_written w) (published_by w) ∙ c.args.self.now.settings))
    c.requires.ready

pub invariant_of-pass-2-clause-stands : goal.invariant_of-pass-2-clause-stands
invariant_of-pass-2-clause-stands g c =
    let e = c.in_ok-publish_for.ensures in
    let w = c.args.self.now.writer in
    let p = c.args.pass.now in
    let us = published_by w in
    let accepted = ap (λ (v : Value). is_accepted v.state (change_of c.args.change))
    (sym c.requires.whole) ∙ c.requires.ready.accepted in
    let found = change_found g.J.Naming.settings (operations_of us) (number_in p) (made_in p)
    (kept_in p) c.number.result p.made (change_of c.args.change) accepted c.number.ensures.number
    p.stands.made_is in
    published_change g.J.Naming.settings p.reader c.publish_for.new.reader p.made p.kept p.place
    p.stands e.same.0 c.of-2.result (changing (change_of c.args.change))
    (ap call_of c.of-2.ensures ∙ ap (λ (x : Change). changing (change_of x)) c.of.ensures)
    us _ e.before (e.seen ∙ e.published) e.item found (p.made + 1)
    (c.args.self.now.place + 1) refl refl (ap (λ n. n + 1) c.args.self.now.place_is)

pub returns-clause-called : goal.returns-clause-called
returns-clause-called g c =
    let e = c.in_ok-publish_for.ensures in
    let w = c.args.self.now.writer in
    let p = c.args.pass.now in
    let us = published_by w in
    let accepted = ap (λ (v : Value). is_accepted v.state (change_of c.args.change))
    (sym c.requires.whole) ∙ c.requires.ready.accepted in
    let found = change_found g.J.Naming.settings (operations_of us) (number_in p) (made_in p)
    (kept_in p) c.number.result p.made (change_of c.args.change) accepted c.number.ensures.number
    p.stands.made_is in
    let h = published_called g.J.Naming.settings p.reader c.publish_for.new.reader p.made p.kept
    p.place p.stands e.same.0 c.of-2.result (changing (change_of c.args.change))
    (ap call_of c.of-2.ensures ∙ ap (λ (x : Change). changing (change_of x)) c.of.ensures)
    us _ e.before (e.seen ∙ e.published) e.item found in
    let seen = c.requires.seen in
    search (rules, h, seen)
