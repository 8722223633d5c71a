use Rattle.std.proofs.Common.{rules, refl, ap, sym, ◌∙◌, ◌+◌, subst, Some, List}
use Rattle.std.specs.Prelude.{fold}
use Rattle.bind_cache.specs.declared.binding.Binding.{Binding}
use Rattle.bind_cache.specs.Stored.{kept_of}
use Rattle.machine.specs.Code.{settings_of}
use Rattle.machine.specs.Values.{SettingsValue}
use Rattle.snap_cell.specs.Writers.{published_by, opening_written}
use Rattle.router_log.specs.Call.{keeping}
use Rattle.router_log.specs.Operation.{Operation, kept, place_of}
use Rattle.router_log.specs.Value.{Fits}
use Rattle.router.specs.Update.{operations_of}
use Rattle.router.specs.Passes.{number_in, made_in, kept_in}
use Rattle.router.specs.Views.{call_of}
use Rattle.router.specs.Whole.{whole_of, with_update, shown_by}
use Rattle.router.proofs.Entering.{whole_settings}
use Rattle.router.proofs.Readers.{keep_found, published_called, published_kept}
use Rattle.router.proofs.desk.Desk.publish_kept.Goals as goal

pub publish_for-requires-clause-fits : goal.publish_for-requires-clause-fits
publish_for-requires-clause-fits g c =
    let w = c.args.self.now.writer in
    let whole = whole_of (opening_written w) (published_by w) in
    let S = whole_settings (opening_written w) (published_by w) ∙ c.args.self.now.settings in
    subst (λ (b : Binding).
    Fits (settings_of (fold with_update (shown_by (opening_written w)) (published_by w)).0) whole
    (kept 0 0 (kept_of b))) (sym c.in_ok-new.ensures.ok)
    (subst (λ (s : SettingsValue). Fits s whole (kept 0 0 (kept_of c.args.binding)))
    (sym S) c.requires.fits)

pub invariant_of-pass-2-clause-stands : goal.invariant_of-pass-2-clause-stands
invariant_of-pass-2-clause-stands g c =
    let e = c.in_ok-publish_for.ensures in
    let w = c.args.self.now.writer in
    let p = c.args.pass.now in
    let us = published_by w in
    let found = keep_found g.J.Naming.settings (operations_of us) (number_in p) (made_in p)
    (kept_in p) c.number.result p.kept (kept_of c.args.binding) c.requires.kept
    c.number.ensures.number p.stands.kept_is
    ∙ ap (λ (b : Binding). Some (kept c.number.result p.kept (kept_of b)))
    (sym c.in_ok-new.ensures.ok) in
    published_kept g.J.Naming.settings p.reader c.publish_for.new.reader p.made p.kept p.place
    p.stands e.same.0 c.of-2.result (keeping (kept_of c.args.binding))
    (ap call_of c.of-2.ensures ∙ ap (λ (x : Binding). keeping (kept_of x)) c.of.ensures)
    us _ e.before (e.seen ∙ e.published) e.item found (p.kept + 1) p.place refl refl
    (p.stands.place_is ∙ ap (λ (l : List Operation). place_of l) c.requires.seen)

pub returns-clause-called : goal.returns-clause-called
returns-clause-called g c =
    let e = c.in_ok-publish_for.ensures in
    let w = c.args.self.now.writer in
    let p = c.args.pass.now in
    let us = published_by w in
    let found = keep_found g.J.Naming.settings (operations_of us) (number_in p) (made_in p)
    (kept_in p) c.number.result p.kept (kept_of c.args.binding) c.requires.kept
    c.number.ensures.number p.stands.kept_is
    ∙ ap (λ (b : Binding). Some (kept c.number.result p.kept (kept_of b)))
    (sym c.in_ok-new.ensures.ok) in
    let h = published_called g.J.Naming.settings p.reader c.publish_for.new.reader p.made p.kept
    p.place p.stands e.same.0 c.of-2.result (keeping (kept_of c.args.binding))
    (ap call_of c.of-2.ensures ∙ ap (λ (x : Binding). keeping (kept_of x)) c.of.ensures)
    us _ e.before (e.seen ∙ e.published) e.item found in
    let seen = c.requires.seen in
    search (rules, h, seen)
