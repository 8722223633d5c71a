use Rattle.std.proofs.Common.{refl, ap, sym, ◌∙◌, ◌≡◌, ◌<◌, ◌-◌, ◌^◌, true, false, List, subst}
use mathlib.Core.List.{IsPrefix}
use Rattle.bind_cache.specs.declared.binding.Binding.{Binding}
use Rattle.bind_cache.specs.Stored.{kept_of}
use Rattle.snap_cell.specs.declared.kept.Origin.{Origin}
use Rattle.snap_cell.specs.Writers.{published_by, opening_written}
use Rattle.router_log.specs.Call.{keeping, is_kept}
use Rattle.router_log.specs.Operation.{Operation, kept, kept_count}
use Rattle.router_log.specs.Value.{Value, Fits}
use Rattle.router.specs.declared.answer.Remembered.TheVariants as remembered
use Rattle.router.specs.declared.current.Current.{Current}
use Rattle.router.specs.declared.update.Update.{Update}
use Rattle.router.specs.Changing.{remembered_as}
use Rattle.router.specs.Passes.{seen_in, Entered}
use Rattle.router.specs.Update.{operations_of}
use Rattle.router.specs.Whole.{whole_of}
use Rattle.router.proofs.Accepting.{remembered_is, unkept_is, unanswered}
use Rattle.router.proofs.Readers.{prefix_trans}
use Rattle.router.proofs.Remembering.{kept_answer, remembered_fits}
use Rattle.router.proofs.desk.Desk.remember.Goals as goal

pub publish_kept-requires-clause-fits : goal.publish_kept-requires-clause-fits
publish_kept-requires-clause-fits g c =
    let S = g.J.Naming.settings in
    let w = c.args.self.now.writer in
    let w' = c.objection.new.self.writer in
    let k = kept_of c.args.binding in
    let own = c.requires.own in
    let e = c.in-None.ensures in
    let ops = operations_of (published_by w) in
    let front = subst (λ (l : List Operation). IsPrefix own.0 l) c.show.ensures.seen
    (prefix_trans own.0 (seen_in c.args.pass.now) (seen_in c.show.new.pass) own.1
    c.show.ensures.more.seen) in
    let fits = remembered_fits S ops k own.0 front e.fit own.2 e.kept in
    let whole : whole_of (opening_written w') (published_by w')
    ≡ whole_of (opening_written w) (published_by w) =
    ap (λ (o : Origin Current Update). whole_of o.opening.value (published_by w'))
    c.objection.ensures.writer.cell ∙ ap (λ (us : List Update). whole_of (opening_written w) us)
    c.objection.ensures.writer.published in
    subst (λ (v : Value). Fits S v (kept 0 0 k)) (sym (whole ∙ e.whole)) fits

pub publish_kept-requires-clause-room : goal.publish_kept-requires-clause-room
publish_kept-requires-clause-room g c =
    subst (λ (us : List Update). kept_count (operations_of us) < 2 ^ 64 - 1)
    (sym c.objection.ensures.writer.published) c.in-None.ensures.room

pub returns-in_ok-publish_kept-in-None-clause-remembered :
    goal.returns-in_ok-publish_kept-in-None-clause-remembered
returns-in_ok-publish_kept-in-None-clause-remembered g c =
    let S = g.J.Naming.settings in
    let k = kept_of c.args.binding in
    let mid = c.show.new.pass in
    let is : is_kept S (seen_in mid) k ≡ true =
    ap (λ (l : List Operation). is_kept S l k) c.show.ensures.seen ∙ c.in-None.ensures.kept in
    let e = c.in_ok-publish_kept-in-None.ensures in
    remembered_is c.args.pass.now mid c.publish_kept.new.pass
    (unanswered c.args.pass.now mid c.show.ensures.more) c.show.ensures.number
    c.show.ensures.counts.0 c.show.ensures.counts.1
    (seen_in mid) refl k remembered.Kept true is (sym (kept_answer S (seen_in mid) k is)) e.called
    e.seen e.kept e.made (e.refusals ∙ c.show.ensures.more.refusals) e.seat

pub returns-in-Some-clause-remembered : goal.returns-in-Some-clause-remembered
returns-in-Some-clause-remembered g c =
    let S = g.J.Naming.settings in
    let k = kept_of c.args.binding in
    let mid = c.show.new.pass in
    let new = c.show_call.new.pass in
    let is : is_kept S (seen_in mid) k ≡ false =
    ap (λ (l : List Operation). is_kept S l k) c.show.ensures.seen ∙ c.in-Some.ensures.refused in
    let said : c.in-Some.said ≡ remembered_as S (seen_in mid) k =
    c.in-Some.ensures.said ∙ ap (λ (l : List Operation). remembered_as S l k)
    (sym c.show.ensures.seen) in
    let seen : seen_in new ≡ seen_in mid = c.show_call.ensures.seen
    ∙ (ap operations_of c.objection.ensures.writer.published ∙ sym c.show.ensures.seen) in
    unkept_is c.args.pass.now mid new (unanswered c.args.pass.now mid c.show.ensures.more)
    c.show.ensures.number c.show.ensures.counts.0 c.show.ensures.counts.1
    (seen_in mid) refl k c.in-Some.said is said
    (subst (λ (b : Binding). Entered mid new (keeping (kept_of b))) c.of.ensures
    c.show_call.ensures.entered) c.show_call.ensures.reads seen c.show.ensures.more.refusals
