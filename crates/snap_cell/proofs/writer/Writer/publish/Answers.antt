use Rattle.std.proofs.Common.{◌≡◌, ◌∙◌, ap, sym, refl, [], Some, drop}
use Rattle.left_right.specs.Sides.{view}
use Rattle.snap_cell.specs.Rule.{Stands}
use Rattle.snap_cell.specs.History.{head_of}
use Rattle.snap_cell.proofs.Options.{in_some, at_ok, at_err, there}
use Rattle.snap_cell.proofs.writer.Writer.publish.Goals as goal

pub publish_entry-desk-requires-clause-ready : goal.publish_entry-desk-requires-clause-ready
publish_entry-desk-requires-clause-ready g c =
    let st = c.args.self.now.stands c.unwrap-desk.result
    (sym c.take.ensures.value ∙ c.unwrap-desk.ensures) in
    rw (st.0, st.1, c.again.ensures) (
      c.args.operation,
      c.in-Some.known,
      refl,
      c.in-Some.ensures.0,
      c.in-Some.ensures.1,
      c.requires.fits,
      c.requires.caller,
    )

pub invariant_of-self-in-Err : goal.invariant_of-self-in-Err
invariant_of-self-in-Err g c =
    let w = c.args.self.now in
    let d = c.publish_entry-desk.result.0 in
    let st = w.stands c.unwrap-desk.result (sym c.take.ensures.value ∙ c.unwrap-desk.ensures) in
    let e = at_err _ _ _ _ c.publish_entry-desk.ensures c.in-Err.is in
    record {
      of_cell = w.of_cell;
      one_list = w.one_list;
      head_is = w.head_is;
      there = there c.replace.new.self d c.replace.ensures.after;
      stands = λ x is. in_some
          (λ z. Stands w.origin w.known z.desk.shown.value (view z.desk.place)) d
          (ap (λ v. v.known) e.0 ∙ st.0, ap (λ v. v.origin) e.0 ∙ st.1, e.1 ∙ st.2) x
          (sym c.replace.ensures.after ∙ is);
      settled = λ t. absurd (cc t);
    }

pub invariant_of-self-in-Ok : goal.invariant_of-self-in-Ok
invariant_of-self-in-Ok g c =
    let w = c.args.self.now in
    let d = c.publish_entry-desk.result.0 in
    let st = w.stands c.unwrap-desk.result (sym c.take.ensures.value ∙ c.unwrap-desk.ensures) in
    let e = at_ok _ _ _ _ c.publish_entry-desk.ensures c.in-Ok.is in
    let known = c.in-Some.known in
    record {
      of_cell = w.of_cell;
      one_list = c.in-Some.ensures.1 ∙ w.one_list;
      head_is = w.head_is ∙ ap head_of (sym c.in-Some.ensures.1);
      there = there c.replace.new.self d c.replace.ensures.after;
      stands = λ x is. in_some (λ z. Stands w.origin known z.desk.shown.value (view z.desk.place)) d
          (e.0.0 ∙ c.again.ensures, e.0.1 ∙ st.1, e.0.2 ∙ ap Some st.1) x
          (sym c.replace.ensures.after ∙ is);
      settled = λ t x is. in_some (λ z. drop z.behind z.log.items ≡ []) d e.1 x
          (sym c.replace.ensures.after ∙ is);
    }
