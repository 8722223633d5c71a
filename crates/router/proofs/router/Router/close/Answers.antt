use Rattle.std.proofs.Common.{◌≡◌, ◌≤◌, ◌<◌, length, arith, ap, sym, ◌∙◌, subst}
use Rattle.snap_cell.specs.declared.kept.Origin.{Origin}
use Rattle.snap_cell.specs.Views.{cell_of, number_of}
use Rattle.snap_cell.specs.Writers.{published_by, opening_written, cell_written, reader_count}
use Rattle.router.specs.declared.current.Current.{Current}
use Rattle.router.specs.declared.pass.Pass.{Pass}
use Rattle.router.specs.declared.update.Update.{Update}
use Rattle.router.proofs.Closing.{get_map, map_get, closed_is}
use Rattle.router.proofs.router.Router.close.Goals as goal

pub close-requires : goal.close-requires
close-requires g c = record {
  own = λ i r at.
      let q = get_map (λ (p : Pass g.row.J.Denot g.J.Naming). p.reader) c.args.passes.items i r
      (rw (← c.gather-readers.ensures.readers) at) in
      let mine = q.0.of_router in
      let written = c.into_inner-writer.result.of_router in
      let same : cell_of q.0.reader ≡ cell_written c.into_inner-writer.result.writer =
      cc (mine ∙ sym written) in
      ap cell_of (sym q.2) ∙ same;
}

pub returns : goal.returns
returns g c =
    let w = c.into_inner-writer.result in
    let few = c.if-len-self.false in
    let parts = c.gather-readers.ensures.parts in
    let most = c.gather-readers.ensures.most in
    let seats = w.seats in
    let enough : reader_count w.writer ≤ length c.args.passes.items =
    omega (arith, few, seats, c.args.self.all, c.len.ensures) in
    let whole = c.audit.ensures.whole
    (omega (arith, few, parts, most, c.requires.parts, c.args.self.all, c.len.ensures)) in
    let amount = c.gather-readers.ensures.amount in
    let counted = w.counted in
    record {
      refused = (
        (λ e. absurd (cc e)),
        (λ lt. absurd (omega (arith, few, lt, c.args.self.all, c.len.ensures))),
      );
      back = tt;
      closed = closed_is w.place w.kept c.gather-readers.result.1.amount
          (reader_count w.writer) c.args.passes.items (published_by w.writer)
          (opening_written w.writer)
          w.place_is w.kept_is w.empty c.in-Ok.ensures.legal.fit w.settings
          c.in-Ok.ensures.legal.callers c.requires.distinct
          (λ i p at.
          let same : cell_of p.reader ≡ cell_written w.writer =
          cc (p.of_router ∙ sym w.of_router) in
          subst (λ (o : Origin Current Update). number_of p.reader < o.readers) same p.reader.below)
          enough
          (λ i p at. (c.in-Ok.ensures.seen i p.reader
          (rw c.gather-readers.ensures.readers
          (map_get (λ (p : Pass g.row.J.Denot g.J.Naming). p.reader) c.args.passes.items i p
          at))).0)
          amount (whole ∙ counted);
    }
