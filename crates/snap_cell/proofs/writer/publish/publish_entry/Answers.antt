use Rattle.std.proofs.Common.{◌∙◌, ap, ◌++◌, [], ◌∷◌, inl}
use Rattle.left_right.specs.Sides.{view}
use Rattle.snap_cell.proofs.Steps.{ready_again, entry_follows}
use Rattle.snap_cell.proofs.writer.publish.publish_entry.Goals as goal
use Rattle.snap_cell.proofs.writer.publish.publish_entry.Goals.{in-Ok, in-Err}

pub show_pending-requires : goal.show_pending-requires
show_pending-requires g c =
    inl (ready_again g.V.Absorb.state g.V.Absorb.applied g.V.Published.fits g.O.Operation.caller
    c.args.desk.desk.shown.value c.append.new.self.desk.shown.value (c.args.entry ∷ []) _
    (ap (λ d. d.shown.value) c.append.ensures.desk)
    (c.in-Ok.ensures.pending ∙ ap (λ l. l ++ c.args.entry ∷ []) c.requires.settled)
    c.requires.ready)

pub returns : goal.returns
returns g c =
    let shown = ap (λ d. d.shown.value) c.append.ensures.desk in
    let told = ap (λ d. view d.place) c.append.ensures.desk in
    elim c.match-append.branch [
      | in-Ok w ↦ rw (w.result-is)
          (entry_follows c.args.desk.desk.shown.value c.append.new.self.desk.shown.value _
          c.args.entry (view c.args.desk.desk.place) (view c.append.new.self.desk.place) _ _ _ _
          shown told (w.in-Ok.ensures.pending
          ∙ ap (λ l. l ++ c.args.entry ∷ []) c.requires.settled) w.show_pending.ensures)
      | in-Err w ↦ rw (w.result-is) (shown, told)
    ]
