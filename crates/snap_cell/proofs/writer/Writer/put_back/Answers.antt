use Rattle.std.proofs.Common.{◌≡◌, ◌∙◌, Some}
use Rattle.left_right.specs.Sides.{view}
use Rattle.snap_cell.proofs.Options.{in_some}
use Rattle.snap_cell.proofs.writer.Writer.put_back.Goals as goal

pub invariant_of-self : goal.invariant_of-self
invariant_of-self g c =
    let w = c.args.self.now in
    record {
      of_cell = in_some (λ d. view d.reader.place ≡ Some w.origin) c.leave.result
          (c.leave.ensures ∙ c.requires);
      one_list = w.one_list;
      head_is = w.head_is;
      there = w.there;
      stands = w.stands;
      settled = w.settled;
    }
