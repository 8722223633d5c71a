use Rattle.std.proofs.Common.{◌≡◌, ◌∙◌, Some}
use Rattle.left_right.specs.Sides.{view}
use Rattle.snap_cell.proofs.Options.{in_some}
use Rattle.snap_cell.proofs.reader.Reader.put_back.Goals as goal

pub invariant_of-self : goal.invariant_of-self
invariant_of-self g c =
    let r = c.args.self.now in
    record {
      of_cell = in_some (λ d. view d.reader.place ≡ Some r.origin) c.leave.result
          (c.leave.ensures ∙ c.requires);
      one_list = r.one_list;
      below = r.below;
      in_order = r.in_order;
    }
