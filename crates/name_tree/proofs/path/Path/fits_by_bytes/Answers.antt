use Rattle.std.proofs.Common.{[], arith}
use Rattle.std.proofs.lemmas.Option.{get_or_from_slice_get}
use Rattle.name_tree.proofs.LabelLists.{path_too_long, path_more}
use Rattle.name_tree.proofs.path.Path.fits_by_bytes.Goals as goal

pub returns-in-None : goal.returns-in-None
returns-in-None c =
    path_too_long c.args.self.now c.loop-at.at c.loop-at.left c.args.most c.loop-at.invariant
    c.label.result.now (omega (arith, c.loop-at-test.true, c.len-at-end.ensures))
    (get_or_from_slice_get c.args.self.now c.loop-at.at c.label.result.now [] c.label.ensures)
    c.in-None.ensures

pub loop-at-preserved : goal.loop-at-preserved
loop-at-preserved c =
    path_more c.args.self.now c.loop-at.at c.loop-at.left c.args.most c.loop-at.invariant
    c.in-Some.rest c.label.result.now (omega (arith, c.loop-at-test.true, c.len-at-end.ensures))
    (get_or_from_slice_get c.args.self.now c.loop-at.at c.label.result.now [] c.label.ensures)
    c.in-Some.ensures
