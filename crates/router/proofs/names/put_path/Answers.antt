use Rattle.std.proofs.Common.{arith, ap, length, ◌∙◌, length-append}
use Rattle.name_tree.specs.Path.{canon_label}
use Rattle.name_tree.proofs.LabelLists.{put_more}
use Rattle.router.proofs.BytesRoom.{piece_left}
use Rattle.router.proofs.names.put_path.Goals as goal

pub put_label-requires : goal.put_label-requires
put_label-requires c =
    omega (
      arith,
      c.loop-at.invariant.room,
      piece_left canon_label c.args.path.now c.loop-at.at c.label.result.now c.label.ensures,
    )

pub loop-at-preserved : goal.loop-at-preserved
loop-at-preserved c =
    let left = piece_left canon_label c.args.path.now c.loop-at.at c.label.result.now
    c.label.ensures in
    record {
      written = put_more _ _ _ c.args.path.now c.loop-at.at c.label.result.now
          (omega arith) c.label.ensures c.loop-at.invariant.written c.put_label.ensures.items;
      room = omega (
        arith,
        left,
        c.loop-at.invariant.room,
        c.put_label.ensures.capacity,
        ap length c.put_label.ensures.items,
        length-append c.loop-at.out.items (canon_label c.label.result.now),
        c.loop-at.out.ok.0,
        c.put_label.new.out.ok.0,
      );
      same = c.put_label.ensures.capacity ∙ c.loop-at.invariant.same;
    }
