use Rattle.std.proofs.Common.{◌∷◌, [], length, ap, ◌∙◌, arith, length-append}
use Rattle.dtab_index.specs.Parts.{placed_by}
use Rattle.dtab_index.proofs.PartLists.{kept_push, placed_push, room_push}
use Rattle.dtab_index.proofs.parts.part_with_room.Goals as goal

pub returns-clause-kept : goal.returns-clause-kept
returns-clause-kept c = rw c.in_ok-push.ensures.items
    (kept_push c.args.parts.now.items c.new-part.result c.requires c.new-part.ensures.kept)

pub returns-clause-same : goal.returns-clause-same
returns-clause-same c = ap placed_by c.in_ok-push.ensures.items
    ∙ placed_push c.args.parts.now.items c.new-part.result c.new-part.ensures.none

pub returns-clause-room : goal.returns-clause-room
returns-clause-room c =
    rw c.in_ok-push.ensures.items
    (room_push c.args.parts.now.items c.new-part.result _ c.new-part.ensures.none
    (omega (
      arith,
      c.push.new.self.ok.0,
      ap length c.in_ok-push.ensures.items,
      length-append c.args.parts.now.items (c.new-part.result ∷ []),
    )))
