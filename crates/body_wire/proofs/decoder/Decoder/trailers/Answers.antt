use Rattle.std.proofs.Common.{refl, arith}
use Rattle.body_wire.proofs.Places.{moves_open, moves_end}
use Rattle.body_wire.proofs.decoder.Decoder.trailers.Goals as goal

pub returns-in-Open : goal.returns-in-Open
returns-in-Open c =
    let self = c.args.self.now in
    let run = c.min-run.ensures in
    moves_open self _ c.args.at c.in-Open.line c.args.seen c.args.kept.now c.args.out.now.items
    c.min-run.result (omega arith) (omega arith) c.requires c.in-Open.ensures refl refl refl refl
    (omega arith)

pub returns-in_ok-put_last-in-Ended : goal.returns-in_ok-put_last-in-Ended
returns-in_ok-put_last-in-Ended c =
    let self = c.args.self.now in
    let run = c.min-run.ensures in
    moves_end self _ c.args.at c.args.seen c.args.kept.now c.args.out.now.items
    c.put_last.new.out.items c.min-run.result c.in-Ended.count c.requires c.in-Ended.ensures
    (omega arith) refl refl refl refl c.in_ok-put_last-in-Ended.ensures.ok
