use Rattle.http_wire.proofs.Turning.{behind_followed, trusts_more}
use Rattle.http_wire.proofs.reading.read_once.Goals as goal

pub returns-in-More-clause-trusts : goal.returns-in-More-clause-trusts
returns-in-More-clause-trusts g c more =
    let came = c.in-More.ensures.bytes.0 in
    trusts_more c.args.rest.now c.fill_once.new.rest came.piece _ c.args.watch.now
    c.follow.new.self came.grown
    (behind_followed c.args.rest.now c.fill_once.new.rest came.piece c.kept-followed.result.now
    c.kept.result.now c.kept-followed.ensures c.kept.ensures came.grown)
    c.requires.stands c.requires.unfinished c.follow.ensures
