use Rattle.std.proofs.Common.{◌∷◌, []}
use Rattle.dtab_index.specs.Prefix.{patterns_of}
use Rattle.dtab_index.proofs.Filing.{on_err}
use Rattle.dtab_index.proofs.PartLists.{kept_set, placed_set, placed_stays, part_at}
use Rattle.dtab_index.proofs.parts.add_to.Goals as goal

pub returns-in_err-add-clause-kept : goal.returns-in_err-add-clause-kept
returns-in_err-add-clause-kept c = kept_set c.args.parts.now.items c.args.place c.add.new.self
    c.requires.kept c.add.ensures.kept

pub returns-in_err-add-clause-err : goal.returns-in_err-add-clause-err
returns-in_err-add-clause-err c =
    on_err c.from_residual.result _
    (placed_stays c.args.parts.now.items c.args.place c.index_mut-part.result.now c.add.new.self
    c.requires.room.last
    (part_at c.args.parts.now.items c.args.place c.index_mut-part.result.now c.requires.room.last
    c.index_mut-part.ensures.value) c.in_err-add.ensures.err)

pub returns-clause-kept : goal.returns-clause-kept
returns-clause-kept c = kept_set c.args.parts.now.items c.args.place c.add.new.self c.requires.kept
    c.add.ensures.kept

pub returns-clause-ok : goal.returns-clause-ok
returns-clause-ok c =
    placed_set c.args.parts.now.items c.args.place c.index_mut-part.result.now c.add.new.self
    ((patterns_of c.args.prefix.items, c.args.at) ∷ []) c.requires.room.last
    (part_at c.args.parts.now.items c.args.place c.index_mut-part.result.now c.requires.room.last
    c.index_mut-part.ensures.value) c.in_ok-add.ensures.ok
