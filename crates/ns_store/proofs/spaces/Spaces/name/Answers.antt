use Rattle.std.proofs.Common.{arith, ap, sym, ◌∙◌, map, Some}
use Rattle.std.proofs.lemmas.Option.{slice_get-map}
use Rattle.ns_store.proofs.Finding.{len_spaces, name_at}
use Rattle.ns_store.proofs.spaces.Spaces.name.Goals as goal

pub index-requires : goal.index-requires
index-requires c = grind (arith, len_spaces c.args.self.now)

pub returns : goal.returns
returns c = name_at c.args.self.now c.args.at c.index.result.now c.requires c.index.ensures
