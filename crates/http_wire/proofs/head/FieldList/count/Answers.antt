use Rattle.http_wire.proofs.FieldLemmas.{how_many}
use Rattle.http_wire.proofs.head.FieldList.count.Goals as goal

pub returns : goal.returns
returns c = how_many c.args.name.now c.args.self.now _ _ c.items.ensures c.count_named.ensures
