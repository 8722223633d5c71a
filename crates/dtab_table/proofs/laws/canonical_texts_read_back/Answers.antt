use Rattle.dtab_table.proofs.TableCanons.{prefix_stands, table_stands}
use Rattle.dtab_table.proofs.laws.canonical_texts_read_back.Goals as goal

pub returns : goal.returns
returns c = record {
  prefixes = λ prefix h. prefix_stands prefix h;
  tables =
      λ rules h. table_stands rules h;
}
