use Rattle.name_tree.proofs.Canons.{canon_stands, path_stands}
use Rattle.name_tree.proofs.laws.canonical_texts_read_back.Goals as goal

pub returns : goal.returns
returns c = record {
  paths = λ path h. path_stands path h;
  trees =
      λ tree h k. canon_stands tree h k;
}
