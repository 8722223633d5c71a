use Rattle.serde_json.specs.View.{view}
use Rattle.linker_config.proofs.Trees.{reads_tree}
use Rattle.linker_config.proofs.reading.read_config.Goals as goal

pub returns-in-Ok-clause-reads : goal.returns-in-Ok-clause-reads
returns-in-Ok-clause-reads c =
    reads_tree c.args.text.now (view c.in-Ok.tree) c.config.result c.in-Ok.ensures.ok.0
    c.in-Ok.ensures.ok.1 c.config.ensures.told
