use Rattle.std.proofs.Common.{ap, sym, ◌∙◌}
use Rattle.std.specs.Prelude.{option_map}
use Rattle.serde_json.specs.View.{view}
use Rattle.follow_feed.proofs.Members.{none_known, reads_known}
use Rattle.follow_feed.proofs.reading.read_feed.Goals as goal

pub returns-in-Ok-Some : goal.returns-in-Ok-Some
returns-in-Ok-Some c =
    reads_known c.args.text.now (view c.in-Ok-Some.tree) c.feed_of.result
    (sym (ap (option_map view) c.in-Ok-Some.field-0-is) ∙ c.in-Ok-Some.ensures) c.feed_of.ensures

pub returns-in-Ok-None : goal.returns-in-Ok-None
returns-in-Ok-None c =
    none_known c.args.text.now
    (sym (ap (option_map view) c.in-Ok-None.field-0-is) ∙ c.in-Ok-None.ensures)
