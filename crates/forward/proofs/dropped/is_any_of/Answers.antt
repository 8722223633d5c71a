use Rattle.std.proofs.Common.{rules, ◌∙◌, ℕ, List, Bor}
use Rattle.std.proofs.lemmas.Iterator.{YieldsList-from_slice}
use Rattle.std.proofs.lemmas.Iterator.Search.{any_from_yields_List}
use Rattle.http_wire.specs.Fields.{is_named}
use Rattle.forward.proofs.Named.{list_any-map}
use Rattle.forward.proofs.dropped.is_any_of.Goals as goal

pub returns : goal.returns
returns c =
    any_from_yields_List (λ (n : Bor (List ℕ)). is_named n.now c.args.field.now) _ _ _
    c.any.ensures.ran
    (YieldsList-from_slice c.args.names.now c.iter.ensures.rest) (λ x b q k. search rules)
    ∙ list_any-map (λ (n : List ℕ). is_named n c.args.field.now)
    (λ (n : Bor (List ℕ)). n.now) c.args.names.now
