use Rattle.std.proofs.Common.{◌≡◌, ◌+◌, Bool, true, drop, sym, ap, ◌∙◌}
use Rattle.std.specs.Prelude.{◌||◌}
use Rattle.std.proofs.lemmas.Bool.{or_left}
use Rattle.dtab_index.specs.Index.{some_matches_there}
use Rattle.dtab_index.specs.Part.{placed_in}
use Rattle.dtab_index.specs.Parts.{placed_by}
use Rattle.dtab_index.proofs.PartLists.{some_more}
use Rattle.dtab_index.proofs.parts.matches_any.Goals as goal

pub returns-then-matches_any : goal.returns-then-matches_any
returns-then-matches_any c =
    let rest : Bool = some_matches_there c.args.from c.args.to
    (placed_by (drop (c.loop-part.part-index + 1) c.args.parts.now)) c.args.path.now in
    let here : Bool = some_matches_there c.args.from c.args.to
    (placed_in c.part-item.result.entries.items) c.args.path.now in
    let told : some_matches_there c.args.from c.args.to
    (placed_in c.part-item.result.entries.items) c.args.path.now ≡ true =
    sym c.matches_any.ensures ∙ c.if-matches_any.true in
    sym
    (c.loop-part.invariant
    ∙ (some_more c.args.parts.now c.loop-part.part-index c.part-item.result c.args.path.now
    c.loop-part-test.true c.part-item.is c.args.from c.args.to ∙ or_left here rest told))

pub loop-part-preserved : goal.loop-part-preserved
loop-part-preserved c =
    let rest : Bool = some_matches_there c.args.from c.args.to
    (placed_by (drop (c.loop-part.part-index + 1) c.args.parts.now)) c.args.path.now in
    c.loop-part.invariant
    ∙ (some_more c.args.parts.now c.loop-part.part-index c.part-item.result c.args.path.now
    c.loop-part-test.true c.part-item.is c.args.from c.args.to
    ∙ ap (λ b. b || rest) (sym c.matches_any.ensures ∙ c.if-matches_any.false))
