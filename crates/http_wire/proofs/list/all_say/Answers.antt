use Rattle.std.proofs.Common.{rules, ℕ, List, eqb}
use Rattle.std.proofs.lemmas.Iterator.Search.{all_from_yields_List}
use Rattle.std.proofs.lemmas.Iterator.Splits.{YieldsList-from_slice_split}
use Rattle.httparse.specs.Ascii.{comma}
use Rattle.httparse.specs.Grammar.{trim_ows}
use Rattle.http_wire.specs.Framing.{says}
use Rattle.http_wire.proofs.list.all_say.Goals as goal

pub returns : goal.returns
returns c =
    all_from_yields_List (λ (piece : List ℕ). says c.args.length (trim_ows piece)) _ _ c.all.result
    c.all.ensures.ran
    (YieldsList-from_slice_split _ (λ (b : ℕ). eqb b comma) c.args.value.now c.split.ensures.rest
    c.split.ensures.done c.split.ensures.closure (λ x b q k. search rules))
    (λ x b q k. search rules)
