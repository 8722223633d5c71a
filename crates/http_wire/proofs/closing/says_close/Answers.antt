use Rattle.std.proofs.Common.{rules, ℕ, List, codes, eqb}
use Rattle.std.proofs.lemmas.Iterator.Search.{any_from_yields_List}
use Rattle.std.proofs.lemmas.Iterator.Splits.{YieldsList-from_slice_split}
use Rattle.httparse.specs.Ascii.{comma}
use Rattle.httparse.specs.Grammar.{trim_ows}
use Rattle.http_wire.specs.Fields.{same_ignoring_case}
use Rattle.http_wire.proofs.closing.says_close.Goals as goal

pub returns : goal.returns
returns c =
    any_from_yields_List (λ (piece : List ℕ). same_ignoring_case (trim_ows piece) (codes "close"))
    _ _ c.any.result c.any.ensures.ran
    (YieldsList-from_slice_split _ (λ (b : ℕ). eqb b comma) c.args.value.now c.split.ensures.rest
    c.split.ensures.done c.split.ensures.closure (λ x b q k. search rules))
    (λ x b q k. search rules)
