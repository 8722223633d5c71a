use Rattle.std.proofs.Common.{◌∙◌, sym}
use Rattle.dtab_check.specs.Hidden.{covers}
use Rattle.dtab_check.proofs.Covering.{same-if, and-first, and-second}
use Rattle.dtab_check.proofs.prefixes.are_same.Goals as goal

pub returns-then-is_cover : goal.returns-then-is_cover
returns-then-is_cover c =
    same-if c.args.prefix.now c.args.other.now c.is_cover-then-is_cover.result
    (and-second c.is_cover-then-is_cover.result (covers c.args.other.now c.args.prefix.now)
    (covers c.args.prefix.now c.args.other.now) (sym c.is_cover.ensures ∙ c.if-is_cover.true)
    c.is_cover-then-is_cover.ensures)

pub returns-else-is_cover : goal.returns-else-is_cover
returns-else-is_cover c =
    same-if c.args.prefix.now c.args.other.now c.is_cover.result
    (and-first c.is_cover.result (covers c.args.other.now c.args.prefix.now)
    (covers c.args.prefix.now c.args.other.now) c.is_cover.ensures c.if-is_cover.false)
