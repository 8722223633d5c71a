use Rattle.std.proofs.Common.{◌≡◌, ◌∙◌, ◌-◌, List, map, take, drop, ap, arith}
use Rattle.dtab_index.specs.Index.{some_matches_there}
use Rattle.dtab_table.specs.Rules.{Rule, rule_of, placed_from}
use Rattle.dtab_table.specs.Dtab.{some_matches}
use Rattle.dtab_table.proofs.Matches.{part_of}
use Rattle.dtab_table.proofs.There.{all_matches}
use Rattle.dtab_table.proofs.matching.any_between.Goals as goal

pub returns-then-to-from-le-FEW_ENTRIES : goal.returns-then-to-from-le-FEW_ENTRIES
returns-then-to-from-le-FEW_ENTRIES c =
    c.some_entry_matches.ensures
    ∙ ap (λ (rs : List Rule). some_matches rs c.args.path.now)
    (part_of c.args.entries.now c.args.from (c.args.to - c.args.from))

pub returns : goal.returns
returns c =
    let es = c.args.entries.now in
    let all : c.args.index.now ≡ placed_from 0 es =
    c.requires.indexed (omega (arith, c.requires.within)) in
    let indexed : some_matches_there c.args.from c.args.to (placed_from 0 es) c.args.path.now
    ≡ some_matches (take (c.args.to - c.args.from) (drop c.args.from (map rule_of es)))
    c.args.path.now =
    all_matches c.args.from c.args.to c.args.path.now c.requires.order es
    ∙ ap (λ (rs : List Rule). some_matches rs c.args.path.now)
    (part_of es c.args.from (c.args.to - c.args.from)) in
    c.matches_any.ensures ∙ (rw all indexed)
