use Rattle.std.proofs.Common.{◌∙◌, sym, map, length}
use Rattle.std.proofs.lemmas.List.{length-map}
use Rattle.dtab_table.specs.Rules.{rule_of}
use Rattle.bind_cache.proofs.Fronts.{other_length, all_common}
use Rattle.bind_cache.proofs.touch.same_entries.Goals as goal

pub returns-then-one-other : goal.returns-then-one-other
returns-then-one-other c =
    other_length (map rule_of c.args.one.now) (map rule_of c.args.other.now)
    (λ same. c.if-one-other.true (sym (length-map c.args.one.now rule_of)
    ∙ (same ∙ length-map c.args.other.now rule_of)))

pub returns : goal.returns
returns c =
    all_common (map rule_of c.args.one.now) (map rule_of c.args.other.now) c.common_front.result
    (length c.args.one.now) c.common_front.ensures.common (sym (length-map c.args.one.now rule_of))
    (length-map c.args.one.now rule_of
    ∙ (c.if-one-other.false ∙ sym (length-map c.args.other.now rule_of)))
