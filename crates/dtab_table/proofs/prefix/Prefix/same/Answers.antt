use Rattle.std.proofs.Common.{◌≡◌, ◌∙◌, length, map, true, false, ap, sym}
use Rattle.std.specs.Prelude.{IsTrue}
use Rattle.name_tree.proofs.Same.{one_more, other_member, all_same}
use Rattle.dtab_table.specs.Pattern.{pattern_of}
use Rattle.dtab_table.proofs.Matches.{same_prefixes}
use Rattle.dtab_table.proofs.prefix.Prefix.same.Goals as goal

pub returns-then-not-same : goal.returns-then-not-same
returns-then-not-same c =
    let xs = c.self.inside.labels in
    let ys = c.other.inside.labels in
    let as_many : length c.deref-label-items.result.now ≡ length ys.items =
    ap length c.deref-label-items.ensures.value
    ∙ (sym xs.ok.0 ∙ (sym c.len.ensures ∙ (c.if-len.false ∙ (c.len-2.ensures ∙ ys.ok.0)))) in
    same_prefixes false c.deref-label-items.result.now ys.items c.args.self.now c.args.other.now
    (ap (map pattern_of) c.deref-label-items.ensures.value ∙ c.self.view_is) c.other.view_is
    (other_member pattern_of c.deref-label-items.result.now ys.items c.loop-at.at
    c.label-item.result c.index.result.now c.loop-at-test.true as_many c.label-item.is
    c.index.ensures
    (λ same. let yes : IsTrue c.same.result = c.same.ensures.1 same in
    let no : c.same.result ≡ false = c.if-not-same.true in cc))

pub loop-at-preserved : goal.loop-at-preserved
loop-at-preserved c =
    let xs = c.self.inside.labels in
    let ys = c.other.inside.labels in
    let as_many : length c.deref-label-items.result.now ≡ length ys.items =
    ap length c.deref-label-items.ensures.value
    ∙ (sym xs.ok.0 ∙ (sym c.len.ensures ∙ (c.if-len.false ∙ (c.len-2.ensures ∙ ys.ok.0)))) in
    one_more pattern_of c.deref-label-items.result.now ys.items c.loop-at.at c.label-item.result
    c.index.result.now c.loop-at-test.true as_many c.label-item.is c.index.ensures
    (c.same.ensures.0 c.if-not-same.false) c.loop-at.invariant

pub returns : goal.returns
returns c =
    let xs = c.self.inside.labels in
    let ys = c.other.inside.labels in
    let as_many : length c.deref-label-items.result.now ≡ length ys.items =
    ap length c.deref-label-items.ensures.value
    ∙ (sym xs.ok.0 ∙ (sym c.len.ensures ∙ (c.if-len.false ∙ (c.len-2.ensures ∙ ys.ok.0)))) in
    same_prefixes true c.deref-label-items.result.now ys.items c.args.self.now c.args.other.now
    (ap (map pattern_of) c.deref-label-items.ensures.value ∙ c.self.view_is) c.other.view_is
    (all_same pattern_of c.deref-label-items.result.now ys.items c.loop-at.at c.loop-at-test.false
    as_many c.loop-at.invariant)
