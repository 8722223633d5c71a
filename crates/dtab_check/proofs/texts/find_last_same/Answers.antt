use Rattle.std.proofs.Common.{◌≡◌, ◌+◌, ◌-◌, ◌<◌, ℕ, List, length, sym, ap, ◌∙◌, arith}
use Rattle.std.proofs.lemmas.List.{drop_all}
use Rattle.dtab_check.specs.declared.entry_text.EntryText.{EntryText}
use Rattle.dtab_check.specs.Notes.{last_same}
use Rattle.dtab_check.specs.Texts.{texts_in}
use Rattle.dtab_check.proofs.Noting.{same_found, not_same, none_same}
use Rattle.dtab_check.proofs.texts.find_last_same.Goals as goal

pub loop-at-init : goal.loop-at-init
loop-at-init c = record {
  none = ap (λ (ts : List EntryText). last_same (c.args.first + length c.args.texts.now)
      (texts_in ts) c.args.own.now.bytes.items)
      (drop_all (length c.args.texts.now) c.args.texts.now (omega arith));
  within = omega arith;
}

pub returns-then-is_same-clause-same : goal.returns-then-is_same-clause-same
returns-then-is_same-clause-same c =
    let place : ℕ = c.loop-at.at - 1 in
    let next : place + 1 ≡ c.loop-at.at = omega (arith, c.loop-at-test.true) in
    let within : place < length c.args.texts.now =
    omega (arith, c.loop-at-test.true, c.loop-at.invariant.within) in
    same_found c.args.own.now.bytes.items c.args.texts.now c.args.first place c.loop-at.at
    c.index-texts-at.result next within c.index-texts-at.is c.loop-at.invariant.none
    (sym c.is_same.ensures ∙ c.if-is_same.true)

pub loop-at-preserved : goal.loop-at-preserved
loop-at-preserved c =
    let place : ℕ = c.loop-at.at - 1 in
    let next : place + 1 ≡ c.loop-at.at = omega (arith, c.loop-at-test.true) in
    let within : place < length c.args.texts.now =
    omega (arith, c.loop-at-test.true, c.loop-at.invariant.within) in
    record {
      none = not_same c.args.own.now.bytes.items c.args.texts.now c.args.first place c.loop-at.at
          c.index-texts-at.result next within c.index-texts-at.is c.loop-at.invariant.none
          (sym c.is_same.ensures ∙ c.if-is_same.false);
      within = omega (arith, within);
    }

pub returns-clause-same : goal.returns-clause-same
returns-clause-same c =
    let start : c.loop-at.at ≡ 0 = omega (arith, c.loop-at-test.false) in
    none_same c.args.own.now.bytes.items c.args.texts.now c.args.first c.loop-at.at start
    c.loop-at.invariant.none
