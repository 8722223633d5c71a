use Rattle.std.proofs.Common.{◌≡◌, ◌+◌, ◌-◌, ◌∙◌, ap, map, take, drop, ℕ, List, length}
use Rattle.dtab_table.specs.Rules.{Rule, rule_of}
use Rattle.dtab_table.specs.TableCanon.{canon_rule}
use Rattle.dtab_check.specs.Notes.{last_same, notes_in}
use Rattle.dtab_check.specs.Texts.{texts_in}
use Rattle.dtab_check.proofs.Noting.{notes_next, notes_end, text-at, later_texts, rest_from}
use Rattle.dtab_check.proofs.notes.notes_of.Goals as goal

pub loop-at-preserved : goal.loop-at-preserved
loop-at-preserved c =
    let entries = c.in_ok-entries.entries.now in
    let texts = c.in_ok-texts.texts.items in
    let at = c.loop-at.at in
    let rules : List Rule = map rule_of entries in
    let later = take (length c.deref.result.now - (at + 1)) (drop (at + 1) c.deref.result.now) in
    let behind : later ≡ drop (at + 1) texts =
    rest_from (at + 1) c.deref.result.now ∙ ap (drop (at + 1)) c.deref.ensures.value in
    let others : texts_in later ≡ map canon_rule (drop (at + 1) rules) =
    later_texts texts later entries (at + 1) c.in_ok-texts.ensures.texts behind in
    let own : c.index.result.now.bytes.items ≡ canon_rule (rule_of c.index-entries-at.result) =
    text-at texts entries at c.index.result.now c.index-entries-at.result
    c.in_ok-texts.ensures.texts
    c.loop-at-test.true c.index.ensures c.index-entries-at.is in
    notes_next entries at c.index-entries-at.result c.loop-at.items.items
    c.put_notes.new.items.items c.find_last_same-same.result (notes_in rules)
    c.loop-at-test.true c.index-entries-at.is
    (c.find_last_same-same.ensures.same
    ∙ (ap (λ (ts : List (List ℕ)). last_same (at + 1) ts c.index.result.now.bytes.items) others
    ∙ ap (last_same (at + 1) (map canon_rule (drop (at + 1) rules))) own))
    c.in_ok-put_notes.ensures c.loop-at.invariant

pub returns : goal.returns
returns c =
    let entries = c.in_ok-entries.entries.now in
    c.of.ensures
    ∙ (notes_end entries c.loop-at.at c.loop-at.items.items (notes_in (map rule_of entries))
    c.loop-at-test.false c.loop-at.invariant
    ∙ ap notes_in c.in_ok-entries.ensures.entries)
