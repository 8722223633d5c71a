use Rattle.std.proofs.Common.{◌≡◌, ◌++◌, [], ◌∷◌, Bor, List, Bool, Vec, Global, length, map, take}
use Rattle.std.proofs.Common.{refl, sym, ap, ◌∙◌}
use Rattle.std.proofs.lemmas.List.{length-map}
use Rattle.name_tree.specs.Tree.{value_of}
use Rattle.dtab_table.specs.declared.entry.Entry.{Entry}
use Rattle.dtab_table.specs.Rules.{Rule, rule_of}
use Rattle.addr_book.proofs.Results.{ok_with}
use Rattle.dtab_check.specs.Sure.{is_sure}
use Rattle.dtab_check.specs.Live.{leaves_in, stops_in, reached_by}
use Rattle.dtab_check.specs.Rounds.{after_rounds}
use Rattle.dtab_check.proofs.Links.{one_entry, sure_found}
use Rattle.dtab_check.proofs.sure.sure_entries.Goals as goal

pub loop-entry-preserved : goal.loop-entry-preserved
loop-entry-preserved c =
    let rules : List Rule = map rule_of c.args.entries.now in
    let stops : Rule → Bool = λ r. stops_in r.tree in
    let reached : Rule → List Bool = λ r. reached_by (leaves_in r.tree) rules in
    let items : Vec Bool Global → List Bool = λ row. row.items in
    let of_table : map rule_of c.in_ok-indexed.indexed.entries.now ≡ rules =
    ap (λ (es : Bor (List Entry)). map rule_of es.now) c.in_ok-indexed.ensures.entries in
    record {
      own = one_entry stops c.loop-entry.own.items c.put_links.new.own.items
          (stops (rule_of c.entry-item.result)) c.args.entries.now c.loop-entry.entry-index
          c.entry-item.result c.loop-entry-test.true c.entry-item.is
          refl c.in_ok-put_links.ensures.own c.loop-entry.invariant.own;
      rows = one_entry reached (map items c.loop-entry.rows.items)
          (map items c.put_links.new.rows.items) (reached (rule_of c.entry-item.result))
          c.args.entries.now c.loop-entry.entry-index c.entry-item.result
          c.loop-entry-test.true c.entry-item.is refl
          (c.in_ok-put_links.ensures.rows
          ∙ ap (λ (table : List Rule). map items c.loop-entry.rows.items
          ++ reached_by (leaves_in (value_of c.entry-item.result.tree)) table ∷ []) of_table)
          c.loop-entry.invariant.rows;
    }

pub leading_to-requires : goal.leading_to-requires
leading_to-requires c =
    let rules : List Rule = map rule_of c.args.entries.now in
    let seen : List Rule = map rule_of (take c.loop-entry.entry-index c.args.entries.now) in
    let items : Vec Bool Global → List Bool = λ row. row.items in
    let own : length c.as_slice.result.now ≡ length seen =
    ap length c.as_slice.ensures.value
    ∙ (ap length c.loop-entry.invariant.own ∙ length-map seen (λ (r : Rule). stops_in r.tree)) in
    let rows : length c.as_slice-2.result.now ≡ length seen =
    ap length c.as_slice-2.ensures.value
    ∙ (sym (length-map c.loop-entry.rows.items items)
    ∙ (ap length c.loop-entry.invariant.rows
    ∙ length-map seen (λ (r : Rule). reached_by (leaves_in r.tree) rules))) in
    rows ∙ sym own

pub returns : goal.returns
returns c =
    let rules : List Rule = map rule_of c.args.entries.now in
    let items : Vec Bool Global → List Bool = λ row. row.items in
    let own = c.as_slice.result.now in
    let rows = map items c.as_slice-2.result.now in
    let P : Vec Bool Global → Type 0 = λ known. known.items ≡ after_rounds own rows (length own) in
    let Q : Vec Bool Global → Type 0 = λ sure. sure.items ≡ map (λ r. is_sure rules r.tree) rules in
    ok_with P Q c.leading_to.result c.leading_to.ensures
    (λ known is.
    sure_found c.args.entries.now c.loop-entry.entry-index own rows known.items
    c.loop-entry-test.false (c.as_slice.ensures.value ∙ c.loop-entry.invariant.own)
    (ap (map items) c.as_slice-2.ensures.value ∙ c.loop-entry.invariant.rows) is)
