-- What is computed of a table's text is what the grammar says.
use Rattle.std.proofs.Common.{◌≡◌, ◌≤◌, ℕ, arith, List, length, Bool, true, false, Option, Some}
use Rattle.std.proofs.Common.{None, Result, Ok, Err, refl, ap, ◌∙◌, inl, inr}
use Rattle.std.specs.Prelude.{◌⊎◌, nat_le, if◌then◌else◌, MatchResult}
use Rattle.std.specs.Option.{option_and_then}
use Rattle.std.proofs.lemmas.Bool.Decides.{nat_tests}
use Rattle.std.proofs.lemmas.Option.{same_Some, option_and_then_some}
use Rattle.name_tree.specs.Recogniser.{value_from}
use Rattle.name_tree.specs.Computed.{in_limits}
use Rattle.name_tree.proofs.Computing.{computes}
use Rattle.dtab_table.specs.declared.read.DtabFault.{DtabFault}
use Rattle.dtab_table.specs.declared.read.DtabFault.TheVariants.{OutOfMemory}
use Rattle.dtab_table.specs.Rules.{Rule}
use Rattle.dtab_table.specs.Answers.{most_entries, IsTable, DtabFaultFits}
use Rattle.dtab_table.specs.TableGrammar.{DtabText}
use Rattle.dtab_table.specs.TableReading.{table_start, next_state, ended_state}
use Rattle.dtab_table.specs.Computed.{few_enough, table_of, ComputesTables}
use Rattle.dtab_table.proofs.TableLaws.{table_laws}
use Rattle.dtab_table.proofs.TableSounds.{no_fault}

few_is : (t : Bool) (rs rules : List Rule) → (if t then Some rs else None) ≡ Some rules
    → (t ≡ true) × (rs ≡ rules)
few_is true rs rules h = (refl, same_Some rs rules h)
few_is false rs rules h = cc

pub computes_tables : ComputesTables table_of
unfolding table_of
computes_tables text rules =
    let law = computes (value_from next_state ended_state table_start) DtabText table_laws.gives
    table_laws.reads text in (
      λ e. option_and_then_some few_enough
          (in_limits (value_from next_state ended_state table_start) text) rules e
          (λ rs i r.
          let h = few_is (nat_le (length rs) most_entries) rs rules r in
          let short : length rs ≤ most_entries = let k = h.0 in grind (arith, nat_tests) in
          rw (← h.1) (record { value = (law rs).0 i; few = short })),
      λ k. let test : nat_le (length rules) most_entries ≡ true = let h = k.few in
          grind (arith, nat_tests) in
          ap (option_and_then few_enough) ((law rules).1 k.value) ∙ (rw test refl),
    )

-- what was read was computed
pub computed : {X : Type 0} (view : X → List Rule) (text : List ℕ) (read : Result X DtabFault)
    → MatchResult read (λ x. IsTable text (view x)) (DtabFaultFits text)
    → MatchResult read (λ x. table_of text ≡ Some (view x))
    (λ fault. (fault ≡ OutOfMemory) ⊎ (table_of text ≡ None))
computed view text (Ok x) h = (computes_tables text (view x)).1 h
computed view text (Err fault) h = go (table_of text) refl
  where
    go : (o : Option (List Rule)) → table_of text ≡ o
        → (fault ≡ OutOfMemory) ⊎ (table_of text ≡ None)
    go None e = inr e
    go (Some rules) e = inl (no_fault text rules ((computes_tables text rules).0 e) fault h)
