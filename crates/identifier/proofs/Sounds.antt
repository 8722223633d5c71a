-- The tables of requests are sound.
use Rattle.std.proofs.Common.{◌≡◌, ℕ, Bool, true, false, List, [], ◌∷◌, ◌++◌, length, cond, leb}
use Rattle.std.proofs.Common.{refl, subst, Option, Some, None, Ok}
use Rattle.std.specs.Option.{option_map, option_and_then}
use Rattle.http_wire.specs.declared.head.Field.{Field}
use Rattle.dtab_table.specs.Rules.{Rule}
use Rattle.dtab_table.specs.Answers.{most_entries}
use Rattle.dtab_table.specs.Computed.{few_enough, table_of}
use Rattle.dtab_table.specs.TableCanon.{AreSoundRules}
use Rattle.dtab_table.proofs.TableComputing.{computes_tables}
use Rattle.dtab_table.proofs.TableSounds.{sound_table}
use Rattle.identifier.specs.Local.{joined_rules, local_rules, local_texts}

sound_text : (text : List ℕ) (rules : List Rule) → table_of text ≡ Some rules → AreSoundRules rules
sound_text text rules is = sound_table (λ (rs : List Rule). rs) text (Ok rules)
    ((computes_tables text rules).0 is)

AreSoundRules-append : (a b : List Rule) → AreSoundRules a → AreSoundRules b
    → AreSoundRules (a ++ b)
AreSoundRules-append [] b first second = second
AreSoundRules-append (r ∷ rs) b first second = (first.0, AreSoundRules-append rs b first.1 second)

same : (a b : List Rule) → Some a ≡ Some b → a ≡ b
same a b is = cc

sound_joined : (texts : List (List ℕ)) (rules : List Rule) → joined_rules texts ≡ Some rules
    → AreSoundRules rules
sound_joined [] rules is = subst AreSoundRules (same [] rules is) tt
sound_joined (text ∷ texts) rules is =
    by_parts (table_of text) (joined_rules texts) refl
    (λ later later_is. sound_joined texts later later_is) is
  where
    by_parts : (first later : Option (List Rule)) → table_of text ≡ first
        → ((b : List Rule) → later ≡ Some b → AreSoundRules b)
        → option_and_then (λ rs. option_map (λ more. rs ++ more) later) first ≡ Some rules
        → AreSoundRules rules
    by_parts None later first_is sound whole = absurd (cc)
    by_parts (Some a) None first_is sound whole = absurd (cc)
    by_parts (Some a) (Some b) first_is sound whole =
        subst AreSoundRules (same (a ++ b) rules whole)
        (AreSoundRules-append a b (sound_text text a first_is) (sound b refl))

-- the rules of a request's table are sound
pub sound_local : (fields : List Field) (rules : List Rule) → local_rules fields ≡ Some rules
    → AreSoundRules rules
sound_local fields rules is = by_whole (joined_rules (local_texts fields)) refl is
  where
    by_test : (all : List Rule) (b : Bool) → joined_rules (local_texts fields) ≡ Some all
        → cond b (Some all) None ≡ Some rules → AreSoundRules rules
    by_test all true joined whole = subst AreSoundRules (same all rules whole)
        (sound_joined (local_texts fields) all joined)
    by_test all false joined whole = absurd (cc)

    by_whole : (whole : Option (List Rule)) → joined_rules (local_texts fields) ≡ whole
        → option_and_then few_enough whole ≡ Some rules → AreSoundRules rules
    by_whole None joined few = absurd (cc)
    by_whole (Some all) joined few = by_test all (leb (length all) most_entries) joined few
