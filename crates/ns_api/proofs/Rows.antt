-- The rows of a table, one after the other.
use Rattle.std.proofs.Common.{◌≡◌, ℕ, ◌+◌, ◌<◌, List, [], ◌∷◌, ◌++◌, length, Option, Some}
use Rattle.std.proofs.Common.{None, drop, map}
use Rattle.std.proofs.Common.{append_assoc, refl, sym, ap, ◌∙◌, subst, arith}
use Rattle.std.specs.Prelude.{option_map, Bool, true, false, if◌then◌else◌}
use Rattle.std.proofs.lemmas.List.{at_drop_more}
use Rattle.std.proofs.lemmas.Option.{same_Some}
use Rattle.std.proofs.Math.ListN.{get_or}
use Rattle.serde_json.specs.Data.{Data}
use Rattle.serde_json.specs.View.{view}
use Rattle.serde_json.specs.declared.value.Value.{Value}
use Rattle.name_tree.specs.Value.{TreeValue}
use Rattle.name_tree.specs.Computed.{tree_of}
use Rattle.name_tree.proofs.Computing.{computes_trees}
use Rattle.name_tree.proofs.Sounds.{text_sound, text_labels}
use Rattle.dtab_table.specs.Pattern.{Pattern}
use Rattle.dtab_table.specs.declared.entry.Entry.{Entry}
use Rattle.dtab_table.specs.Rules.{Rule, rule_of}
use Rattle.dtab_table.specs.TableCanon.{AreSoundRules, IsSoundRule, ArePatterns}
use Rattle.dtab_table.specs.TableGrammar.{PrefixText, prefix as prefix_text}
use Rattle.dtab_table.proofs.PrefixSounds.{prefix_patterns}
use Rattle.ns_api.specs.JsonTable.{first_rule, is_pair, prefix_of, row_rule, row_rules, rule_from}
use Rattle.ns_api.specs.JsonTable.{rule_in}
use Rattle.ns_api.proofs.Prefixes.{prefix_spelled}

-- rules behind others, if there are any
abbrev pub behind : List Rule → Option (List Rule) → Option (List Rule)
behind before rules = option_map (λ more. before ++ more) rules

-- a rule more stands behind the others
one_more : (before : List Rule) (r : Rule) (o : Option Rule) (rest : Option (List Rule))
    → o ≡ Some r → behind before (first_rule o rest) ≡ behind (before ++ r ∷ []) rest
one_more before r o rest same =
    subst (λ x. behind before (first_rule x rest) ≡ behind (before ++ r ∷ []) rest) (sym same)
    (go rest)
  where
    go : (more : Option (List Rule))
        → behind before (first_rule (Some r) more) ≡ behind (before ++ r ∷ []) more
    go (Some rs) = ap Some (sym (append_assoc before (r ∷ []) rs))
    go None = refl

rules_more : (entries : List Entry) (e : Entry)
    → map rule_of (entries ++ e ∷ []) ≡ map rule_of entries ++ rule_of e ∷ []
rules_more [] e = refl
rules_more (x ∷ xs) e = ap (λ rs. rule_of x ∷ rs) (rules_more xs e)

-- the rules of rows, once one more was read
pub row_read : (rows : List Value) (i : ℕ) (row : Value) (entries new : List Entry) (e : Entry)
    → i < length rows → row ≡ get_or rows i row
    → row_rules (map view rows)
    ≡ behind (map rule_of entries) (row_rules (map view (drop i rows)))
    → row_rule (view row) ≡ Some (rule_of e) → new ≡ entries ++ e ∷ []
    → row_rules (map view rows)
    ≡ behind (map rule_of new) (row_rules (map view (drop (i + 1) rows)))
row_read rows i row entries new e less is before reads same =
    let rest = row_rules (map view (drop (i + 1) rows)) in
    let own = map rule_of entries in
    let cut = at_drop_more (λ (vs : List Value). row_rules (map view vs)) rows i row less in
    let read : row_rule (view (get_or rows i row)) ≡ Some (rule_of e) =
    ap (λ (v : Value). row_rule (view v)) (sym is) ∙ reads in
    let all : own ++ rule_of e ∷ [] ≡ map rule_of new =
    sym (rules_more entries e) ∙ ap (map rule_of) (sym same) in
    before ∙ (ap (behind own) cut
    ∙ (one_more own (rule_of e) (row_rule (view (get_or rows i row))) rest read
    ∙ ap (λ rs. behind rs rest) all))

pub one_longer : (entries new : List Entry) (e : Entry) (i : ℕ) → length entries ≡ i
    → new ≡ entries ++ e ∷ [] → length new ≡ i + 1
one_longer entries new e i is same = ap length same ∙ (longer entries ∙ ap (λ n. n + 1) is)
  where
    longer : (xs : List Entry) → length (xs ++ e ∷ []) ≡ length xs + 1
    longer [] = refl
    longer (x ∷ xs) = omega (arith, longer xs)

sound_prefix : {text : List ℕ} {ps : List Pattern} → PrefixText text ps → ArePatterns ps
sound_prefix (prefix_text x r y) = prefix_patterns r

-- what two texts stand for is sound
from_sound : (dst text : List ℕ) (t : Option TreeValue) (p : Option (List Pattern)) (r : Rule)
    → tree_of dst ≡ t → prefix_of text ≡ p → rule_from t p ≡ Some r → IsSoundRule r
from_sound dst text (Some tree) (Some prefix) r t p e =
    let value = (computes_trees dst tree).0 t in
    let P : Rule → Type 0 = λ rule. IsSoundRule rule in
    subst P (same_Some _ r e)
    (record {
      patterns = sound_prefix (prefix_spelled text prefix p);
      sound = text_sound value.stands value.short;
      labels = text_labels value.stands value.short;
    })
from_sound dst text (Some tree) None r t p e = absurd (cc)
from_sound dst text None p r t q e = absurd (cc)

in_sound : (dst text : Option (List ℕ)) (r : Rule) → rule_in dst text ≡ Some r → IsSoundRule r
in_sound (Some dst) (Some text) r e =
    from_sound dst text (tree_of dst) (prefix_of text) r refl refl e
in_sound (Some dst) None r e = absurd (cc)
in_sound None text r e = absurd (cc)

chosen_sound : (b : Bool) (o : Option Rule) (r : Rule) → ((q : Rule) → o ≡ Some q → IsSoundRule q)
    → (if b then o else None) ≡ Some r → IsSoundRule r
chosen_sound true o r h e = h r e
chosen_sound false o r h e = absurd (cc)

row_sound : (d : Data) (r : Rule) → row_rule d ≡ Some r → IsSoundRule r
row_sound d r e = chosen_sound (is_pair d) _ r (λ q. in_sound _ _ q) e

-- the rules of rows are sound, and as many as those
pub record AreRowsOf (ds : List Data) (rs : List Rule) : Type 0 where
  pub sound : AreSoundRules rs
  pub count : length rs ≡ length ds

more_sound : (d : Data) (ds : List Data) (rs : List Rule) (o : Option Rule) (p : Option (List Rule))
    → row_rule d ≡ o → ((more : List Rule) → p ≡ Some more → AreRowsOf ds more)
    → first_rule o p ≡ Some rs → AreRowsOf (d ∷ ds) rs
more_sound d ds rs (Some r) (Some more) first others same =
    let all = others more refl in
    let n = all.count in
    let P : List Rule → Type 0 = λ x. AreRowsOf (d ∷ ds) x in
    subst P (same_Some (r ∷ more) rs same)
    (record { sound = (row_sound d r first, all.sound); count = omega (arith, n) })
more_sound d ds rs (Some r) None first others same = absurd (cc)
more_sound d ds rs None p first others same = absurd (cc)

pub rows_sound : (ds : List Data) (rs : List Rule) → row_rules ds ≡ Some rs → AreRowsOf ds rs
rows_sound [] rs e =
    let P : List Rule → Type 0 = λ x. AreRowsOf [] x
    in subst P (same_Some [] rs e) (record { sound = tt; count = refl })
rows_sound (d ∷ ds) rs e =
    more_sound d ds rs (row_rule d) (row_rules ds) refl (λ more others. rows_sound ds more others) e
