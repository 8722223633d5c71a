-- The canonical texts of prefixes and tables stand for them.
use Rattle.std.proofs.Common.{◌≡◌, ℕ, List, [], ◌∷◌, ◌++◌, Some, None, sym, ap, subst, ◌∙◌}
use Rattle.std.proofs.Common.{append_assoc}
use Rattle.std.specs.Prelude.{codes}
use Rattle.std.specs.List.{flat_map}
use Rattle.std.proofs.lemmas.List.{append-nil}
use Rattle.std.proofs.lemmas.List.Concat.{flat_map-cons}
use Rattle.name_tree.specs.Value.{TreeValue}
use Rattle.name_tree.specs.Grammar.{AreBlanks, no_blank, TreeText, tree as tree_text}
use Rattle.name_tree.proofs.CanonPaths.{is_label_spells}
use Rattle.name_tree.proofs.Canons.{canon_stands}
use Rattle.dtab_table.specs.Pattern.{Pattern}
use Rattle.dtab_table.specs.Rules.{Rule}
use Rattle.dtab_table.specs.TableGrammar.{star, named, SpellsPatterns, pattern, patterns}
use Rattle.dtab_table.specs.TableGrammar.{SpellsPrefix, root, under, PrefixText}
use Rattle.dtab_table.specs.TableGrammar.{prefix as prefix_text, SpellsEntry, entry, nothing}
use Rattle.dtab_table.specs.TableGrammar.{filled, SpellsTable, place, places, DtabText, table}
use Rattle.dtab_table.specs.TableCanon.{canon_pattern, canon_prefix, canon_rule, canon_more}
use Rattle.dtab_table.specs.TableCanon.{canon_table, ArePatterns, IsSoundRule, AreSoundRules}

-- a `/`, a label or `*`, and more
patterns_spell : (p : Pattern) (ps : List Pattern) → ArePatterns (p ∷ ps)
    → SpellsPatterns (flat_map canon_pattern (p ∷ ps)) (p ∷ ps)
patterns_spell None [] h = subst (λ (s : List ℕ). SpellsPatterns s (None ∷ []))
    (sym (flat_map-cons canon_pattern None [])) (pattern star)
patterns_spell (Some l) [] h =
    subst (λ (s : List ℕ). SpellsPatterns s (Some l ∷ []))
    (sym (flat_map-cons canon_pattern (Some l) [] ∙ append-nil (canon_pattern (Some l))))
    (pattern (named (is_label_spells l h.0)))
patterns_spell None (q ∷ qs) h =
    subst (λ (s : List ℕ). SpellsPatterns s (None ∷ q ∷ qs))
    (sym (flat_map-cons canon_pattern None (q ∷ qs))) (patterns star (patterns_spell q qs h.1))
patterns_spell (Some l) (q ∷ qs) h =
    subst (λ (s : List ℕ). SpellsPatterns s (Some l ∷ q ∷ qs))
    (sym (flat_map-cons canon_pattern (Some l) (q ∷ qs)))
    (patterns (named (is_label_spells l h.0)) (patterns_spell q qs h.1))

prefix_spells : (ps : List Pattern) → ArePatterns ps → SpellsPrefix (canon_prefix ps) ps
prefix_spells [] h = root
prefix_spells (p ∷ ps) h = under (patterns_spell p ps h)

pub prefix_stands : (ps : List Pattern) → ArePatterns ps → PrefixText (canon_prefix ps) ps
prefix_stands ps h = subst (λ (s : List ℕ). PrefixText s ps) (append-nil (canon_prefix ps))
    (prefix_text no_blank (prefix_spells ps h) no_blank)

-- an entry and the blanks at its end
record EntryText (s : List ℕ) (r : Rule) : Type 0 where
  text : List ℕ
  after : List ℕ
  same : s ≡ text ++ after
  spells : SpellsEntry text r
  are_after : AreBlanks after

entry_text : (s : List ℕ) (ps : List Pattern) → SpellsPrefix s ps → {t : List ℕ} {v : TreeValue}
    → TreeText t v → EntryText (s ++ codes "=>" ++ t) (record { prefix = ps; tree = v })
entry_text s ps r (tree_text {a = a} {s = t} {b = b} x k y) = record {
  text = s ++ [] ++ codes "=>" ++ a ++ t;
  after = b;
  same = simp (append_assoc, append-nil);
  spells = entry r no_blank x k;
  are_after = y;
}

rule_text : (r : Rule) → IsSoundRule r → EntryText (canon_rule r) r
rule_text r h = entry_text (canon_prefix r.prefix) r.prefix (prefix_spells r.prefix h.patterns)
    (canon_stands r.tree h.sound h.labels)

-- a table with blanks at its end
record TableTail (s : List ℕ) (rs : List Rule) : Type 0 where
  text : List ℕ
  after : List ℕ
  same : s ≡ text ++ after
  spells : SpellsTable text rs
  are_after : AreBlanks after

rules_text : (r : Rule) (rs : List Rule) → AreSoundRules (r ∷ rs)
    → TableTail (canon_rule r ++ canon_more rs) (r ∷ rs)
rules_text r [] h =
    let k = rule_text r h.0 in
    record {
      text = k.text;
      after = k.after;
      same = append-nil (canon_rule r) ∙ k.same;
      spells =
          place (filled k.spells);
      are_after = k.are_after;
    }
rules_text r (q ∷ qs) h =
    let k = rule_text r h.0 in
    let m = rules_text q qs h.1 in
    let apart : canon_more (q ∷ qs) ≡ codes ";" ++ (canon_rule q ++ canon_more qs) =
    append_assoc (codes ";") (canon_rule q) (canon_more qs) in
    record {
      text = k.text ++ k.after ++ codes ";" ++ [] ++ m.text;
      after = m.after;
      same = ap (λ u. canon_rule r ++ u) (apart ∙ ap (λ u. codes ";" ++ u) m.same)
          ∙ rw k.same (simp (append_assoc, append-nil));
      spells = places (filled k.spells) k.are_after no_blank m.spells;
      are_after = m.are_after;
    }

pub table_stands : (rs : List Rule) → AreSoundRules rs → DtabText (canon_table rs) rs
table_stands [] h = table no_blank (place nothing) no_blank
table_stands (r ∷ rs) h = let k = rules_text r rs h in
    subst (λ (s : List ℕ). DtabText s (r ∷ rs)) (sym k.same) (table no_blank k.spells k.are_after)
