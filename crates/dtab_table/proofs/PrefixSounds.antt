-- A prefix that was read has labels, and the text of a prefix is read.
use Rattle.std.proofs.Common.{◌≡◌, ℕ, List, Result, Ok, Err, refl}
use Rattle.std.specs.Prelude.{MatchResult, IfOk}
use Rattle.name_tree.proofs.Sounds.{label_is}
use Rattle.name_tree.proofs.Recognisers.{one_value}
use Rattle.dtab_table.specs.Pattern.{Pattern}
use Rattle.dtab_table.specs.TableGrammar.{SpellsPattern, star, named, SpellsPatterns, pattern}
use Rattle.dtab_table.specs.TableGrammar.{patterns, SpellsPrefix, root, under, PrefixText, prefix}
use Rattle.dtab_table.specs.PrefixReading.{before, next_prefix, end_prefix}
use Rattle.dtab_table.specs.TableCanon.{IsPattern, ArePatterns}
use Rattle.dtab_table.specs.declared.read.PrefixFault.{PrefixFault}
use Rattle.dtab_table.specs.declared.read.PrefixFault.TheVariants.{NotPrefix, OutOfMemory}
use Rattle.dtab_table.specs.Answers.{PrefixFaultFits}
use Rattle.dtab_table.proofs.PrefixLaws.{prefix_laws}

pattern_is : {s : List ℕ} {p : Pattern} → SpellsPattern s p → IsPattern p
pattern_is star = tt
pattern_is (named r) = label_is r

patterns_are : {s : List ℕ} {ps : List Pattern} → SpellsPatterns s ps → ArePatterns ps
patterns_are (pattern r) = (pattern_is r, tt)
patterns_are (patterns r rs) = (pattern_is r, patterns_are rs)

pub prefix_patterns : {s : List ℕ} {ps : List Pattern} → SpellsPrefix s ps → ArePatterns ps
prefix_patterns root = tt
prefix_patterns (under r) = patterns_are r

text_patterns : {s : List ℕ} {ps : List Pattern} → PrefixText s ps → ArePatterns ps
text_patterns (prefix x r y) = prefix_patterns r

-- a prefix that was read has labels
pub sound_prefix : {X : Type 0} (view : X → List Pattern) (text : List ℕ)
    (read : Result X PrefixFault) → MatchResult read (λ x. PrefixText text (view x))
    (PrefixFaultFits text)
    → IfOk read (λ x. ArePatterns (view x))
sound_prefix view text (Ok x) h = text_patterns h
sound_prefix view text (Err fault) h = tt

-- the text of a prefix is read, where there is memory
pub only : {X : Type 0} (view : X → List Pattern) (text : List ℕ) (read : Result X PrefixFault)
    → MatchResult read (λ x. PrefixText text (view x)) (PrefixFaultFits text)
    → (ps : List Pattern) → PrefixText text ps
    → MatchResult read (λ x. view x ≡ ps) (λ fault. fault ≡ OutOfMemory)
only view text (Ok x) h ps k = one_value next_prefix end_prefix before PrefixText prefix_laws text
    (view x) ps h k
only view text (Err NotPrefix) h ps k = absurd (h ps k)
only view text (Err OutOfMemory) h ps k = refl
