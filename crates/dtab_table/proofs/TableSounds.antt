-- What a table's text that is not too long stands for is sound.
use Rattle.std.proofs.Common.{◌≡◌, ℕ, ◌+◌, ◌≤◌, arith, List, [], ◌∷◌, ◌++◌, length, Result, Ok, Err}
use Rattle.std.proofs.Common.{refl, ap, subst, length-append}
use Rattle.std.specs.Prelude.{codes, MatchResult, IfOk}
use Rattle.std.proofs.lemmas.List.{append-nil}
use Rattle.name_tree.specs.Value.{TreeValue, one_or_alt}
use Rattle.name_tree.specs.Grammar.{no_blank, SpellsTree, TreeText, tree as tree_text}
use Rattle.name_tree.specs.Canon.{most_members}
use Rattle.name_tree.proofs.Sounds.{five, text_sound, text_labels}
use Rattle.dtab_table.specs.Rules.{Rule}
use Rattle.dtab_table.specs.TableGrammar.{SpellsEntry, entry, SpellsPlace, nothing, filled}
use Rattle.dtab_table.specs.TableGrammar.{SpellsTable, place, places, DtabText, table}
use Rattle.dtab_table.specs.TableCanon.{IsSoundRule, AreSoundRules}
use Rattle.dtab_table.specs.declared.read.DtabFault.{DtabFault}
use Rattle.dtab_table.specs.declared.read.DtabFault.TheVariants.{TooLong, TooNested, Syntax}
use Rattle.dtab_table.specs.declared.read.DtabFault.TheVariants.{TooMany, OutOfMemory}
use Rattle.dtab_table.specs.Answers.{IsTable, DtabFaultFits}
use Rattle.dtab_table.proofs.TableLaws.{one_table}
use Rattle.dtab_table.proofs.PrefixSounds.{prefix_patterns}

alone : {s : List ℕ} {vs : List TreeValue} → SpellsTree s vs → TreeText s (one_or_alt vs)
alone {s} {vs} r = subst (λ (x : List ℕ). TreeText x (one_or_alt vs)) (append-nil s)
    (tree_text no_blank r no_blank)

entry_sound : {s : List ℕ} {r : Rule} → SpellsEntry s r → length s ≤ most_members → IsSoundRule r
entry_sound (entry {p = p} {a = a} {b = b} {t = t} x y z k) h =
    let longer = five p a (codes "=>") b t in
    record {
      patterns = prefix_patterns x;
      sound = text_sound (alone k) (omega arith);
      labels =
          text_labels (alone k) (omega arith);
    }

place_sound : {s : List ℕ} {rs : List Rule} → SpellsPlace s rs → length s ≤ most_members
    → AreSoundRules rs
place_sound nothing h = tt
place_sound (filled r) h = (entry_sound r h, tt)

rules-append : (rs qs : List Rule) → AreSoundRules rs → AreSoundRules qs → AreSoundRules (rs ++ qs)
rules-append [] qs h k = k
rules-append (r ∷ rs) qs h k = (h.0, rules-append rs qs h.1 k)

table_sound : {s : List ℕ} {rs : List Rule} → SpellsTable s rs → length s ≤ most_members
    → AreSoundRules rs
table_sound (place r) h = place_sound r h
table_sound (places {s = s} {a = a} {b = b} {t = t} {rs = rs} {qs = qs} r x y k) h =
    let longer = five s a (codes ";") b t in
    rules-append rs qs (place_sound r (omega arith)) (table_sound k (omega arith))

dtab_sound : {s : List ℕ} {rs : List Rule} → DtabText s rs → length s ≤ most_members
    → AreSoundRules rs
dtab_sound (table {a = a} {s = s} {b = b} x r y) h =
    let longer : length (a ++ s ++ b) ≡ length a + length s + length b = simp length-append in
    table_sound r (omega arith)

-- a table that was read is sound
pub sound_table : {X : Type 0} (view : X → List Rule) (text : List ℕ) (read : Result X DtabFault)
    → MatchResult read (λ x. IsTable text (view x)) (DtabFaultFits text)
    → IfOk read (λ x. AreSoundRules (view x))
sound_table view text (Ok x) h = dtab_sound h.value.stands h.value.short
sound_table view text (Err fault) h = tt

pub no_fault : (text : List ℕ) (rules : List Rule) → IsTable text rules → (fault : DtabFault)
    → DtabFaultFits text fault → fault ≡ OutOfMemory
no_fault text rules k (TooLong limit) f = let short = k.value.short in let long = f.long in
    absurd (omega arith)
no_fault text rules k (TooNested at) f = absurd (k.value.flat at f.deep)
no_fault text rules k (Syntax at) f = absurd (f.refused rules k.value.stands)
no_fault text rules k (TooMany count) f =
    let same : length rules ≡ length f.rules =
    ap length (one_table text rules f.rules k.value.stands f.value.stands) in
    let few = k.few in
    let many = f.many in absurd (omega arith)
no_fault text rules k OutOfMemory f = refl

-- the text of a table within the limits is read, where there is memory
pub only : {X : Type 0} (view : X → List Rule) (text : List ℕ) (read : Result X DtabFault)
    → MatchResult read (λ x. IsTable text (view x)) (DtabFaultFits text)
    → (rules : List Rule) → IsTable text rules
    → MatchResult read (λ x. view x ≡ rules) (λ fault. fault ≡ OutOfMemory)
only view text (Ok x) h rules k = one_table text (view x) rules h.value.stands k.value.stands
only view text (Err fault) h rules k = no_fault text rules k fault h
