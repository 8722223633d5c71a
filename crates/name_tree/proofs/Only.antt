-- A text that stands for a value within the limits is read, where there is memory.
use Rattle.std.proofs.Common.{◌≡◌, ℕ, arith, List, Result, Ok, Err, refl}
use Rattle.std.specs.Prelude.{MatchResult, IfOk}
use Rattle.name_tree.specs.declared.read.TextFault.{TextFault}
use Rattle.name_tree.specs.declared.read.TextFault.TheVariants.{TooLong, TooNested, Syntax}
use Rattle.name_tree.specs.declared.read.TextFault.TheVariants.{OutOfMemory}
use Rattle.name_tree.specs.Faults.{IsValue}
use Rattle.name_tree.specs.Answers.{FaultFits}
use Rattle.name_tree.specs.Laws.{HasOneValue}
use Rattle.name_tree.specs.Value.{TreeValue}
use Rattle.name_tree.specs.Grammar.{PathText, TreeText}
use Rattle.name_tree.specs.Path.{Labels}
use Rattle.name_tree.specs.Canon.{IsSound, HasLabels, AreByteLabels}
use Rattle.name_tree.proofs.Sounds.{text_sound, text_labels, path_text_labels}

module _ {V : Type 0} (Text : List ℕ → V → Type 0) where
  pub no_fault : (text : List ℕ) (v : V) → IsValue Text text v → (fault : TextFault)
      → FaultFits Text text fault → fault ≡ OutOfMemory
  no_fault text v k (TooLong limit) f = let short = k.short in let long = f.long in
      absurd (omega arith)
  no_fault text v k (TooNested at) f = absurd (k.flat at f.deep)
  no_fault text v k (Syntax at) f = absurd (f.refused v k.stands)
  no_fault text v k OutOfMemory f = refl

  pub only : {X : Type 0} (view : X → V) → HasOneValue Text
      → (text : List ℕ) (read : Result X TextFault)
      → MatchResult read (λ x. IsValue Text text (view x)) (FaultFits Text text)
      → (v : V) → IsValue Text text v → MatchResult read (λ x. view x ≡ v)
      (λ fault. fault ≡ OutOfMemory)
  only view one text (Ok x) h v k = one text (view x) v h.stands k.stands
  only view one text (Err fault) h v k = no_fault text v k fault h

-- a tree that was read is sound
pub sound_tree : {X : Type 0} (view : X → TreeValue) (text : List ℕ) (read : Result X TextFault)
    → MatchResult read (λ x. IsValue TreeText text (view x)) (FaultFits TreeText text)
    → IfOk read (λ x. IsSound (view x) × HasLabels (view x))
sound_tree view text (Ok x) h = (text_sound h.stands h.short, text_labels h.stands h.short)
sound_tree view text (Err fault) h = tt

-- the labels of a path that was read have bytes
pub labelled_path : {X : Type 0} (view : X → Labels) (text : List ℕ) (read : Result X TextFault)
    → MatchResult read (λ x. IsValue PathText text (view x)) (FaultFits PathText text)
    → IfOk read (λ x. AreByteLabels (view x))
labelled_path view text (Ok x) h = path_text_labels h.stands
labelled_path view text (Err fault) h = tt
