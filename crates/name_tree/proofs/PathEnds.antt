-- A byte behind a path is read as behind its branch.
use Rattle.std.proofs.Common.{◌≡◌, ℕ, false, Option, Some, None, option_map, ap}
use Rattle.std.proofs.lemmas.Option.{none-some, same_Some}
use Rattle.name_tree.specs.Path.{Labels}
use Rattle.name_tree.specs.Value.{leaf}
use Rattle.name_tree.specs.LabelReading.{is_path_byte}
use Rattle.name_tree.specs.PathReading.{Walk, end_walk}
use Rattle.name_tree.specs.TreeReading.{Place, Mode, State, with_part, behind_branch, behind_path}
use Rattle.name_tree.specs.TreeReading.{next}

ended_path : (p : Place) (w : Option ℕ) (b : ℕ) (o : Option Labels) (q : State)
    → option_map (λ ls. (with_part p w (leaf ls), Mode.behind)) o ≡ Some q
    → behind_path p w b o ≡ behind_branch q.0 b
ended_path p w b None q e = absurd (none-some q e)
ended_path p w b (Some ls) q e = ap (λ (s : State). behind_branch s.0 b) (same_Some _ q e)

pub behind_walk : (p : Place) (w : Option ℕ) (at : Walk) (b : ℕ) (q : State)
    → is_path_byte b ≡ false → option_map (λ ls. (with_part p w (leaf ls), Mode.behind))
    (end_walk at) ≡ Some q
    → next p (Mode.walk w at) b ≡ behind_branch q.0 b
behind_walk p w at b q other e = rw other (ended_path p w b (end_walk at) q e)
