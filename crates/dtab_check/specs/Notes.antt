-- What else the text of a table shows to people who read it.
use Rattle.std.specs.Prelude.{ℕ, ◌+◌, Bool, true, false, ◌&&◌, ◌||◌, ◌==◌, if◌then◌else◌, codes}
use Rattle.std.specs.Prelude.{List, [], ◌∷◌, ◌++◌, map, Option, Some, None}
use Rattle.std.specs.Option.{option_or}
use Rattle.std.specs.Str.{bytes_eq}
use Rattle.name_tree.specs.declared.tree.Branch.{Branch}
use Rattle.name_tree.specs.Path.{Labels}
use Rattle.name_tree.specs.Tree.{value_of}
use Rattle.name_tree.specs.Value.{TreeValue, leaf, neg, fail, empty, alt, union}
use Rattle.name_tree.specs.Value.{TreeValues, none, more, Branches, no_branch, branch}
use Rattle.dtab_table.specs.Rules.{Rule}
use Rattle.dtab_table.specs.TableCanon.{canon_rule}
use Rattle.dtab_check.specs.declared.note_list.Note.{Note}
use Rattle.dtab_check.specs.declared.note_list.Remark.{Remark}
use Rattle.dtab_check.specs.declared.note_list.Remark.TheVariants.{LeadsToServices}
use Rattle.dtab_check.specs.declared.note_list.Remark.TheVariants.{HasIdleBranch, IsRepeatedAt}
use Rattle.dtab_check.specs.Live.{leaves_in, some_leaf}

-- whether a path leads to services of the folder: it is `/#/io.l5d.fs`, or begins so
abbrev pub leads_to_services : Labels → Bool
leads_to_services (hash ∷ fs ∷ rest) = bytes_eq hash (codes "#") && bytes_eq fs (codes "io.l5d.fs")
leads_to_services _ = false

abbrev mutual
  -- whether a tree has a branch of weight 0
  pub has_idle : TreeValue → Bool
  has_idle (leaf path) = false
  has_idle neg = false
  has_idle fail = false
  has_idle empty = false
  has_idle (alt ts) = some_has_idle ts
  has_idle (union bs) = some_is_idle bs

  pub some_has_idle : TreeValues → Bool
  some_has_idle none = false
  some_has_idle (more t ts) = has_idle t || some_has_idle ts

  pub some_is_idle : Branches → Bool
  some_is_idle no_branch = false
  some_is_idle (branch n t bs) = (if n == 0 then true else has_idle t) || some_is_idle bs

-- the same of a branch of the code
abbrev pub branch_is_idle : Branch → Bool
branch_is_idle b = if b.weight == 0 then true else has_idle (value_of b.tree)

-- the position of the last of some texts that is the same as another, where the first of them has
-- this position
abbrev pub last_same : ℕ → List (List ℕ) → List ℕ → Option ℕ
last_same at [] text = None
last_same at (t ∷ ts) text =
    option_or (last_same (at + 1) ts text) (if bytes_eq t text then Some at else None)

-- a remark on the entry at a position, where it holds
abbrev pub noted : ℕ → Remark → Bool → List Note
noted at remark holds = if holds then record { entry = at; remark = remark } ∷ [] else []

-- that an entry is the same as a later one, where there is one
abbrev pub noted_same : ℕ → Option ℕ → List Note
noted_same at None = []
noted_same at (Some to) = noted at (IsRepeatedAt to) true

-- the notes on the entry at a position, by its tree and by the last later entry that is the same
abbrev pub notes_at : ℕ → TreeValue → Option ℕ → List Note
notes_at at tree same =
    noted at LeadsToServices (some_leaf leads_to_services (leaves_in tree)) ++
    (noted at HasIdleBranch (has_idle tree) ++ noted_same at same)

-- the notes on some entries, where the first has this position
abbrev pub notes_from : ℕ → List Rule → List Note
notes_from at [] = []
notes_from at (r ∷ rs) =
    notes_at at r.tree (last_same (at + 1) (map canon_rule rs) (canon_rule r)) ++
    notes_from (at + 1) rs

-- the notes on a table
abbrev pub notes_in : List Rule → List Note
notes_in rules = notes_from 0 rules
