use Rattle.std.proofs.Common.{◌≡◌, ◌≤◌, length, map, drop, Bool, None}
use Rattle.name_tree.specs.Value.{TreeValue}
use Rattle.name_tree.specs.Tree.{value_of}
use Rattle.dtab_table.specs.Rules.{rule_of}
use Rattle.dtab_check.specs.Hidden.{last_cover}
use Rattle.dtab_check.proofs.search.find_last_cover.Given as goal

abbrev pub invariant-loop-at : goal.invariant-loop-at
invariant-loop-at l = record {
  none : (is_sure : TreeValue → Bool) → l.sure ≡ map (λ e. is_sure (value_of e.tree)) l.entries
      → last_cover is_sure l.at (drop l.at (map rule_of l.entries)) l.prefix ≡ None;
  above : l.from ≤ l.at;
  within : l.at ≤ length l.entries;
}

abbrev pub decreases-loop-at : goal.decreases-loop-at
decreases-loop-at l = l.at
