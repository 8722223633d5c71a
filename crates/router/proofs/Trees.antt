-- Trees, tables of rules, and what paths come to may go to other threads, and be shared by them.
-- Trees and bound branches lead back to themselves: each layer of them is shown so
-- where what lies in it is.
use denote.Param.Send.{IsSend, IsSync, sendable, view_send, view_sync}
use denote.Param.SendFields.{as_row_send, as_row_sync, declared_send, declared_sync, variants_send}
use denote.Param.SendFields.{variants_sync}
use denote.Hole.FixSend.{Sends, Syncs, fix_send, fix_sync}
use Rattle.std.proofs.Crossing.{crosses}
use Rattle.name_tree.specs.contracts.tree.Tree as Tree
use Rattle.name_tree.specs.contracts.tree.Trees as Trees
use Rattle.name_tree.specs.contracts.tree.Branches as Branches
use Rattle.name_tree.specs.contracts.tree.Tree.TheKnot as tree
use Rattle.name_tree.specs.declared.tree.Tree.TheBlock.{the_members, member-Tree, member-Trees}
use Rattle.name_tree.specs.declared.tree.Tree.TheBlock.{member-Branch, member-Branches}
use Rattle.name_tree.proofs.path.Path.TheSendSync as path
use Rattle.addr_book.specs.contracts.bound.Bound as Bound
use Rattle.addr_book.specs.contracts.bound.BoundList as BoundList
use Rattle.addr_book.specs.contracts.bound.Bound.TheKnot as bound
use Rattle.addr_book.specs.declared.bound.Bound.TheBlock.{the_members as bound_members}
use Rattle.addr_book.specs.declared.bound.Bound.TheBlock.{member-Bound, member-BoundItem}
use Rattle.addr_book.specs.declared.bound.Bound.TheBlock.{member-BoundList}
use Rattle.addr_book.proofs.leaf.Leaf.TheSendSync as leaf
use Rattle.dtab_table.below.dtab_index.proofs.column.Column.TheSendSync as column
use Rattle.dtab_table.below.dtab_index.specs.contracts.index.Index as Index
use Rattle.dtab_table.below.dtab_index.specs.contracts.index.Index.TheInside as IndexInside
use Rattle.dtab_table.below.dtab_index.specs.contracts.part.Part as IndexPart
use Rattle.dtab_table.below.dtab_index.specs.contracts.part.Entry as IndexEntry
use Rattle.dtab_table.specs.contracts.dtab.Dtab as Dtab
use Rattle.dtab_table.specs.contracts.entry.Entry as Entry
use Rattle.dtab_table.specs.contracts.parts.Parts as Parts
use Rattle.dtab_table.specs.contracts.parts.Parts.TheInside as Inside
use Rattle.dtab_table.proofs.prefix.Prefix.TheSendSync as prefix
use Rattle.bind_core.specs.contracts.outcome.Outcome as Outcome

-- ---- trees
tree_sends : (i : the_members) → Sends tree.ring i
tree_sends member-Tree =
    record {
      send = λ h s. variants_send (tree.type-Tree (h member-Trees) (h member-Branches))
          (search (tt, as_row_send, path.the_send, sendable, crosses) depth 40);
    }
tree_sends member-Trees =
    record {
      send = λ h s. declared_send (tree.type-Trees (h member-Tree))
          (search (tt, as_row_send, sendable, crosses) depth 40);
    }
tree_sends member-Branch =
    record {
      send = λ h s. declared_send (tree.type-Branch (h member-Tree))
          (search (tt, as_row_send, sendable, crosses) depth 40);
    }
tree_sends member-Branches = record {
  send = λ h s. declared_send (tree.type-Branches (h member-Branch))
      (search (tt, as_row_send, sendable, crosses) depth 40);
}

tree_syncs : (i : the_members) → Syncs tree.ring i
tree_syncs member-Tree =
    record {
      sync = λ h s. variants_sync (tree.type-Tree (h member-Trees) (h member-Branches))
          (search (tt, as_row_sync, path.the_sync, sendable, crosses) depth 40);
    }
tree_syncs member-Trees =
    record {
      sync = λ h s. declared_sync (tree.type-Trees (h member-Tree))
          (search (tt, as_row_sync, sendable, crosses) depth 40);
    }
tree_syncs member-Branch =
    record {
      sync = λ h s. declared_sync (tree.type-Branch (h member-Tree))
          (search (tt, as_row_sync, sendable, crosses) depth 40);
    }
tree_syncs member-Branches = record {
  sync = λ h s. declared_sync (tree.type-Branches (h member-Branch))
      (search (tt, as_row_sync, sendable, crosses) depth 40);
}

inner_tree_send : IsSend tree.hole-Tree
inner_tree_send = fix_send tree.ring tree_sends member-Tree

inner_tree_sync : IsSync tree.hole-Tree
inner_tree_sync = fix_sync tree.ring tree_syncs member-Tree

inner_branch_send : IsSend tree.hole-Branch
inner_branch_send = fix_send tree.ring tree_sends member-Branch

inner_branch_sync : IsSync tree.hole-Branch
inner_branch_sync = fix_sync tree.ring tree_syncs member-Branch

trees_send : IsSend Trees.the_row
trees_send = declared_send Trees.the_type
    (search (as_row_send, inner_tree_send, crosses, sendable) depth 40)

trees_sync : IsSync Trees.the_row
trees_sync = declared_sync Trees.the_type
    (search (as_row_sync, inner_tree_sync, crosses, sendable) depth 40)

branches_send : IsSend Branches.the_row
branches_send = declared_send Branches.the_type
    (search (as_row_send, inner_branch_send, crosses, sendable) depth 40)

branches_sync : IsSync Branches.the_row
branches_sync = declared_sync Branches.the_type
    (search (as_row_sync, inner_branch_sync, crosses, sendable) depth 40)

tree_send : IsSend Tree.the_row
tree_send = variants_send Tree.enum (
  (search (as_row_send, path.the_send, sendable), tt),
  (tt, (tt, (tt, ((trees_send, tt), ((branches_send, tt), tt))))),
)

tree_sync : IsSync Tree.the_row
tree_sync = variants_sync Tree.enum (
  (search (as_row_sync, path.the_sync, sendable), tt),
  (tt, (tt, (tt, ((trees_sync, tt), ((branches_sync, tt), tt))))),
)

-- ---- indexes
index_entry_send : IsSend IndexEntry.the_row
index_entry_send =
    declared_send IndexEntry.the_type
    (search (crosses, sendable) depth 40, (search sendable, tt))

index_entry_sync : IsSync IndexEntry.the_row
index_entry_sync =
    declared_sync IndexEntry.the_type
    (search (crosses, sendable) depth 40, (search sendable, tt))

index_part_send : IsSend IndexPart.the_row
index_part_send =
    declared_send IndexPart.the_type (
      search (as_row_send, index_entry_send, crosses, sendable) depth 40,
      (search (as_row_send, column.the_send, crosses) depth 40, tt),
    )

index_part_sync : IsSync IndexPart.the_row
index_part_sync =
    declared_sync IndexPart.the_type (
      search (as_row_sync, index_entry_sync, crosses, sendable) depth 40,
      (search (as_row_sync, column.the_sync, crosses) depth 40, tt),
    )

index_send : IsSend Index.the_row
index_send = view_send IndexInside.the_row _ _ _ _
    (declared_send IndexInside.the_type
    (search (as_row_send, index_part_send, crosses) depth 40, tt))

index_sync : IsSync Index.the_row
index_sync = view_sync IndexInside.the_row _ _ _ _
    (declared_sync IndexInside.the_type
    (search (as_row_sync, index_part_sync, crosses) depth 40, tt))

-- ---- tables
entry_send : IsSend Entry.the_row
entry_send = declared_send Entry.the_type (prefix.the_send, (tree_send, tt))

entry_sync : IsSync Entry.the_row
entry_sync = declared_sync Entry.the_type (prefix.the_sync, (tree_sync, tt))

parts_send : IsSend Parts.the_row
parts_send = view_send Inside.the_row _ _ _ _
    (declared_send Inside.the_type (
      search (as_row_send, entry_send, crosses) depth 40,
      (search (as_row_send, tree_send, crosses, sendable) depth 40, (index_send, tt)),
    ))

parts_sync : IsSync Parts.the_row
parts_sync = view_sync Inside.the_row _ _ _ _
    (declared_sync Inside.the_type (
      search (as_row_sync, entry_sync, crosses) depth 40,
      (search (as_row_sync, tree_sync, crosses, sendable) depth 40, (index_sync, tt)),
    ))

pub dtab_send : IsSend Dtab.the_row
dtab_send = declared_send Dtab.the_type
    (search (as_row_send, parts_send, parts_sync, crosses, sendable) depth 40, tt)

pub dtab_sync : IsSync Dtab.the_row
dtab_sync = declared_sync Dtab.the_type
    (search (as_row_sync, parts_send, parts_sync, crosses, sendable) depth 40, tt)

-- ---- outcomes
bound_sends : (i : bound_members) → Sends bound.ring i
bound_sends member-Bound =
    record {
      send = λ h s. variants_send (bound.type-Bound (h member-BoundList))
          (search (tt, as_row_send, leaf.the_send, sendable, crosses) depth 40);
    }
bound_sends member-BoundItem = record {
  send = λ h s. declared_send (bound.type-BoundItem (h member-Bound))
      (search (tt, as_row_send, sendable, crosses) depth 40);
}
bound_sends member-BoundList = record {
  send = λ h s. declared_send (bound.type-BoundList (h member-BoundItem))
      (search (tt, as_row_send, sendable, crosses) depth 40);
}

bound_syncs : (i : bound_members) → Syncs bound.ring i
bound_syncs member-Bound =
    record {
      sync = λ h s. variants_sync (bound.type-Bound (h member-BoundList))
          (search (tt, as_row_sync, leaf.the_sync, sendable, crosses) depth 40);
    }
bound_syncs member-BoundItem = record {
  sync = λ h s. declared_sync (bound.type-BoundItem (h member-Bound))
      (search (tt, as_row_sync, sendable, crosses) depth 40);
}
bound_syncs member-BoundList = record {
  sync = λ h s. declared_sync (bound.type-BoundList (h member-BoundItem))
      (search (tt, as_row_sync, sendable, crosses) depth 40);
}

inner_item_send : IsSend bound.hole-BoundItem
inner_item_send = fix_send bound.ring bound_sends member-BoundItem

inner_item_sync : IsSync bound.hole-BoundItem
inner_item_sync = fix_sync bound.ring bound_syncs member-BoundItem

list_send : IsSend BoundList.the_row
list_send = declared_send BoundList.the_type
    (search (as_row_send, inner_item_send, crosses, sendable) depth 40)

list_sync : IsSync BoundList.the_row
list_sync = declared_sync BoundList.the_type
    (search (as_row_sync, inner_item_sync, crosses, sendable) depth 40)

bound_send : IsSend Bound.the_row
bound_send = variants_send Bound.enum ((leaf.the_send, tt), ((list_send, tt), tt))

bound_sync : IsSync Bound.the_row
bound_sync = variants_sync Bound.enum ((leaf.the_sync, tt), ((list_sync, tt), tt))

pub outcome_send : IsSend Outcome.the_row
outcome_send = variants_send Outcome.enum (tt, (tt, (tt, (tt, (tt, ((bound_send, tt), tt))))))

pub outcome_sync : IsSync Outcome.the_row
outcome_sync = variants_sync Outcome.enum (tt, (tt, (tt, (tt, (tt, ((bound_sync, tt), tt))))))
