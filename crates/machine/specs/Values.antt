-- What is asked of a state and what it answers, as values.
use Rattle.std.specs.Prelude.{ℕ, Bool, List, Option}
use Rattle.name_tree.specs.Path.{Labels}
use Rattle.dtab_table.specs.Rules.{Rule}
use Rattle.addr_book.specs.declared.addr.Addr.{Addr}
use Rattle.addr_book.specs.declared.addr.Weighted.{Weighted}
use Rattle.addr_book.specs.Book.{Contents as Book}
use Rattle.ns_store.specs.Contents.{Contents as Store}
use Rattle.choose_core.specs.declared.mark.Limits.{Limits}
use Rattle.choose_core.specs.declared.mark.Mark.{Mark}
use Rattle.choose_core.specs.Marks.{MarkMap}
use Rattle.bind_core.specs.Delegation.{Ending}
use Rattle.bind_core.specs.declared.trace.TraceItem.{TraceItem}
use Rattle.machine.specs.declared.chosen.Why.{Why}
use Rattle.machine.specs.declared.reply.ServiceState.{ServiceState}

-- what a router is set up with: the namespace whose table comes first, the configured table, and
-- when a replica is left out
pub record SettingsValue : Type 0 where
  pub space : List ℕ
  pub base : List Rule
  pub limits : Limits

-- what a state has: its namespaces, its services, the marks of their addresses, and how many
-- changes it has accepted
pub record StateValue : Type 0 where
  pub store : Store
  pub book : Book
  pub marks : MarkMap
  pub place : ℕ

-- a change that is asked for
pub data ChangeValue : Type 0 where
  -- a new namespace with this table
  create : List ℕ → List Rule → ChangeValue
  -- another table for a namespace, which has this version, if one is said
  put : List ℕ → Option ℕ → List Rule → ChangeValue
  -- no such namespace any more, which has this version, if one is said
  delete : List ℕ → Option ℕ → ChangeValue
  -- these addresses for a service
  set_addrs : List ℕ → List Weighted → ChangeValue
  -- no such service any more
  drop_service : List ℕ → ChangeValue
  -- an address answered well, or not, at this moment
  report : Addr → Bool → ℕ → ChangeValue

-- a question that alters nothing
pub data LookValue : Type 0 where
  get_table : List ℕ → LookValue
  list_names : LookValue
  get_addrs : List ℕ → LookValue
  count_all : LookValue
  -- at this moment
  services_at : ℕ → LookValue
  view : Labels → List Rule → LookValue

-- a path to pick a replica for, with the request's own table, at this moment, with three words of
-- 64 bits
pub record AskValue : Type 0 where
  pub path : Labels
  pub own : List Rule
  pub moment : ℕ
  pub branch_word : ℕ
  pub first_draw : ℕ
  pub second_draw : ℕ

-- the answer to a change or a look
pub data ReplyValue : Type 0 where
  version : ℕ → ReplyValue
  exists_at : ℕ → ReplyValue
  too_many_names : ReplyValue
  versions_spent : ReplyValue
  missing : ReplyValue
  stale_at : ℕ → ReplyValue
  deleted : ReplyValue
  set_to : ℕ → ReplyValue
  book_full : ℕ → ReplyValue
  too_many_services : ReplyValue
  dropped : ReplyValue
  marked_as : Mark → ReplyValue
  not_kept : ReplyValue
  history_spent : ReplyValue
  table : ℕ → List Rule → ReplyValue
  namespaces : List (List ℕ) → ReplyValue
  addrs : List Weighted → ReplyValue
  -- how many changes were accepted, how many addresses have a mark, how many namespaces and
  -- services there are
  counts : ℕ → ℕ → ℕ → ℕ → ReplyValue
  -- how many changes were accepted, how many addresses have a mark, how many namespaces there are,
  -- and how many tables were written; and the services, one by one
  services : ℕ → ℕ → ℕ → ℕ → List ServiceState → ReplyValue
  viewed : Ending → List TraceItem → ReplyValue

-- a replica that is picked: its address, its slot where it is one of a service, the labels that
-- named its cluster and those behind
pub record Replica : Type 0 where
  pub addr : Addr
  pub slot : Option ℕ
  pub client : Labels
  pub residual : Labels

-- the answer to a pick
pub data PickValue : Type 0 where
  replica : Replica → PickValue
  none : Why → PickValue

-- the answer to a pick that leaves the slot out
pub data ChosenValue : Type 0 where
  picked : Addr → Labels → Labels → ChosenValue
  not_picked : Why → ChosenValue
