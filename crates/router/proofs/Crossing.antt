-- A router may be shared by threads, and its passes may go to other threads.
use denote.RattleType.{RattleType}
use denote.Param.Send.{IsSend, IsSync, sendable}
use denote.Param.SendFields.{as_row_send, as_row_sync, declared_send, declared_sync, variants_send}
use Rattle.std.proofs.Crossing.{crosses}
use Rattle.std.proofs.sync.ledger.Book.TheSendSync as ledger_book
use Rattle.std.proofs.sync.ledger.Share.TheSendSync as share
use Rattle.std.specs.declared.sync.ledger.Ledger as ledger
use Rattle.bind_cache.below.circular_buffer.proofs.cells.Cells.TheSendSync as cells
use Rattle.bind_cache.below.circular_buffer.proofs.cells.Deed.TheSendSync as deed
use Rattle.name_tree.proofs.path.Path.TheSendSync as path
use Rattle.addr_book.proofs.name.Name.TheSendSync as name
use Rattle.addr_book.proofs.addr.Addr.TheSendSync as addr
use Rattle.addr_book.proofs.addr_list.AddrList.TheSendSync as addr_list
use Rattle.addr_book.proofs.book.Book.TheSendSync as book
use Rattle.addr_book.proofs.book.ReadyBook.TheSendSync as ready_book
use Rattle.ns_store.specs.contracts.namespace.Namespace as Namespace
use Rattle.ns_store.specs.contracts.spaces.Spaces as Spaces
use Rattle.ns_store.specs.contracts.store.Store as Store
use Rattle.ns_store.specs.contracts.store.ReadyStore as ReadyStore
use Rattle.choose_core.proofs.marks.Marks.TheSendSync as marks
use Rattle.choose_core.proofs.mark.Limits.TheSendSync as limits
use Rattle.bind_core.proofs.trace.PathList.TheSendSync as paths
use Rattle.bind_cache.specs.contracts.binding.Binding as Binding
use Rattle.bind_cache.specs.contracts.cache.Cache as Cache
use Rattle.bind_cache.proofs.chains.Chains.TheSendSync as chains
use Rattle.machine.specs.contracts.change.Change as Change
use Rattle.machine.specs.contracts.part.Part as Part
use Rattle.machine.specs.contracts.ready.Ready as Ready
use Rattle.machine.specs.contracts.settings.Settings as Settings
use Rattle.machine.specs.contracts.state.State as State
use Rattle.machine.proofs.part.Report.TheSendSync as report
use Rattle.snap_cell.proofs.Crossing.{cell_handles}
use Rattle.load_words.proofs.Crossing.{loads_sync, load_seat_send}
use Rattle.router.specs.contracts.current.Current as Current
use Rattle.router.specs.contracts.desk.Desk as Desk
use Rattle.router.specs.contracts.pass.Pass as Pass
use Rattle.router.specs.contracts.router.Router as Router
use Rattle.router.specs.contracts.ticket.Ticket as Ticket
use Rattle.router.specs.contracts.update.Update as Update
use Rattle.router.specs.declared.naming.Naming as naming
use Rattle.router.proofs.Trees.{dtab_send, dtab_sync, outcome_send, outcome_sync}

-- ---- the state
space_send : IsSend Namespace.the_row
space_send = declared_send Namespace.the_type (
  name.the_send,
  (
    search sendable,
    (search (as_row_send, dtab_send, dtab_sync, crosses, sendable) depth 40, tt),
  ),
)

space_sync : IsSync Namespace.the_row
space_sync = declared_sync Namespace.the_type (
  name.the_sync,
  (
    search sendable,
    (search (as_row_sync, dtab_send, dtab_sync, crosses, sendable) depth 40, tt),
  ),
)

spaces_send : IsSend Spaces.the_row
spaces_send = declared_send Spaces.the_type (search (as_row_send, space_send, crosses) depth 40, tt)

spaces_sync : IsSync Spaces.the_row
spaces_sync = declared_sync Spaces.the_type (search (as_row_sync, space_sync, crosses) depth 40, tt)

store_send : IsSend Store.the_row
store_send = declared_send Store.the_type
    (search (as_row_send, spaces_send, spaces_sync, crosses) depth 40, (search sendable, tt))

store_sync : IsSync Store.the_row
store_sync = declared_sync Store.the_type
    (search (as_row_sync, spaces_send, spaces_sync, crosses) depth 40, (search sendable, tt))

state_send : IsSend State.the_row
state_send = declared_send State.the_type
    (store_send, (book.the_send, (marks.the_send, (search sendable, tt))))

state_sync : IsSync State.the_row
state_sync = declared_sync State.the_type
    (store_sync, (book.the_sync, (marks.the_sync, (search sendable, tt))))

settings_send : IsSend Settings.the_row
settings_send = declared_send Settings.the_type (name.the_send, (dtab_send, (limits.the_send, tt)))

settings_sync : IsSync Settings.the_row
settings_sync = declared_sync Settings.the_type (name.the_sync, (dtab_sync, (limits.the_sync, tt)))

-- ---- what is published
part_send : IsSend Part.the_row
part_send = variants_send Part.enum (
  (declared_send ReadyStore.the_type (store_send, tt), tt),
  ((ready_book.the_send, tt), ((report.the_send, tt), tt)),
)

ready_send : IsSend Ready.the_row
ready_send = declared_send Ready.the_type (part_send, (search sendable, tt))

change_send : IsSend Change.the_row
change_send = variants_send Change.enum (
  (name.the_send, (dtab_send, tt)),
  (
    (name.the_send, (search (as_row_send, sendable, crosses) depth 40, (dtab_send, tt))),
    (
      (name.the_send, (search (as_row_send, sendable, crosses) depth 40, tt)),
      (
        (name.the_send, (addr_list.the_send, tt)),
        (
          (name.the_send, tt),
          (
            (addr.the_send, (search sendable, (search sendable, tt))),
            tt,
          ),
        ),
      ),
    ),
  ),
)

binding_send : IsSend Binding.the_row
binding_send = declared_send Binding.the_type (
  path.the_send,
  (
    dtab_send,
    (
      outcome_send,
      (
        paths.the_send,
        (search sendable, (search sendable, (search sendable, (search sendable, tt)))),
      ),
    ),
  ),
)

binding_sync : IsSync Binding.the_row
binding_sync = declared_sync Binding.the_type (
  path.the_sync,
  (
    dtab_sync,
    (
      outcome_sync,
      (
        paths.the_sync,
        (search sendable, (search sendable, (search sendable, (search sendable, tt)))),
      ),
    ),
  ),
)

update_send : IsSend Update.the_row
update_send = variants_send Update.enum (
  (search sendable, (search sendable, (change_send, (ready_send, tt)))),
  (
    (
      search sendable,
      (
        search sendable,
        (search (as_row_send, binding_send, binding_sync, crosses) depth 40, tt),
      ),
    ),
    tt,
  ),
)

-- ---- the value
cache_send : IsSend Cache.the_row
cache_send = declared_send Cache.the_type (
  search (
    as_row_send,
    binding_send,
    binding_sync,
    cells.the_send,
    deed.the_send,
    crosses,
    sendable,
  ) depth 40,
  (chains.the_send, tt),
)

cache_sync : IsSync Cache.the_row
cache_sync = declared_sync Cache.the_type (
  search (
    as_row_sync,
    binding_send,
    binding_sync,
    cells.the_sync,
    deed.the_sync,
    crosses,
    sendable,
  ) depth 40,
  (chains.the_sync, tt),
)

current_send : IsSend Current.the_row
current_send = declared_send Current.the_type (
  search (as_row_send, settings_send, settings_sync, crosses) depth 40,
  (dtab_send, (state_send, (cache_send, (search (crosses, sendable) depth 40, tt)))),
)

current_sync : IsSync Current.the_row
current_sync = declared_sync Current.the_type (
  search (as_row_sync, settings_send, settings_sync, crosses) depth 40,
  (dtab_sync, (state_sync, (cache_sync, (search (crosses, sendable) depth 40, tt)))),
)

-- ---- the router and its passes
module _ (T : RattleType) (n : naming.Ghosts T.Denot) (l : ledger.Ghosts T.Denot)
    (s : IsSend T) where
  desk_field : IsSend (Desk.the_field T n l).row
  desk_field = search (
    sendable,
    crosses,
    current_send,
    current_sync,
    update_send,
    cell_handles,
    ledger_book.the_send,
    share.the_send,
  ) depth 40

  pub desk_send : IsSend (Desk.the_row T n l)
  desk_send = as_row_send (Desk.the_field T n l) desk_field

  pub router_sync : IsSync (Router.the_row T n l)
  router_sync = declared_sync (Router.the_type T n l)
      (search (as_row_sync, desk_send, crosses) depth 40, (loads_sync, (search sendable, tt)))

  pub pass_send : IsSend (Pass.the_row T n l)
  pass_send = declared_send (Pass.the_type T n l) (
    search (as_row_send, cell_handles, current_send, current_sync) depth 40,
    (
      load_seat_send,
      (
        search (share.the_send, sendable) depth 40,
        (search sendable, (search sendable, (search sendable, tt))),
      ),
    ),
  )

  pub ticket_send : IsSend (Ticket.the_row T n l)
  ticket_send = declared_send (Ticket.the_type T n l) (
    search (as_row_send, cell_handles, update_send) depth 40,
    (search sendable, (search (sendable, crosses) depth 40, tt)),
  )
