-- What the code's types say.
use Rattle.std.specs.Prelude.{slice_index}
use Rattle.dtab_table.specs.Dtab.{rules_of}
use Rattle.bind_core.specs.Outcome.{ending_of}
use Rattle.ns_store.specs.Store.{contents_of}
use Rattle.machine.specs.declared.settings.Settings.{Settings}
use Rattle.machine.specs.declared.change.Change.{Change}
use Rattle.machine.specs.declared.change.Change.TheVariants as change
use Rattle.machine.specs.declared.look.Look.{Look}
use Rattle.machine.specs.declared.look.Look.TheVariants as look
use Rattle.machine.specs.declared.ask.Ask.{Ask}
use Rattle.machine.specs.declared.reply.Reply.{Reply}
use Rattle.machine.specs.declared.reply.Reply.TheVariants as reply
use Rattle.machine.specs.declared.state.State.{State}
use Rattle.machine.specs.declared.ready.Ready.{Ready}
use Rattle.machine.specs.declared.chosen.Chosen.{Chosen}
use Rattle.machine.specs.declared.chosen.Chosen.TheVariants as chosen
use Rattle.machine.specs.Ready.{ReadyValue}
use Rattle.machine.specs.Part.{part_value}
use Rattle.machine.specs.Values.{SettingsValue, StateValue, ChangeValue, create, put, delete}
use Rattle.machine.specs.Values.{set_addrs, drop_service, report, LookValue, get_table, list_names}
use Rattle.machine.specs.Values.{get_addrs, count_all, services_at, view, AskValue, ReplyValue}
use Rattle.machine.specs.Values.{services, version, exists_at, too_many_names, versions_spent}
use Rattle.machine.specs.Values.{missing, stale_at, deleted, set_to, book_full, too_many_services}
use Rattle.machine.specs.Values.{dropped, marked_as, not_kept, history_spent, table, namespaces}
use Rattle.machine.specs.Values.{addrs, counts, viewed, ChosenValue, picked, not_picked}

abbrev pub settings_of : Settings → SettingsValue
settings_of s = record { space = s.space; base = rules_of s.base; limits = s.limits }

abbrev pub change_of : Change → ChangeValue
change_of (change.Create name dtab) = create name (rules_of dtab)
change_of (change.Put name expected dtab) = put name expected (rules_of dtab)
change_of (change.Delete name expected) = delete name expected
change_of (change.SetAddrs service list) = set_addrs service list
change_of (change.DropService service) = drop_service service
change_of (change.Report addr good moment) = report addr good moment

abbrev pub look_value : Look → LookValue
look_value (look.Get name) = get_table name
look_value look.List = list_names
look_value (look.Addrs service) = get_addrs service
look_value look.Counts = count_all
look_value (look.Services moment) = services_at moment
look_value (look.View path local) = view path (rules_of local)

abbrev pub ask_of : Ask → AskValue
ask_of ask =
    record {
      path = ask.path;
      own = rules_of ask.local;
      moment = ask.moment;
      branch_word = slice_index ask.words 0;
      first_draw = slice_index ask.words 1;
      second_draw = slice_index ask.words 2;
    }

abbrev pub reply_value : Reply → ReplyValue
reply_value (reply.Version n) = version n
reply_value (reply.Exists n) = exists_at n
reply_value reply.TooManyNames = too_many_names
reply_value reply.VersionsSpent = versions_spent
reply_value reply.Missing = missing
reply_value (reply.Stale n) = stale_at n
reply_value reply.Deleted = deleted
reply_value (reply.Set n) = set_to n
reply_value (reply.BookFull n) = book_full n
reply_value reply.TooManyServices = too_many_services
reply_value reply.Dropped = dropped
reply_value (reply.Marked mark) = marked_as mark
reply_value reply.NotKept = not_kept
reply_value reply.HistorySpent = history_spent
reply_value (reply.Table n dtab) = table n (rules_of dtab)
reply_value (reply.Names names) = namespaces names
reply_value (reply.Addrs list) = addrs list
reply_value (reply.Counts changes marks spaces served) = counts changes marks spaces served
reply_value (reply.Services changes marks spaces tables_written served) =
    services changes marks spaces tables_written served.items
reply_value (reply.Viewed outcome trace) = viewed (ending_of outcome) trace

abbrev pub chosen_value : Chosen → ChosenValue
chosen_value (chosen.Picked addr client residual) = picked addr client residual
chosen_value (chosen.None why) = not_picked why

abbrev pub state_of : State → StateValue
state_of s = record { store = contents_of s.store; book = s.book; marks = s.marks; place = s.place }

abbrev pub ready_of : Ready → ReadyValue
ready_of ready = record { part = part_value ready.part; place = ready.place }
