-- What a line of a script says.
use Rattle.std.specs.Prelude.{ℕ, Bool, true, false, if◌then◌else◌, List, [], ◌∷◌, Option, Some}
use Rattle.std.specs.Prelude.{None, option_map}
use Rattle.std.specs.Option.{option_and_then}
use Rattle.text_parts.specs.Numbers.{number_of}
use Rattle.text_parts.specs.Words.{behind_word, drop_gaps, is_empty, single_word, word_of}
use Rattle.name_tree.specs.Path.{Labels}
use Rattle.name_tree.specs.Computed.{path_of}
use Rattle.dtab_table.specs.Rules.{Rule}
use Rattle.dtab_table.specs.Computed.{table_of}
use Rattle.addr_book.specs.declared.addr.Addr.{Addr}
use Rattle.addr_book.specs.declared.addr.Weighted.{Weighted}
use Rattle.addr_book.specs.Name.{name_of}
use Rattle.machine.specs.Values.{ChangeValue, create, put, delete, set_addrs, drop_service, report}
use Rattle.machine.specs.Values.{LookValue, get_table, list_names, view, AskValue}
use Rattle.script.specs.declared.command.Command.{Command}
use Rattle.script.specs.declared.command.Command.TheVariants as command
use Rattle.script.specs.declared.line.Numbers.{Numbers}
use Rattle.script.specs.Command.{command_of}
use Rattle.script.specs.Words.{addr_in, behind, drop_blanks, list_in, version_of, words_of}

pub data LineValue : Type 0 where
  -- nothing
  blank : LineValue
  -- this is the table of the namespace `default` from now on
  table : List Rule → LineValue
  -- a change
  change : ChangeValue → LineValue
  -- a question
  look : LookValue → LineValue
  -- a pick
  ask : AskValue → LineValue
  -- it is outside the grammar
  bad : LineValue

-- the line of a value, and `bad` where there is none
abbrev pub line_or_bad : {X : Type 0} → (X → LineValue) → Option X → LineValue
line_or_bad line None = bad
line_or_bad line (Some x) = line x

-- ---- lines of several values, each of which must be there
abbrev pub create_line : Option (List ℕ) → Option (List Rule) → LineValue
create_line (Some name) (Some rules) = change (create name rules)
create_line _ _ = bad

abbrev pub put_line : Option (List ℕ) → Option (Option ℕ) → Option (List Rule) → LineValue
put_line (Some name) (Some version) (Some rules) = change (put name version rules)
put_line _ _ _ = bad

abbrev pub delete_line : Option (List ℕ) → Option (Option ℕ) → LineValue
delete_line (Some name) (Some version) = change (delete name version)
delete_line _ _ = bad

abbrev pub addrs_line : Option (List ℕ) → Option (List Weighted) → LineValue
addrs_line (Some service) (Some list) = change (set_addrs service list)
addrs_line _ _ = bad

abbrev pub report_line : Bool → Option Addr → Option ℕ → LineValue
report_line good (Some addr) (Some moment) = change (report addr good moment)
report_line good _ _ = bad

-- the moment and the three words of a pick
abbrev pub numbers_of : Option ℕ → Option ℕ → Option ℕ → Option ℕ → Option Numbers
numbers_of (Some moment) (Some branch) (Some first) (Some second) =
    Some (record { moment = moment; branch = branch; first = first; second = second })
numbers_of _ _ _ _ = None

abbrev pub ask_line : Option Labels → Option Numbers → Option (List Rule) → LineValue
ask_line (Some path) (Some n) (Some rules) =
    ask (record {
      path = path;
      own = rules;
      moment = n.moment;
      branch_word = n.branch;
      first_draw = n.first;
      second_draw = n.second;
    })
ask_line _ _ _ = bad

-- ---- what follows a command, from the gap behind it on
-- NAME TABLE
abbrev pub create_in : List ℕ → LineValue
create_in rest =
    let text = drop_gaps rest in
    create_line (name_of (word_of text)) (table_of (behind text))

-- NAME VERSION TABLE
abbrev pub put_in : List ℕ → LineValue
put_in rest =
    let text = drop_gaps rest in
    let version = behind text in
    put_line (name_of (word_of text)) (version_of (word_of version)) (table_of (behind version))

-- NAME VERSION
abbrev pub delete_in : List ℕ → LineValue
delete_in rest =
    let text = drop_gaps rest in
    delete_line (name_of (word_of text))
    (option_and_then version_of (single_word (behind_word text)))

-- NAME and any number of addresses
abbrev pub addrs_in_line : List ℕ → LineValue
addrs_in_line rest =
    let text = drop_gaps rest in
    addrs_line (name_of (word_of text)) (list_in (words_of (behind_word text)))

-- ADDRESS MOMENT
abbrev pub report_in : Bool → List ℕ → LineValue
report_in good rest =
    let text = drop_gaps rest in
    report_line good (addr_in (word_of text))
    (option_and_then number_of (single_word (behind_word text)))

-- PATH, MOMENT, three words and TABLE
abbrev pub long_pick_in : List ℕ → LineValue
long_pick_in text =
    let moment = behind text in
    let branch = behind moment in
    let first = behind branch in
    let second = behind first in
    ask_line (path_of (word_of text))
    (numbers_of (number_of (word_of moment)) (number_of (word_of branch))
    (number_of (word_of first)) (number_of (word_of second))) (table_of (behind second))

-- a pick of a path at the moment 0, with the words 0 and no table of its own
abbrev pub plain_ask : Labels → AskValue
plain_ask path =
    record { path = path; own = []; moment = 0; branch_word = 0; first_draw = 0; second_draw = 0 }

-- PATH alone, or the long form
abbrev pub pick_in : List ℕ → LineValue
pick_in rest =
    let text = drop_gaps rest in
    if is_empty (behind text)
    then line_or_bad (λ path. ask (plain_ask path)) (path_of (word_of text)) else long_pick_in text

-- a command, and what follows it
abbrev pub command_value : Command → List ℕ → LineValue
command_value command.Dtab rest = line_or_bad table (table_of (drop_gaps rest))
command_value command.Create rest = create_in rest
command_value command.Put rest = put_in rest
command_value command.Delete rest = delete_in rest
command_value command.Get rest =
    line_or_bad (λ name. look (get_table name)) (option_and_then name_of (single_word rest))
command_value command.List rest = if is_empty (drop_gaps rest) then look list_names else bad
command_value command.Addrs rest = addrs_in_line rest
command_value command.Drop rest =
    line_or_bad (λ name. change (drop_service name)) (option_and_then name_of (single_word rest))
command_value command.Fail rest = report_in false rest
command_value command.Good rest = report_in true rest
command_value command.Pick rest = pick_in rest
command_value command.View rest =
    line_or_bad (λ path. look (view path [])) (option_and_then path_of (single_word rest))

-- a text that begins with its first word
abbrev pub words_value : List ℕ → LineValue
words_value text =
    line_or_bad (λ command. command_value command (behind_word text)) (command_of (word_of text))

-- a line without its line feed: blanks alone, or a command between gaps
abbrev pub line_value : List ℕ → LineValue
line_value line = if is_empty (drop_blanks line) then blank else words_value (drop_gaps line)
