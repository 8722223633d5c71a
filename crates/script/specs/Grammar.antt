-- The lines that a script may have: a rule for each line of the grammar.
use Rattle.std.specs.Prelude.{◌≡◌, ℕ, ◌-◌, ◌^◌, ◌≤◌, true, false, List, [], ◌∷◌, ◌++◌, length}
use Rattle.std.specs.Prelude.{codes, Option, Some, None, All}
use Rattle.text_parts.specs.Words.{AreGaps, is_gap}
use Rattle.name_tree.specs.Path.{Labels}
use Rattle.name_tree.specs.Value.{one_whole}
use Rattle.name_tree.specs.Grammar.{AreBlanks, PathText, SpellsWeight}
use Rattle.name_tree.specs.Faults.{IsValue}
use Rattle.dtab_table.specs.Rules.{Rule}
use Rattle.dtab_table.specs.Answers.{IsTable}
use Rattle.addr_book.specs.declared.addr.Addr.{Addr}
use Rattle.addr_book.specs.declared.addr.Weighted.{Weighted}
use Rattle.addr_book.specs.Name.{IsName}
use Rattle.addr_book.specs.AddrList.{first_places}
use Rattle.addr_book.specs.AddrGrammar.{SpellsHost, SpellsNumber, SpellsPort}
use Rattle.machine.specs.Values.{create, put, delete, set_addrs, drop_service, report}
use Rattle.machine.specs.Values.{get_table, list_names, view}
use Rattle.script.specs.Line.{LineValue, blank, table, change, look, ask, plain_ask}

-- ---- words

-- a name: 1 to 255 letters, digits and `_ : . -`
pub data SpellsName : List ℕ → List ℕ → Type 0 where
  name : {s : List ℕ} → IsName s → SpellsName s s

-- a number of 64 bits
pub data SpellsLong : List ℕ → ℕ → Type 0 where
  long : {s : List ℕ} {n : ℕ} → SpellsNumber s n → n ≤ 2 ^ 64 - 1 → SpellsLong s n

-- the version that a namespace must have, or `*` for any
pub data SpellsVersion : List ℕ → Option ℕ → Type 0 where
  any_version : SpellsVersion (codes "*") None
  this_version : {s : List ℕ} {n : ℕ} → SpellsLong s n → SpellsVersion s (Some n)

-- a path without spaces and tabs
pub data SpellsPathWord : List ℕ → Labels → Type 0 where
  path_word : {s : List ℕ} {ls : Labels} → All (λ b. is_gap b ≡ false) s → IsValue PathText s ls
      → SpellsPathWord s ls

-- an address: a host, `:` and a port
pub data SpellsAddr : List ℕ → Addr → Type 0 where
  host_port : {h p : List ℕ} {ip port : ℕ} → SpellsHost h ip → SpellsPort p port
      → SpellsAddr (h ++ codes ":" ++ p) (record { ip = ip; port = port })

-- an address with its weight in millionths: one whole, or what stands behind a `*`, which isn't 0
pub data SpellsItem : List ℕ → Weighted → Type 0 where
  whole_item : {s : List ℕ} {addr : Addr} → SpellsAddr s addr
      → SpellsItem s (record { addr = addr; weight = one_whole })
  weighed_item : {s w : List ℕ} {addr : Addr} {n : ℕ} → SpellsAddr s addr → SpellsWeight w n
      → 1 ≤ n → SpellsItem (s ++ codes "*" ++ w) (record { addr = addr; weight = n })

-- ---- what follows a word

-- spaces and tabs, and a word
pub data NextWord {V : Type 0} (Word : List ℕ → V → Type 0) : List ℕ → V → Type 0 where
  next : {g w : List ℕ} {v : V} → AreGaps g → 1 ≤ length g → Word w v → NextWord Word (g ++ w) v

-- any number of addresses, to the end of the line
pub data SpellsItems : List ℕ → List Weighted → Type 0 where
  no_item : {g : List ℕ} → AreGaps g → SpellsItems g []
  more_items : {s t : List ℕ} {item : Weighted} {items : List Weighted}
      → NextWord SpellsItem s item → SpellsItems t items → SpellsItems (s ++ t) (item ∷ items)

-- a table, to the end of the line: none, or one that begins at the first byte that is no gap
pub data SpellsRest : List ℕ → List Rule → Type 0 where
  no_table : {g : List ℕ} → AreGaps g → SpellsRest g []
  rest_table : {g t : List ℕ} {b : ℕ} {rules : List Rule} → AreGaps g → 1 ≤ length g
      → is_gap b ≡ false → IsTable (b ∷ t) rules → SpellsRest (g ++ b ∷ t) rules

-- ---- lines

-- a command, and what follows it
pub data SpellsCommand : List ℕ → LineValue → Type 0 where
  sets_table : {t : List ℕ} {rules : List Rule} → SpellsRest t rules
      → SpellsCommand (codes "dtab" ++ t) (table rules)
  creates : {n t space : List ℕ} {rules : List Rule} → NextWord SpellsName n space
      → SpellsRest t rules → SpellsCommand (codes "create" ++ n ++ t) (change (create space rules))
  puts : {n v t space : List ℕ} {version : Option ℕ} {rules : List Rule}
      → NextWord SpellsName n space → NextWord SpellsVersion v version → SpellsRest t rules
      → SpellsCommand (codes "put" ++ n ++ v ++ t) (change (put space version rules))
  deletes : {n v e space : List ℕ} {version : Option ℕ} → NextWord SpellsName n space
      → NextWord SpellsVersion v version → AreGaps e
      → SpellsCommand (codes "delete" ++ n ++ v ++ e) (change (delete space version))
  gets : {n e space : List ℕ} → NextWord SpellsName n space → AreGaps e
      → SpellsCommand (codes "get" ++ n ++ e) (look (get_table space))
  lists : {e : List ℕ} → AreGaps e → SpellsCommand (codes "list" ++ e) (look list_names)
  sets_addrs : {n s service : List ℕ} {items : List Weighted} → NextWord SpellsName n service
      → SpellsItems s items → length items ≤ 1024
      → SpellsCommand (codes "addrs" ++ n ++ s) (change (set_addrs service (first_places items)))
  drops : {n e service : List ℕ} → NextWord SpellsName n service → AreGaps e
      → SpellsCommand (codes "drop" ++ n ++ e) (change (drop_service service))
  fails : {a m e : List ℕ} {addr : Addr} {moment : ℕ} → NextWord SpellsAddr a addr
      → NextWord SpellsLong m moment → AreGaps e
      → SpellsCommand (codes "fail" ++ a ++ m ++ e) (change (report addr false moment))
  succeeds : {a m e : List ℕ} {addr : Addr} {moment : ℕ} → NextWord SpellsAddr a addr
      → NextWord SpellsLong m moment → AreGaps e
      → SpellsCommand (codes "good" ++ a ++ m ++ e) (change (report addr true moment))
  picks : {p e : List ℕ} {path : Labels} → NextWord SpellsPathWord p path → AreGaps e
      → SpellsCommand (codes "pick" ++ p ++ e) (ask (plain_ask path))
  picks_at : {p m b f s t : List ℕ} {path : Labels} {moment branch first second : ℕ}
      {rules : List Rule} → NextWord SpellsPathWord p path → NextWord SpellsLong m moment
      → NextWord SpellsLong b branch → NextWord SpellsLong f first → NextWord SpellsLong s second
      → SpellsRest t rules
      → SpellsCommand (codes "pick" ++ p ++ m ++ b ++ f ++ s ++ t) (ask (record {
        path = path;
        own = rules;
        moment = moment;
        branch_word = branch;
        first_draw = first;
        second_draw = second;
      }))
  views : {p e : List ℕ} {path : Labels} → NextWord SpellsPathWord p path → AreGaps e
      → SpellsCommand (codes "view" ++ p ++ e) (look (view path []))

-- a line: blanks, or spaces and tabs and a command
pub data SpellsLine : List ℕ → LineValue → Type 0 where
  nothing : {s : List ℕ} → AreBlanks s → SpellsLine s blank
  command : {g s : List ℕ} {said : LineValue} → AreGaps g → SpellsCommand s said
      → SpellsLine (g ++ s) said
