-- What `serve` writes, and why it ends.
use Rattle.std.specs.Prelude.{◌≡◌, ◌⊎◌, ℕ, ◌+◌, Bool, true, false, if◌then◌else◌, List, [], ◌∷◌}
use Rattle.std.specs.Prelude.{◌++◌, codes, Option, None, Some, option_map, Ok, Err}
use Rattle.line_base.specs.Clocks.{Begins, Tells as ClockTells}
use Rattle.line_base.specs.Counts.{Rose}
use Rattle.machine.specs.Code.{settings_of}
use Rattle.machine.specs.Values.{SettingsValue}
use Rattle.line_base.specs.Lines.{Line}
use Rattle.line_base.specs.declared.socket_address.SocketAddress.{SocketAddress}
use Rattle.load_words.specs.Seats.{Words}
use Rattle.snap_cell.specs.declared.kept.Origin.{Origin}
use Rattle.router.specs.declared.current.Current.{Current}
use Rattle.router.specs.declared.naming.Naming.{Ghosts}
use Rattle.router.specs.declared.pass.Pass.{Pass}
use Rattle.router.specs.declared.update.Update.{Update}
use Rattle.serving.specs.declared.running.Served.{Served}
use Rattle.serving.specs.Posts.{jobs_of}
use Rattle.serving.specs.Returning.{listened}
use Rattle.serving.specs.Services.{BookRefuses}
use Rattle.serving.specs.declared.site.Feeding.{Feeding}
use Rattle.serving.specs.declared.site.Site.{Site}
use Rattle.linker_config.specs.declared.loaded.LoadedItem.{LoadedItem}
use Rattle.std.specs.Fmt.{decimal}
use Rattle.line_base.specs.Files.{File}
use Rattle.linker_config.specs.declared.config.Config.{Config}
use Rattle.linker_config.specs.declared.config.FeedAt.{FeedAt}
use Rattle.linker_config.specs.declared.config.Port.{Port}
use Rattle.linker_config.specs.declared.loaded.LoadFault.TheVariants.{BadFile, LongFile}
use Rattle.linker_config.specs.Folder.{Loads, Services}
use Rattle.linker_config.specs.Lines.{port_text}
use Rattle.command_lines.specs.Check.{IsConfig, TellsPath}
use Rattle.linker_commands.specs.Linked.{Linked}
use Rattle.linker_commands.specs.Recorded.{HasRecorded}

-- how a router ends that was to serve: it was shut down, an address could not be listened on or the
-- waits of a listener failed, or memory was wanting
pub data Finish : Type 0 where
  shut_down : Finish
  broken : Finish
  short : Finish

abbrev pub finish_code : Finish → ℕ
finish_code shut_down = 0
finish_code broken = 6
finish_code short = 7

-- the line that tells of the file of a service that is refused
abbrev pub file_line : List ℕ → List ℕ
file_line name = codes "error file " ++ name ++ 10 ∷ []

-- the file of a service is bad or long: the first such, in the order of the names
abbrev pub RefusesFile : Option (List File) → List ℕ → List ℕ → Type 0
RefusesFile files root name =
    Loads files root (Err (LongFile name))
    ⊎ ((line : ℕ) × Loads files root (Err (BadFile name line)))

-- what the code's answer on services says of the folder that a configuration names: where it names
-- none there are no services
abbrev pub LoadsRoot : Option (List File) → Option (List ℕ) → Services → Type 0
LoadsRoot files None told = told ≡ Ok []
LoadsRoot files (Some root) told = Loads files root told

-- the services of the folder that a configuration names were loaded: none of its files is refused
abbrev pub AreLoaded : Option (List File) → Config → Type 0
AreLoaded files config = (loaded : List LoadedItem) × LoadsRoot files config.root (Ok loaded)

-- the book has no room for one of the services of the configured folder, behind those before it
abbrev pub RefusesBook : Option (List File) → Config → Type 0
RefusesBook files config =
    (loaded : List LoadedItem) × LoadsRoot files config.root (Ok loaded)
    × BookRefuses (settings_of config.settings) loaded

-- a service of the configured folder is refused: its file is, or the book has no room for it
abbrev pub RefusesService : Option (List File) → Config → List ℕ → Type 0
RefusesService files config line =
    ((root : List ℕ) × (name : List ℕ) × (config.root ≡ Some root)
    × RefusesFile files root name × (line ≡ file_line name))
    ⊎ (RefusesBook files config × (line ≡ codes "error book\n"))

-- this line tells why nothing is served
abbrev pub IsRefused : Option (List File) → List ℕ → List ℕ → Type 0
IsRefused files path line =
    TellsPath files path false line
    ⊎ ((config : Config) × IsConfig files path config × RefusesService files config line)

-- the number of a run: the one that is said, or else the first moment of a clock's fork
abbrev pub IsRun : Option (List ℕ) → Option ℕ → ℕ → Type 0
IsRun moments (Some said) run = run ≡ said
IsRun moments None run =
    (clock : Option (List ℕ)) × (left : Option (List ℕ)) × Begins moments clock
    × ClockTells clock left run

-- where the feed of a configuration is served, and the number of the run that it tells
abbrev pub IsFeeding : Option (List ℕ) → Option FeedAt → Option Feeding → Type 0
IsFeeding moments None feeding = feeding ≡ None
IsFeeding moments (Some at) feeding =
    (run : ℕ) × IsRun moments at.run run × (feeding ≡ Some (record { port = at.port; run = run }))

-- where a router serves by a configuration, and how
pub record IsSiteOf (moments : Option (List ℕ)) (c : Config) (site : Site) : Type 0 where
  pub server : site.server ≡ c.server
  pub namerd : site.namerd ≡ c.namerd
  pub admin : site.admin ≡ c.admin
  pub rule : site.policy.rule ≡ c.rule
  pub retries : site.policy.retries ≡ c.retries
  pub pool : site.policy.pool ≡ c.pool
  pub workers : site.workers ≡ c.workers
  pub seed : site.seed ≡ c.seed
  pub feed : IsFeeding moments c.feed site.feed

-- where the feed is served, behind a blank
abbrev pub feed_words : Option Port → List ℕ
feed_words None = []
feed_words (Some port) = 32 ∷ port_text port

abbrev pub feed_port : Option Feeding → Option Port
feed_port feeding = option_map (λ f. f.port) feeding

-- the line that tells where a router serves: its own address, those of the two interfaces, and that
-- of the feed, if it is served
abbrev pub main_words : Port → Port → Port → List ℕ
main_words server namerd admin =
    codes "serving " ++ port_text server ++ 32 ∷ port_text namerd ++ 32 ∷ port_text admin

abbrev pub line_of_ports : Port → Port → Port → Option Port → List ℕ
line_of_ports server namerd admin feed =
    main_words server namerd admin ++ feed_words feed ++ 10 ∷ []

abbrev pub site_line : Site → List ℕ
site_line s = line_of_ports s.server s.namerd s.admin (feed_port s.feed)

abbrev pub serving_line : Config → List ℕ
serving_line c =
    line_of_ports c.server c.namerd c.admin (option_map (λ (at : FeedAt). at.port) c.feed)

-- how many listeners a router has by a configuration
abbrev pub feed_jobs_in : Option FeedAt → ℕ
feed_jobs_in None = 0
feed_jobs_in (Some at) = 1

abbrev pub jobs_in : Config → ℕ
jobs_in c = c.workers + 4 + feed_jobs_in c.feed

-- the line that tells how many changes there were
abbrev pub closed_line : ℕ → List ℕ
closed_line place = codes "closed " ++ decimal place ++ 10 ∷ []

-- the line that tells that memory is wanting
abbrev pub memory_line : List ℕ
memory_line = codes "error memory\n"

-- which router it is, by the type that names it, and by its cell, its settings, its load words, and
-- the number of its passes
abbrev pub router_of : (J : Type 0) → Option (Origin Current Update) → SettingsValue → Option Words
    → ℕ → Ghosts J
router_of J cell settings words seats =
    record { cell = cell; settings = settings; words = words; seats = seats }

module _ (J : Type 0) {P : Type 0} (line_of : P → Line) (address_of : P → Option SocketAddress)
    (moments : Option (List ℕ)) (files : Option (List File)) (c : Config)
    (net net_after : Linked P) where
  -- a router served by a configuration, with its settings, the services of the folder and the log
  -- that it names, and over a net that had made its listeners, and ended so
  pub record ServedBy (end : Served) : Type 0 where
    pub loaded : List LoadedItem
    pub loads : LoadsRoot files c.root (Ok loaded)
    pub cell : Option (Origin Current Update)
    pub words : Option Words
    pub seats : ℕ
    pub passes : List (Pass J (router_of J cell (settings_of c.settings) words seats))
    pub site : Site
    pub site_is : IsSiteOf moments c site
    pub recorded :
        HasRecorded line_of address_of site moments c.access_log loaded passes
        (listened (jobs_of site) net.state) net_after.state net.logs net_after.logs end

  -- what is told last: how many changes there were, behind which it is told where memory was
  -- wanting in a session; or that the net failed, where the services were loaded; or that memory
  -- was wanting before it could be served
  abbrev pub IsLast : List ℕ → Finish → Type 0
  IsLast last shut_down =
      (end : Served) × ServedBy end × (end.lacked_memory ≡ false) × (last ≡ closed_line end.place)
  IsLast last broken = (last ≡ codes "error net\n") × AreLoaded files c
  IsLast last short =
      (last ≡ memory_line)
      ⊎ ((end : Served) × ServedBy end × (end.lacked_memory ≡ true)
      × (last ≡ closed_line end.place ++ memory_line))

  -- these lines tell how it was to serve: where, and then what is told last. Where an address can't
  -- be listened on, that is told alone
  pub record TellsServing (lines : List ℕ) (finish : Finish) : Type 0 where
    pub last : List ℕ
    pub is_last : IsLast last finish
    pub lines_are : (lines ≡ serving_line c ++ last) ⊎ ((finish ≡ broken) × (lines ≡ last))

-- the net's count of faults rose exactly where it is said to have failed
pub record TellsNet (before now : ℕ) (finish : Finish) : Type 0 where
  pub rose : finish ≡ broken → Rose before now
  pub kept : (finish ≡ broken → ⊥) → now ≡ before

-- the last line was told, or the write failed
abbrev pub last_of : ℕ → Bool → List ℕ
last_of place lacked_memory =
    if lacked_memory then closed_line place ++ memory_line else closed_line place

-- how a router that served is told of, unless memory is wanting for the line
abbrev pub TellsEnd : Served → List ℕ → Finish → Type 0
TellsEnd end last shut_down = (end.lacked_memory ≡ false) × (last ≡ closed_line end.place)
TellsEnd end last broken = ⊥
TellsEnd end last short =
    (last ≡ memory_line)
    ⊎ ((end.lacked_memory ≡ true) × (last ≡ closed_line end.place ++ memory_line))

-- a router is made by a configuration
pub record IsMadeBy (moments : Option (List ℕ)) (files : Option (List File)) (c : Config)
    (site : Site) (settings : SettingsValue) (loaded : List LoadedItem) (path : Option (List ℕ))
    : Type 0 where
  pub site_is : IsSiteOf moments c site
  pub settings_are : settings ≡ settings_of c.settings
  pub loads : LoadsRoot files c.root (Ok loaded)
  pub path_is : path ≡ c.access_log
