-- How a run ends that was to serve.
use Rattle.std.proofs.Common.{◌≡◌, ℕ, ◌+◌, List, ◌++◌, refl, sym, ap, subst, ◌∙◌, inl, inr, false}
use Rattle.std.specs.Prelude.{Option, None, Some, option_map, codes}
use Rattle.std.specs.Io.KnownBytes.{Appends}
use Rattle.std.specs.declared.vec.Vec.{Vec}
use Rattle.std.specs.declared.alloc.Global.{Global}
use Rattle.line_base.specs.Counts.{Rose}
use Rattle.line_base.specs.Files.{File}
use Rattle.line_base.specs.Nets.{Networking}
use Rattle.linker_config.specs.declared.loaded.LoadedItem.{LoadedItem}
use Rattle.machine.specs.Code.{settings_of}
use Rattle.machine.specs.Values.{SettingsValue}
use Rattle.router.specs.declared.naming.Naming.{Ghosts}
use Rattle.router.specs.declared.pass.Pass.{Pass}
use Rattle.serving.specs.declared.running.Served.{Served}
use Rattle.serving.specs.declared.site.Feeding.{Feeding}
use Rattle.serving.specs.declared.site.Site.{Site}
use Rattle.serving.specs.Posts.{feed_jobs, jobs_of}
use Rattle.serving.specs.Returning.{listened}
use Rattle.serving.specs.Services.{BookRefuses}
use Rattle.line_base.specs.Lines.{Line}
use Rattle.line_log.specs.Logged.{Logged}
use Rattle.line_base.specs.declared.socket_address.SocketAddress.{SocketAddress}
use Rattle.std.specs.declared.marker.Brand.{Brand}
use Rattle.linker_config.specs.declared.config.Config.{Config}
use Rattle.linker_config.specs.declared.config.FeedAt.{FeedAt}
use Rattle.command_lines.specs.declared.checking.ConfigEnd.{ConfigEnd}
use Rattle.command_lines.specs.declared.checking.ConfigEnd.TheVariants.{Wrong}
use Rattle.command_lines.specs.Found.{IfWrong}
use Rattle.linker_commands.specs.Recorded.{HasRecorded}
use Rattle.linker_commands.specs.declared.run.ExitStatus.{ExitStatus}
use Rattle.linker_commands.specs.declared.run.ExitStatus.TheVariants as status
use Rattle.line_base.specs.Files.{Filed}
use Rattle.line_base.specs.Streams.{Output}
use Rattle.script.specs.Written.{AppendsFront}
use Rattle.linker_commands.specs.Run.{Course, line_told, no_memory, served}
use Rattle.linker_commands.specs.Linked.{Linked}
use Rattle.linker_commands.specs.Run.{EndsServing, EndsCourse, Serves}
use Rattle.command_lines.specs.Check.{IsConfig}
use Rattle.linker_commands.specs.Served.{Finish, broken, short, finish_code, AreLoaded}
use Rattle.linker_commands.specs.Served.{IsFeeding, IsLast, IsMadeBy, IsSiteOf}
use Rattle.linker_commands.specs.Served.{RefusesBook, feed_jobs_in, feed_port}
use Rattle.linker_commands.specs.Served.{jobs_in, line_of_ports, site_line}
use Rattle.linker_commands.specs.Served.{ServedBy, TellsEnd, TellsNet, router_of}
use Rattle.linker_commands.specs.Served.{memory_line, serving_line, shut_down}
use Rattle.linker_commands.specs.Told.{Tells, code_of}
use Rattle.linker_commands.proofs.Runs.{tells_end, tells_behind, tells_memory_first, fails_before}

-- a net that tells the same
pub linked_same : {P : Type 0} (a b : Linked P) → b.state ≡ a.state → b.faults ≡ a.faults
    → b.logs ≡ a.logs → b ≡ a
linked_same a b state faults logs =
    λ i. record { state = state i; faults = faults i; logs = logs i }

module _ (J : Type 0) {P : Type 0} (line_of : P → Line) (address_of : P → Option SocketAddress)
    (moments : Option (List ℕ))
    (files : Option (List File)) (c : Config) where
  -- the book has no room for a service
  pub no_room : (settings : SettingsValue) (loaded : List LoadedItem) (site : Site)
      (path : Option (List ℕ)) (net net_after : Linked P) (old new : Output) (result : ExitStatus)
      → IsMadeBy moments files c site settings loaded path
      → BookRefuses settings loaded × (net_after.state ≡ net.state) → net_after.faults ≡ net.faults
      → net_after.logs ≡ net.logs → Tells (codes "error book\n") status.Wrong old new result
      → EndsServing J line_of address_of moments files c net net_after old new (code_of result)
  no_room settings loaded site path net net_after old new result made refused kept logs told =
      let book : RefusesBook files c = (
        loaded,
        made.loads,
        subst
            (λ (s : SettingsValue). BookRefuses s loaded) made.settings_are refused.0,
      ) in
      inr (inl (
        book,
        linked_same net net_after refused.1 kept logs,
        tells_end
            (line_told false (codes "error book\n")) (codes "error book\n") status.Wrong result old
            new refl refl told,
      ))

  -- memory was wanting before anything was written
  pub no_memory_yet : (net net_after : Linked P) (old new : Output) (result : ExitStatus)
      → net_after.faults ≡ net.faults → Tells memory_line status.Memory old new result
      → EndsServing J line_of address_of moments files c net net_after old new (code_of result)
  no_memory_yet net net_after old new result kept told =
      inr (inr (kept, tells_memory_first no_memory result old new told))

  -- an address can't be listened on
  pub not_listening : (net net_after : Linked P) (old new : Output) (result : ExitStatus)
      → AreLoaded files c → Rose net.faults net_after.faults
      → Tells (codes "error net\n") status.Net old new result
      → EndsServing J line_of address_of moments files c net net_after old new (code_of result)
  not_listening net net_after old new result loaded rose told =
      inl (
        codes "error net\n",
        broken,
        record {
          last = codes "error net\n";
          is_last = (refl, loaded);
          lines_are = inr (refl, refl);
        },
        record { rose = λ _. rose; kept = λ other. absurd (other refl) },
        tells_end (served (codes "error net\n") broken) (codes "error net\n") status.Net result old
            new refl refl told,
      )

  -- the line that tells where it serves could not be written
  pub not_told : (net net_after : Linked P) (line : List ℕ) (old new : Output)
      → line ≡ serving_line c → net_after.faults ≡ net.faults → Rose old.faults new.faults
      → AppendsFront old.held new.held line
      → EndsServing J line_of address_of moments files c net net_after old new 5
  not_told net net_after line old new is kept rose front =
      let lines = serving_line c ++ memory_line in
      inl (
        lines,
        short,
        record { last = memory_line; is_last = inl refl; lines_are = inl refl },
        record { rose = λ same. cc same; kept = λ _. kept },
        fails_before (served lines short) (serving_line c) memory_line old new refl rose
            (subst (AppendsFront old.held new.held) is front),
      )

  -- it served, and what came last was told
  pub told_on : (net mid net_after : Linked P) (line : List ℕ) (old between new : Output)
      (result : ExitStatus) → line ≡ serving_line c → mid.faults ≡ net.faults
      → Appends old.held between.held line → between.faults ≡ old.faults
      → ((last : List ℕ) × (finish : Finish) × (end : ExitStatus)
      × IsLast J line_of address_of moments files c net net_after last finish
      × TellsNet mid.faults net_after.faults finish
      × (code_of end ≡ finish_code finish) × Tells last end between new result)
      → EndsServing J line_of address_of moments files c net net_after old new (code_of result)
  told_on net mid net_after line old between new result is kept before same on =
      let lines = serving_line c ++ on.0 in
      inl (
        lines,
        on.1,
        record { last = on.0; is_last = on.3; lines_are = inl refl },
        subst (λ (n : ℕ). TellsNet n net_after.faults on.1) kept on.4,
        tells_behind (served lines on.1) (serving_line c) on.0 on.2 result old between new refl on.5
            (subst (Appends old.held between.held) is before) same on.6,
      )

module _ {J P : Type 0} (line_of : P → Line) (address_of : P → Option SocketAddress)
    (moments : Option (List ℕ)) (files : Option (List File)) (c : Config) where
  -- a router that served is told of
  pub told_end : (net net_after : Linked P) (end : Served) (last : List ℕ) (finish : Finish)
      → ServedBy J line_of address_of moments files c net net_after end → TellsEnd end last finish
      → IsLast J line_of address_of moments files c net net_after last finish
  told_end net net_after end last shut_down by told = (end, by, told.0, told.1)
  told_end net net_after end last broken by told = absurd told
  told_end net net_after end last short by (inl wanting) = inl wanting
  told_end net net_after end last short by (inr told) = inr (end, by, told.0, told.1)

  -- it served by the configuration
  pub served_by : {g : Ghosts J} (site : Site) (loaded : List LoadedItem) (path : Option (List ℕ))
      (passes : List (Pass J g)) (net : Linked P) (mid : Networking P)
      (logs : Option (List Logged)) (net_after : Linked P) (end : Served)
      → IsMadeBy moments files c site g.settings loaded path
      → mid ≡ listened (jobs_of site) net.state → logs ≡ net.logs
      → HasRecorded line_of address_of site moments path loaded passes mid net_after.state logs
      net_after.logs end
      → ServedBy J line_of address_of moments files c net net_after end
  served_by {g} site loaded path passes net mid logs net_after end made listening kept whole =
      let At : Networking P → Option (List Logged) → Type 0 =
      λ n l. HasRecorded line_of address_of site moments path loaded passes n net_after.state l
      net_after.logs end in
      let From : Networking P → Type 0 = λ n. At n logs in
      let sited : At (listened (jobs_of site) net.state) net.logs =
      subst (At (listened (jobs_of site) net.state)) kept (subst From listening whole) in
      let Over : SettingsValue → Option (List ℕ) → Type 0 =
      λ s p. (ps : List (Pass J (router_of J g.cell s g.words g.seats)))
      × HasRecorded line_of address_of site moments p loaded ps (listened (jobs_of site) net.state)
      net_after.state net.logs net_after.logs end in
      let over : Over g.settings path = (passes, sited) in
      let With : SettingsValue → Type 0 = λ s. Over s path in
      let settled : Over (settings_of c.settings) path = subst With made.settings_are over in
      let logged : Over (settings_of c.settings) c.access_log =
      subst (Over (settings_of c.settings)) made.path_is settled in
      record {
        loaded = loaded;
        loads = made.loads;
        cell = g.cell;
        words = g.words;
        seats = g.seats;
        passes = logged.0;
        site = site;
        site_is = made.site_is;
        recorded = logged.1;
      }

-- the feed is served where the configuration says
feed_ports : (moments : Option (List ℕ)) (at : Option FeedAt) (feeding : Option Feeding)
    → IsFeeding moments at feeding
    → feed_port feeding ≡ option_map (λ (a : FeedAt). a.port) at
feed_ports moments None feeding is = ap feed_port is
feed_ports moments (Some at) feeding is = ap feed_port is.2

-- the line of a router that serves by a configuration
pub line_by : (moments : Option (List ℕ)) (c : Config) (site : Site) → IsSiteOf moments c site
    → site_line site ≡ serving_line c
line_by moments c site by =
    let feed = feed_ports moments c.feed site.feed by.feed in
    λ i. line_of_ports (by.server i) (by.namerd i) (by.admin i) (feed i)

feed_count : (moments : Option (List ℕ)) (at : Option FeedAt) (feeding : Option Feeding)
    → IsFeeding moments at feeding → feed_jobs feeding ≡ feed_jobs_in at
feed_count moments None feeding is = ap feed_jobs is
feed_count moments (Some at) feeding is = ap feed_jobs is.2

-- how many listeners it has
pub jobs_by : (moments : Option (List ℕ)) (c : Config) (site : Site) → IsSiteOf moments c site
    → jobs_of site ≡ jobs_in c
jobs_by moments c site by =
    let feed = feed_count moments c.feed site.feed by.feed in
    λ i. by.workers i + 4 + feed i

-- how a router ends that was to serve by a configuration is a course of serving by the one at a
-- path
pub course_of_end : {P : Type 0} (line_of : P → Line) (address_of : P → Option SocketAddress)
    (moments : Option (List ℕ)) (path : List ℕ)
    (c : Config) (files files_after : Filed) (net net_after : Linked P) (old new : Output)
    (code : ℕ)
    → IsConfig files.files path c → files_after.faults ≡ files.faults
    → EndsServing Brand line_of address_of moments files.files c net net_after old new code
    → (course : Course) × Serves line_of address_of moments path files files_after net net_after
    course
    × EndsCourse course old new code
course_of_end line_of address_of moments path c files files_after net net_after old new code right
    kept
    (inl end) =
    (served end.0 end.1, (c, right, end.2, end.3, kept), end.4)
course_of_end line_of address_of moments path c files files_after net net_after old new code right
    kept
    (inr (inl book)) = (
      line_told false (codes "error book\n"),
      (inr (c, right, inr (book.0, refl)), kept, book.1),
      book.2,
    )
course_of_end line_of address_of moments path c files files_after net net_after old new code right
    kept
    (inr (inr wanting)) =
    (no_memory, (kept, wanting.0), wanting.1)

-- what a folder tells of itself is the same
filed_same : (a b : Filed) → a.files ≡ b.files → a.faults ≡ b.faults → a ≡ b
filed_same a b files faults =
    let with_files : Option (List File) → Filed = λ f. record { files = f; faults = a.faults } in
    let with_faults : ℕ → Filed = λ n. record { files = b.files; faults = n } in
    ap with_files files ∙ ap with_faults faults

-- the configuration was read first, and left the folder as it was
pub serves_from : {P : Type 0} (line_of : P → Line) (address_of : P → Option SocketAddress)
    (moments : Option (List ℕ)) (path : List ℕ)
    (c : Config) (files mid files_after : Filed) (net net_after : Linked P) (old new : Output)
    (code : ℕ)
    → mid.files ≡ files.files → mid.faults ≡ files.faults → IsConfig files.files path c
    → ((named : List ℕ) → IsConfig mid.files named c → (course : Course)
    × Serves line_of address_of moments named mid files_after net net_after course
    × EndsCourse course
    old new code)
    → (course : Course) × Serves line_of address_of moments path files files_after net net_after
    course
    × EndsCourse course old new code
serves_from line_of address_of moments path c files mid files_after net net_after old new code same
    kept right
    on =
    let holds : Option (List File) → Type 0 = λ f. IsConfig f path c in
    let serves : Filed → Type 0 = λ f. (course : Course)
    × Serves line_of address_of moments path f files_after net net_after course
    × EndsCourse course old new code in
    subst serves (filed_same mid files same kept) (on path (subst holds (sym same) right))

-- the line of a configuration that is refused
pub wrong_told : (end : ConfigEnd) (line : Vec ℕ Global) (Is : List ℕ → Type 0) → end ≡ Wrong line
    → IfWrong end Is → Is line.items
wrong_told end line Is is told =
    let tells : ConfigEnd → Type 0 = λ e. IfWrong e Is in subst tells is told
