-- What a run of the program does: by its words, by what it reads, and by what becomes of its
-- writing.
use Rattle.std.specs.Prelude.{◌≡◌, ◌⊎◌, ℕ, ◌<◌, ◌≤◌, Bool, true, false, nat_le, if◌then◌else◌}
use Rattle.std.specs.Prelude.{List, [], ◌∷◌, ◌++◌, length, map, drop, codes, string_bytes}
use Rattle.std.specs.Prelude.{String, Option, Some, Result, Ok, Err}
use Rattle.std.specs.Global.{Global}
use Rattle.std.specs.Vec.Iter.{into_iter_items}
use Rattle.std.specs.declared.vec.IntoIter.{IntoIter}
use Rattle.std.specs.declared.marker.Brand.{Brand}
use Rattle.std.specs.Fmt.{decimal}
use Rattle.std.specs.Io.KnownBytes.{Appends, Consumes, IsAtEnd}
use Rattle.line_base.specs.Counts.{Rose, added}
use Rattle.line_base.specs.Files.{File, Filed}
use Rattle.line_base.specs.Nets.{Networking, Returns}
use Rattle.line_base.specs.Streams.{Input, Output}
use Rattle.line_base.specs.Lines.{Line}
use Rattle.line_base.specs.declared.socket_address.SocketAddress.{SocketAddress}
use Rattle.workers.specs.Turns.{raised_by}
use Rattle.addr_book.specs.declared.addr.Addr.{Addr}
use Rattle.script.specs.Played.{BeginsReplay}
use Rattle.script.specs.Replay.{replay_of}
use Rattle.script.specs.Written.{AppendsFront}
use Rattle.linker_config.specs.declared.config.Config.{Config}
use Rattle.command_lines.specs.Check.{IsConfig, TellsPath}
use Rattle.linker_commands.specs.Follow.{IsFollowed}
use Rattle.command_lines.specs.Generated.{storm_line, weave_line}
use Rattle.linker_commands.specs.Linked.{Linked}
use Rattle.command_lines.specs.Lint.{TellsTablePath}
use Rattle.linker_commands.specs.Served.{Finish, finish_code}
use Rattle.linker_commands.specs.Served.{IsRefused, RefusesBook, TellsNet, TellsServing}
use Rattle.linker_commands.specs.Served.{jobs_in, memory_line}
use Rattle.command_lines.specs.Words.{Asked, replay, check, serve, lint, storm, weave, follow}
use Rattle.command_lines.specs.Words.{command_of}

-- the most bytes of a script
abbrev pub most_script : ℕ
most_script = 67108864

-- the words after the program's name, which is the first of the arguments. Arguments that are no
-- text are one empty word
abbrev pub words_of : {E : Type 0} → Result (IntoIter (String Global) Global) E → List (List ℕ)
words_of (Ok arguments) =
    map (λ (w : String Global). string_bytes w) (drop 1 (into_iter_items arguments))
words_of (Err error) = [] ∷ []

-- how far a run comes before it writes
pub data Course : Type 0 where
  -- the words fit no command, and nothing is read
  words_refused : ℕ → Course
  -- the input or the folder could not be read
  read_failed : Course
  -- there is more than a script may have
  too_long : Course
  -- this script was read, to its end
  script_read : List ℕ → Course
  -- all that there is to tell is this line, and whether what it tells of is right
  line_told : Bool → List ℕ → Course
  -- there was no memory before it was known what to write
  no_memory : Course
  -- a router was to serve: these lines tell of it, and how it ended
  served : List ℕ → Finish → Course
  -- a leader was polled, and these lines tell of it: of all polls, or of those before memory was
  -- wanting
  followed : Bool → List ℕ → Course

-- what a course writes, and the status that it ends with
abbrev pub output_of : Course → List ℕ
output_of (words_refused place) = codes "error words " ++ decimal place ++ 10 ∷ []
output_of read_failed = codes "error read\n"
output_of too_long = codes "error long\n"
output_of (script_read script) = (replay_of script).0
output_of (line_told good line) = line
output_of no_memory = memory_line
output_of (served lines finish) = lines
output_of (followed true lines) = lines
output_of (followed false lines) = lines ++ memory_line

-- the status where what was read is right, or is not
abbrev pub status_if : Bool → ℕ
status_if true = 0
status_if false = 3

abbrev pub status_of : Course → ℕ
status_of (words_refused place) = 2
status_of read_failed = 4
status_of too_long = 8
status_of (script_read script) = status_if (replay_of script).1
status_of (line_told good line) = status_if good
status_of no_memory = 7
status_of (served lines finish) = finish_code finish
status_of (followed true lines) = 0
status_of (followed false lines) = 7

-- so many bytes were read, and no more than a script may have
abbrev pub ReadsFew : Input → Input → Type 0
ReadsFew old new =
    (taken : List ℕ) × Consumes old.left new.left taken × (length taken ≤ most_script)

-- more bytes were read than a script may have
abbrev pub ReadsLong : Input → Input → Type 0
ReadsLong old new =
    (taken : List ℕ) × Consumes old.left new.left taken × (most_script < length taken)

-- the course of a script that the input shows, before and after it was read: its count of faults
-- rose exactly where a read failed
abbrev pub Reads : Input → Input → Course → Type 0
Reads old new (words_refused place) = ⊥
Reads old new read_failed = Rose old.faults new.faults × ReadsFew old new
Reads old new too_long = ReadsLong old new × (new.faults ≡ old.faults)
Reads old new (script_read script) =
    Consumes old.left new.left script × IsAtEnd new.left × (length script ≤ most_script)
    × Rose old.ends new.ends × (new.faults ≡ old.faults)
Reads old new (line_told good line) = ⊥
Reads old new no_memory = ReadsFew old new × (new.faults ≡ old.faults)
Reads old new (served lines finish) = ⊥
Reads old new (followed all lines) = ⊥

-- the course of a file that the folder shows, of which so is told whether it is right: the folder's
-- count of faults rose exactly where it could not be read
abbrev pub Checks : (Bool → List ℕ → Type 0) → Filed → Filed → Course → Type 0
Checks TellsFile old new (words_refused place) = ⊥
Checks TellsFile old new read_failed = Rose old.faults new.faults
Checks TellsFile old new too_long = ⊥
Checks TellsFile old new (script_read script) = ⊥
Checks TellsFile old new (line_told good line) = TellsFile good line × (new.faults ≡ old.faults)
Checks TellsFile old new no_memory = new.faults ≡ old.faults
Checks TellsFile old new (served lines finish) = ⊥
Checks TellsFile old new (followed all lines) = ⊥

-- the course of a line that rests on nothing that is read: only memory may be wanting for it
abbrev pub Makes : List ℕ → Course → Type 0
Makes line course = (course ≡ line_told true line) ⊎ (course ≡ no_memory)

-- the course of following a leader, over a net that tells so much: only memory may be wanting for
-- it
abbrev pub Follows : {P : Type 0} → Option (Returns P) → Addr → List ℕ → ℕ → Course → Type 0
Follows told leader space polls (words_refused place) = ⊥
Follows told leader space polls read_failed = ⊥
Follows told leader space polls too_long = ⊥
Follows told leader space polls (script_read script) = ⊥
Follows told leader space polls (line_told good line) = ⊥
Follows told leader space polls no_memory = Unit {0}
Follows told leader space polls (served lines finish) = ⊥
Follows told leader space polls (followed all lines) =
    IsFollowed told leader space polls all lines

-- a run, over a net whose peers tell so much, and with a clock whose forks have these moments to
-- come
module _ {P : Type 0} (line_of : P → Line) (address_of : P → Option SocketAddress)
    (moments : Option (List ℕ)) where
  -- the course of serving by the configuration at a path: it is refused, or a service is; it could
  -- not be read; memory was wanting; or there is a right one, and the lines tell how it was
  abbrev pub Serves : List ℕ → Filed → Filed → Linked P → Linked P → Course → Type 0
  Serves path old new net net_after (words_refused place) = ⊥
  Serves path old new net net_after read_failed = Rose old.faults new.faults × (net_after ≡ net)
  Serves path old new net net_after too_long = ⊥
  Serves path old new net net_after (script_read script) = ⊥
  Serves path old new net net_after (line_told true line) = ⊥
  Serves path old new net net_after (line_told false line) =
      IsRefused old.files path line × (new.faults ≡ old.faults) × (net_after ≡ net)
  Serves path old new net net_after no_memory =
      (new.faults ≡ old.faults) × (net_after.faults ≡ net.faults)
  Serves path old new net net_after (served lines finish) =
      (config : Config) × IsConfig old.files path config
      × TellsServing Brand line_of address_of moments old.files config net net_after lines finish
      × TellsNet net.faults net_after.faults finish × (new.faults ≡ old.faults)
  Serves path old new net net_after (followed all lines) = ⊥

  -- the course that the words show, with the input and the folder before and after the run: a
  -- command reads what it is about and nothing else, and nothing is read where the words fit none
  abbrev pub Takes : Result Asked ℕ → Input → Input → Filed → Filed → Linked P → Linked P → Course
      → Type 0
  Takes (Err place) old_in new_in old_files new_files net net_after course =
      (course ≡ words_refused place) × (new_in ≡ old_in) × (new_files ≡ old_files)
      × (net_after ≡ net)
  Takes (Ok replay) old_in new_in old_files new_files net net_after course =
      Reads old_in new_in course × (new_files ≡ old_files) × (net_after ≡ net)
  Takes (Ok (check path)) old_in new_in old_files new_files net net_after course =
      Checks (TellsPath old_files.files path) old_files new_files course × (new_in ≡ old_in)
      × (new_files.files ≡ old_files.files) × (net_after ≡ net)
  Takes (Ok (lint path)) old_in new_in old_files new_files net net_after course =
      Checks (TellsTablePath old_files.files path) old_files new_files course × (new_in ≡ old_in)
      × (new_files.files ≡ old_files.files) × (net_after ≡ net)
  Takes (Ok (serve path)) old_in new_in old_files new_files net net_after course =
      Serves path old_files new_files net net_after course × (new_in ≡ old_in)
      × (new_files.files ≡ old_files.files)
  Takes (Ok (storm turns seed)) old_in new_in old_files new_files net net_after course =
      Makes (storm_line turns seed) course × (new_in ≡ old_in) × (new_files ≡ old_files)
      × (net_after ≡ net)
  Takes (Ok (weave turns seed)) old_in new_in old_files new_files net net_after course =
      Makes (weave_line turns seed) course × (new_in ≡ old_in) × (new_files ≡ old_files)
      × (net_after ≡ net)
  Takes (Ok (follow leader space polls)) old_in new_in old_files new_files net net_after course =
      Follows net.state.told leader space polls course × (new_in ≡ old_in)
      × (new_files ≡ old_files) × (net_after ≡ net)

-- what a course may have written where memory is then wanting: of a script the whole replies to its
-- first lines, each of them good; and else nothing
abbrev pub Begins : Course → List ℕ → Type 0
Begins (script_read script) front = BeginsReplay script front
Begins (words_refused place) front = front ≡ []
Begins read_failed front = front ≡ []
Begins too_long front = front ≡ []
Begins (line_told good line) front = front ≡ []
Begins no_memory front = front ≡ []
Begins (served lines finish) front = front ≡ []
Begins (followed all lines) front = front ≡ []

-- the bytes are such a front of what the course writes, and then the line that tells that memory is
-- wanting
abbrev pub IsCutShort : Course → List ℕ → Type 0
IsCutShort course bytes =
    (front : List ℕ) × (rest : List ℕ) × (output_of course ≡ front ++ rest)
    × (bytes ≡ front ++ memory_line) × Begins course front

-- a run of this course ends so: it wrote all and has the course's status, or memory was wanting, or
-- a write failed. The output's count of faults rose exactly where a write failed
abbrev pub EndsCourse : Course → Output → Output → ℕ → Type 0
EndsCourse course old new status =
    ((status ≡ status_of course) × Appends old.held new.held (output_of course)
    × (new.faults ≡ old.faults))
    ⊎ (((status ≡ 7) × (new.faults ≡ old.faults) × (bytes : List ℕ) × IsCutShort course bytes
    × Appends old.held new.held bytes)
    ⊎ ((status ≡ 5) × Rose old.faults new.faults × (bytes : List ℕ)
    × ((bytes ≡ output_of course) ⊎ IsCutShort course bytes)
    × AppendsFront old.held new.held bytes))

module _ (J : Type 0) {P : Type 0} (line_of : P → Line) (address_of : P → Option SocketAddress)
    (moments : Option (List ℕ)) where
  -- how a router that was to serve by a configuration ends, whose own answers come first: its book
  -- has no room for a service, or memory was wanting before it could serve
  abbrev pub EndsServing : Option (List File) → Config → Linked P → Linked P → Output → Output → ℕ
      → Type 0
  EndsServing files config net net_after old new status =
      ((lines : List ℕ) × (finish : Finish)
      × TellsServing J line_of address_of moments files config net net_after lines finish
      × TellsNet net.faults net_after.faults finish
      × EndsCourse (served lines finish) old new status)
      ⊎ ((RefusesBook files config × (net_after ≡ net)
      × EndsCourse (line_told false (codes "error book\n")) old new status)
      ⊎ ((net_after.faults ≡ net.faults) × EndsCourse no_memory old new status))

module _ {P : Type 0} (line_of : P → Line) (address_of : P → Option SocketAddress)
    (moments : Option (List ℕ)) where
  -- the whole of a run
  abbrev pub Ran : List (List ℕ) → Input → Input → Filed → Filed → Linked P → Linked P → Output
      → Output → ℕ → Type 0
  Ran words old_in new_in old_files new_files net net_after old_out new_out status =
      (course : Course)
      × Takes line_of address_of moments (command_of words) old_in new_in old_files new_files net
      net_after
      course
      × EndsCourse course old_out new_out status

-- So many listeners came back clean, and over all of them as many peers were finished as had been
-- accepted. The numbers of stops that were handed out and of those that came back rose alike
pub record AllBack {P : Type 0} (jobs : ℕ) (net net_after : Networking P) : Type 0 where
  pub clean : net_after.clean ≡ raised_by jobs net.clean
  pub peers : ℕ
  pub accepted : net_after.accepted ≡ added net.accepted peers
  pub finished : net_after.finished ≡ added net.finished peers
  pub given : net_after.stops_given ≡ raised_by jobs net.stops_given
  pub returned : net_after.stops_returned ≡ raised_by jobs net.stops_returned

-- so they did, where a router served
abbrev pub EndsWhole : {P : Type 0} → Result Asked ℕ → Filed → Linked P → Linked P → Type 0
EndsWhole (Err place) files net net_after = Unit {0}
EndsWhole (Ok replay) files net net_after = Unit {0}
EndsWhole (Ok (check path)) files net net_after = Unit {0}
EndsWhole (Ok (lint path)) files net net_after = Unit {0}
EndsWhole (Ok (serve path)) files net net_after =
    (config : Config) × IsConfig files.files path config
    × AllBack (jobs_in config) net.state net_after.state
EndsWhole (Ok (storm turns seed)) files net net_after = Unit {0}
EndsWhole (Ok (weave turns seed)) files net net_after = Unit {0}
EndsWhole (Ok (follow leader space polls)) files net net_after = Unit {0}

-- memory was wanting, or a write failed: each status yields to these two
abbrev pub Yields : ℕ → Output → Output → Type 0
Yields status old new = (status ≡ 7) ⊎ ((status ≡ 5) × Rose old.faults new.faults)

-- a script was read to its end, and every line of it is good, or one is not
abbrev pub ReadsScript : Bool → Input → Input → Type 0
ReadsScript good old new =
    (script : List ℕ) × Reads old new (script_read script) × ((replay_of script).1 ≡ good)

-- what the command is about was read, and is right, or is not. What is made from the words alone is
-- right, and so is what a leader says
abbrev pub Shows : Result Asked ℕ → Input → Input → Filed → Bool → Type 0
Shows (Err place) old new files good = ⊥
Shows (Ok replay) old new files good = ReadsScript good old new
Shows (Ok (check path)) old new files good = (line : List ℕ) × TellsPath files.files path good line
Shows (Ok (lint path)) old new files good =
    (told : List ℕ) × TellsTablePath files.files path good told
Shows (Ok (serve path)) old new files true = (config : Config) × IsConfig files.files path config
Shows (Ok (serve path)) old new files false = (line : List ℕ) × IsRefused files.files path line
Shows (Ok (storm turns seed)) old new files good = good ≡ true
Shows (Ok (weave turns seed)) old new files good = good ≡ true
Shows (Ok (follow leader space polls)) old new files good = good ≡ true

-- the course of a whole script
abbrev pub course_of : List ℕ → Course
course_of script = if nat_le (length script) most_script then script_read script else too_long

-- the run wrote all that its course says, and ends with its status, or memory was wanting
abbrev pub Completes : Course → Output → Output → ℕ → Type 0
Completes course old new status =
    (status ≡ 7) ⊎ ((status ≡ status_of course) × Appends old.held new.held (output_of course))

-- where nothing fails, an input that tells its bytes is carried out in full
abbrev pub ReplaysAll : List (List ℕ) → Input → Input → Output → Output → ℕ → Type 0
ReplaysAll words old_in new_in old_out new_out status =
    (script : List ℕ) → command_of words ≡ Ok replay → old_in.left ≡ Some script
    → (Rose old_in.faults new_in.faults → ⊥) → (Rose old_out.faults new_out.faults → ⊥)
    → Completes (course_of script) old_out new_out status

-- where nothing fails, a configuration is told of
abbrev pub ChecksAll : List (List ℕ) → Filed → Filed → Output → Output → ℕ → Type 0
ChecksAll words old_files new_files old_out new_out status =
    (path : List ℕ) → command_of words ≡ Ok (check path)
    → (Rose old_files.faults new_files.faults → ⊥) → (Rose old_out.faults new_out.faults → ⊥)
    → (status ≡ 7) ⊎ ((good : Bool) × (line : List ℕ) × TellsPath old_files.files path good line
    × Completes (line_told good line) old_out new_out status)

-- where nothing fails, a table is told of
abbrev pub LintsAll : List (List ℕ) → Filed → Filed → Output → Output → ℕ → Type 0
LintsAll words old_files new_files old_out new_out status =
    (path : List ℕ) → command_of words ≡ Ok (lint path)
    → (Rose old_files.faults new_files.faults → ⊥) → (Rose old_out.faults new_out.faults → ⊥)
    → (status ≡ 7) ⊎ ((good : Bool) × (told : List ℕ)
    × TellsTablePath old_files.files path good told
    × Completes (line_told good told) old_out new_out status)

-- where no write fails, the line of a generated run is told
abbrev pub MakesAll : (ℕ → ℕ → Asked) → (ℕ → ℕ → List ℕ) → List (List ℕ) → Output → Output → ℕ
    → Type 0
MakesAll command line_of words old_out new_out status =
    (turns : ℕ) → (seed : ℕ) → command_of words ≡ Ok (command turns seed)
    → (Rose old_out.faults new_out.faults → ⊥)
    → Completes (line_told true (line_of turns seed)) old_out new_out status

-- the statuses that there are
abbrev pub statuses : List ℕ
statuses = 0 ∷ 2 ∷ 3 ∷ 4 ∷ 5 ∷ 6 ∷ 7 ∷ 8 ∷ []
