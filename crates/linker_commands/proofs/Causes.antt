-- What each status shows.
use Rattle.std.proofs.Common.{◌≡◌, ℕ, ◌<◌, Bool, List, length, length-append, refl, sym}
use Rattle.std.proofs.Common.{ap, subst, ◌∙◌, arith, true, false, inl, inr, lit<}
use Rattle.std.specs.Prelude.{Option, None, Some, Result, Ok, Err, ◌⊎◌, IsSome, IsErr, Contains}
use Rattle.std.specs.Io.KnownBytes.{Consumes}
use Rattle.addr_book.specs.declared.addr.Addr.{Addr}
use Rattle.line_base.specs.Counts.{Rose}
use Rattle.line_base.specs.Nets.{Returns}
use Rattle.linker_config.specs.declared.config.Config.{Config}
use Rattle.line_base.specs.Lines.{Line}
use Rattle.line_base.specs.declared.socket_address.SocketAddress.{SocketAddress}
use Rattle.serving.specs.Posts.{jobs_of}
use Rattle.serving.specs.Shifts.{admissions}
use Rattle.std.specs.declared.marker.Brand.{Brand}
use Rattle.command_lines.specs.Check.{IsConfig, TellsPath}
use Rattle.command_lines.specs.Generated.{storm_line, weave_line}
use Rattle.command_lines.specs.Lint.{TellsTablePath}
use Rattle.script.specs.Replay.{replay_of}
use Rattle.line_base.specs.Files.{Filed}
use Rattle.line_base.specs.Streams.{Input, Output}
use Rattle.linker_commands.specs.Run.{Course, words_refused, read_failed, too_long, script_read}
use Rattle.linker_commands.specs.Linked.{Linked}
use Rattle.linker_commands.specs.Run.{line_told, no_memory, served, followed, Follows}
use Rattle.linker_commands.specs.Run.{Reads, ReadsScript}
use Rattle.linker_commands.specs.Run.{Checks, Serves, Makes, Takes, Shows, ReadsLong, EndsCourse}
use Rattle.linker_commands.specs.Run.{AllBack, EndsWhole, Ran, Yields}
use Rattle.linker_commands.specs.Run.{status_of, status_if, statuses}
use Rattle.linker_commands.specs.Served.{Finish, shut_down, broken, short, finish_code}
use Rattle.linker_commands.specs.Served.{IsRefused, TellsNet, TellsServing}
use Rattle.linker_commands.proofs.Serving.{jobs_by}
use Rattle.command_lines.specs.Words.{Asked, replay, check, serve, lint, storm, weave, follow}
use Rattle.command_lines.specs.Words.{command_of}

module _ {P : Type 0} (line_of : P → Line) (address_of : P → Option SocketAddress)
    (moments : Option (List ℕ)) where
  -- a run that did not yield has the status of its course
  ended_code : (course : Course) (old new : Output) (status : ℕ) → EndsCourse course old new status
      → (status ≡ status_of course) ⊎ Yields status old new
  ended_code course old new status (inl whole) = inl whole.0
  ended_code course old new status (inr (inl wanting)) = inr (inl wanting.0)
  ended_code course old new status (inr (inr failed)) = inr (inr (failed.0, failed.1))

  -- known bytes are taken off the front by so many
  taken_length : (old new : Option (List ℕ)) (bytes others : List ℕ) → IsSome old
      → Consumes old new bytes → Consumes old new others → length bytes ≡ length others
  taken_length None new bytes others some p q = cc some
  taken_length (Some xs) None bytes others some p q = absurd p
  taken_length (Some xs) (Some ys) bytes others some p q =
      omega (arith, length-append bytes ys, length-append others ys, ap length p, ap length q)

  nothing_taken : (old : Option (List ℕ)) (bytes : List ℕ) → IsSome old → Consumes old old bytes
      → length bytes ≡ 0
  nothing_taken None bytes some p = cc some
  nothing_taken (Some xs) bytes some p = omega (arith, length-append bytes xs, ap length p)

  -- more was read than a script may have: no other course of a script shows that
  long_script : (old new : Input) (course : Course) → IsSome old.left → ReadsLong old new
      → Reads old new course → status_of course ≡ 8
  long_script old new (words_refused place) some long took = absurd took
  long_script old new read_failed some long took =
      absurd (omega (
        arith,
        taken_length old.left new.left long.0 took.1.0 some long.1 took.1.1,
        long.2,
        took.1.2,
      ))
  long_script old new too_long some long took = refl
  long_script old new (script_read script) some long took =
      absurd (omega (
        arith,
        taken_length old.left new.left long.0 script some long.1 took.0,
        long.2,
        took.2,
      ))
  long_script old new (line_told good line) some long took = absurd took
  long_script old new (served lines finish) some long took = absurd took
  long_script old new (followed all lines) some long took = absurd took
  long_script old new no_memory some long took =
      absurd (omega (
        arith,
        taken_length old.left new.left long.0 took.0.0 some long.1 took.0.1,
        long.2,
        took.0.2,
      ))

  -- an input that was left alone was not read
  not_read : (old new : Input) → IsSome old.left → ReadsLong old new → new ≡ old → ⊥
  not_read old new some long same =
      let taken = subst (λ (i : Input). Consumes old.left i.left long.0) same long.1 in
      omega (arith, nothing_taken old.left long.0 some taken, long.2)

  long_course : (asked : Result Asked ℕ) (old new : Input) (old_files new_files : Filed)
      (net net_after : Linked P) (course : Course) → IsSome old.left → ReadsLong old new
      → Takes line_of address_of moments asked old new old_files new_files net net_after course
      → status_of course ≡ 8
  long_course (Err place) old new old_files new_files net net_after course some long took =
      absurd (not_read old new some long took.1)
  long_course (Ok replay) old new old_files new_files net net_after course some long took =
      long_script old new course some long took.0
  long_course (Ok (check path)) old new old_files new_files net net_after course some long took =
      absurd (not_read old new some long took.1)
  long_course (Ok (lint path)) old new old_files new_files net net_after course some long took =
      absurd (not_read old new some long took.1)
  long_course (Ok (serve path)) old new old_files new_files net net_after course some long took =
      absurd (not_read old new some long took.1)
  long_course (Ok (storm turns seed)) old new old_files new_files net net_after course some long
      took =
      absurd (not_read old new some long took.1)
  long_course (Ok (weave turns seed)) old new old_files new_files net net_after course some long
      took =
      absurd (not_read old new some long took.1)
  long_course (Ok (follow leader space polls)) old new old_files new_files net net_after course some
      long took =
      absurd (not_read old new some long took.1)

  -- the input's count rose only where a read failed
  failed_script : (old new : Input) (course : Course) → old.faults < new.faults
      → Reads old new course → status_of course ≡ 4
  failed_script old new (words_refused place) rose took = absurd took
  failed_script old new read_failed rose took = refl
  failed_script old new too_long rose took = absurd (omega (arith, took.1, rose))
  failed_script old new (script_read script) rose took = absurd (omega (arith, took.4, rose))
  failed_script old new (line_told good line) rose took = absurd took
  failed_script old new (served lines finish) rose took = absurd took
  failed_script old new (followed all lines) rose took = absurd took
  failed_script old new no_memory rose took = absurd (omega (arith, took.1, rose))

  failed_input : (asked : Result Asked ℕ) (old new : Input) (old_files new_files : Filed)
      (net net_after : Linked P) (course : Course) → old.faults < new.faults
      → Takes line_of address_of moments asked old new old_files new_files net net_after course
      → status_of course ≡ 4
  failed_input (Err place) old new old_files new_files net net_after course rose took =
      absurd (omega (arith, ap (λ (i : Input). i.faults) took.1, rose))
  failed_input (Ok replay) old new old_files new_files net net_after course rose took =
      failed_script old new course rose took.0
  failed_input (Ok (check path)) old new old_files new_files net net_after course rose took =
      absurd (omega (arith, ap (λ (i : Input). i.faults) took.1, rose))
  failed_input (Ok (lint path)) old new old_files new_files net net_after course rose took =
      absurd (omega (arith, ap (λ (i : Input). i.faults) took.1, rose))
  failed_input (Ok (serve path)) old new old_files new_files net net_after course rose took =
      absurd (omega (arith, ap (λ (i : Input). i.faults) took.1, rose))
  failed_input (Ok (storm turns seed)) old new old_files new_files net net_after course rose took =
      absurd (omega (arith, ap (λ (i : Input). i.faults) took.1, rose))
  failed_input (Ok (weave turns seed)) old new old_files new_files net net_after course rose took =
      absurd (omega (arith, ap (λ (i : Input). i.faults) took.1, rose))
  failed_input (Ok (follow leader space polls)) old new old_files new_files net net_after course
      rose took =
      absurd (omega (arith, ap (λ (i : Input). i.faults) took.1, rose))

  -- the folder's count rose only where it could not be read
  failed_config : (TellsFile : Bool → List ℕ → Type 0) (old new : Filed) (course : Course)
      → old.faults < new.faults → Checks TellsFile old new course → status_of course ≡ 4
  failed_config TellsFile old new (words_refused place) rose took = absurd took
  failed_config TellsFile old new read_failed rose took = refl
  failed_config TellsFile old new too_long rose took = absurd took
  failed_config TellsFile old new (script_read script) rose took = absurd took
  failed_config TellsFile old new (line_told good line) rose took =
      absurd (omega (arith, took.1, rose))
  failed_config TellsFile old new (served lines finish) rose took = absurd took
  failed_config TellsFile old new (followed all lines) rose took = absurd took
  failed_config TellsFile old new no_memory rose took = absurd (omega (arith, took, rose))

  -- a folder that serving could not read
  failed_serving : (path : List ℕ) (old new : Filed) (net net_after : Linked P) (course : Course)
      → old.faults < new.faults → Serves line_of address_of moments path old new net net_after
      course
      → status_of course ≡ 4
  failed_serving path old new net net_after (words_refused place) rose took = absurd took
  failed_serving path old new net net_after read_failed rose took = refl
  failed_serving path old new net net_after too_long rose took = absurd took
  failed_serving path old new net net_after (script_read script) rose took = absurd took
  failed_serving path old new net net_after (line_told true line) rose took = absurd took
  failed_serving path old new net net_after (line_told false line) rose took =
      absurd (omega (arith, took.1, rose))
  failed_serving path old new net net_after no_memory rose took =
      absurd (omega (arith, took.0, rose))
  failed_serving path old new net net_after (served lines finish) rose took =
      absurd (omega (arith, took.4, rose))
  failed_serving path old new net net_after (followed all lines) rose took = absurd took

  failed_folder : (asked : Result Asked ℕ) (old new : Input) (old_files new_files : Filed)
      (net net_after : Linked P) (course : Course) → old_files.faults < new_files.faults
      → Takes line_of address_of moments asked old new old_files new_files net net_after course
      → status_of course ≡ 4
  failed_folder (Err place) old new old_files new_files net net_after course rose took =
      absurd (omega (arith, ap (λ (f : Filed). f.faults) took.2, rose))
  failed_folder (Ok replay) old new old_files new_files net net_after course rose took =
      absurd (omega (arith, ap (λ (f : Filed). f.faults) took.1, rose))
  failed_folder (Ok (check path)) old new old_files new_files net net_after course rose took =
      failed_config (TellsPath old_files.files path) old_files new_files course rose took.0
  failed_folder (Ok (lint path)) old new old_files new_files net net_after course rose took =
      failed_config (TellsTablePath old_files.files path) old_files new_files course rose took.0
  failed_folder (Ok (serve path)) old new old_files new_files net net_after course rose took =
      failed_serving path old_files new_files net net_after course rose took.0
  failed_folder (Ok (storm turns seed)) old new old_files new_files net net_after course rose took =
      absurd (omega (arith, ap (λ (f : Filed). f.faults) took.2, rose))
  failed_folder (Ok (weave turns seed)) old new old_files new_files net net_after course rose took =
      absurd (omega (arith, ap (λ (f : Filed). f.faults) took.2, rose))
  failed_folder (Ok (follow leader space polls)) old new old_files new_files net net_after course
      rose took =
      absurd (omega (arith, ap (λ (f : Filed). f.faults) took.2, rose))

  -- words that fit no command are refused
  refused_course : (asked : Result Asked ℕ) (old new : Input) (old_files new_files : Filed)
      (net net_after : Linked P) (course : Course) → IsErr asked
      → Takes line_of address_of moments asked old new old_files new_files net net_after course
      → status_of course ≡ 2
  refused_course (Err place) old new old_files new_files net net_after course err took =
      ap status_of took.0
  refused_course (Ok command) old new old_files new_files net net_after course err took = cc err

  -- the status of what is right or wrong is no other
  apart : (n : ℕ) (good : Bool) → (n ≡ 0 → ⊥) → (n ≡ 3 → ⊥) → n ≡ status_if good → ⊥
  apart n true zero_not three_not is = zero_not is
  apart n false zero_not three_not is = three_not is

  same_good : (a b : Bool) → status_if a ≡ status_if b → a ≡ b
  same_good true true is = refl
  same_good true false is = absurd (omega (arith, is))
  same_good false true is = absurd (omega (arith, is))
  same_good false false is = refl

  shown_script : (good : Bool) (old new : Input) (course : Course)
      → status_of course ≡ status_if good → Reads old new course → ReadsScript good old new
  shown_script good old new (words_refused place) is took = absurd took
  shown_script good old new read_failed is took =
      absurd (apart 4 good (λ p. omega (arith, p)) (λ p. omega (arith, p)) is)
  shown_script good old new too_long is took =
      absurd (apart 8 good (λ p. omega (arith, p)) (λ p. omega (arith, p)) is)
  shown_script good old new (script_read script) is took =
      (script, took, same_good (replay_of script).1 good is)
  shown_script good old new (line_told right line) is took = absurd took
  shown_script good old new (served lines finish) is took = absurd took
  shown_script good old new (followed all lines) is took = absurd took
  shown_script good old new no_memory is took =
      absurd (apart 7 good (λ p. omega (arith, p)) (λ p. omega (arith, p)) is)

  shown_config : (TellsFile : Bool → List ℕ → Type 0) (good : Bool) (old new : Filed)
      (course : Course) → status_of course ≡ status_if good → Checks TellsFile old new course
      → (line : List ℕ) × TellsFile good line
  shown_config TellsFile good old new (words_refused place) is took = absurd took
  shown_config TellsFile good old new read_failed is took =
      absurd (apart 4 good (λ p. omega (arith, p)) (λ p. omega (arith, p)) is)
  shown_config TellsFile good old new too_long is took = absurd took
  shown_config TellsFile good old new (script_read script) is took = absurd took
  shown_config TellsFile good old new (line_told right line) is took =
      (line, subst (λ (b : Bool). TellsFile b line) (same_good right good is) took.0)
  shown_config TellsFile good old new (served lines finish) is took = absurd took
  shown_config TellsFile good old new (followed all lines) is took = absurd took
  shown_config TellsFile good old new no_memory is took =
      absurd (apart 7 good (λ p. omega (arith, p)) (λ p. omega (arith, p)) is)

  shown_made : (good : Bool) (line : List ℕ) (course : Course) → status_of course ≡ status_if good
      → Makes line course → good ≡ true
  shown_made good line course is (inl told) =
      sym (same_good true good (sym (ap status_of told) ∙ is))
  shown_made good line course is (inr wanting) =
      absurd (apart 7 good (λ p. omega (arith, p)) (λ p. omega (arith, p))
      (sym (ap status_of wanting) ∙ is))

  not_right : (good : Bool) (finish : Finish) → finish_code finish ≡ status_if good → good ≡ true
  not_right true finish is = refl
  not_right false shut_down is = absurd (omega (arith, is))
  not_right false broken is = absurd (omega (arith, is))
  not_right false short is = absurd (omega (arith, is))

  shown_line : (good : Bool) (path line : List ℕ) (old new : Input) (files : Filed) → false ≡ good
      → IsRefused files.files path line → Shows (Ok (serve path)) old new files good
  shown_line true path line old new files is refused = cc is
  shown_line false path line old new files is refused = (line, refused)

  shown_router : (good : Bool) (path : List ℕ) (config : Config) (old new : Input) (files : Filed)
      → good ≡ true → IsConfig files.files path config → Shows (Ok (serve path)) old new files good
  shown_router true path config old new files is right = (config, right)
  shown_router false path config old new files is right = cc is

  shown_serving : (good : Bool) (path : List ℕ) (old new : Input) (old_files new_files : Filed)
      (net net_after : Linked P) (course : Course) → status_of course ≡ status_if good
      → Serves line_of address_of moments path old_files new_files net net_after course
      → Shows (Ok (serve path)) old new old_files good
  shown_serving good path old new files files_after net net_after (words_refused place) is took =
      absurd took
  shown_serving good path old new files files_after net net_after read_failed is took =
      absurd (apart 4 good (λ p. omega (arith, p)) (λ p. omega (arith, p)) is)
  shown_serving good path old new files files_after net net_after too_long is took = absurd took
  shown_serving good path old new files files_after net net_after (script_read script) is took =
      absurd took
  shown_serving good path old new files files_after net net_after (line_told true line) is took =
      absurd took
  shown_serving good path old new files files_after net net_after (line_told false line) is took =
      shown_line good path line old new files (same_good false good is) took.0
  shown_serving good path old new files files_after net net_after no_memory is took =
      absurd (apart 7 good (λ p. omega (arith, p)) (λ p. omega (arith, p)) is)
  shown_serving good path old new files files_after net net_after (served lines finish) is took =
      shown_router good path took.0 old new files (not_right good finish is) took.1
  shown_serving good path old new files files_after net net_after (followed all lines) is took =
      absurd took

  seven_apart : (good : Bool) → 7 ≡ status_if good → ⊥
  seven_apart good is = apart 7 good (λ p. omega (arith, p)) (λ p. omega (arith, p)) is

  shown_followed : (good : Bool) (told : Option (Returns P)) (leader : Addr) (space : List ℕ)
      (polls : ℕ) (course : Course) → status_of course ≡ status_if good
      → Follows told leader space polls course → good ≡ true
  shown_followed good told leader space polls (words_refused place) is took = absurd took
  shown_followed good told leader space polls read_failed is took = absurd took
  shown_followed good told leader space polls too_long is took = absurd took
  shown_followed good told leader space polls (script_read script) is took = absurd took
  shown_followed good told leader space polls (line_told right line) is took = absurd took
  shown_followed good told leader space polls no_memory is took = absurd (seven_apart good is)
  shown_followed good told leader space polls (served lines finish) is took = absurd took
  shown_followed good told leader space polls (followed true lines) is took =
      sym (same_good true good is)
  shown_followed good told leader space polls (followed false lines) is took =
      absurd (seven_apart good is)

  shown : (good : Bool) (asked : Result Asked ℕ) (old new : Input) (old_files new_files : Filed)
      (net net_after : Linked P) (course : Course) → status_of course ≡ status_if good
      → Takes line_of address_of moments asked old new old_files new_files net net_after course
      → Shows asked old new old_files good
  shown good (Err place) old new old_files new_files net net_after course is took =
      absurd (apart 2 good (λ p. omega (arith, p)) (λ p. omega (arith, p))
      (sym (ap status_of took.0) ∙ is))
  shown good (Ok replay) old new old_files new_files net net_after course is took =
      shown_script good old new course is took.0
  shown good (Ok (check path)) old new old_files new_files net net_after course is took =
      shown_config (TellsPath old_files.files path) good old_files new_files course is took.0
  shown good (Ok (lint path)) old new old_files new_files net net_after course is took =
      shown_config (TellsTablePath old_files.files path) good old_files new_files course is took.0
  shown good (Ok (serve path)) old new old_files new_files net net_after course is took =
      shown_serving good path old new old_files new_files net net_after course is took.0
  shown good (Ok (storm turns seed)) old new old_files new_files net net_after course is took =
      shown_made good (storm_line turns seed) course is took.0
  shown good (Ok (weave turns seed)) old new old_files new_files net net_after course is took =
      shown_made good (weave_line turns seed) course is took.0
  shown good (Ok (follow leader space polls)) old new old_files new_files net net_after course is
      took =
      shown_followed good net.state.told leader space polls course is took.0

  -- a router served, and all its listeners, peers and stops came back
  back_router : (path lines : List ℕ) (config : Config) (files : Filed) (net net_after : Linked P)
      (finish : Finish) → finish_code finish ≡ 0 → IsConfig files.files path config
      → TellsServing Brand line_of address_of moments files.files config net net_after lines finish
      → EndsWhole (Ok (serve path)) files net net_after
  back_router path lines config files net net_after shut_down is right told =
      let by = told.is_last.1 in
      let w = by.recorded.whole in
      let Back : ℕ → Type 0 = λ n. AllBack n net.state net_after.state in
      let all : Back (jobs_of by.site) = record {
        clean = w.clean;
        peers = admissions w.ran.shifts;
        accepted = w.accepted;
        finished = w.finished;
        given = w.stops_given;
        returned = w.stops_returned;
      } in
      (config, right, subst Back (jobs_by moments config by.site by.site_is) all)
  back_router path lines config files net net_after broken is right told =
      absurd (omega (arith, is))
  back_router path lines config files net net_after short is right told = absurd (omega (arith, is))

  back_serving : (path : List ℕ) (old new : Filed) (net net_after : Linked P) (course : Course)
      → status_of course ≡ 0 → Serves line_of address_of moments path old new net net_after course
      → EndsWhole (Ok (serve path)) old net net_after
  back_serving path old new net net_after (words_refused place) is took = absurd took
  back_serving path old new net net_after read_failed is took = absurd (omega (arith, is))
  back_serving path old new net net_after too_long is took = absurd took
  back_serving path old new net net_after (script_read script) is took = absurd took
  back_serving path old new net net_after (line_told true line) is took = absurd took
  back_serving path old new net net_after (line_told false line) is took =
      absurd (omega (arith, is))
  back_serving path old new net net_after no_memory is took = absurd (omega (arith, is))
  back_serving path old new net net_after (served lines finish) is took =
      back_router path lines took.0 old net net_after finish is took.1 took.2
  back_serving path old new net net_after (followed all lines) is took = absurd took

  back_all : (asked : Result Asked ℕ) (old new : Input) (old_files new_files : Filed)
      (net net_after : Linked P) (course : Course) → status_of course ≡ 0
      → Takes line_of address_of moments asked old new old_files new_files net net_after course
      → EndsWhole asked old_files net net_after
  back_all (Err place) old new old_files new_files net net_after course is took = tt
  back_all (Ok replay) old new old_files new_files net net_after course is took = tt
  back_all (Ok (check path)) old new old_files new_files net net_after course is took = tt
  back_all (Ok (lint path)) old new old_files new_files net net_after course is took = tt
  back_all (Ok (serve path)) old new old_files new_files net net_after course is took =
      back_serving path old_files new_files net net_after course is took.0
  back_all (Ok (storm turns seed)) old new old_files new_files net net_after course is took = tt
  back_all (Ok (weave turns seed)) old new old_files new_files net net_after course is took = tt
  back_all (Ok (follow leader space polls)) old new old_files new_files net net_after course is took
      =
      tt

  status_there : (good : Bool) → Contains statuses (status_if good)
  status_there true = (0, lit< tt, refl)
  status_there false = (2, lit< tt, refl)

  finish_there : (finish : Finish) → Contains statuses (finish_code finish)
  finish_there shut_down = (0, lit< tt, refl)
  finish_there broken = (5, lit< tt, refl)
  finish_there short = (6, lit< tt, refl)

  course_status : (course : Course) → Contains statuses (status_of course)
  course_status (words_refused place) = (1, lit< tt, refl)
  course_status read_failed = (3, lit< tt, refl)
  course_status too_long = (7, lit< tt, refl)
  course_status (script_read script) = status_there (replay_of script).1
  course_status (line_told good line) = status_there good
  course_status no_memory = (6, lit< tt, refl)
  course_status (served lines finish) = finish_there finish
  course_status (followed true lines) = (0, lit< tt, refl)
  course_status (followed false lines) = (6, lit< tt, refl)

  -- the status of a broken net is no other
  good_code : (good : Bool) → status_if good ≡ 6 → ⊥
  good_code true is = omega (arith, is)
  good_code false is = omega (arith, is)

  broken_is : (finish : Finish) → finish_code finish ≡ 6 → finish ≡ broken
  broken_is shut_down is = absurd (omega (arith, is))
  broken_is broken is = refl
  broken_is short is = absurd (omega (arith, is))

  no_net_script : (old new : Input) (course : Course) → status_of course ≡ 6 → Reads old new course
      → ⊥
  no_net_script old new (words_refused place) is took = took
  no_net_script old new read_failed is took = omega (arith, is)
  no_net_script old new too_long is took = omega (arith, is)
  no_net_script old new (script_read script) is took = good_code (replay_of script).1 is
  no_net_script old new (line_told good line) is took = took
  no_net_script old new no_memory is took = omega (arith, is)
  no_net_script old new (served lines finish) is took = took
  no_net_script old new (followed all lines) is took = took

  no_net_config : (TellsFile : Bool → List ℕ → Type 0) (old new : Filed) (course : Course)
      → status_of course ≡ 6 → Checks TellsFile old new course → ⊥
  no_net_config TellsFile old new (words_refused place) is took = took
  no_net_config TellsFile old new read_failed is took = omega (arith, is)
  no_net_config TellsFile old new too_long is took = took
  no_net_config TellsFile old new (script_read script) is took = took
  no_net_config TellsFile old new (line_told good line) is took = good_code good is
  no_net_config TellsFile old new no_memory is took = omega (arith, is)
  no_net_config TellsFile old new (served lines finish) is took = took
  no_net_config TellsFile old new (followed all lines) is took = took

  no_net_made : (line : List ℕ) (course : Course) → status_of course ≡ 6 → Makes line course → ⊥
  no_net_made line course is (inl told) = omega (arith, sym (ap status_of told) ∙ is)
  no_net_made line course is (inr wanting) = omega (arith, sym (ap status_of wanting) ∙ is)

  no_net_followed : (told : Option (Returns P)) (leader : Addr) (space : List ℕ) (polls : ℕ)
      (course : Course) → status_of course ≡ 6 → Follows told leader space polls course → ⊥
  no_net_followed told leader space polls (words_refused place) is took = took
  no_net_followed told leader space polls read_failed is took = took
  no_net_followed told leader space polls too_long is took = took
  no_net_followed told leader space polls (script_read script) is took = took
  no_net_followed told leader space polls (line_told right line) is took = took
  no_net_followed told leader space polls no_memory is took = omega (arith, is)
  no_net_followed told leader space polls (served lines finish) is took = took
  no_net_followed told leader space polls (followed true lines) is took = omega (arith, is)
  no_net_followed told leader space polls (followed false lines) is took = omega (arith, is)

  broken_serving : (path : List ℕ) (old new : Filed) (net net_after : Linked P) (course : Course)
      → status_of course ≡ 6 → Serves line_of address_of moments path old new net net_after course
      → Rose net.faults net_after.faults
  broken_serving path old new net net_after (words_refused place) is took = absurd took
  broken_serving path old new net net_after read_failed is took = absurd (omega (arith, is))
  broken_serving path old new net net_after too_long is took = absurd took
  broken_serving path old new net net_after (script_read script) is took = absurd took
  broken_serving path old new net net_after (line_told true line) is took = absurd took
  broken_serving path old new net net_after (line_told false line) is took =
      absurd (omega (arith, is))
  broken_serving path old new net net_after no_memory is took = absurd (omega (arith, is))
  broken_serving path old new net net_after (served lines finish) is took =
      took.3.rose (broken_is finish is)
  broken_serving path old new net net_after (followed all lines) is took = absurd took

  broken_net : (asked : Result Asked ℕ) (old new : Input) (old_files new_files : Filed)
      (net net_after : Linked P) (course : Course) → status_of course ≡ 6
      → Takes line_of address_of moments asked old new old_files new_files net net_after course
      → Rose net.faults net_after.faults
  broken_net (Err place) old new old_files new_files net net_after course is took =
      absurd (omega (arith, sym (ap status_of took.0) ∙ is))
  broken_net (Ok replay) old new old_files new_files net net_after course is took =
      absurd (no_net_script old new course is took.0)
  broken_net (Ok (check path)) old new old_files new_files net net_after course is took =
      absurd (no_net_config (TellsPath old_files.files path) old_files new_files course is took.0)
  broken_net (Ok (lint path)) old new old_files new_files net net_after course is took =
      absurd (no_net_config (TellsTablePath old_files.files path) old_files new_files course is
      took.0)
  broken_net (Ok (serve path)) old new old_files new_files net net_after course is took =
      broken_serving path old_files new_files net net_after course is took.0
  broken_net (Ok (storm turns seed)) old new old_files new_files net net_after course is took =
      absurd (no_net_made (storm_line turns seed) course is took.0)
  broken_net (Ok (weave turns seed)) old new old_files new_files net net_after course is took =
      absurd (no_net_made (weave_line turns seed) course is took.0)
  broken_net (Ok (follow leader space polls)) old new old_files new_files net net_after course is
      took =
      absurd (no_net_followed net.state.told leader space polls course is took.0)

  -- the net's count rose only where it is broken
  rose_finish : (before now : ℕ) (finish : Finish) → before < now → TellsNet before now finish
      → finish ≡ broken
  rose_finish before now shut_down rose told = absurd (omega (arith, told.kept (λ is. cc is), rose))
  rose_finish before now broken rose told = refl
  rose_finish before now short rose told = absurd (omega (arith, told.kept (λ is. cc is), rose))

  rose_serving : (path : List ℕ) (old new : Filed) (net net_after : Linked P) (course : Course)
      → net.faults < net_after.faults → Serves line_of address_of moments path old new net
      net_after course
      → status_of course ≡ 6
  rose_serving path old new net net_after (words_refused place) rose took = absurd took
  rose_serving path old new net net_after read_failed rose took =
      absurd (omega (arith, ap (λ (n : Linked P). n.faults) took.1, rose))
  rose_serving path old new net net_after too_long rose took = absurd took
  rose_serving path old new net net_after (script_read script) rose took = absurd took
  rose_serving path old new net net_after (line_told true line) rose took = absurd took
  rose_serving path old new net net_after (line_told false line) rose took =
      absurd (omega (arith, ap (λ (n : Linked P). n.faults) took.2, rose))
  rose_serving path old new net net_after no_memory rose took = absurd (omega (arith, took.1, rose))
  rose_serving path old new net net_after (served lines finish) rose took =
      ap finish_code (rose_finish net.faults net_after.faults finish rose took.3)
  rose_serving path old new net net_after (followed all lines) rose took = absurd took

  rose_net : (asked : Result Asked ℕ) (old new : Input) (old_files new_files : Filed)
      (net net_after : Linked P) (course : Course) → net.faults < net_after.faults
      → Takes line_of address_of moments asked old new old_files new_files net net_after course
      → status_of course ≡ 6
  rose_net (Err place) old new old_files new_files net net_after course rose took =
      absurd (omega (arith, ap (λ (n : Linked P). n.faults) took.3, rose))
  rose_net (Ok replay) old new old_files new_files net net_after course rose took =
      absurd (omega (arith, ap (λ (n : Linked P). n.faults) took.2, rose))
  rose_net (Ok (check path)) old new old_files new_files net net_after course rose took =
      absurd (omega (arith, ap (λ (n : Linked P). n.faults) took.3, rose))
  rose_net (Ok (lint path)) old new old_files new_files net net_after course rose took =
      absurd (omega (arith, ap (λ (n : Linked P). n.faults) took.3, rose))
  rose_net (Ok (serve path)) old new old_files new_files net net_after course rose took =
      rose_serving path old_files new_files net net_after course rose took.0
  rose_net (Ok (storm turns seed)) old new old_files new_files net net_after course rose took =
      absurd (omega (arith, ap (λ (n : Linked P). n.faults) took.3, rose))
  rose_net (Ok (weave turns seed)) old new old_files new_files net net_after course rose took =
      absurd (omega (arith, ap (λ (n : Linked P). n.faults) took.3, rose))
  rose_net (Ok (follow leader space polls)) old new old_files new_files net net_after course rose
      took =
      absurd (omega (arith, ap (λ (n : Linked P). n.faults) took.3, rose))

  -- which course has a status that no other has
  two_if : (good : Bool) → status_if good ≡ 2 → ⊥
  two_if true is = omega (arith, is)
  two_if false is = omega (arith, is)

  four_if : (good : Bool) → status_if good ≡ 4 → ⊥
  four_if true is = omega (arith, is)
  four_if false is = omega (arith, is)

  eight_if : (good : Bool) → status_if good ≡ 8 → ⊥
  eight_if true is = omega (arith, is)
  eight_if false is = omega (arith, is)

  few_finish : (finish : Finish) (n : ℕ) → finish_code finish ≡ n → (n ≡ 0 → ⊥) → (n ≡ 6 → ⊥)
      → (n ≡ 7 → ⊥) → ⊥
  few_finish shut_down n is zero six seven = zero (sym is)
  few_finish broken n is zero six seven = six (sym is)
  few_finish short n is zero six seven = seven (sym is)

  refused_is : (course : Course) → status_of course ≡ 2
      → (place : ℕ) × (course ≡ words_refused place)
  refused_is (words_refused place) is = (place, refl)
  refused_is read_failed is = absurd (omega (arith, is))
  refused_is too_long is = absurd (omega (arith, is))
  refused_is (script_read script) is = absurd (two_if (replay_of script).1 is)
  refused_is (line_told good line) is = absurd (two_if good is)
  refused_is no_memory is = absurd (omega (arith, is))
  refused_is (served lines finish) is =
      absurd (few_finish finish 2 is (λ p. omega (arith, p)) (λ p. omega (arith, p))
      (λ p. omega (arith, p)))
  refused_is (followed true lines) is = absurd (omega (arith, is))
  refused_is (followed false lines) is = absurd (omega (arith, is))

  failed_is : (course : Course) → status_of course ≡ 4 → course ≡ read_failed
  failed_is (words_refused place) is = absurd (omega (arith, is))
  failed_is read_failed is = refl
  failed_is too_long is = absurd (omega (arith, is))
  failed_is (script_read script) is = absurd (four_if (replay_of script).1 is)
  failed_is (line_told good line) is = absurd (four_if good is)
  failed_is no_memory is = absurd (omega (arith, is))
  failed_is (served lines finish) is =
      absurd (few_finish finish 4 is (λ p. omega (arith, p)) (λ p. omega (arith, p))
      (λ p. omega (arith, p)))
  failed_is (followed true lines) is = absurd (omega (arith, is))
  failed_is (followed false lines) is = absurd (omega (arith, is))

  long_is : (course : Course) → status_of course ≡ 8 → course ≡ too_long
  long_is (words_refused place) is = absurd (omega (arith, is))
  long_is read_failed is = absurd (omega (arith, is))
  long_is too_long is = refl
  long_is (script_read script) is = absurd (eight_if (replay_of script).1 is)
  long_is (line_told good line) is = absurd (eight_if good is)
  long_is no_memory is = absurd (omega (arith, is))
  long_is (served lines finish) is =
      absurd (few_finish finish 8 is (λ p. omega (arith, p)) (λ p. omega (arith, p))
      (λ p. omega (arith, p)))
  long_is (followed true lines) is = absurd (omega (arith, is))
  long_is (followed false lines) is = absurd (omega (arith, is))

  -- what is made takes none of them
  not_refused : (line : List ℕ) (place : ℕ) → Makes line (words_refused place) → ⊥
  not_refused line place (inl told) = cc told
  not_refused line place (inr wanting) = cc wanting

  not_failed : (line : List ℕ) → Makes line read_failed → ⊥
  not_failed line (inl told) = cc told
  not_failed line (inr wanting) = cc wanting

  not_long : (line : List ℕ) → Makes line too_long → ⊥
  not_long line (inl told) = cc told
  not_long line (inr wanting) = cc wanting

  -- the commands that take them
  refuses : (asked : Result Asked ℕ) (old new : Input) (old_files new_files : Filed)
      (net net_after : Linked P) (place : ℕ)
      → Takes line_of address_of moments asked old new old_files new_files net net_after
      (words_refused place)
      → IsErr asked
  refuses (Err at) old new old_files new_files net net_after place took = refl
  refuses (Ok replay) old new old_files new_files net net_after place took = absurd took.0
  refuses (Ok (check path)) old new old_files new_files net net_after place took = absurd took.0
  refuses (Ok (lint path)) old new old_files new_files net net_after place took = absurd took.0
  refuses (Ok (serve path)) old new old_files new_files net net_after place took = absurd took.0
  refuses (Ok (storm turns seed)) old new old_files new_files net net_after place took =
      absurd (not_refused (storm_line turns seed) place took.0)
  refuses (Ok (weave turns seed)) old new old_files new_files net net_after place took =
      absurd (not_refused (weave_line turns seed) place took.0)
  refuses (Ok (follow leader space polls)) old new old_files new_files net net_after place took =
      absurd took.0

  fails : (asked : Result Asked ℕ) (old new : Input) (old_files new_files : Filed)
      (net net_after : Linked P)
      → Takes line_of address_of moments asked old new old_files new_files net net_after read_failed
      → Rose old.faults new.faults ⊎ Rose old_files.faults new_files.faults
  fails (Err at) old new old_files new_files net net_after took = cc took.0
  fails (Ok replay) old new old_files new_files net net_after took = inl took.0.0
  fails (Ok (check path)) old new old_files new_files net net_after took = inr took.0
  fails (Ok (lint path)) old new old_files new_files net net_after took = inr took.0
  fails (Ok (serve path)) old new old_files new_files net net_after took = inr took.0.0
  fails (Ok (storm turns seed)) old new old_files new_files net net_after took =
      absurd (not_failed (storm_line turns seed) took.0)
  fails (Ok (weave turns seed)) old new old_files new_files net net_after took =
      absurd (not_failed (weave_line turns seed) took.0)
  fails (Ok (follow leader space polls)) old new old_files new_files net net_after took =
      absurd took.0

  runs_long : (asked : Result Asked ℕ) (old new : Input) (old_files new_files : Filed)
      (net net_after : Linked P)
      → Takes line_of address_of moments asked old new old_files new_files net net_after too_long
      → ReadsLong old new
  runs_long (Err at) old new old_files new_files net net_after took = cc took.0
  runs_long (Ok replay) old new old_files new_files net net_after took = took.0.0
  runs_long (Ok (check path)) old new old_files new_files net net_after took = absurd took.0
  runs_long (Ok (lint path)) old new old_files new_files net net_after took = absurd took.0
  runs_long (Ok (serve path)) old new old_files new_files net net_after took = absurd took.0
  runs_long (Ok (storm turns seed)) old new old_files new_files net net_after took =
      absurd (not_long (storm_line turns seed) took.0)
  runs_long (Ok (weave turns seed)) old new old_files new_files net net_after took =
      absurd (not_long (weave_line turns seed) took.0)
  runs_long (Ok (follow leader space polls)) old new old_files new_files net net_after took =
      absurd took.0

  module _ (words : List (List ℕ)) (old new : Input) (old_files new_files : Filed)
      (net net_after : Linked P) (old_out new_out : Output) (status : ℕ)
      (ran : Ran line_of address_of moments words old new old_files new_files net net_after old_out
      new_out
      status) where
    -- the status is that of the course, unless the run yields
    by_course : (due : ℕ) → status_of ran.0 ≡ due → (status ≡ due) ⊎ Yields status old_out new_out
    by_course due is = ended (ended_code ran.0 old_out new_out status ran.2)
      where
        ended : (status ≡ status_of ran.0) ⊎ Yields status old_out new_out → (status ≡ due)
            ⊎ Yields status old_out new_out
        ended (inl code) = inl (code ∙ is)
        ended (inr yields) = inr yields

    pub long_cause : IsSome old.left → ReadsLong old new → (status ≡ 8)
        ⊎ Yields status old_out new_out
    long_cause some long =
        by_course 8 (long_course (command_of words) old new old_files new_files net net_after ran.0
        some long ran.1)

    pub read_cause : old.faults < new.faults → (status ≡ 4) ⊎ Yields status old_out new_out
    read_cause rose =
        by_course 4 (failed_input (command_of words) old new old_files new_files net net_after ran.0
        rose ran.1)

    pub folder_cause : old_files.faults < new_files.faults → (status ≡ 4)
        ⊎ Yields status old_out new_out
    folder_cause rose =
        by_course 4 (failed_folder (command_of words) old new old_files new_files net net_after
        ran.0 rose ran.1)

    pub refused_cause : IsErr (command_of words) → (status ≡ 2) ⊎ Yields status old_out new_out
    refused_cause err =
        by_course 2 (refused_course (command_of words) old new old_files new_files net net_after
        ran.0 err ran.1)

    -- what is right or wrong was shown
    pub shown_cause : (good : Bool) → status ≡ status_if good
        → Shows (command_of words) old new old_files good
    shown_cause good is = ended (ended_code ran.0 old_out new_out status ran.2)
      where
        ended : (status ≡ status_of ran.0) ⊎ Yields status old_out new_out
            → Shows (command_of words) old new old_files good
        ended (inl code) =
            shown good (command_of words) old new old_files new_files net net_after ran.0
            (sym code ∙ is) ran.1
        ended (inr (inl memory)) =
            absurd (apart 7 good (λ p. omega (arith, p)) (λ p. omega (arith, p)) (sym memory ∙ is))
        ended (inr (inr failed)) =
            absurd (apart 5 good (λ p. omega (arith, p)) (λ p. omega (arith, p))
            (sym failed.0 ∙ is))

    -- at 0 all came back
    pub back_cause : status ≡ 0 → EndsWhole (command_of words) old_files net net_after
    back_cause is = ended (ended_code ran.0 old_out new_out status ran.2)
      where
        ended : (status ≡ status_of ran.0) ⊎ Yields status old_out new_out
            → EndsWhole (command_of words) old_files net net_after
        ended (inl code) =
            back_all (command_of words) old new old_files new_files net net_after ran.0
            (sym code ∙ is) ran.1
        ended (inr (inl memory)) = absurd (omega (arith, memory, is))
        ended (inr (inr failed)) = absurd (omega (arith, failed.0, is))

    -- the net's count rose where its status says so
    pub net_cause : status ≡ 6 → Rose net.faults net_after.faults
    net_cause is = ended (ended_code ran.0 old_out new_out status ran.2)
      where
        ended : (status ≡ status_of ran.0) ⊎ Yields status old_out new_out
            → Rose net.faults net_after.faults
        ended (inl code) =
            broken_net (command_of words) old new old_files new_files net net_after ran.0
            (sym code ∙ is) ran.1
        ended (inr (inl memory)) = absurd (omega (arith, memory, is))
        ended (inr (inr failed)) = absurd (omega (arith, failed.0, is))

    pub net_fault_cause : net.faults < net_after.faults → (status ≡ 6)
        ⊎ Yields status old_out new_out
    net_fault_cause rose =
        by_course 6 (rose_net (command_of words) old new old_files new_files net net_after ran.0
        rose ran.1)

    -- the output's count rose only where a write failed
    pub write_cause : old_out.faults < new_out.faults → status ≡ 5
    write_cause rose = ended ran.2
      where
        ended : EndsCourse ran.0 old_out new_out status → status ≡ 5
        ended (inl whole) = absurd (omega (arith, whole.2, rose))
        ended (inr (inl wanting)) = absurd (omega (arith, wanting.1, rose))
        ended (inr (inr failed)) = failed.0

    pub known_status : Contains statuses status
    known_status = ended (ended_code ran.0 old_out new_out status ran.2)
      where
        ended : (status ≡ status_of ran.0) ⊎ Yields status old_out new_out
            → Contains statuses status
        ended (inl is) = subst (Contains statuses) (sym is) (course_status ran.0)
        ended (inr (inl memory)) = subst (Contains statuses) (sym memory) (6, lit< tt, refl)
        ended (inr (inr failed)) = subst (Contains statuses) (sym failed.0) (4, lit< tt, refl)

    -- the words, the reading or the length where their statuses say so
    pub words_due : status ≡ 2 → IsErr (command_of words)
    words_due is = ended (ended_code ran.0 old_out new_out status ran.2)
      where
        ended : (status ≡ status_of ran.0) ⊎ Yields status old_out new_out
            → IsErr (command_of words)
        ended (inl code) =
            let at = refused_is ran.0 (sym code ∙ is) in
            refuses (command_of words) old new old_files new_files net net_after at.0
            (subst (λ (k : Course). Takes line_of address_of moments (command_of words) old new
            old_files
            new_files net net_after k) at.1 ran.1)
        ended (inr (inl memory)) = absurd (omega (arith, memory, is))
        ended (inr (inr failed)) = absurd (omega (arith, failed.0, is))

    pub read_due : status ≡ 4 → Rose old.faults new.faults
        ⊎ Rose old_files.faults new_files.faults
    read_due is = ended (ended_code ran.0 old_out new_out status ran.2)
      where
        ended : (status ≡ status_of ran.0) ⊎ Yields status old_out new_out
            → Rose old.faults new.faults ⊎ Rose old_files.faults new_files.faults
        ended (inl code) =
            fails (command_of words) old new old_files new_files net net_after
            (subst (λ (k : Course). Takes line_of address_of moments (command_of words) old new
            old_files
            new_files net net_after k) (failed_is ran.0 (sym code ∙ is)) ran.1)
        ended (inr (inl memory)) = absurd (omega (arith, memory, is))
        ended (inr (inr failed)) = absurd (omega (arith, failed.0, is))

    pub long_due : status ≡ 8 → ReadsLong old new
    long_due is = ended (ended_code ran.0 old_out new_out status ran.2)
      where
        ended : (status ≡ status_of ran.0) ⊎ Yields status old_out new_out → ReadsLong old new
        ended (inl code) =
            runs_long (command_of words) old new old_files new_files net net_after
            (subst (λ (k : Course). Takes line_of address_of moments (command_of words) old new
            old_files
            new_files net net_after k) (long_is ran.0 (sym code ∙ is)) ran.1)
        ended (inr (inl memory)) = absurd (omega (arith, memory, is))
        ended (inr (inr failed)) = absurd (omega (arith, failed.0, is))
