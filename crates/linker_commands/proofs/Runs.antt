-- How runs end.
use Rattle.std.proofs.Common.{◌≡◌, ℕ, List, [], ◌++◌, append_assoc, refl, sym, ap, subst, ◌∙◌}
use Rattle.std.proofs.Common.{arith, inl, inr}
use Rattle.std.specs.Prelude.{Option, Result, Ok, Err}
use Rattle.std.proofs.lemmas.List.{append-nil}
use Rattle.std.specs.Io.KnownBytes.{Appends}
use Rattle.std.proofs.KnownBytes.{Appends-trans, Appends-nil, Consumes-nil}
use Rattle.linker_commands.specs.declared.run.ExitStatus.{ExitStatus}
use Rattle.linker_commands.specs.declared.run.ExitStatus.TheVariants as status
use Rattle.line_base.specs.Counts.{Rose}
use Rattle.line_base.specs.Lines.{Line}
use Rattle.line_base.specs.declared.socket_address.SocketAddress.{SocketAddress}
use Rattle.line_base.specs.Files.{Filed}
use Rattle.line_base.specs.Streams.{Input, Output}
use Rattle.script.specs.Written.{AppendsFront}
use Rattle.linker_commands.specs.Run.{Course, words_refused, read_failed, too_long}
use Rattle.linker_commands.specs.Run.{script_read, line_told, no_memory, served, followed, Begins}
use Rattle.linker_commands.specs.Linked.{Linked}
use Rattle.linker_commands.specs.Run.{Takes, EndsCourse, Ran, output_of, status_of}
use Rattle.linker_commands.specs.Served.{memory_line}
use Rattle.command_lines.specs.Words.{Asked, replay, check, serve, lint, storm, weave, follow}
use Rattle.command_lines.specs.Words.{command_of}
use Rattle.linker_commands.specs.Told.{code_of, Tells}
use Rattle.script.proofs.Plays.{front_of, rose_later}

-- a course that one last line tells of
pub tells_end : (course : Course) (line : List ℕ) (end result : ExitStatus) (old new : Output)
    → line ≡ output_of course → code_of end ≡ status_of course
    → Tells line end old new result → EndsCourse course old new (code_of result)
tells_end course line end result old new is code (inl done) =
    inl (ap code_of done.0 ∙ code, subst (Appends old.held new.held) is done.1, done.2)
tells_end course line end result old new is code (inr failed) =
    inr (inr (ap code_of failed.0, failed.1, line, inl is, failed.2))

-- a front of what the course writes was written, and then memory was wanting
pub tells_memory : (course : Course) (result : ExitStatus) (old mid new : Output)
    (front rest : List ℕ)
    → output_of course ≡ front ++ rest → Appends old.held mid.held front → mid.faults ≡ old.faults
    → Begins course front → Tells memory_line status.Memory mid new result
    → EndsCourse course old new (code_of result)
tells_memory course result old mid new front rest is given kept begins (inl done) =
    inr (inl (
      ap code_of done.0,
      done.2 ∙ kept,
      front ++ memory_line,
      (front, rest, is, refl, begins),
      Appends-trans old.held mid.held new.held front memory_line
          given done.1,
    ))
tells_memory course result old mid new front rest is given kept begins (inr failed) =
    inr (inr (
      ap code_of failed.0,
      rose_later old.faults mid.faults new.faults (omega (arith, kept)) failed.1,
      front ++ memory_line,
      inr (front, rest, is, refl, begins),
      front_of old.held mid.held new.held (front ++ memory_line) front memory_line []
          (ap (λ (xs : List ℕ). front ++ xs) (sym (append-nil memory_line))) given failed.2,
    ))

-- a course may have written nothing
begins_nothing : (course : Course) → Begins course []
begins_nothing (script_read script) = (0, refl)
begins_nothing (words_refused place) = refl
begins_nothing read_failed = refl
begins_nothing too_long = refl
begins_nothing (line_told good line) = refl
begins_nothing no_memory = refl
begins_nothing (served lines finish) = refl
begins_nothing (followed all lines) = refl

-- memory was wanting before anything was written
pub tells_memory_first : (course : Course) (result : ExitStatus) (old new : Output)
    → Tells memory_line status.Memory old new result → EndsCourse course old new (code_of result)
tells_memory_first course result old new told =
    tells_memory course result old old new [] (output_of course) refl (Appends-nil old.held) refl
    (begins_nothing course) told

-- nothing is read yet
nothing_read : {P : Type 0} (line_of : P → Line) (address_of : P → Option SocketAddress)
    (moments : Option (List ℕ))
    (asked : Result Asked ℕ) (input : Input) (files : Filed) (net : Linked P) → (course : Course)
    × Takes line_of address_of moments asked input input files files net net course
nothing_read line_of address_of moments (Err place) input files net =
    (words_refused place, (refl, refl, refl, refl))
nothing_read line_of address_of moments (Ok replay) input files net =
    (no_memory, ((([], Consumes-nil input.left, omega arith), refl), refl, refl))
nothing_read line_of address_of moments (Ok (check path)) input files net =
    (no_memory, (refl, refl, refl, refl))
nothing_read line_of address_of moments (Ok (lint path)) input files net =
    (no_memory, (refl, refl, refl, refl))
nothing_read line_of address_of moments (Ok (serve path)) input files net =
    (no_memory, ((refl, refl), refl, refl))
nothing_read line_of address_of moments (Ok (storm turns seed)) input files net =
    (no_memory, (inr refl, refl, refl, refl))
nothing_read line_of address_of moments (Ok (weave turns seed)) input files net =
    (no_memory, (inr refl, refl, refl, refl))
nothing_read line_of address_of moments (Ok (follow leader space polls)) input files net =
    (no_memory, (tt, refl, refl, refl))

-- memory was wanting for the words themselves
pub no_words : {P : Type 0} (line_of : P → Line) (address_of : P → Option SocketAddress)
    (moments : Option (List ℕ)) (words : List (List ℕ))
    (input : Input) (files : Filed) (net : Linked P) (old new : Output) (result : ExitStatus)
    → Tells memory_line status.Memory old new result
    → Ran line_of address_of moments words input input files files net net old new (code_of result)
no_words line_of address_of moments words input files net old new result told =
    let first = nothing_read line_of address_of moments (command_of words) input files net in
    (first.0, first.1, tells_memory_first first.0 result old new told)

-- a last line behind what was written
pub tells_behind : (course : Course) (first line : List ℕ) (end result : ExitStatus)
    (old mid new : Output) → output_of course ≡ first ++ line → code_of end ≡ status_of course
    → Appends old.held mid.held first → mid.faults ≡ old.faults → Tells line end mid new result
    → EndsCourse course old new (code_of result)
tells_behind course first line end result old mid new is code before kept (inl done) =
    inl (
      ap code_of done.0 ∙ code,
      subst (Appends old.held new.held) (sym is)
          (Appends-trans old.held mid.held new.held first line before done.1),
      done.2 ∙ kept,
    )
tells_behind course first line end result old mid new is code before kept (inr failed) =
    inr (inr (
      ap code_of failed.0,
      rose_later old.faults mid.faults new.faults (omega (arith, kept)) failed.1,
      output_of course,
      inl refl,
      front_of old.held mid.held new.held (output_of course) first line []
          (is ∙ ap (λ (xs : List ℕ). first ++ xs) (sym (append-nil line))) before failed.2,
    ))

-- a write failed before the last line
pub fails_before : (course : Course) (first line : List ℕ) (old new : Output)
    → output_of course ≡ first ++ line → Rose old.faults new.faults
    → AppendsFront old.held new.held first → EndsCourse course old new 5
fails_before course first line old new is rose front =
    inr (inr (
      refl,
      rose,
      output_of course,
      inl refl,
      (
        front.0,
        front.1 ++ line,
        is ∙ (ap (λ (xs : List ℕ). xs ++ line) front.2
            ∙ append_assoc front.0 front.1 line),
        front.3,
      ),
    ))
