-- How following a leader ends.
use Rattle.std.proofs.Common.{◌≡◌, ℕ, ◌≤◌, Bool, true, false, List, [], ◌++◌, append_assoc, length}
use Rattle.std.proofs.Common.{append-nil, refl, sym, ap, subst, ◌∙◌, inl, inr, arith}
use Rattle.std.specs.Prelude.{◌⊎◌, Option, None, Result}
use Rattle.std.specs.Io.KnownBytes.{Appends}
use Rattle.addr_book.specs.declared.addr.Addr.{Addr}
use Rattle.line_base.specs.Counts.{Rose, raised}
use Rattle.line_base.specs.Dials.{Upstream}
use Rattle.line_base.specs.Nets.{IsNewLog, Returns}
use Rattle.line_base.specs.Streams.{Output}
use Rattle.follow_feed.specs.declared.following.FollowEnd.TheVariants as end
use Rattle.follow_feed.specs.declared.polling.PollEnd.{PollEnd}
use Rattle.follow_feed.specs.Feeds.{FeedValue}
use Rattle.follow_feed.specs.Progress.{Polled, progress_of, told_of}
use Rattle.follow_feed.specs.Progress.{Tells as TellsPolls}
use Rattle.linker_commands.specs.declared.run.ExitStatus.{ExitStatus}
use Rattle.linker_commands.specs.declared.run.ExitStatus.TheVariants as status
use Rattle.linker_commands.specs.Follow.{IsFollowed, end_if}
use Rattle.linker_commands.specs.Run.{Course, EndsCourse, Follows, followed}
use Rattle.linker_commands.specs.Served.{memory_line}
use Rattle.linker_commands.specs.Told.{Tells, code_of}
use Rattle.linker_commands.proofs.Runs.{tells_behind}

-- so much of some bytes was written
abbrev IsBegun : List ℕ → List ℕ → Type 0
IsBegun all wrote = (lost : List ℕ) × (wrote ++ lost ≡ all)

module _ {P : Type 0} (told : Option (Returns P)) (leader : Addr) (space : List ℕ) (polls : ℕ)
    (dialer behind : Upstream) (new : IsNewLog told dialer.log × (dialer.open_to ≡ None))
    (polled : List (Result FeedValue PollEnd)) (made : Polled leader space dialer polled behind)
  where
    is_followed : (all : Bool) (lines : List ℕ) → TellsPolls polls polled lines (end_if all)
        → IsFollowed told leader space polls all lines
    is_followed all lines tells = record {
      dialer = dialer;
      new_dialer = new;
      behind = behind;
      polled = polled;
      made = made;
      lines_are = tells;
    }

    -- all of it was written
    pub all_told : (old after : Output) (wrote : List ℕ) → Appends old.held after.held wrote
        → TellsPolls polls polled wrote end.Done → after.faults ≡ old.faults
        → (course : Course) × Follows told leader space polls course × EndsCourse course old after 0
    all_told old after wrote given tells kept =
        (followed true wrote, is_followed true wrote tells, inl (refl, given, kept))

    -- a write failed: in the line of a poll, behind which memory might have been wanting, or in the
    -- last line
    pub cut_told : (old after : Output) (wrote : List ℕ) → Appends old.held after.held wrote
        → TellsPolls polls polled wrote end.WriteFault → after.faults ≡ raised old.faults
        → (course : Course) × Follows told leader space polls course × EndsCourse course old after 5
    cut_told old after wrote given tells count = by tells.next
      where
        lines : List ℕ
        lines = (progress_of polled).text

        rose : Rose old.faults after.faults
        rose = subst (λ (n : ℕ). raised old.faults ≤ n) (sym count) (omega arith)

        by : ((length polled ≤ polls) × IsBegun lines wrote)
            ⊎ ((length polled ≡ polls) × IsBegun (told_of polls (progress_of polled)) wrote)
            → (course : Course) × Follows told leader space polls course
            × EndsCourse course old after 5
        by (inl (few, front)) = (
          followed false lines,
          is_followed false lines (
            few,
            record {
              told = polled;
              last = [];
              cut = sym (append-nil polled);
              one = omega arith;
              made = tells.made;
              are = refl;
            },
          ),
          inr (inr (
            refl,
            rose,
            lines ++ memory_line,
            inl refl,
            (
              wrote,
              front.0 ++ memory_line,
              ap (λ (xs : List ℕ). xs ++ memory_line) (sym front.1)
                  ∙ append_assoc wrote front.0 memory_line,
              given,
            ),
          )),
        )
        by (inr (all, front)) = (
          followed true (told_of polls (progress_of polled)),
          is_followed true (told_of polls (progress_of polled)) ((all, tells.made), refl),
          inr (inr (
            refl,
            rose,
            told_of polls (progress_of polled),
            inl refl,
            (wrote, front.0, sym front.1, given),
          )),
        )

    -- memory was wanting
    pub short_told : (old mid after : Output) (result : ExitStatus) (wrote : List ℕ)
        → Appends old.held mid.held wrote → TellsPolls polls polled wrote end.OutOfMemory
        → mid.faults ≡ old.faults → Tells memory_line status.Memory mid after result
        → (course : Course) × Follows told leader space polls course
        × EndsCourse course old after (code_of result)
    short_told old mid after result wrote given tells kept said = (
      followed false wrote,
      is_followed false wrote tells,
      tells_behind (followed false wrote) wrote memory_line status.Memory result old mid after refl
          refl given kept said,
    )
