use Rattle.std.proofs.Common.{List, ℕ, refl, subst}
use Rattle.http_wire.specs.Heads.{BeginsWith, IsBad, IsTooLarge, NamesOtherVersion}
use Rattle.http_wire.specs.Reading.{Shows}
use Rattle.http_wire.proofs.Turning.{begins_within}
use Rattle.http_wire.proofs.Settled.{begins_whatever, bad_whatever, other_whatever, large_whatever}
use Rattle.http_wire.proofs.reading.answer.Goals as goal

pub skip-requires : goal.skip-requires
skip-requires c =
    let found = subst (Shows c.kept.result.now) c.in-Ok-Whole.field-0-is c.in-Ok-Whole.ensures in
    begins_within c.args.rest.now c.in-Ok-Whole.head c.in-Ok-Whole.len
    (subst (λ (bytes : List ℕ). BeginsWith bytes c.in-Ok-Whole.head c.in-Ok-Whole.len)
    c.kept.ensures found)

pub returns-in-Ok-Whole : goal.returns-in-Ok-Whole
returns-in-Ok-Whole c =
    let found = subst (Shows c.kept.result.now) c.in-Ok-Whole.field-0-is c.in-Ok-Whole.ensures in (
      c.in-Ok-Whole.len,
      begins_whatever c.args.rest.now c.in-Ok-Whole.head c.in-Ok-Whole.len
          (subst (λ (bytes : List ℕ). BeginsWith bytes c.in-Ok-Whole.head c.in-Ok-Whole.len)
          c.kept.ensures found),
      c.skip.ensures,
    )

pub returns-in-Ok-Bad : goal.returns-in-Ok-Bad
returns-in-Ok-Bad c =
    let found = subst (Shows c.kept.result.now) c.in-Ok-Bad.field-0-is c.in-Ok-Bad.ensures in
    (bad_whatever c.args.rest.now (subst IsBad c.kept.ensures found), refl)

pub returns-in-Ok-Version : goal.returns-in-Ok-Version
returns-in-Ok-Version c =
    let found = subst (Shows c.kept.result.now) c.in-Ok-Version.field-0-is
    c.in-Ok-Version.ensures in
    (other_whatever c.args.rest.now (subst NamesOtherVersion c.kept.ensures found), refl)

pub returns-in-Ok-TooLarge : goal.returns-in-Ok-TooLarge
returns-in-Ok-TooLarge c =
    let found = subst (Shows c.kept.result.now) c.in-Ok-TooLarge.field-0-is
    c.in-Ok-TooLarge.ensures in
    (large_whatever c.args.rest.now (subst IsTooLarge c.kept.ensures found), refl)
