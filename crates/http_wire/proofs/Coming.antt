-- What comes of a wait for the next request of a connection.
use Rattle.std.proofs.Common.{◌≡◌, ◌<◌, ◌≤◌, ℕ, true, inl, List, [], ◌∷◌, ◌++◌, length, take, refl}
use Rattle.std.proofs.Common.{sym, ap, ◌∙◌, subst, arith, Option, Some, None, Result, Ok, Err}
use Rattle.std.proofs.Common.{append-nil}
use Rattle.std.specs.Io.KnownBytes.{Consumes, IsAtEnd, Keeps}
use Rattle.std.proofs.KnownBytes.{Consumes-nil, Keeps-refl, Keeps-trans}
use Rattle.line_base.specs.Counts.{raised}
use Rattle.line_base.specs.declared.outside.Failed.{Failed}
use Rattle.line_base.specs.declared.outside.Next.{Next}
use Rattle.line_base.specs.declared.outside.Next.TheVariants.{Bytes, End, Closing, Quiet}
use Rattle.line_base.specs.Lines.{IsRead, IsUnwritten, Line, WaitsForNext, told_closing, told_quiet}
use Rattle.http_wire.specs.declared.head.Head.{Head}
use Rattle.http_wire.specs.declared.reading.HeadEnd.{HeadEnd}
use Rattle.http_wire.specs.declared.rest.FillFault.{FillFault}
use Rattle.http_wire.specs.declared.rest.FillFault.TheVariants.{ReadFault, OutOfMemory}
use Rattle.http_wire.specs.FirstLine.{skip_empty_lines}
use Rattle.http_wire.specs.Heads.{most_piece}
use Rattle.http_wire.specs.Next.{Awaits, HasBegun, ReadsOff, awaited_of}
use Rattle.http_wire.specs.Reading.{HasCauses, ReadsHead}
use Rattle.http_wire.specs.Rest.{FillsNext, FillsNextIn, GivesNone, GivesPiece}
use Rattle.http_wire.proofs.Turning.{causes_after, ended_at_once, nothing_unfinished, prompt_more}
use Rattle.http_wire.proofs.Turning.{reads_behind}

-- ---- in a room

pub came_some : (old new : Line) (buffer : List ℕ) (next : Next) (inner count : ℕ)
    → next ≡ Bytes inner → count ≡ inner → WaitsForNext old new buffer (Ok next)
    → (0 < count) × IsRead old new buffer (Ok count)
came_some old new buffer next inner count is same waits =
    subst (λ (n : ℕ). (0 < n) × IsRead old new buffer (Ok n)) (sym same)
    (subst (λ (n : Next). WaitsForNext old new buffer (Ok n)) is waits)

pub came_end : (old new : Line) (buffer : List ℕ) (next : Next) → next ≡ End
    → WaitsForNext old new buffer (Ok next) → IsRead old new buffer (Ok 0)
came_end old new buffer next is waits =
    subst (λ (n : Next). WaitsForNext old new buffer (Ok n)) is waits

pub came_closing : (old new : Line) (buffer : List ℕ) (next : Next) → next ≡ Closing
    → WaitsForNext old new buffer (Ok next) → new ≡ told_closing true old
came_closing old new buffer next is waits =
    subst (λ (n : Next). WaitsForNext old new buffer (Ok n)) is waits

pub came_quiet : (old new : Line) (buffer : List ℕ) (next : Next) → next ≡ Quiet
    → WaitsForNext old new buffer (Ok next) → new ≡ told_quiet old
came_quiet old new buffer next is waits =
    subst (λ (n : Next). WaitsForNext old new buffer (Ok n)) is waits

no_bytes : (xs : List ℕ) → take 0 xs ≡ []
no_bytes xs = refl

none_kept : (a b : Option (List ℕ)) → Keeps a b → Consumes a b []
none_kept None b keeps = tt
none_kept (Some xs) None keeps = absurd keeps
none_kept (Some xs) (Some ys) keeps = sym keeps

-- a piece that was read behind the bytes that were held
pub piece_given : (old new : Line) (buffer kept kept_after : List ℕ) (count most : ℕ)
    → (0 < count) × IsRead old new buffer (Ok count) → length buffer ≤ most
    → kept_after ≡ kept ++ take count buffer → GivesPiece old new kept kept_after most
piece_given old new buffer kept kept_after count most (some, read) room grown = record {
  piece = take count buffer;
  given = read.bytes.0;
  grown = grown;
  some = let is = read.bound.1 in omega (arith, some, is);
  short = let is = read.bound.1 in let few = read.bound.0 in omega (arith, is, few, room);
  ends = read.end.given some;
  faults = read.cause.kept;
  others = read.others;
}

pub end_given : (old new : Line) (buffer kept kept_after : List ℕ) → 0 < length buffer
    → IsRead old new buffer (Ok 0) → kept_after ≡ kept
    → GivesNone old new kept kept_after (raised old.ends) old.read_faults × IsAtEnd new.left
end_given old new buffer kept kept_after some read same = (
  record {
    given = subst (λ (bs : List ℕ). Consumes old.left new.left bs) (no_bytes buffer) read.bytes.0;
    same = same;
    ends = read.end.ended refl some;
    ends_later = read.end.later;
    faults = read.cause.kept;
    faults_later = read.cause.later;
    others = read.others;
  },
  read.bytes.1 refl some,
)

pub fault_given : (old new : Line) (buffer kept kept_after : List ℕ) (failed : Failed)
    → IsRead old new buffer (Err failed) → kept_after ≡ kept
    → GivesNone old new kept kept_after old.ends (raised old.read_faults)
fault_given old new buffer kept kept_after failed read same = record {
  given = none_kept old.left new.left read.bytes;
  same = same;
  ends = read.end.failed;
  ends_later = read.end.later;
  faults = read.cause.by_one;
  faults_later = read.cause.later;
  others = read.others;
}

-- ---- in the bytes that are kept

none_given : (old new : Line) (held kept kept_after : List ℕ) (e f : ℕ) → held ≡ kept
    → GivesNone old new held kept_after e f → GivesNone old new kept kept_after e f
none_given old new held kept kept_after e f is x =
    subst (λ (k : List ℕ). GivesNone old new k kept_after e f) is x

pub filled : (old new : Line) (held kept kept_after : List ℕ) (most : ℕ) (next : Next)
    → held ≡ kept → most ≤ most_piece → FillsNext old new held kept_after most (Ok next)
    → FillsNextIn old new kept kept_after most_piece (Ok next)
filled old new held kept kept_after most (Bytes count) is few x = record {
  piece = x.piece;
  given = x.given;
  grown = x.grown ∙ ap (λ (k : List ℕ). k ++ x.piece) is;
  some = x.some;
  short = let short = x.short in omega (arith, short, few);
  ends = x.ends;
  faults = x.faults;
  others = x.others;
}
filled old new held kept kept_after most End is few x =
    (none_given old new held kept kept_after (raised old.ends) old.read_faults is x.0, x.1)
filled old new held kept kept_after most Closing is few x =
    record { same = x.same ∙ is; closing = x.closing }
filled old new held kept kept_after most Quiet is few x =
    record { same = x.same ∙ is; quiet = x.quiet }

pub failed : (old new : Line) (held kept kept_after : List ℕ) (most : ℕ) (fault : Failed)
    → held ≡ kept → FillsNext old new held kept_after most (Err fault)
    → FillsNextIn old new kept kept_after most_piece (Err ReadFault)
failed old new held kept kept_after most fault is x =
    none_given old new held kept kept_after old.ends (raised old.read_faults) is x

-- ---- the begin of a request

unwritten : (old new : Line) → new ≡ old → IsUnwritten old new
unwritten old new is =
    subst (IsUnwritten old) (sym is)
    (record { given = Keeps-refl old.given; write_faults = refl; closings = refl; quiets = refl })

nothing_lies : (kept : List ℕ) → kept ≡ [] → skip_empty_lines kept ≡ []
nothing_lies kept none = ap skip_empty_lines none

pub begins : (old new : Line) (kept kept_after : List ℕ) (came : Result Next FillFault)
    → kept ≡ [] → FillsNextIn old new kept kept_after most_piece came
    → Awaits old new kept kept_after (awaited_of came)
begins old new kept kept_after (Ok (Bytes count)) none x = record {
  came = [] ++ x.piece;
  given = x.given;
  prompt =
      prompt_more kept [] x.piece kept (sym (append-nil kept)) x.short
      (nothing_unfinished kept (ap length none));
  grown = x.grown;
  ends = x.ends;
  faults = x.faults;
  others = x.others;
}
begins old new kept kept_after (Ok End) none (x, at_end) = record {
  head =
      ended_at_once old.left new.left kept kept_after (Err HeadEnd.Ended) x.given
      (nothing_unfinished kept (ap length none), nothing_lies kept none, x.same) at_end;
  causes = record {
    ends = x.ends;
    faults = x.faults;
    ends_later = x.ends_later;
    faults_later = x.faults_later;
  };
  others = x.others;
}
begins old new kept kept_after (Ok Closing) none x =
    record { none = none; none_came = x.same ∙ none; closing = x.closing }
begins old new kept kept_after (Ok Quiet) none x =
    record { none = none; none_came = x.same ∙ none; quiet = x.quiet }
begins old new kept kept_after (Err ReadFault) none x = record {
  head =
      ended_at_once old.left new.left kept kept_after (Err HeadEnd.ReadFault) x.given
      (nothing_unfinished kept (ap length none), x.same) tt;
  causes = record {
    ends = x.ends;
    faults = x.faults;
    ends_later = x.ends_later;
    faults_later = x.faults_later;
  };
  others = x.others;
}
begins old new kept kept_after (Err OutOfMemory) none x = record {
  head =
      ended_at_once old.left new.left kept kept_after (Err HeadEnd.OutOfMemory)
      (subst (λ (l : Line). Consumes old.left l.left []) (sym x.0) (Consumes-nil old.left)) x.1 tt;
  causes = record {
    ends = ap (λ (l : Line). l.ends) x.0;
    faults = ap (λ (l : Line). l.read_faults) x.0;
    ends_later = let same : new.ends ≡ old.ends = ap (λ (l : Line). l.ends) x.0 in
        omega (arith, same);
    faults_later = let same : new.read_faults ≡ old.read_faults
        = ap (λ (l : Line). l.read_faults) x.0 in omega (arith, same);
  };
  others = unwritten old new x.0;
}

pub nothing_of : (xs : List ℕ) → length xs ≡ 0 → xs ≡ []
nothing_of [] is = refl
nothing_of (x ∷ xs) is = absurd (omega (arith, is))

-- bytes that are kept already
pub begun_already : (line : Line) (kept : List ℕ) → HasBegun line line kept kept
begun_already line kept = record {
  came = [];
  given = Consumes-nil line.left;
  prompt = inl refl;
  grown = sym (append-nil kept);
  ends = refl;
  faults = refl;
  others = unwritten line line refl;
}

-- a head that was read behind a first piece
pub read_off : (a b c : Line) (k0 k1 k2 : List ℕ) (result : Result Head HeadEnd)
    → HasBegun a b k0 k1 → ReadsHead b.left c.left k1 k2 result
    → HasCauses b.ends c.ends b.read_faults c.read_faults result → IsUnwritten b c
    → ReadsOff a c k0 k2 result
read_off a b c k0 k1 k2 result first head causes others = record {
  head =
      reads_behind a.left b.left c.left k0 k1 k2 first.came result first.given first.prompt
      first.grown head;
  causes =
      causes_after a.ends b.ends c.ends a.read_faults b.read_faults c.read_faults result first.ends
      first.faults causes;
  others = record {
    given = Keeps-trans a.given b.given c.given first.others.given others.given;
    write_faults = others.write_faults ∙ first.others.write_faults;
    closings = others.closings ∙ first.others.closings;
    quiets = others.quiets ∙ first.others.quiets;
  };
}
