-- A further request that was waited for.
use Rattle.std.proofs.Common.{◌≡◌, ℕ, true, List, refl, sym, ap, ◌∙◌, Result, Ok, Err}
use Rattle.http_wire.specs.declared.head.Head.{Head}
use Rattle.http_wire.specs.declared.next.NextHead.{NextHead}
use Rattle.http_wire.specs.declared.next.NextHead.TheVariants as next
use Rattle.http_wire.specs.declared.reading.HeadEnd.{HeadEnd}
use Rattle.http_wire.specs.Next.{IsDrained, IsQuiet, ReadsNext as LineReadsNext, ReadsOff}
use Rattle.line_base.specs.Lines.{Line}
use Rattle.proxy_session.specs.Exchange.{Standing}
use Rattle.proxy_session.specs.Session.{Reads, ReadsNext, having_told, having_waited}
use Rattle.replica_try.proofs.Resting.{idle_same}

-- a server behind such a wait: its client's connection stands so, and it keeps these bytes
abbrev pub having_read : Standing → Line → List ℕ → Standing
having_read s line kept = record {
  line = line;
  kept = kept;
  upstream = s.upstream;
  caller = s.caller;
  moments = s.moments;
  words = s.words;
}

off : (s : Standing) (line : Line) (kept : List ℕ) (result : Result Head HeadEnd)
    → ReadsOff s.line line s.kept kept result → Reads s (having_read s line kept) result
off s line kept result x = record {
  head = x.head;
  causes = x.causes;
  given = x.others.given;
  writes = x.others.write_faults;
  closings = x.others.closings;
  quiets = x.others.quiets;
  upstream = idle_same s.upstream;
  caller = refl;
  moments = refl;
  words = refl;
}

told : (s : Standing) (line : Line) (kept : List ℕ) → IsDrained s.line line s.kept kept
    → having_read s line kept ≡ having_told true s
told s line kept x =
    ap (λ (k : List ℕ). having_read s line k) (x.none_came ∙ sym x.none)
    ∙ ap (λ (l : Line). having_read s l s.kept) x.closing

still : (s : Standing) (line : Line) (kept : List ℕ) → IsQuiet s.line line s.kept kept
    → having_read s line kept ≡ having_waited s
still s line kept x =
    ap (λ (k : List ℕ). having_read s line k) (x.none_came ∙ sym x.none)
    ∙ ap (λ (l : Line). having_read s l s.kept) x.quiet

pub next_read : (s : Standing) (line : Line) (kept : List ℕ) (result : NextHead)
    → LineReadsNext s.line line s.kept kept result → ReadsNext s (having_read s line kept) result
next_read s line kept (next.Head head) x = off s line kept (Ok head) x
next_read s line kept (next.Ended end) x = off s line kept (Err end) x
next_read s line kept next.Closing x = (x.none, told s line kept x)
next_read s line kept next.Quiet x = (x.none, still s line kept x)
