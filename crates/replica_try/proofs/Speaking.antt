-- How two sides speak over a connection.
use Rattle.std.proofs.Common.{◌≡◌, ℕ, ◌&&◌, ◌||◌, Bool, true, false, not, cond, List, [], ◌∷◌, ◌++◌}
use Rattle.std.proofs.Common.{map, refl, sym, subst, ap, ◌∙◌, append_assoc, append-nil, inl, inr}
use Rattle.std.proofs.Common.{Option, Some, None, Result, Ok, Err}
use Rattle.std.specs.List.{concat}
use Rattle.std.specs.Option.{IsSome}
use Rattle.line_base.specs.declared.dialer.DialEvent.{DialEvent}
use Rattle.line_base.specs.declared.dialer.DialEvent.TheVariants.{Dialed, Resumed, Sent, Got}
use Rattle.line_base.specs.declared.dialer.DialEvent.TheVariants.{Hung, Kept}
use Rattle.addr_book.specs.declared.addr.Addr.{Addr}
use Rattle.http_wire.specs.declared.frames.Framing.{Framing}
use Rattle.http_wire.specs.declared.head.Head.{Head}
use Rattle.http_wire.specs.declared.head.ReplyHead.{ReplyHead}
use Rattle.http_wire.specs.ReplyReading.{LogsGot}
use Rattle.body_wire.specs.declared.end.BodyEnd.{BodyEnd}
use Rattle.body_wire.specs.Passing.{PassesOn, Sends, form_of, most_passed}
use Rattle.forward.specs.Returned.{returned}
use Rattle.replica_try.specs.declared.final_head.HeadFault.{HeadFault}
use Rattle.replica_try.specs.declared.moved.Moved.{Moved}
use Rattle.replica_try.specs.declared.tried.Tried.{Tried}
use Rattle.replica_try.specs.Heads.{Hears}
use Rattle.line_base.specs.Counts.{raised}
use Rattle.line_base.specs.Dials.{Grows, HasSameLinks, Logs, LogsHang, Upstream, has_room}
use Rattle.line_base.specs.Lines.{Line, Rests}
use Rattle.replica_try.specs.Trying.{Backs, Converses, GoesBack, GoesOn, GoesOnKept, Replies}
use Rattle.replica_try.specs.Trying.{Speaks, Tries}
use Rattle.replica_try.specs.Trying.{TriesAnew, Visits, closes_behind, is_repeatable, is_reusable}
use Rattle.replica_try.specs.Trying.{is_silent}
use Rattle.replica_try.specs.Trying.{knows_chunks, leaves_reusable, stop_of, tried_of_back}
use Rattle.replica_try.specs.Trying.{tried_of_body, tried_of_head}
use Rattle.replica_try.proofs.Growing.{grows_by_heads, grows_by_more, grows_by_one}
use Rattle.replica_try.proofs.Growing.{grows_by_sends, grows_on}

-- what a conversation comes to
abbrev pub Talks : Head → List ℕ → Framing → Bool → Line → Line → List ℕ → List ℕ → ℕ → ℕ
    → Option (List DialEvent) → Option (List DialEvent) → Tried → Type 0
Talks head onward framing last old new kept kept_after f0 f1 l0 l1 how =
    (sent : List (List ℕ)) × (got : List (List ℕ)) × Grows l0 l1 (map Sent sent ++ map Got got)
    × Converses head onward framing last old new kept kept_after f0 f1 (concat sent) got how

-- what a reply comes to
abbrev pub Hearkens : Head → Bool → ℕ → Line → Line → ℕ → ℕ → Option (List DialEvent)
    → Option (List DialEvent) → Tried → Type 0
Hearkens head last n old new f0 f1 l0 l1 how =
    (got : List (List ℕ)) × Grows l0 l1 (map Got got) × Replies head last n old new f0 f1 got how

-- the same request, by what a list of sends sent
abbrev pub goes_so : (onward : List ℕ) (framing : Framing) (old new : Line)
    (kept kept_after : List ℕ) (f0 f1 : ℕ) (a b : List ℕ) (r : Result ℕ BodyEnd) → a ≡ b
    → GoesOn onward framing old new kept kept_after f0 f1 a r
    → GoesOn onward framing old new kept kept_after f0 f1 b r
goes_so onward framing old new kept kept_after f0 f1 a b r same goes = record {
  came = goes.came;
  count = goes.count;
  taken = goes.taken;
  passes =
      subst (λ (sent : List ℕ). PassesOn framing (form_of true) most_passed onward kept goes.came
      sent kept_after goes.count r) same goes.passes;
  ends = goes.ends;
  none_left = goes.none_left;
  reads = goes.reads;
  sends = goes.sends;
  never = goes.never;
  given = goes.given;
  writes = goes.writes;
  closings = goes.closings;
  quiets = goes.quiets;
}

same_end : (a b : BodyEnd) (r : Result ℕ BodyEnd) → r ≡ Err a → r ≡ Err b → a ≡ b
same_end a b r p q = cc

module _ (head : Head) (onward : List ℕ) (framing : Framing) (last : Bool) (old : Line)
    (kept kept_after : List ℕ) (f0 f1 : ℕ) (l0 l1 : Option (List DialEvent)) (bytes : List ℕ) where
  -- the request did not go on whole
  pub stops_in_body : (new : Line) (end : BodyEnd) (how : Tried) (r : Result ℕ BodyEnd)
      → Sends l0 l1 bytes
      → (goes : GoesOn onward framing old new kept kept_after f0 f1 bytes r) → r ≡ Err end
      → how ≡ tried_of_body goes.count end
      → Talks head onward framing last old new kept kept_after f0 f1 l0 l1 how
  stops_in_body new end how (Ok n) sends goes at is = absurd (cc)
  stops_in_body new end how (Err e) sends goes at is =
      let s = grows_by_sends l0 l1 bytes sends in (
        s.0,
        [],
        subst (Grows l0 l1) (sym (append-nil (map Sent s.0))) s.1,
        inl (
          e,
          goes_so onward framing old new kept kept_after f0 f1 bytes (concat s.0) (Err e)
              (sym s.2) goes,
          refl,
          is ∙ ap (λ (x : BodyEnd). tried_of_body goes.count x) (same_end end e (Err e) at refl),
        ),
      )

  -- it did, and then the reply came
  pub speaks_on : (mid new : Line) (n f2 : ℕ) (l2 : Option (List DialEvent)) (how : Tried)
      (r : Result ℕ BodyEnd) → Sends l0 l1 bytes
      → GoesOn onward framing old mid kept kept_after f0 f1 bytes r → r ≡ Ok n
      → Hearkens head last n mid new f1 f2 l1 l2 how
      → Talks head onward framing last old new kept kept_after f0 f2 l0 l2 how
  speaks_on mid new n f2 l2 how r sends goes at replies =
      let s = grows_by_sends l0 l1 bytes sends in (
        s.0,
        replies.0,
        grows_on l0 l1 l2 (map Sent s.0) (map Got replies.0) s.1 replies.1,
        inr (
          n,
          mid,
          f1,
          subst (λ (x : Result ℕ BodyEnd). GoesOn onward framing old mid kept kept_after f0 f1
              (concat s.0) x) at
              (goes_so onward framing old mid kept kept_after f0 f1 bytes (concat s.0) r (sym s.2)
              goes),
          replies.2,
        ),
      )

module _ (head : Head) (last : Bool) (n : ℕ) (old : Line) (f0 f1 : ℕ)
    (l0 l1 : Option (List DialEvent)) (k0 k1 : List ℕ) (none : k0 ≡ []) where
  -- no final head came
  pub hears_none : (new : Line) (fault : HeadFault) (how : Tried) → (pieces : List (List ℕ))
      → LogsGot l0 l1 pieces
      → Hears head.method k0 k1 pieces f0 f1 (Err fault) → Rests old new
      → how ≡ tried_of_head n fault → Hearkens head last n old new f0 f1 l0 l1 how
  hears_none new fault how pieces logs hears rests is = (
    pieces,
    grows_by_heads l0 l1 pieces logs,
    inl (
      fault,
      k1,
      subst (λ (k : List ℕ). Hears head.method k k1 pieces f0 f1 (Err fault)) none
          hears,
      rests,
      is,
    ),
  )

  -- one did, and the reply goes back
  pub hears_one : (new : Line) (reply : ReplyHead) (framing : Framing) (f2 : ℕ)
      (l2 : Option (List DialEvent)) (how : Tried) → (pieces : List (List ℕ)) → LogsGot l0 l1 pieces
      → Hears head.method k0 k1 pieces f0 f1 (Ok (reply, framing)) → (got : List (List ℕ))
      → Grows l1 l2 (map Got got)
      → Backs head last n reply framing old new k1 f1 f2 got how
      → Hearkens head last n old new f0 f2 l0 l2 how
  hears_one new reply framing f2 l2 how pieces logs hears got grows backs = (
    pieces ++ got,
    grows_by_more l0 l1 l2 pieces got (grows_by_heads l0 l1 pieces logs) grows,
    inr (
      reply,
      framing,
      k1,
      f1,
      pieces,
      got,
      subst (λ (k : List ℕ). Hears head.method k k1 pieces
          f0 f1 (Ok (reply, framing))) none hears,
      backs,
      refl,
    ),
  )

module _ (head : Head) (onward : List ℕ) (framing : Framing) (last : Bool) (old new : Line)
    (kept kept_after : List ℕ) (before now : Upstream) (how : Tried) where
  -- the two spoke, and then the connection was kept or ended
  pub speaks : (mid : Upstream) → HasSameLinks before mid
      → Talks head onward framing last old new kept kept_after before.faults mid.faults before.log
      mid.log how
      → (stop : DialEvent) → stop ≡ stop_of (has_room before.pool) how → Logs mid.log now.log stop
      → now.faults ≡ mid.faults → now.open_to ≡ None → now.pool ≡ mid.pool
      → Speaks head onward framing last old new kept kept_after before now how
  speaks mid links talk stop is logs still closed pool =
      let sends = map Sent talk.0 in
      let gots = map Got talk.1 in
      let all = grows_on before.log mid.log now.log (sends ++ gots) (stop ∷ []) talk.2
      (grows_by_one mid.log now.log stop logs) in
      record {
        sent = talk.0;
        got = talk.1;
        log =
            subst (λ (e : DialEvent). Grows before.log now.log (sends ++ (gots ++ e ∷ []))) is
            (subst (λ (es : List DialEvent). Grows before.log now.log es)
            (append_assoc sends gots (stop ∷ [])) all);
        spoke =
            subst (λ (f : ℕ). Converses head onward framing last old new kept kept_after
            before.faults f (concat talk.0) talk.1 how) (sym still) talk.3;
        closed = closed;
        pool = pool ∙ links.pool;
      }

  -- a connection was opened or taken up again first
  pub visits : (first : Upstream) (start : DialEvent) → Logs before.log first.log start
      → first.faults ≡ before.faults → first.pool ≡ before.pool
      → Speaks head onward framing last old new kept kept_after first now how
      → Visits start head onward framing last old new kept kept_after before now how
  visits first start logs same pool s =
      record {
        sent = s.sent;
        got = s.got;
        log =
            grows_on before.log first.log now.log (start ∷ [])
            (map Sent s.sent ++ (map Got s.got ++ stop_of (has_room before.pool) how ∷ []))
            (grows_by_one before.log first.log start logs)
            (subst (λ (k : Bool). Grows first.log now.log
            (map Sent s.sent ++ (map Got s.got ++ stop_of k how ∷ []))) (ap has_room pool) s.log);
        spoke =
            subst (λ (f : ℕ). Converses head onward framing last old new kept kept_after f
            now.faults (concat s.sent) s.got how) same s.spoke;
        closed = s.closed;
        pool = s.pool ∙ pool;
      }

-- a hang ends what is open
pub hangs : (open_to : Option (ℕ × ℕ)) (l m : Option (List DialEvent)) → IsSome open_to
    → LogsHang open_to l m → Logs l m Hung
hangs None l m open_ logs = absurd (cc)
hangs (Some address) l m open_ logs = logs

-- it is kept exactly where the dialer keeps any and the connection may carry another request
module _ (before mid told : Bool) (how : Tried) (is_kept : Bool)
    (is : is_kept ≡ (told && leaves_reusable how)) (tells : told ≡ mid) (stays : mid ≡ before) where
  kept_so : is_kept ≡ (before && leaves_reusable how)
  kept_so = is ∙ ap (λ (k : Bool). k && leaves_reusable how) (tells ∙ stays)

  pub kept_by : is_kept ≡ true → Kept ≡ stop_of before how
  kept_by so = ap (λ (b : Bool). cond b Kept Hung) (sym so ∙ kept_so)

  pub hung_by : is_kept ≡ false → Hung ≡ stop_of before how
  hung_by so = ap (λ (b : Bool). cond b Kept Hung) (sym so ∙ kept_so)

-- a request was lost or not, by what the dialer tells
pub lost_by : (how : Tried) (told late is_lost answer : Bool)
    → is_lost ≡ (is_silent how && not told)
    → told ≡ late → is_lost ≡ answer → (is_silent how && not late) ≡ answer
lost_by how told late is_lost answer is tells so =
    sym (is ∙ ap (λ (l : Bool). is_silent how && not l) tells) ∙ so

module _ (head : Head) (onward : List ℕ) (framing : Framing) (last : Bool) (addr : Addr)
    (old new : Line) (kept kept_after : List ℕ) (before first now : Upstream) (how : Tried) where
  -- once a kept connection was taken up
  pub tries_kept : Logs before.log first.log (Resumed addr.ip addr.port)
      → first.faults ≡ before.faults → first.pool ≡ before.pool → has_room before.pool ≡ true
      → is_repeatable head framing ≡ true
      → GoesOnKept head onward framing last addr old new kept kept_after first now how
      → Tries head onward framing last addr old new kept kept_after before now how
  tries_kept logs same pool any again (inl (s, heard)) =
      inr (
        any,
        again,
        inl (record {
          visit =
              visits head onward framing last old new kept kept_after before now how first
              (Resumed addr.ip addr.port) logs same pool s;
          heard = heard;
        }),
      )
  tries_kept logs same pool any again (inr (line, left, mid, silence, s, silent, anew)) =
      inr (
        any,
        again,
        inr (record {
          line = line;
          left = left;
          mid = mid;
          first = silence;
          visit =
              visits head onward framing last old line kept left before mid silence first
              (Resumed addr.ip addr.port) logs same pool s;
          silent = silent;
          anew = anew;
        }),
      )

  -- where none was taken up, which the log doesn't show
  pub tries_anew : Grows before.log first.log [] → first.faults ≡ before.faults
      → first.pool ≡ before.pool
      → TriesAnew head onward framing last addr old new kept kept_after first now how
      → TriesAnew head onward framing last addr old new kept kept_after before now how
  tries_anew quiet same pool (inl none) =
      inl (record {
        line = none.line;
        kept_is = none.kept_is;
        log = grows_on before.log first.log now.log [] [] quiet none.log;
        fault = none.fault ∙ ap raised same;
        how_is = none.how_is;
        closed = none.closed;
        pool = none.pool ∙ pool;
      })
  tries_anew quiet same pool (inr v) =
      inr (record {
        sent = v.sent;
        got = v.got;
        log =
            grows_on before.log first.log now.log []
            (Dialed addr.ip addr.port
            ∷ (map Sent v.sent ++ (map Got v.got ++ stop_of (has_room before.pool) how ∷ []))) quiet
            (subst (λ (k : Bool). Grows first.log now.log (Dialed addr.ip addr.port
            ∷ (map Sent v.sent ++ (map Got v.got ++ stop_of k how ∷ []))))
            (ap has_room pool) v.log);
        spoke =
            subst (λ (f : ℕ). Converses head onward framing last old new kept kept_after f
            now.faults (concat v.sent) v.got how) same v.spoke;
        closed = v.closed;
        pool = v.pool ∙ pool;
      })

-- the reply goes back behind the head that was made for it
pub backs_by :
    (head : Head) (last : Bool) (n : ℕ) (reply : ReplyHead) (framing : Framing) (old new : Line)
    (kept kept_after : List ℕ) (f0 f1 : ℕ) (got : List (List ℕ))
    (chunked closes closing reusable : Bool) (bytes : List ℕ) → chunked ≡ knows_chunks head → closes
    ≡ closes_behind head framing → closing ≡ (closes || last)
    → bytes ≡ returned reply framing chunked closing → (r : Result ℕ BodyEnd)
    → (back : GoesBack bytes framing chunked old new kept kept_after f0 f1 got r)
    → reusable ≡ is_reusable reply framing kept_after
    → (how : Tried)
    → how ≡ tried_of_back (record { sent = n; given = back.count }) reply.status closes reusable r
    → Backs head last n reply framing old new kept f0 f1 got how
backs_by head last n reply framing old new kept kept_after f0 f1 got chunked closes closing reusable
    bytes k c l b r back u how is =
    let moved : Moved = record { sent = n; given = back.count } in
    let one = subst (λ (x : List ℕ). PassesOn framing (form_of chunked) most_passed x kept got
    back.written kept_after back.count r) b back.passes in
    let two = subst (λ (x : Bool). PassesOn framing (form_of chunked) most_passed
    (returned reply framing chunked x) kept got back.written kept_after back.count r)
    (l ∙ ap (λ (y : Bool). y || last) c) one in
    let three = subst (λ (x : Bool). PassesOn framing (form_of x) most_passed
    (returned reply framing x (closes_behind head framing || last)) kept got back.written kept_after
    back.count r) k two in
    inr (
      kept_after,
      r,
      record {
        written = back.written;
        count = back.count;
        given = back.given;
        passes = three;
        ended = back.ended;
        receives = back.receives;
        writes = back.writes;
        never = back.never;
        left = back.left;
        reads = back.reads;
        ends = back.ends;
        closings = back.closings;
        quiets = back.quiets;
      },
      is ∙ ap (λ (y : Bool). tried_of_back moved reply.status y reusable r) c
          ∙ ap (λ (y : Bool). tried_of_back moved reply.status (closes_behind head framing) y r) u,
    )
