-- What goes on of a request that was read is read as it was meant.
use Rattle.std.proofs.Common.{◌≡◌, ◌<◌, ◌≤◌, ◌^◌, ◌⊎◌, ℕ, zero, suc, eqb, ◌&&◌, Bool, true}
use Rattle.std.proofs.Common.{false, not, cond, List, [], ◌∷◌, ◌++◌, length, map, refl, sym, ap}
use Rattle.std.proofs.Common.{subst, ◌∙◌, inl, inr, IsUtf8, append-nil, Option, Some, None, Result}
use Rattle.std.proofs.Common.{Ok, Err}
use Rattle.std.specs.List.{concat}
use Rattle.std.proofs.lemmas.List.Elements.{All-filter}
use Rattle.httparse.specs.Grammar.{AllPass, is_uri_byte, is_value_byte, trim_ows}
use Rattle.name_tree.specs.Canon.{AreByteLabels}
use Rattle.name_tree.specs.Path.{Labels}
use Rattle.dtab_table.specs.Dtab.{rules_of}
use Rattle.dtab_table.specs.Rules.{Rule as DtabRule}
use Rattle.dtab_table.specs.TableCanon.{AreSoundRules}
use Rattle.addr_book.specs.declared.addr.Addr.{Addr}
use Rattle.http_wire.specs.declared.ended.Ended.{Ended}
use Rattle.http_wire.specs.declared.frames.Framing.{Framing}
use Rattle.http_wire.specs.declared.frames.FramingFault.{FramingFault}
use Rattle.http_wire.specs.declared.head.Field.{Field}
use Rattle.http_wire.specs.declared.head.Head.{Head}
use Rattle.http_wire.specs.declared.head.ReplyHead.{ReplyHead}
use Rattle.http_wire.specs.Fields.{names_close}
use Rattle.http_wire.specs.Framing.{framing_of}
use Rattle.http_wire.specs.Heads.{most, BeginsWith, IsSoundField}
use Rattle.http_wire.specs.Host.{host_of}
use Rattle.http_wire.specs.Target.{Form, IsServed}
use Rattle.identifier.specs.declared.rule.Rule.{Rule}
use Rattle.identifier.specs.Context.{heard_by, is_context}
use Rattle.identifier.specs.Local.{local_rules}
use Rattle.identifier.specs.Naming.{identified}
use Rattle.identifier.proofs.Sounds.{sound_local}
use Rattle.body_wire.specs.declared.end.BodyEnd.{BodyEnd}
use Rattle.body_wire.specs.declared.end.BodyEnd.TheVariants.{BadChunk, Cut, TooLong, ReadFault}
use Rattle.body_wire.specs.declared.end.BodyEnd.TheVariants.{WriteFault, SendFault, RecvFault}
use Rattle.body_wire.specs.declared.end.BodyEnd.TheVariants.{OutOfMemory}
use Rattle.body_wire.specs.Bodies.{IsFrontBody, IsWholeBody}
use Rattle.body_wire.specs.Passing.{Ends, IsFrontOf, form_of, most_passed, runs_to_end}
use Rattle.body_wire.specs.Passing.{IsSent as WasSent}
use Rattle.machine.specs.Values.{SettingsValue, Replica}
use Rattle.forward.specs.declared.going.Going.{Going}
use Rattle.forward.specs.Forwarded.{forwarded}
use Rattle.forward.specs.Laws.{table_texts, IsPlainWay, IsRequestFraming, ReadsBack}
use Rattle.forward.proofs.CanonBytes.{path_text}
use Rattle.forward.proofs.Written.{heads_read_back as written_reads_back}
use Rattle.replica_try.specs.declared.final_head.HeadFault.{HeadFault}
use Rattle.replica_try.specs.declared.moved.Moved.{Moved}
use Rattle.replica_try.specs.declared.tried.Tried.{Tried}
use Rattle.replica_try.specs.Heads.{Hears}
use Rattle.proxy_session.specs.Attempts.{Failed, FailedAttempt}
use Rattle.proxy_session.specs.Exchange.{Exchanges, Routes, Standing}
use Rattle.proxy_session.specs.Requests.{TriesAgain}
use Rattle.retry_budget.specs.Budget.{BudgetValue}
use Rattle.proxy_session.specs.Laws.{ExchangesReadBack, HeadsReadBack, RequestsReadBack, SendsAgain}
use Rattle.proxy_session.specs.Laws.{SendsHead, SendsOnce, SendsTry, IsAnsweredWhole, IsByteReplica}
use Rattle.proxy_session.specs.Laws.{IsByteRule, IsWholeReply, ReadsAs, WasRead}
use Rattle.proxy_session.specs.Onward.{IsForwarded, host_for}
use Rattle.line_base.specs.Dials.{Grows, Upstream, has_room}
use Rattle.line_base.specs.Lines.{Line}
use Rattle.replica_try.specs.Trying.{Backs, Converses, GoesOn, Replies, Tries, TriesAnew, Visits}
use Rattle.replica_try.specs.Trying.{closes_behind, is_repeatable, is_reusable, is_silent}
use Rattle.replica_try.specs.Trying.{knows_chunks}
use Rattle.replica_try.specs.Trying.{leaves_reusable, stop_of, tried_of_back, tried_of_body}
use Rattle.replica_try.specs.Trying.{tried_of_head}
use Rattle.line_base.specs.declared.dialer.DialEvent.{DialEvent}
use Rattle.line_base.specs.declared.dialer.DialEvent.TheVariants.{Dialed, Resumed, Hung, Kept}
use Rattle.proxy_session.specs.Seeking.{by_framing, by_host, by_path, by_table, Seeks, Sought}
use Rattle.proxy_session.proofs.Attempting.{last_routes}
use Rattle.replica_try.proofs.Growing.{grows_nothing}
use Rattle.proxy_session.proofs.Addresses.{addr_field}
use Rattle.proxy_session.proofs.Asked.{asked_form, asked_host, IsByteTarget}
use Rattle.proxy_session.proofs.Bodies.{front_of_body}
use Rattle.proxy_session.proofs.FieldTexts.{are_bytes, both_pass, is_byte, uri_bytes, value_bytes}
use Rattle.proxy_session.proofs.FieldTexts.{IsFieldText}
use Rattle.proxy_session.proofs.Framed.{request_framing}
use Rattle.proxy_session.proofs.Named.{named_labels}
use Rattle.proxy_session.proofs.Received.{received, HasText, IsReceived}
use Rattle.replica_try.proofs.BothHold.{and_left, and_right}
use Rattle.replica_try.proofs.Silent.{silent_got, silent_hung}
use Rattle.proxy_session.proofs.Untouched.{nothing_of, zero_of}

-- ---- what a request seeks

-- each part may stand in its place
record MayGoOn (sought : Sought) : Type 0 where
  path : AreByteLabels sought.path
  rules : AreSoundRules sought.rules
  framing : IsRequestFraming sought.framing
  host : IsFieldText sought.host
  line : IsByteTarget sought.line

by_tested_table : (framing : Framing) (host line : List ℕ) (path : Labels)
    (own : Option (List DtabRule)) (sought : Sought)
    → IsRequestFraming framing → IsFieldText host → IsByteTarget line → AreByteLabels path
    → ((rules : List DtabRule) → own ≡ Some rules → AreSoundRules rules)
    → by_table framing host line path own ≡ Ok sought → MayGoOn sought
by_tested_table framing host line path None sought framed text target labels sound is = absurd (cc)
by_tested_table framing host line path (Some rules) sought framed text target labels sound is =
    let all : Sought = record {
      path = path;
      rules = rules;
      framing = framing;
      host = host;
      line = line;
    } in
    let same : all ≡ sought = cc in
    subst MayGoOn same (record {
      path = labels;
      rules = sound rules refl;
      framing = framed;
      host = text;
      line = target;
    })

by_tested_path : (head : Head) (framing : Framing) (host line : List ℕ) (named : Option Labels)
    (sought : Sought)
    → IsRequestFraming framing → IsFieldText host → IsByteTarget line
    → ((path : Labels) → named ≡ Some path → AreByteLabels path)
    → by_path head framing host line named ≡ Ok sought → MayGoOn sought
by_tested_path head framing host line None sought framed text target labels is = absurd (cc)
by_tested_path head framing host line (Some path) sought framed text target labels is =
    by_tested_table framing host line path (local_rules head.fields) sought framed text target
    (labels path refl) (λ rules own. sound_local head.fields rules own) is

by_tested_host : (rule : Rule) (head : Head) (framing : Framing) (line : List ℕ)
    (asked : Option (List ℕ)) (sought : Sought)
    → IsByteRule rule → IsReceived head → IsRequestFraming framing → IsByteTarget line
    → ((host : List ℕ) → asked ≡ Some host → IsFieldText host)
    → by_host rule head framing line asked ≡ Ok sought → MayGoOn sought
by_tested_host rule head framing line None sought bytes read framed target texts is = absurd (cc)
by_tested_host rule head framing line (Some host) sought bytes read framed target texts is =
    let text = texts host refl in
    by_tested_path head framing host line (identified rule head host line) sought framed text target
    (λ path named. named_labels rule head host line path bytes read text target named) is

by_tested_framing : (rule : Rule) (head : Head) (form : Form) (framed : Result Framing FramingFault)
    (sought : Sought)
    → IsByteRule rule → IsReceived head → IsServed head.method head.target form
    → framing_of head.version head.fields ≡ framed
    → by_framing rule head form framed ≡ Ok sought → MayGoOn sought
by_tested_framing rule head form (Err FramingFault.Length) sought bytes read served framed is =
    absurd (cc)
by_tested_framing rule head form (Err FramingFault.Coding) sought bytes read served framed is =
    absurd (cc)
by_tested_framing rule head form (Ok framing) sought bytes read served framed is =
    let target : IsByteTarget head.target =
    record {
      some = read.sound.target.some;
      bytes = both_pass is_uri_byte is_byte head.target
          read.sound.target.bytes read.target;
      utf8 = read.sound.target.utf8;
    } in
    let asked = asked_form head.method head.target form target served in
    by_tested_host rule head framing form.line (host_of head.version head.fields form.authority)
    sought bytes read (request_framing head.version head.fields framing framed) asked.0
    (λ host given. asked_host head.version head.fields form.authority host read.fields asked.1
    given) is

seeks_well : (rule : Rule) (head : Head) (sought : Sought) → IsByteRule rule → IsReceived head
    → Seeks rule head (Ok sought) → MayGoOn sought
seeks_well rule head sought bytes read (inl (connect, is)) = absurd (cc)
seeks_well rule head sought bytes read (inr (inl (other, refused, is))) = absurd (cc)
seeks_well rule head sought bytes read (inr (inr tested)) =
    by_tested_framing rule head tested.form (framing_of head.version head.fields) sought bytes read
    tested.served refl (sym tested.tested)

-- ---- the way that it takes

asks_well : (host : List ℕ) (addr : Addr) → IsFieldText host → addr.ip < 2 ^ 32 → addr.port < 2 ^ 16
    → IsFieldText (host_for host addr)
asks_well [] addr text ip port = addr_field addr ip port
asks_well (b ∷ host) addr text ip port = text

-- what is read, by what was meant
reads_so : (head : Head) (sought : Sought) (to : Replica) (bytes : List ℕ) (way : Going)
    (read : Head)
    → bytes ≡ forwarded head way → way.target.now ≡ sought.line → way.framing ≡ sought.framing
    → way.host.now ≡ host_for sought.host to.addr → rules_of way.local.now ≡ sought.rules
    → ReadsBack head way read → ReadsAs head sought to bytes read
reads_so head sought to bytes way read is line framing host rules back = record {
  whole = subst (λ (all : List ℕ). BeginsWith all read (length all)) (sym is) back.whole;
  method = back.method;
  target = back.target ∙ line;
  version = back.version;
  framing = back.framing ∙ ap Ok framing;
  host = back.host ∙ ap (λ (h : List ℕ). h ∷ []) host;
  no_table = back.no_table;
  table = back.table ∙ ap (λ (all : List DtabRule). map trim_ows (table_texts all)) rules;
}

reads_back : (head : Head) (sought : Sought) (closes : Bool) (to : Replica) (bytes : List ℕ)
    → IsReceived head
    → MayGoOn sought → IsByteReplica to → IsForwarded head sought closes to bytes
    → length bytes ≤ most → (read : Head) × ReadsAs head sought to bytes read
reads_back head sought closes to bytes received well replica goes short =
    let way = goes.to in
    let host : IsFieldText (host_for sought.host to.addr) = asks_well sought.host to.addr well.host
    replica.ip replica.port in
    let plain : IsPlainWay way = record {
      host_bytes =
          subst (AllPass is_value_byte) (sym goes.host_is)
          (value_bytes (host_for sought.host to.addr) host.bytes);
      host = subst (λ (text : List ℕ). trim_ows text ≡ text) (sym goes.host_is) host.trimmed;
      target = record {
        some = subst (λ (text : List ℕ). 0 < length text) (sym goes.line_is) well.line.some;
        bytes =
            subst (AllPass is_uri_byte) (sym goes.line_is) (uri_bytes sought.line well.line.bytes);
        utf8 = subst IsUtf8 (sym goes.line_is) well.line.utf8;
      };
      framing = subst IsRequestFraming (sym goes.framing_is) well.framing;
      local = subst AreSoundRules (sym goes.rules_are) well.rules;
      service = subst AreByteLabels (sym goes.service_is) well.path;
      client =
          subst (AllPass is_value_byte) (sym goes.client_is) (path_text to.client replica.client);
      residual =
          subst (AllPass is_value_byte) (sym goes.residual_is)
          (path_text to.residual replica.residual);
    } in
    let found = written_reads_back head way received.sound plain
    (subst (λ (all : List ℕ). length all ≤ most) goes.bytes_are short) in (
      found.0,
      reads_so head sought to bytes way found.0 goes.bytes_are goes.line_is goes.framing_is
          goes.host_is goes.rules_are found.1,
    )

-- a head that was read is one as it was received, also without its context
heard_so : (clears : Bool) (head : Head) → IsReceived head → IsReceived (heard_by clears head)
heard_so false head was = was
heard_so true head was = record {
  sound = record {
    method = was.sound.method;
    target = was.sound.target;
    version = was.sound.version;
    fields =
        All-filter (λ (field : Field). not (is_context field)) IsSoundField head.fields
        was.sound.fields;
  };
  method = was.method;
  target = was.target;
  fields =
      All-filter (λ (field : Field). not (is_context field)) HasText head.fields was.fields;
}

pub was_received : (head : Head) → WasRead head → IsReceived head
was_received head was =
    subst IsReceived (sym was.heard)
    (heard_so was.clears was.read
    (received was.received was.read was.len (are_bytes was.received was.bytes) was.begins))

pub heads_read_back : HeadsReadBack
heads_read_back rule head sought closes to bytes of_bytes was seeks replica goes short =
    let read = was_received head was in reads_back head sought closes to bytes read
    (seeks_well rule head sought of_bytes read seeks) replica goes short

-- ---- exchanges

front_of : (all sent : List ℕ) (result : Result ℕ BodyEnd) → WasSent all sent result
    → IsFrontOf all sent
front_of all sent (Ok n) is = ([], append-nil sent ∙ is)
front_of all sent (Err (BadChunk n)) is = ([], append-nil sent ∙ is)
front_of all sent (Err Cut) is = ([], append-nil sent ∙ is)
front_of all sent (Err TooLong) is = ([], append-nil sent ∙ is)
front_of all sent (Err ReadFault) is = ([], append-nil sent ∙ is)
front_of all sent (Err RecvFault) is = ([], append-nil sent ∙ is)
front_of all sent (Err WriteFault) front = front
front_of all sent (Err SendFault) front = front
front_of all sent (Err OutOfMemory) front = front

-- ---- replies

-- a reply that went back whole, over a connection that may carry another request
went_whole : (moved : Moved) (status : ℕ) (closes reusable : Bool) (r : Result ℕ BodyEnd)
    → leaves_reusable (tried_of_back moved status closes reusable r) ≡ true
    → (n : ℕ) × (r ≡ Ok n) × (reusable ≡ true)
went_whole moved status closes reusable (Ok n) is = (n, refl, is)
went_whole moved status closes reusable (Err (BadChunk n)) is = absurd (cc)
went_whole moved status closes reusable (Err Cut) is = absurd (cc)
went_whole moved status closes reusable (Err TooLong) is = absurd (cc)
went_whole moved status closes reusable (Err ReadFault) is = absurd (cc)
went_whole moved status closes reusable (Err WriteFault) is = absurd (cc)
went_whole moved status closes reusable (Err SendFault) is = absurd (cc)
went_whole moved status closes reusable (Err RecvFault) is = absurd (cc)
went_whole moved status closes reusable (Err OutOfMemory) is = absurd (cc)

-- no reply came, and no request went on whole
never_by_head : (n : ℕ) (fault : HeadFault) → leaves_reusable (tried_of_head n fault) ≡ true → ⊥
never_by_head n HeadFault.Silent is = cc
never_by_head n HeadFault.NoReply is = cc
never_by_head n HeadFault.OutOfMemory is = cc

never_by_body : (n : ℕ) (end : BodyEnd) → leaves_reusable (tried_of_body n end) ≡ true → ⊥
never_by_body n (BadChunk m) is = cc
never_by_body n Cut is = cc
never_by_body n TooLong is = cc
never_by_body n ReadFault is = cc
never_by_body n WriteFault is = cc
never_by_body n SendFault is = cc
never_by_body n RecvFault is = cc
never_by_body n OutOfMemory is = cc

-- nothing is left behind a reply after which the connection may carry another request
nothing_left : (reply : ReplyHead) (framing : Framing) (left : List ℕ)
    → is_reusable reply framing left ≡ true → left ≡ []
nothing_left reply framing left is =
    let unnamed = and_right (eqb reply.version 1) _ is in
    let ended = and_right (not (names_close reply.fields)) _ unnamed in
    nothing_of left (zero_of (length left) (and_right (not (runs_to_end framing)) _ ended))

-- all that was got behind a final head is the body that it frames
all_taken : (kept taken kept_after : List ℕ) (behind : List (List ℕ))
    → kept ++ concat behind ≡ taken ++ kept_after → kept_after ≡ [] → taken ≡ kept ++ concat behind
all_taken kept taken kept_after behind is none =
    sym (is ∙ ap (λ (k : List ℕ). taken ++ k) none ∙ append-nil taken)

went_back : (head : Head) (last : Bool) (n : ℕ) (reply : ReplyHead) (framing : Framing)
    (old new : Line) (kept : List ℕ) (f0 f1 f2 : ℕ) (before behind got : List (List ℕ))
    (how : Tried)
    → leaves_reusable how ≡ true → Hears head.method [] kept before f0 f1 (Ok (reply, framing))
    → got ≡ before ++ behind → Backs head last n reply framing old new kept f1 f2 behind how
    → IsWholeReply head.method got
went_back head last n reply framing old new kept f0 f1 f2 before behind got how is hears all
    (inl none) =
    let never = subst (λ (h : Tried). leaves_reusable h ≡ true) none.3 is in absurd (cc)
went_back head last n reply framing old new kept f0 f1 f2 before behind got how is hears all
    (inr (kept_after, r, goes, way)) =
    let reusable = is_reusable reply framing kept_after in
    let chunked = knows_chunks head in
    let p = goes.passes in
    let whole = went_whole (record { sent = n; given = goes.count }) reply.status
    (closes_behind head framing) reusable r
    (subst (λ (h : Tried). leaves_reusable h ≡ true) way is) in
    let none = nothing_left reply framing kept_after whole.2 in
    let ends : Ends framing (form_of chunked) most_passed p.taken p.passed goes.count kept_after
    (Ok whole.0) = subst (λ (x : Result ℕ BodyEnd). Ends framing (form_of chunked) most_passed
    p.taken p.passed goes.count kept_after x) whole.1 p.ends in
    let body = subst (λ (k : List ℕ). IsWholeBody framing (form_of chunked) p.taken p.passed
    goes.count k) none ends.1 in
    record {
      reply = reply;
      framing = framing;
      heads = before;
      behind = behind;
      all = all;
      left = kept;
      faults = f0;
      faults_now = f1;
      heard = hears;
      chunked = chunked;
      passed = p.passed;
      count = goes.count;
      body =
          subst (λ (t : List ℕ). IsWholeBody framing (form_of chunked) t p.passed goes.count [])
          (all_taken kept p.taken kept_after behind p.bytes none) body;
      lasts = subst (λ (k : List ℕ). is_reusable reply framing k ≡ true) none whole.2;
    }

replied : (head : Head) (last : Bool) (n : ℕ) (old new : Line) (f0 f1 : ℕ) (got : List (List ℕ))
    (how : Tried) → leaves_reusable how ≡ true → Replies head last n old new f0 f1 got how
    → IsWholeReply head.method got
replied head last n old new f0 f1 got how is (inl (fault, kept, hears, rests, way)) =
    absurd (never_by_head n fault (subst (λ (h : Tried). leaves_reusable h ≡ true) way is))
replied head last n old new f0 f1 got how is
    (inr (reply, framing, kept, between, before, behind, hears, backs, all)) =
    went_back head last n reply framing old new kept f0 between f1 before behind got how is hears
    all backs

-- ---- visits

-- What was sent is a front of the head and of what goes on of a body. Where the connection may
-- carry another request, the request was answered whole
record GoesBehind
    (method onward : List ℕ) (framing : Framing) (sent : List ℕ) (got : List (List ℕ)) (how : Tried)
    : Type 0 where
  taken : List ℕ
  behind : List ℕ
  count : ℕ
  body : IsFrontBody framing (form_of true) most_passed taken behind count
  front : IsFrontOf (onward ++ behind) sent
  lasts : leaves_reusable how ≡ true
      → IsAnsweredWhole method framing onward taken behind count sent got

-- a request that went on whole, and its whole reply
answered_whole : (method onward : List ℕ) (framing : Framing) (taken passed kept_after : List ℕ)
    (count : ℕ) (sent : List ℕ) (result : Result ℕ BodyEnd) (got : List (List ℕ))
    → WasSent (onward ++ passed) sent result
    → Ends framing (form_of true) most_passed taken passed count kept_after result
    → (n : ℕ) × (result ≡ Ok n) × IsWholeReply method got
    → IsAnsweredWhole method framing onward taken passed count sent got
answered_whole method onward framing taken passed kept_after count sent result got sends ends
    (n, is, reply) =
    let whole : Ends framing (form_of true) most_passed taken passed count kept_after (Ok n) =
    subst (λ (r : Result ℕ BodyEnd). Ends framing (form_of true) most_passed taken passed count
    kept_after r) is ends in
    record {
      sent_is = subst (λ (r : Result ℕ BodyEnd). WasSent (onward ++ passed) sent r) is sends;
      after = kept_after;
      body = whole.1;
      reply = reply;
    }

goes_behind : (method onward : List ℕ) (framing : Framing) (old new : Line)
    (kept kept_after : List ℕ) (faults faults_now : ℕ) (sent : List ℕ) (result : Result ℕ BodyEnd)
    (got : List (List ℕ)) (how : Tried)
    → (goes : GoesOn onward framing old new kept kept_after faults faults_now sent result)
    → (leaves_reusable how ≡ true → (n : ℕ) × (result ≡ Ok n) × IsWholeReply method got)
    → GoesBehind method onward framing sent got how
goes_behind method onward framing old new kept kept_after faults faults_now sent result got how goes
    lasts =
    let p = goes.passes in
    record {
      taken = p.taken;
      behind = p.passed;
      count = goes.count;
      body =
          front_of_body true most_passed p.taken p.passed goes.count p.within kept_after framing
          result p.ends;
      front = front_of (onward ++ p.passed) sent result p.sends;
      lasts =
          λ is. answered_whole method onward framing p.taken p.passed kept_after goes.count sent
          result got p.sends p.ends (lasts is);
    }

conversed : (head : Head) (onward : List ℕ) (framing : Framing) (last : Bool) (old new : Line)
    (kept kept_after : List ℕ) (faults faults_now : ℕ) (sent : List ℕ) (got : List (List ℕ))
    (how : Tried)
    → Converses head onward framing last old new kept kept_after faults faults_now sent got how
    → GoesBehind head.method onward framing sent got how
conversed head onward framing last old new kept kept_after faults faults_now sent got how
    (inl (end, goes, nothing, way)) =
    goes_behind head.method onward framing old new kept kept_after faults faults_now sent (Err end)
    got how goes
    (λ is. absurd (never_by_body goes.count end
    (subst (λ (h : Tried). leaves_reusable h ≡ true) way is)))
conversed head onward framing last old new kept kept_after faults faults_now sent got how
    (inr (n, mid, between, goes, replies)) =
    goes_behind head.method onward framing old mid kept kept_after faults between sent (Ok n) got
    how goes (λ is. (n, refl, replied head last n mid new between faults_now got how is replies))

-- a connection is ended; or it is kept, and may carry another request
stops_by : (keeps lasts t : Bool) → (keeps && lasts) ≡ t
    → (cond t Kept Hung ≡ Hung) ⊎ ((cond t Kept Hung ≡ Kept) × (lasts ≡ true))
stops_by keeps lasts true is = inr (refl, and_right keeps lasts is)
stops_by keeps lasts false is = inl refl

ended_or_kept : (stop : DialEvent) (lasts : Bool) (Whole : Type 0)
    → (stop ≡ Hung) ⊎ ((stop ≡ Kept) × (lasts ≡ true)) → (lasts ≡ true → Whole)
    → (stop ≡ Hung) ⊎ ((stop ≡ Kept) × Whole)
ended_or_kept stop lasts Whole (inl hung) whole = inl hung
ended_or_kept stop lasts Whole (inr (kept, is)) whole = inr (kept, whole is)

module _ (rule : Rule) (head : Head) (sought : Sought) (to : Replica) (onward : List ℕ)
    (last : Bool) (read : IsReceived head) (well : MayGoOn sought)
    (seeks : Seeks rule head (Ok sought)) (closes : Bool)
    (goes : IsForwarded head sought closes to onward) where
  abbrev visited : (start : DialEvent)
      → (start ≡ Dialed to.addr.ip to.addr.port)
      ⊎ ((start ≡ Resumed to.addr.ip to.addr.port)
      × (is_repeatable head sought.framing ≡ true))
      → (old new : Line) (kept kept_after : List ℕ) (before now : Upstream) (how : Tried)
      → Visits start head onward sought.framing last old new kept kept_after before now how
      → SendsHead rule head before now
  visited start starts old new kept kept_after before now how v =
      let goes_on = conversed head onward sought.framing last old new kept kept_after before.faults
      now.faults (concat v.sent) v.got how v.spoke in
      record {
        sought = sought;
        seeks = seeks;
        to = to;
        closes = closes;
        onward = onward;
        forwarded = goes;
        reads = λ replica short. reads_back head sought closes to onward read well replica goes
            short;
        taken = goes_on.taken;
        behind = goes_on.behind;
        count = goes_on.count;
        body = goes_on.body;
        start = start;
        starts = starts;
        sent = v.sent;
        front = goes_on.front;
        got = v.got;
        stop = stop_of (has_room before.pool) how;
        stops =
            ended_or_kept (stop_of (has_room before.pool) how) (leaves_reusable how) _
            (stops_by (has_room before.pool) (leaves_reusable how) _ refl) goes_on.lasts;
        log = v.log;
      }

  tried_anew : (old new : Line) (kept kept_after : List ℕ) (before now : Upstream) (how : Tried)
      → TriesAnew head onward sought.framing last to.addr old new kept kept_after before now how
      → SendsOnce rule head before now
  tried_anew old new kept kept_after before now how (inl none) = inl none.log
  tried_anew old new kept kept_after before now how (inr v) =
      inr (visited (Dialed to.addr.ip to.addr.port) (inl refl) old new kept kept_after before now
      how v)

  -- behind a silent visit
  tried_again : (old new : Line) (kept kept_after : List ℕ) (before now : Upstream) (how : Tried)
      → TriesAnew head onward sought.framing last to.addr old new kept kept_after before now how
      → Grows before.log now.log []
      ⊎ ((second : SendsHead rule head before now)
      × (second.start ≡ Dialed to.addr.ip to.addr.port) × (second.onward ≡ onward))
  tried_again old new kept kept_after before now how (inl none) = inl none.log
  tried_again old new kept kept_after before now how (inr v) =
      inr (
        visited (Dialed to.addr.ip to.addr.port) (inl refl) old new kept kept_after before now how
            v,
        refl,
        refl,
      )

  tried : (old new : Line) (kept kept_after : List ℕ) (before now : Upstream) (how : Tried)
      → Tries head onward sought.framing last to.addr old new kept kept_after before now how
      → SendsTry rule head before now
  tried old new kept kept_after before now how (inl anew) =
      inl (tried_anew old new kept kept_after before now how anew)
  tried old new kept kept_after before now how (inr (any, again, inl answered)) =
      inl (inr
      (visited (Resumed to.addr.ip to.addr.port) (inr (refl, again)) old new kept kept_after
      before now how answered.visit))
  tried old new kept kept_after before now how (inr (any, again, inr t)) =
      let silent = and_left (is_silent t.first) _ t.silent in
      inr (record {
        mid = t.mid;
        first =
            visited (Resumed to.addr.ip to.addr.port) (inr (refl, again)) old t.line kept t.left
            before t.mid t.first t.visit;
        resumed = refl;
        silent =
            silent_got head onward sought.framing last old t.line kept t.left before.faults
            t.mid.faults (concat t.visit.sent) t.visit.got t.first silent t.visit.spoke;
        hung = silent_hung (has_room before.pool) t.first silent;
        again = tried_again t.line new t.left kept_after t.mid now how t.anew;
      })

-- nothing was done
idles : (rule : Rule) (head : Head) (old new : Upstream) → Grows old.log new.log []
    → SendsTry rule head old new
idles rule head old new nothing = inl (inl nothing)

routed : (settings : SettingsValue) (rule : Rule) (head : Head) (last : Bool) (sought : Sought)
    (old new : Standing) (result : Option Ended)
    → IsReceived head → MayGoOn sought → Seeks rule head (Ok sought)
    → Routes settings head last sought old new result
    → SendsTry rule head old.upstream new.upstream
routed settings rule head last sought old new result read well seeks
    (moment, moments, draws, inl stops) =
    idles rule head old.upstream new.upstream stops.away.upstream.log
routed settings rule head last sought old new result read well seeks
    (moment, moments, draws, inr (inl unbound)) =
    idles rule head old.upstream new.upstream unbound.away.upstream.log
routed settings rule head last sought old new result read well seeks
    (moment, moments, draws, inr (inr found)) =
    tried rule head sought found.to found.sent.onward last read well seeks
    (not (has_room old.upstream.pool))
    found.sent.is_head
    old.line found.sent.between old.kept new.kept old.upstream new.upstream found.sent.how
    found.sent.tries

pub exchanges_read_back : ExchangesReadBack
exchanges_read_back settings rule head last old new result of_bytes was (inl refused) =
    idles rule head old.upstream new.upstream refused.nothing.away.upstream.log
exchanges_read_back settings rule head last old new result of_bytes was (inr (inl stops)) =
    idles rule head old.upstream new.upstream stops.nothing.away.upstream.log
exchanges_read_back settings rule head last old new result of_bytes was
    (inr (inr (sought, seeks, routes))) =
    let read = was_received head was in routed settings rule head last sought old new result read
    (seeks_well rule head sought of_bytes read seeks) seeks routes

-- ---- requests that are tried again

module _ (settings : SettingsValue) (rule : Rule) (head : Head) (last : Bool) (sought : Sought)
    (read : IsReceived head) (well : MayGoOn sought) (seeks : Seeks rule head (Ok sought)) where
  attempted : (fewer : Bool) (budget : Option BudgetValue) (old new : Standing)
      → FailedAttempt settings head last sought fewer budget old new
      → SendsTry rule head old.upstream new.upstream
  attempted fewer budget old new (moment, moments, draws, x) =
      tried rule head sought x.to x.sent.onward last read well seeks
      (not (has_room old.upstream.pool))
      x.sent.is_head old.line
      new.line old.kept new.kept old.upstream new.upstream x.sent.how x.sent.tries

  failed : (n : ℕ) (before behind : Option BudgetValue) (old new : Standing)
      → Failed settings head last sought n before behind old new
      → SendsAgain rule head n old.upstream new.upstream
  failed zero before behind old new none =
      subst (λ (s : Standing). SendsAgain rule head zero old.upstream s.upstream) (sym none.1)
      (grows_nothing old.upstream.log)
  failed (suc n) before behind old new (mid, between, first, attempt, charged) =
      (mid.upstream, failed n before between old mid first, attempted _ between mid new attempt)

-- with no retry
once : (settings : SettingsValue) (rule : Rule) (head : Head) (last : Bool) (n : ℕ)
    (old new : Standing) (result : Option Ended) → IsByteRule rule → WasRead head → n ≡ 0
    → Exchanges settings rule head last old new result
    → SendsAgain rule head (suc n) old.upstream new.upstream
once settings rule head last n old new result of_bytes was none exchange =
    subst (λ (k : ℕ). SendsAgain rule head (suc k) old.upstream new.upstream) (sym none) (
      old.upstream,
      grows_nothing old.upstream.log,
      exchanges_read_back settings rule head last old new result of_bytes was exchange,
    )

tries_read_back : (settings : SettingsValue) (rule : Rule) (head : Head) (last : Bool) (n : ℕ)
    (before behind : Option BudgetValue) (old new : Standing) (result : Option Ended)
    → IsByteRule rule → WasRead head
    → TriesAgain settings rule head last n before behind old new result
    → SendsAgain rule head (suc n) old.upstream new.upstream
tries_read_back settings rule head last n before behind old new result of_bytes was
    (inl (inl x, untried)) =
    once settings rule head last n old new result of_bytes was untried.none (inl x)
tries_read_back settings rule head last n before behind old new result of_bytes was
    (inl (inr x, untried)) =
    once settings rule head last n old new result of_bytes was untried.none (inr (inl x))
tries_read_back settings rule head last n before behind old new result of_bytes was
    (inr (sought, seeks, (mid, first, way))) =
    let read = was_received head was in
    let well = seeks_well rule head sought of_bytes read seeks in (
      mid.upstream,
      failed settings rule head last sought read well seeks n before behind old mid first,
      routed settings rule head last sought mid new result read well seeks
          (last_routes settings head last sought _ behind mid new result way),
    )

pub requests_read_back : RequestsReadBack
requests_read_back settings rule head last n None behind old new result of_bytes was
    (untried, exchange) =
    once settings rule head last n old new result of_bytes was untried.none exchange
requests_read_back settings rule head last n (Some b) behind old new result of_bytes was tries =
    tries_read_back settings rule head last n _ behind old new result of_bytes was tries
