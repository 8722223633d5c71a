-- How a head and a body that were read make a request.
use Rattle.std.proofs.Common.{◌≡◌, ◌≢◌, ◌≤◌, ℕ, Bool, true, false, List, [], ◌∷◌, ◌++◌, drop, eqb}
use Rattle.std.proofs.Common.{refl, sym, subst, ap, ◌∙◌, append_assoc, append-nil, Option}
use Rattle.std.proofs.Common.{Some, None, Result, Ok, Err, IfOk, inl, inr}
use Rattle.std.specs.Prelude.{if◌then◌else◌, codes}
use Rattle.std.proofs.lemmas.List.{drop-append-le}
use Rattle.std.proofs.KnownBytes.{Consumes-trans}
use Rattle.std.specs.Io.KnownBytes.{Consumes}
use Rattle.std.specs.declared.vec.Vec.{Vec}
use Rattle.std.specs.declared.alloc.Global.{Global}
use Rattle.http_wire.specs.declared.ended.Ended.{Ended}
use Rattle.http_wire.specs.declared.ended.Ended.TheVariants as ended
use Rattle.line_base.specs.Counts.{raised}
use Rattle.http_wire.specs.declared.frames.Framing.{Framing}
use Rattle.http_wire.specs.declared.frames.Framing.TheVariants.{Nothing, Length, Chunked, ToEnd}
use Rattle.http_wire.specs.declared.frames.FramingFault.{FramingFault}
use Rattle.http_wire.specs.declared.head.Head.{Head}
use Rattle.http_wire.specs.declared.reading.HeadEnd.{HeadEnd}
use Rattle.http_wire.specs.Fields.{same_ignoring_case, values_of}
use Rattle.http_wire.specs.Framing.{agreed, coding_framing, framed, length_framing, pieces_of}
use Rattle.http_wire.specs.Heads.{BeginsWith, IsBad, IsTooLarge, NamesOtherVersion}
use Rattle.http_wire.specs.Reading.{Answers, HasCauses, HasNoneLeft, ReadsHead, Whatever}
use Rattle.http_wire.proofs.Turning.{begins_within}
use Rattle.body_wire.specs.declared.end.BodyEnd.{BodyEnd}
use Rattle.body_wire.specs.Bodies.{IsWholeBody}
use Rattle.body_wire.specs.Passing.{CountsEnd, Ends as EndsBody, HasNoneBehind, RaisedAt}
use Rattle.body_wire.specs.Passing.{ReadsBody, form_of, most_read, runs_to_end}
use Rattle.api_wire.specs.Request.{has_body}
use Rattle.api_sessions.specs.declared.request.NoRequest.{NoRequest}
use Rattle.api_sessions.specs.declared.request.NoRequest.TheVariants.{Own, Ends, Waits}
use Rattle.api_sessions.specs.Reading.{HasReadCauses, LeavesNone, ShowsNone, TellsTests, of_body}
use Rattle.api_sessions.specs.Reading.{of_head, quiet_end}
use Rattle.api_sessions.specs.Requests.{BeginsRequest, IsRefusedAs, IsRequest, IsTested, bad_body}
use Rattle.api_sessions.specs.Requests.{bad_head, large_head, long_body, other_version, tested}

-- what holds of the bytes, whatever follows them, holds of them
now : (P : List ℕ → Type 0) (bytes : List ℕ) → Whatever P bytes → P bytes
now P bytes h = subst P (append-nil bytes) (h [])

shows_none : (end : HeadEnd) (bytes kept : List ℕ) → Answers bytes kept (Err end)
    → ShowsNone bytes (of_head end)
shows_none HeadEnd.Ended bytes kept a = (a.0, a.1)
shows_none HeadEnd.Cut bytes kept a = inl (a.0, a.1)
shows_none HeadEnd.Bad bytes kept a = bad_head (now IsBad bytes a.0)
shows_none HeadEnd.Version bytes kept a = other_version (now NamesOtherVersion bytes a.0)
shows_none HeadEnd.TooLarge bytes kept a = large_head (now IsTooLarge bytes a.0)
shows_none HeadEnd.ReadFault bytes kept a = inl a.0
shows_none HeadEnd.OutOfMemory bytes kept a = tt

-- without a head
pub no_head : (l0 l1 : Option (List ℕ)) (k0 k1 : List ℕ) (end : HeadEnd) (refused : NoRequest)
    → refused ≡ of_head end → ReadsHead l0 l1 k0 k1 (Err end)
    → (came : List ℕ) × Consumes l0 l1 came × ShowsNone (k0 ++ came) refused
no_head l0 l1 k0 k1 end refused is reads = (
  reads.taken,
  reads.given,
  subst (ShowsNone (k0 ++ reads.taken)) (sym is)
      (shows_none end (k0 ++ reads.taken) k1 reads.answers),
)

shows_refusal : (head : Head) (len : ℕ) (bytes : List ℕ) → BeginsWith bytes head len
    → (refused : NoRequest) → TellsTests head (Err refused) → ShowsNone bytes refused
shows_refusal head len bytes begins (Own err with_body) tells =
    subst (IsRefusedAs bytes err) (sym tells.1) (tested head len err begins tells.0)
shows_refusal head len bytes begins (Ends end) tells =
    subst (λ (e : Ended). ShowsNone bytes (Ends e)) (sym tells) tt
shows_refusal head len bytes begins Waits tells = absurd tells

-- with a head that a test refuses
pub bad_test : (l0 l1 : Option (List ℕ)) (k0 k1 : List ℕ) (head : Head) (refused : NoRequest)
    → ReadsHead l0 l1 k0 k1 (Ok head) → TellsTests head (Err refused)
    → (came : List ℕ) × Consumes l0 l1 came × ShowsNone (k0 ++ came) refused
bad_test l0 l1 k0 k1 head refused reads tells =
    let answer = reads.answers in (
      reads.taken,
      reads.given,
      shows_refusal head answer.0 (k0 ++ reads.taken)
          (now (λ all. BeginsWith all head answer.0) (k0 ++ reads.taken) answer.1) refused tells,
    )

-- a head, and what was taken behind it
begins_request : (b1 k1 came k2 taken : List ℕ) (head : Head) (len : ℕ) (framing : Framing)
    → Whatever (λ all. BeginsWith all head len) b1 → k1 ≡ drop len b1
    → k1 ++ came ≡ taken ++ k2 → IsTested head framing
    → BeginsRequest (b1 ++ came) head framing taken k2
begins_request b1 k1 came k2 taken head len framing begins kept cut passes = record {
  len = len;
  begins = begins came;
  tested = passes;
  cut = drop-append-le len b1 came
      (begins_within b1 head len (now (λ all. BeginsWith all head len) b1 begins))
      ∙ ap (λ l. l ++ came) (sym kept) ∙ cut;
}

behind_both : (k1 came taken k2 more : List ℕ) → k1 ++ came ≡ taken ++ k2
    → k1 ++ (came ++ more) ≡ taken ++ (k2 ++ more)
behind_both k1 came taken k2 more cut =
    sym (append_assoc k1 came more) ∙ ap (λ l. l ++ more) cut ∙ append_assoc taken k2 more

-- the framing of a request is never that of a body that runs to the end of the connection
by_length : (length : Option ℕ) → IfOk (length_framing length) (λ f. runs_to_end f ≡ false)
by_length None = tt
by_length (Some n) = refl

one_coding : (known : Bool)
    → IfOk (if known then Ok Chunked else Err FramingFault.Coding)
    (λ (f : Framing). runs_to_end f ≡ false)
one_coding true = refl
one_coding false = tt

by_coding : (codings : List (List ℕ)) → IfOk (coding_framing codings) (λ f. runs_to_end f ≡ false)
by_coding [] = refl
by_coding (coding ∷ []) = one_coding (same_ignoring_case coding (codes "chunked"))
by_coding (coding ∷ other ∷ codings) = tt

by_version : (old : Bool) (codings : List (List ℕ))
    → IfOk (if old then Err FramingFault.Length else coding_framing codings)
    (λ (f : Framing). runs_to_end f ≡ false)
by_version true codings = tt
by_version false codings = by_coding codings

never_to_end : (minor : ℕ) (codings lengths : List (List ℕ))
    → IfOk (framed minor codings lengths) (λ f. runs_to_end f ≡ false)
never_to_end minor [] [] = refl
never_to_end minor [] (length ∷ lengths) = by_length (agreed (pieces_of (length ∷ lengths)))
never_to_end minor (coding ∷ codings) [] = by_version (eqb minor 0) (coding ∷ codings)
never_to_end minor (coding ∷ codings) (length ∷ lengths) = tt

ends_before : (head : Head) (framing : Framing) → IsTested head framing
    → runs_to_end framing ≡ false
ends_before head framing passes =
    subst (λ (r : Result Framing FramingFault). IfOk r (λ f. runs_to_end f ≡ false)) passes.framed
    (never_to_end head.version (values_of (codes "transfer-encoding") head.fields)
    (values_of (codes "content-length") head.fields))

whole_before : (framing : Framing) (taken body : List ℕ) (count : ℕ) (kept more : List ℕ)
    → runs_to_end framing ≡ false
    → IsWholeBody framing (form_of false) taken body count kept
    → IsWholeBody framing (form_of false) taken body count (kept ++ more)
whole_before Nothing taken body count kept more ends whole = whole
whole_before (Length n) taken body count kept more ends whole = whole
whole_before Chunked taken body count kept more ends whole = whole
whole_before ToEnd taken body count kept more ends whole = absurd (cc)

module _ (l0 l1 l2 : Option (List ℕ)) (k0 k1 k2 : List ℕ) (head : Head) (framing : Framing)
    (reads : ReadsHead l0 l1 k0 k1 (Ok head)) (passes : IsTested head framing) where
  -- a whole request
  pub whole_request : (body : Vec ℕ Global) → (came : List ℕ) × Consumes l1 l2 came
      × ReadsBody framing k1 came k2 (Ok body)
      → (all : List ℕ) × Consumes l0 l2 all
      × ((more : List ℕ) → IsRequest ((k0 ++ all) ++ more) head body.items (k2 ++ more))
  whole_request body read =
      let first = reads.taken in
      let came = read.0 in
      let b = read.2 in
      let answer = reads.answers in (
        first ++ came,
        Consumes-trans l0 l1 l2 first came reads.given read.1,
        λ more.
            let same : (k0 ++ first) ++ (came ++ more) ≡ (k0 ++ (first ++ came)) ++ more =
            sym (append_assoc (k0 ++ first) came more)
            ∙ ap (λ l. l ++ more) (append_assoc k0 first came) in
            subst (λ (bytes : List ℕ). IsRequest bytes head body.items (k2 ++ more)) same
            (record {
              framing = framing;
              taken = b.taken;
              count = b.count;
              within = b.within;
              front = begins_request (k0 ++ first) k1 (came ++ more) (k2 ++ more) b.taken head
                  answer.0 framing answer.1 answer.2 (behind_both k1 came b.taken k2 more b.bytes)
                  passes;
              whole =
                  whole_before framing b.taken body.items b.count k2 more
                  (ends_before head framing passes)
                  (subst (λ (p : List ℕ). IsWholeBody framing (form_of false) b.taken p b.count k2)
                  (sym b.ends.0) b.ends.1);
            }),
      )

  shows_no_body : (bytes taken passed : List ℕ) (count : ℕ) (e : BodyEnd) → count ≤ most_read
      → BeginsRequest bytes head framing taken k2
      → EndsBody framing (form_of false) most_read taken passed count k2 (Err e)
      → e ≢ BodyEnd.WriteFault → e ≢ BodyEnd.SendFault → e ≢ BodyEnd.RecvFault
      → ShowsNone bytes (of_body e (has_body head))
  shows_no_body bytes taken passed count (BodyEnd.BadChunk n) within front ends nw ns nr =
      bad_body head (record {
        framing = framing;
        taken = taken;
        passed = passed;
        count = count;
        behind = k2;
        within = within;
        front = front;
        bad = ends.1;
      })
  shows_no_body bytes taken passed count BodyEnd.TooLong within front ends nw ns nr =
      long_body head (record {
        framing = framing;
        taken = taken;
        passed = passed;
        count = count;
        behind = k2;
        front = front;
        long = ends;
      })
  shows_no_body bytes taken passed count BodyEnd.Cut within front ends nw ns nr =
      inr (record {
        head = head;
        framing = framing;
        taken = taken;
        passed = passed;
        count = count;
        behind = k2;
        within = within;
        front = front;
        open_ = ends.1;
      })
  shows_no_body bytes taken passed count BodyEnd.ReadFault within front ends nw ns nr =
      inr (record {
        head = head;
        framing = framing;
        taken = taken;
        passed = passed;
        count = count;
        behind = k2;
        within = within;
        front = front;
        open_ = ends;
      })
  shows_no_body bytes taken passed count BodyEnd.OutOfMemory within front ends nw ns nr = tt
  shows_no_body bytes taken passed count BodyEnd.WriteFault within front ends nw ns nr =
      absurd (nw refl)
  shows_no_body bytes taken passed count BodyEnd.SendFault within front ends nw ns nr =
      absurd (ns refl)
  shows_no_body bytes taken passed count BodyEnd.RecvFault within front ends nw ns nr =
      absurd (nr refl)

  -- a body that was not read
  pub no_body : (end : BodyEnd) (with_body : Bool) (refused : NoRequest) → with_body ≡ has_body head
      → refused ≡ of_body end with_body
      → (came : List ℕ) × Consumes l1 l2 came × ReadsBody framing k1 came k2 (Err end)
      → end ≢ BodyEnd.WriteFault → end ≢ BodyEnd.SendFault → end ≢ BodyEnd.RecvFault
      → (all : List ℕ) × Consumes l0 l2 all × ShowsNone (k0 ++ all) refused
  no_body end with_body refused w is read no_write no_send no_recv =
      let first = reads.taken in
      let came = read.0 in
      let b = read.2 in
      let answer = reads.answers in
      let front : BeginsRequest ((k0 ++ first) ++ came) head framing b.taken k2 =
      begins_request (k0 ++ first) k1 came k2 b.taken head answer.0 framing answer.1 answer.2
      b.bytes passes in (
        first ++ came,
        Consumes-trans l0 l1 l2 first came reads.given read.1,
        subst (λ (bytes : List ℕ). ShowsNone bytes refused) (append_assoc k0 first came)
            (subst (ShowsNone ((k0 ++ first) ++ came)) (ap (of_body end) (sym w) ∙ sym is)
            (shows_no_body ((k0 ++ first) ++ came) b.taken b.passed b.count end b.within front
            b.ends no_write no_send no_recv)),
      )

-- ---- why there is no request

module _ (T : Type 0) (e0 e1 f0 f1 : ℕ) where
  -- since there is no head
  pub head_causes : (end : HeadEnd) (refused : NoRequest) → refused ≡ of_head end
      → HasCauses e0 e1 f0 f1 (Err end)
      → HasReadCauses e0 e1 f0 f1 (quiet_end {T = T} (Err refused))
  head_causes end refused is read =
      subst (λ (r : NoRequest). HasReadCauses e0 e1 f0 f1 (quiet_end {T = T} (Err r))) (sym is)
      (by_end end read)
    where
      by_end : (e : HeadEnd) → HasCauses e0 e1 f0 f1 (Err e)
          → HasReadCauses e0 e1 f0 f1 (quiet_end {T = T} (Err (of_head e)))
      by_end HeadEnd.Ended c = record { ends = c.ends; faults = c.faults }
      by_end HeadEnd.Cut c = record { ends = c.ends; faults = c.faults }
      by_end HeadEnd.Bad c = record { ends = c.ends; faults = c.faults }
      by_end HeadEnd.Version c = record { ends = c.ends; faults = c.faults }
      by_end HeadEnd.TooLarge c = record { ends = c.ends; faults = c.faults }
      by_end HeadEnd.ReadFault c = record { ends = c.ends; faults = c.faults }
      by_end HeadEnd.OutOfMemory c = record { ends = c.ends; faults = c.faults }

  -- since a test refuses it
  pub test_causes : (head : Head) (refused : NoRequest) → TellsTests head (Err refused)
      → HasCauses e0 e1 f0 f1 (Ok head)
      → HasReadCauses e0 e1 f0 f1 (quiet_end {T = T} (Err refused))
  test_causes head (Own err with_body) tells read =
      record { ends = read.ends; faults = read.faults }
  test_causes head (Ends end) tells read =
      subst (λ (e : Ended). HasReadCauses e0 e1 f0 f1 (Some e)) (sym tells)
      (record { ends = read.ends; faults = read.faults })
  test_causes head Waits tells read = absurd tells

module _ (e0 e1 e2 f0 f1 f2 : ℕ) (framing : Framing) (ends : e1 ≡ e0) (faults : f1 ≡ f0) where
  -- a body that is whole: the end is no part of it
  pub whole_causes : (head : Head) (count : ℕ) → IsTested head framing
      → CountsEnd framing e1 e2 (Ok count) → RaisedAt (Err BodyEnd.ReadFault) f1 f2 (Ok count)
      → HasReadCauses e0 e2 f0 f2 None
  whole_causes head count passes counts raises = record {
    ends = counts.others (ends_before head framing passes) ∙ ends;
    faults = raises.others (λ is. cc) ∙ faults;
  }

  -- a body in which no end and no fault came
  still : e2 ≡ e1 → f2 ≡ f1 → (e2 ≡ e0) × (f2 ≡ f0)
  still e f = (e ∙ ends, f ∙ faults)

  causes : (T : Type 0) (e : BodyEnd) (w : Bool) → CountsEnd framing e1 e2 (Err e)
      → RaisedAt (Err BodyEnd.ReadFault) f1 f2 (Err e)
      → HasReadCauses e0 e2 f0 f2 (quiet_end {T = T} (Err (of_body e w)))
  causes T (BodyEnd.BadChunk n) w counts raises =
      let s = still (counts.others refl) (raises.others (λ is. cc)) in
      record { ends = s.0; faults = s.1 }
  causes T BodyEnd.TooLong w counts raises =
      let s = still (counts.others refl) (raises.others (λ is. cc)) in
      record { ends = s.0; faults = s.1 }
  causes T BodyEnd.OutOfMemory w counts raises =
      let s = still (counts.others refl) (raises.others (λ is. cc)) in
      record { ends = s.0; faults = s.1 }
  causes T BodyEnd.WriteFault w counts raises =
      let s = still (counts.others refl) (raises.others (λ is. cc)) in
      record { ends = s.0; faults = s.1 }
  causes T BodyEnd.SendFault w counts raises =
      let s = still (counts.others refl) (raises.others (λ is. cc)) in
      record { ends = s.0; faults = s.1 }
  causes T BodyEnd.RecvFault w counts raises =
      let s = still (counts.others refl) (raises.others (λ is. cc)) in
      record { ends = s.0; faults = s.1 }
  causes T BodyEnd.Cut w counts raises = record {
    ends = counts.ended refl ∙ ap raised ends;
    faults = raises.others (λ is. cc) ∙ faults;
  }
  causes T BodyEnd.ReadFault w counts raises = record {
    ends = counts.others refl ∙ ends;
    faults = raises.here refl ∙ ap raised faults;
  }

  -- why a body was not read
  pub body_causes : (T : Type 0) (end : BodyEnd) (with_body : Bool)
      → CountsEnd framing e1 e2 (Err end) → RaisedAt (Err BodyEnd.ReadFault) f1 f2 (Err end)
      → (refused : NoRequest) → refused ≡ of_body end with_body
      → HasReadCauses e0 e2 f0 f2 (quiet_end {T = T} (Err refused))
  body_causes T end with_body counts raises refused is =
      subst (λ (r : NoRequest). HasReadCauses e0 e2 f0 f2 (quiet_end {T = T} (Err r))) (sym is)
      (causes T end with_body counts raises)

-- ---- what is left where there is no request

module _ (T : Type 0) (left : Option (List ℕ)) where
  abbrev Left : NoRequest → Type 0
  Left refused = LeavesNone left (quiet_end {T = T} (Err refused))

  -- since there is no head
  pub head_left : (end : HeadEnd) (refused : NoRequest) → refused ≡ of_head end
      → HasNoneLeft left (Err end) → Left refused
  head_left end refused is none = subst Left (sym is) (by_end end none)
    where
      by_end : (e : HeadEnd) → HasNoneLeft left (Err e) → Left (of_head e)
      by_end HeadEnd.Ended n = λ at. n
      by_end HeadEnd.Cut n = λ at. n
      by_end HeadEnd.Bad n = λ at. absurd (cc)
      by_end HeadEnd.Version n = λ at. absurd (cc)
      by_end HeadEnd.TooLarge n = λ at. absurd (cc)
      by_end HeadEnd.ReadFault n = λ at. absurd (cc)
      by_end HeadEnd.OutOfMemory n = λ at. absurd (cc)

  -- since a test refuses it
  pub test_left : (head : Head) (refused : NoRequest) → TellsTests head (Err refused) → Left refused
  test_left head (Own err with_body) tells = λ at. absurd (cc)
  test_left head (Ends end) tells =
      subst (λ (e : Ended). Left (Ends e)) (sym tells) (λ at. absurd (cc))
  test_left head Waits tells = absurd tells

  -- since its body was not read
  pub body_left : (framing : Framing) (end : BodyEnd) (with_body : Bool) (refused : NoRequest)
      → refused ≡ of_body end with_body
      → HasNoneBehind framing left (Err end) → Left refused
  body_left framing end with_body refused is none = subst Left (sym is) (by_end end none)
    where
      by_end : (e : BodyEnd) → HasNoneBehind framing left (Err e) → Left (of_body e with_body)
      by_end (BodyEnd.BadChunk n) none_behind = λ at. absurd (cc)
      by_end BodyEnd.TooLong none_behind = λ at. absurd (cc)
      by_end BodyEnd.Cut none_behind = λ at. none_behind refl
      by_end BodyEnd.ReadFault none_behind = λ at. absurd (cc)
      by_end BodyEnd.OutOfMemory none_behind = λ at. absurd (cc)
      by_end BodyEnd.WriteFault none_behind = λ at. absurd (cc)
      by_end BodyEnd.SendFault none_behind = λ at. absurd (cc)
      by_end BodyEnd.RecvFault none_behind = λ at. absurd (cc)
