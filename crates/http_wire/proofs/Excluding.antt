-- At most one reading of some bytes holds.
use Rattle.std.proofs.Common.{◌≡◌, ℕ, true, false, List, [], ◌∷◌, length, drop, map, refl, sym, ap}
use Rattle.std.proofs.Common.{◌∙◌, subst, arith, Option, Some, None, IsSomeAnd, MatchOption}
use Rattle.std.proofs.Common.{append-nil}
use Rattle.std.specs.Prelude.{⊤}
use Rattle.httparse.specs.Grammar.{print_request, RequestHead, ReadsRequest, HasNoRequest}
use Rattle.httparse.specs.Grammar.{print_response, ResponseHead, ReadsResponse, reason_phrase}
use Rattle.httparse.specs.Grammar.{status_code}
use Rattle.httparse.specs.Spans.{name_and_value}
use Rattle.httparse.proofs.GrammarLemmas.{request_unique, response_unique}
use Rattle.http_wire.specs.declared.head.Field.{Field}
use Rattle.http_wire.specs.declared.head.Head.{Head}
use Rattle.http_wire.specs.declared.head.ReplyHead.{ReplyHead}
use Rattle.http_wire.specs.FirstLine.{first_line, ends_in_other_version}
use Rattle.http_wire.specs.Heads.{window, IsHeadOf, MayBecomeHead}
use Rattle.http_wire.specs.Parsed.{pair_of}
use Rattle.http_wire.specs.Replies.{IsReplyOf}
use Rattle.http_wire.specs.Laws.{HeadsAreUnique, ReadingsExclude, ReplyHeadsAreUnique}
use Rattle.http_wire.specs.Laws.{ReplyReadingsExclude}

-- a line is of one kind
one_kind : (o : Option (List ℕ)) → IsSomeAnd o (λ line. ends_in_other_version line ≡ false)
    → IsSomeAnd o (λ line. ends_in_other_version line ≡ true) → ⊥
one_kind None served other = served
one_kind (Some line) served other = let same = sym served ∙ other in cc

-- what is open, where the line has ended
open_line : (w : List ℕ) (o : Option (List ℕ))
    → MatchOption o ⊤ (λ line. (ends_in_other_version line ≡ false) × HasNoRequest w
    × MayBecomeHead w)
    → IsSomeAnd o (λ line. ends_in_other_version line ≡ false) → HasNoRequest w × MayBecomeHead w
open_line w None open_ served = absurd served
open_line w (Some line) open_ served = (open_.1, open_.2)

not_open : (w : List ℕ) (o : Option (List ℕ))
    → MatchOption o ⊤ (λ line. (ends_in_other_version line ≡ false) × HasNoRequest w
    × MayBecomeHead w)
    → IsSomeAnd o (λ line. ends_in_other_version line ≡ true) → ⊥
not_open w None open_ other = other
not_open w (Some line) open_ other = let same = sym open_.0 ∙ other in cc

-- pairs that are alike are fields that are
same_fields : (xs ys : List Field) → map pair_of xs ≡ map pair_of ys → xs ≡ ys
same_fields [] [] same = refl
same_fields [] (y ∷ ys) same = absurd (cc)
same_fields (x ∷ xs) [] same = absurd (cc)
same_fields (x ∷ xs) (y ∷ ys) same =
    let first : pair_of x ≡ pair_of y = cc in
    let others : map pair_of xs ≡ map pair_of ys = cc in
    let field : x ≡ y = (λ k. record { name = (first k).0; value = (first k).1 }) in
    (λ k. field k ∷ same_fields xs ys others k)

same_head : (a b : Head) (h k : RequestHead) → IsHeadOf a h → IsHeadOf b k → h ≡ k → a ≡ b
same_head a b h k x y same =
    let fields = same_fields a.fields b.fields
    (x.fields ∙ ap (λ (p : RequestHead). map name_and_value p.fields) same ∙ sym y.fields) in
    let method : a.method ≡ b.method = x.method ∙ ap (λ (p : RequestHead). p.method) same
    ∙ sym y.method in
    let target : a.target ≡ b.target = x.target ∙ ap (λ (p : RequestHead). p.target) same
    ∙ sym y.target in
    let version : a.version ≡ b.version = x.version ∙ ap (λ (p : RequestHead). p.minor) same
    ∙ sym y.version in
    (λ i. record { method = method i; target = target i; version = version i; fields = fields i })

pub heads_are_unique : HeadsAreUnique
heads_are_unique bytes one other n m a b =
    let same = request_unique (window bytes) a.parts b.parts _ _ a.reads b.reads in (
      same_head one other a.parts b.parts a.is b.is same.0,
      a.long ∙ ap (λ (p : RequestHead). length (print_request p)) same.0 ∙ sym b.long,
    )

pub readings_exclude : (bytes : List ℕ) → ReadingsExclude bytes
readings_exclude bytes = record {
  head = λ head n begins. (
    λ bad. bad.never [] begins.parts (drop n (window bytes))
        (subst (λ (xs : List ℕ). ReadsRequest xs begins.parts (drop n (window bytes)))
        (sym (append-nil (window bytes))) begins.reads),
    λ other. one_kind (first_line (window bytes)) begins.line other,
    λ large. (open_line (window bytes) (first_line (window bytes)) large.open_ begins.line).0
        begins.parts (drop n (window bytes)) begins.reads,
    λ open_. (open_line (window bytes) (first_line (window bytes)) open_.open_ begins.line).0
        begins.parts (drop n (window bytes)) begins.reads,
  );
  bad = λ bad. (
    λ other. one_kind (first_line (window bytes)) bad.line other,
    λ large. let may = (open_line (window bytes) (first_line (window bytes)) large.open_
        bad.line).1 in bad.never may.0 may.1 [] may.2,
    λ open_. let may = (open_line (window bytes) (first_line (window bytes)) open_.open_
        bad.line).1 in bad.never may.0 may.1 [] may.2,
  );
  version = λ other. (
    λ large. not_open (window bytes) (first_line (window bytes)) large.open_ other,
    λ open_. not_open (window bytes) (first_line (window bytes)) open_.open_ other,
  );
  large = λ large open_. let many = large.many in let few = open_.few in omega arith;
}

-- ---- the same of replies

same_reply : (a b : ReplyHead) (h k : ResponseHead) → IsReplyOf a h → IsReplyOf b k → h ≡ k → a ≡ b
same_reply a b h k x y same =
    let fields = same_fields a.fields b.fields
    (x.fields ∙ ap (λ (p : ResponseHead). map name_and_value p.fields) same ∙ sym y.fields) in
    let version : a.version ≡ b.version = x.version ∙ ap (λ (p : ResponseHead). p.minor) same
    ∙ sym y.version in
    let status : a.status ≡ b.status = x.status ∙ ap status_code same ∙ sym y.status in
    let reason : a.reason ≡ b.reason = x.reason
    ∙ ap (λ (p : ResponseHead). reason_phrase p.reason) same ∙ sym y.reason in
    (λ i. record { version = version i; status = status i; reason = reason i; fields = fields i })

pub reply_heads_are_unique : ReplyHeadsAreUnique
reply_heads_are_unique bytes one other n m a b =
    let same = response_unique (window bytes) a.parts b.parts _ _ a.reads b.reads in (
      same_reply one other a.parts b.parts a.is b.is same.0,
      a.long ∙ ap (λ (p : ResponseHead). length (print_response p)) same.0 ∙ sym b.long,
    )

pub reply_readings_exclude : (bytes : List ℕ) → ReplyReadingsExclude bytes
reply_readings_exclude bytes = record {
  head = λ head n begins. (
    λ bad. bad [] begins.parts (drop n (window bytes))
        (subst (λ (xs : List ℕ). ReadsResponse xs begins.parts (drop n (window bytes)))
        (sym (append-nil (window bytes))) begins.reads),
    λ large. large.open_.0 begins.parts (drop n (window bytes)) begins.reads,
    λ open_. open_.open_.0 begins.parts (drop n (window bytes)) begins.reads,
  );
  bad = λ bad. (
    λ large. let may = large.open_.1 in bad may.0 may.1 [] may.2,
    λ open_. let may = open_.open_.1 in bad may.0 may.1 [] may.2,
  );
  large = λ large open_. let many = large.many in let few = open_.few in omega arith;
}
