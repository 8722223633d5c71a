-- An own reply is read as a reply.
use Rattle.std.proofs.Common.{◌≡◌, ℕ, zero, suc, subst, ◌+◌, ◌^◌, ◌<◌, ◌≤◌, arith, Bool, true}
use Rattle.std.proofs.Common.{false, cond, List, [], ◌∷◌, ◌++◌, length, map, take, drop, codes}
use Rattle.std.proofs.Common.{Some, refl, sym, ap, ◌∙◌, lit≤, lit<, All, IsTrue, append_assoc}
use Rattle.std.proofs.Common.{append-nil, length-append}
use Rattle.std.specs.Fmt.{decimal}
use Rattle.std.specs.List.{flat_map, list_all}
use Rattle.std.proofs.Math.Seq.{drop-append_seam}
use Rattle.std.proofs.lemmas.Fmt.{decimal_is_IsNumeral, length-decimal-le, length-decimal-le_succ}
use Rattle.std.proofs.lemmas.Int.Digits.{digits_value-lt}
use Rattle.std.proofs.lemmas.List.{take_all}
use Rattle.std.proofs.lemmas.List.Concat.{flat_map-cons}
use Rattle.std.proofs.lemmas.List.Elements.{All-cons, All-map, All-nil, All-weaker}
use Rattle.std.proofs.lemmas.List.Sums.{AllPass-from_list_all}
use Rattle.httparse.specs.Grammar.{crlf as cr_lf, is_token_byte, is_value_byte, trim_ows}
use Rattle.httparse.specs.Grammar.{print_field, print_response, AllPass, IsField, IsResponseHead}
use Rattle.httparse.specs.Grammar.{IsToken, ResponseHead, Field as Line}
use Rattle.httparse.specs.Ascii.{crlf_bytes}
use Rattle.httparse.specs.Spans.{name_and_value}
use Rattle.httparse.proofs.GrammarLemmas.{print_response-append}
use Rattle.http_wire.specs.declared.head.Field.{Field}
use Rattle.http_wire.specs.declared.head.ReplyHead.{ReplyHead}
use Rattle.http_wire.specs.Fields.{same_ignoring_case, values_of}
use Rattle.http_wire.specs.Framing.{framed, length_framing}
use Rattle.http_wire.specs.Heads.{most, window}
use Rattle.http_wire.specs.Lines.{ended}
use Rattle.http_wire.specs.Replies.{BeginsWithReply, IsReplyOf}
use Rattle.http_wire.proofs.Lengths.{decimal_digits, decimal_value, length_agreed, trimmed_digits}
use Rattle.own_reply.specs.declared.error.OwnError.{OwnError}
use Rattle.own_reply.specs.declared.error.OwnError.TheVariants.{Version, BadHead, HeadTooLarge}
use Rattle.own_reply.specs.declared.error.OwnError.TheVariants.{Connect, Target, Length, Coding}
use Rattle.own_reply.specs.declared.error.OwnError.TheVariants.{TooLong, Host, Unidentified, Dtab}
use Rattle.own_reply.specs.declared.error.OwnError.TheVariants.{Body, Negative, Failing, Empty}
use Rattle.own_reply.specs.declared.error.OwnError.TheVariants.{TooDeep, TooWide, Dial, Upstream}
use Rattle.own_reply.specs.Reply.{body_of, connection_of, head_of, lines_of, reason_of, reply_of}
use Rattle.own_reply.specs.Reply.{status_line, status_of, text_of}
use Rattle.own_reply.specs.Laws.{OwnRepliesAreReplies}

-- ---- what each refusal says

reason_passes : (err : OwnError) → list_all is_value_byte (reason_of err) ≡ true
reason_passes Version = refl
reason_passes BadHead = refl
reason_passes HeadTooLarge = refl
reason_passes Connect = refl
reason_passes Target = refl
reason_passes Length = refl
reason_passes Coding = refl
reason_passes TooLong = refl
reason_passes Host = refl
reason_passes Unidentified = refl
reason_passes Dtab = refl
reason_passes Body = refl
reason_passes Negative = refl
reason_passes Failing = refl
reason_passes Empty = refl
reason_passes TooDeep = refl
reason_passes TooWide = refl
reason_passes Dial = refl
reason_passes Upstream = refl

text_passes : (err : OwnError) → list_all is_value_byte (text_of err) ≡ true
text_passes Version = refl
text_passes BadHead = refl
text_passes HeadTooLarge = refl
text_passes Connect = refl
text_passes Target = refl
text_passes Length = refl
text_passes Coding = refl
text_passes TooLong = refl
text_passes Host = refl
text_passes Unidentified = refl
text_passes Dtab = refl
text_passes Body = refl
text_passes Negative = refl
text_passes Failing = refl
text_passes Empty = refl
text_passes TooDeep = refl
text_passes TooWide = refl
text_passes Dial = refl
text_passes Upstream = refl

status_small : (err : OwnError) → status_of err < 1000
status_small Version = lit< tt
status_small BadHead = lit< tt
status_small HeadTooLarge = lit< tt
status_small Connect = lit< tt
status_small Target = lit< tt
status_small Length = lit< tt
status_small Coding = lit< tt
status_small TooLong = lit< tt
status_small Host = lit< tt
status_small Unidentified = lit< tt
status_small Dtab = lit< tt
status_small Body = lit< tt
status_small Negative = lit< tt
status_small Failing = lit< tt
status_small Empty = lit< tt
status_small TooDeep = lit< tt
status_small TooWide = lit< tt
status_small Dial = lit< tt
status_small Upstream = lit< tt

status_large : (err : OwnError) → 100 ≤ status_of err
status_large Version = lit≤ tt
status_large BadHead = lit≤ tt
status_large HeadTooLarge = lit≤ tt
status_large Connect = lit≤ tt
status_large Target = lit≤ tt
status_large Length = lit≤ tt
status_large Coding = lit≤ tt
status_large TooLong = lit≤ tt
status_large Host = lit≤ tt
status_large Unidentified = lit≤ tt
status_large Dtab = lit≤ tt
status_large Body = lit≤ tt
status_large Negative = lit≤ tt
status_large Failing = lit≤ tt
status_large Empty = lit≤ tt
status_large TooDeep = lit≤ tt
status_large TooWide = lit≤ tt
status_large Dial = lit≤ tt
status_large Upstream = lit≤ tt

reason_short : (err : OwnError) → length (reason_of err) ≤ 31
reason_short Version = lit≤ tt
reason_short BadHead = lit≤ tt
reason_short HeadTooLarge = lit≤ tt
reason_short Connect = lit≤ tt
reason_short Target = lit≤ tt
reason_short Length = lit≤ tt
reason_short Coding = lit≤ tt
reason_short TooLong = lit≤ tt
reason_short Host = lit≤ tt
reason_short Unidentified = lit≤ tt
reason_short Dtab = lit≤ tt
reason_short Body = lit≤ tt
reason_short Negative = lit≤ tt
reason_short Failing = lit≤ tt
reason_short Empty = lit≤ tt
reason_short TooDeep = lit≤ tt
reason_short TooWide = lit≤ tt
reason_short Dial = lit≤ tt
reason_short Upstream = lit≤ tt

-- a status is written in three digits
three : (n : ℕ) → 100 ≤ n → n < 1000 → length (decimal n) ≡ 3
three n large small =
    let numeral = decimal_is_IsNumeral n (omega (arith, small)) in
    let most_ = length-decimal-le 3 n (omega arith) (omega (arith, small)) (omega (arith, small)) in
    let less : n < 10 ^ length (decimal n) =
    subst (λ (v : ℕ). v < 10 ^ length (decimal n)) numeral.1
    (digits_value-lt 10 (decimal n) numeral.0.1) in
    by_length (length (decimal n)) most_ less
  where
    by_length : (k : ℕ) → k ≤ 3 → n < 10 ^ k → k ≡ 3
    by_length zero few less = absurd (omega (arith, less, large))
    by_length (suc zero) few less = absurd (omega (arith, less, large))
    by_length (suc (suc zero)) few less = absurd (omega (arith, less, large))
    by_length (suc (suc (suc zero))) few less = refl
    by_length (suc (suc (suc (suc k)))) few less = absurd (omega (arith, few))

three_digits : (err : OwnError) → length (decimal (status_of err)) ≡ 3
three_digits err = three (status_of err) (status_large err) (status_small err)

text_short : (err : OwnError) → length (text_of err) ≤ 14
text_short Version = lit≤ tt
text_short BadHead = lit≤ tt
text_short HeadTooLarge = lit≤ tt
text_short Connect = lit≤ tt
text_short Target = lit≤ tt
text_short Length = lit≤ tt
text_short Coding = lit≤ tt
text_short TooLong = lit≤ tt
text_short Host = lit≤ tt
text_short Unidentified = lit≤ tt
text_short Dtab = lit≤ tt
text_short Body = lit≤ tt
text_short Negative = lit≤ tt
text_short Failing = lit≤ tt
text_short Empty = lit≤ tt
text_short TooDeep = lit≤ tt
text_short TooWide = lit≤ tt
text_short Dial = lit≤ tt
text_short Upstream = lit≤ tt

-- ---- the parts of the head

abbrev Pair : Type 0
Pair = List ℕ × List ℕ

abbrev closing_pairs : Bool → List Pair
closing_pairs closing = cond closing ((codes "Connection", codes "close") ∷ []) []

abbrev pairs : OwnError → Bool → List Pair
pairs err closing =
    (codes "Content-Type", codes "text/plain") ∷ (codes "l5d-err", text_of err)
    ∷ (codes "Content-Length", decimal (length (body_of err)))
    ∷ closing_pairs closing

abbrev pair_line : Pair → List ℕ
pair_line p = p.0 ++ 58 ∷ 32 ∷ p.1

lines_are : (err : OwnError) (closing : Bool) → lines_of err closing
    ≡ status_line err ∷ map pair_line (pairs err closing)
lines_are err true = refl
lines_are err false = refl

abbrev line_field : Pair → Line
line_field p = record { name = p.0; raw = 32 ∷ p.1; end = cr_lf }

ended_is : (ps : List Pair) → ended (map pair_line ps) ≡ flat_map print_field (map line_field ps)
ended_is [] = refl
ended_is (p ∷ ps) = (λ i. (pair_line p ++ crlf_bytes) ++ ended_is ps i)
    ∙ sym (flat_map-cons print_field (line_field p) (map line_field ps))

abbrev parts : OwnError → Bool → ResponseHead
parts err closing = record {
  blank = [];
  minor = 1;
  digits = decimal (status_of err);
  reason = Some (reason_of err);
  line_end = cr_lf;
  fields = map line_field (pairs err closing);
  last = cr_lf;
}

regrouped : (d r s rest : List ℕ)
    → (((((codes "HTTP/1.1 " ++ d) ++ codes " ") ++ r) ++ crlf_bytes) ++ s) ++ crlf_bytes ++ rest
    ≡ codes "HTTP/1.1" ++ 32 ∷ (d ++ ((32 ∷ r) ++ (crlf_bytes ++ ((s ++ crlf_bytes) ++ rest))))
regrouped d r s rest = simp append_assoc

printed : (err : OwnError) (closing : Bool) (rest : List ℕ)
    → head_of err closing ++ rest ≡ print_response (parts err closing) ++ rest
unfolding head_of
printed err closing rest =
    ap (λ (ls : List (List ℕ)). (ended ls ++ crlf_bytes) ++ rest) (lines_are err closing)
    ∙ (ap (λ (t : List ℕ). (((status_line err ++ crlf_bytes) ++ t) ++ crlf_bytes) ++ rest)
    (ended_is (pairs err closing))
    ∙ (regrouped (decimal (status_of err)) (reason_of err)
    (flat_map print_field (map line_field (pairs err closing))) rest
    ∙ sym (print_response-append (parts err closing) rest)))

-- ---- each part is of its class

abbrev IsSoundPair : Pair → Type 0
IsSoundPair p = IsToken p.0 × AllPass is_value_byte p.1

token : (text : List ℕ) → 0 < length text → list_all is_token_byte text ≡ true → IsToken text
token text some all = (some, AllPass-from_list_all is_token_byte text all)

type_name : IsToken (codes "Content-Type")
unfolding is_token_byte
type_name = token (codes "Content-Type") (omega arith) refl

word_name : IsToken (codes "l5d-err")
unfolding is_token_byte
word_name = token (codes "l5d-err") (omega arith) refl

length_name : IsToken (codes "Content-Length")
unfolding is_token_byte
length_name = token (codes "Content-Length") (omega arith) refl

connection_name : IsToken (codes "Connection")
unfolding is_token_byte
connection_name = token (codes "Connection") (omega arith) refl

body_short : (err : OwnError) → length (body_of err) ≤ 15
body_short err = let text = text_short err in
    omega (arith, text, length-append (text_of err) (10 ∷ []))

sound_closing : (closing : Bool) → All IsSoundPair (closing_pairs closing)
sound_closing true =
    All-cons IsSoundPair (codes "Connection", codes "close") []
    (connection_name, AllPass-from_list_all is_value_byte (codes "close") refl)
    (All-nil IsSoundPair)
sound_closing false = All-nil IsSoundPair

sound_pairs : (err : OwnError) (closing : Bool) → All IsSoundPair (pairs err closing)
sound_pairs err closing =
    let short = body_short err in
    All-cons IsSoundPair (codes "Content-Type", codes "text/plain")
    ((codes "l5d-err", text_of err) ∷ (codes "Content-Length", decimal (length (body_of err)))
    ∷ closing_pairs closing)
    (type_name, AllPass-from_list_all is_value_byte (codes "text/plain") refl)
    (All-cons IsSoundPair (codes "l5d-err", text_of err)
    ((codes "Content-Length", decimal (length (body_of err))) ∷ closing_pairs closing)
    (word_name, AllPass-from_list_all is_value_byte (text_of err) (text_passes err))
    (All-cons IsSoundPair (codes "Content-Length", decimal (length (body_of err)))
    (closing_pairs closing)
    (length_name, decimal_value (length (body_of err)) (omega (arith, short)))
    (sound_closing closing)))

good_field : (p : Pair) → IsSoundPair p → IsField (line_field p)
good_field p sound = record {
  name = sound.0;
  raw =
      All-cons (λ b. IsTrue (is_value_byte b)) 32 p.1 refl sound.1;
}

valid : (err : OwnError) (closing : Bool) → IsResponseHead (parts err closing)
valid err closing = record {
  minor = omega arith;
  digits = let small = status_small err in
      (three_digits err, decimal_digits (status_of err) (omega (arith, small)));
  reason = AllPass-from_list_all is_value_byte (reason_of err) (reason_passes err);
  fields = All-map IsField line_field (pairs err closing)
      (All-weaker IsSoundPair (λ p. IsField (line_field p)) good_field (pairs err closing)
      (sound_pairs err closing));
}

-- ---- what is read

abbrev back : Pair → Field
back p = record { name = p.0; value = trim_ows (32 ∷ p.1) }

abbrev read : OwnError → Bool → ReplyHead
read err closing = record {
  version = 1;
  status = status_of err;
  reason = reason_of err;
  fields =
      map back (pairs err closing);
}

same_pairs : (ps : List Pair) → map (λ (f : Field). (f.name, f.value)) (map back ps)
    ≡ map name_and_value (map line_field ps)
same_pairs [] = refl
same_pairs (p ∷ ps) = ap (λ (qs : List Pair). (p.0, trim_ows (32 ∷ p.1)) ∷ qs) (same_pairs ps)

is_reply : (err : OwnError) (closing : Bool) → IsReplyOf (read err closing) (parts err closing)
is_reply err closing = record {
  version = refl;
  status = let small = status_small err in
      sym (decimal_is_IsNumeral (status_of err) (omega (arith, small))).1;
  reason = refl;
  fields = same_pairs (pairs err closing);
}

abbrev told : List ℕ → List Pair → List (List ℕ)
told name ps = values_of name (map back ps)

lengths : (err : OwnError) (closing : Bool) → told (codes "content-length") (pairs err closing)
    ≡ trim_ows (32 ∷ decimal (length (body_of err))) ∷ []
unfolding values_of same_ignoring_case
lengths err true = refl
lengths err false = refl

codings : (err : OwnError) (closing : Bool) → told (codes "transfer-encoding") (pairs err closing)
    ≡ []
unfolding values_of same_ignoring_case
codings err true = refl
codings err false = refl

-- ---- all of it

-- a head is far shorter than one may be
size : (n : ℕ) → n ≤ 15 → length (decimal n) ≤ 16
size n small = let long = length-decimal-le_succ n (omega (arith, small)) in
    omega (arith, long, small)

sizes : (h d b r e ty w t l n c : List ℕ)
    → length ((((((h ++ d) ++ b) ++ r) ++ e)
    ++ ((ty ++ e) ++ (((w ++ t) ++ e) ++ (((l ++ n) ++ e) ++ c)))) ++ e)
    ≡ length h + length d + length b + length r + length e + length ty + length e + length w
    + length t + length e + length l + length n + length e
    + length c + length e
sizes h d b r e ty w t l n c = simp length-append (omega arith)

closing_short : (closing : Bool) → length (ended (connection_of closing)) ≤ 19
closing_short true = omega arith
closing_short false = omega arith

head_short : (err : OwnError) (closing : Bool) → length (head_of err closing) ≤ 200
unfolding head_of
head_short err closing =
    let text = text_short err in
    let reason = reason_short err in
    let digits = three_digits err in
    let long = size (length (body_of err)) (body_short err) in
    let last = closing_short closing in
    subst (λ (n : ℕ). n ≤ 200)
    (sym (sizes (codes "HTTP/1.1 ") (decimal (status_of err)) (codes " ")
    (reason_of err) crlf_bytes (codes "Content-Type: text/plain") (codes "l5d-err: ")
    (text_of err) (codes "Content-Length: ") (decimal (length (body_of err)))
    (ended (connection_of closing)))) (omega (arith, text, reason, digits, long, last))

begins : (err : OwnError) (closing with_body : Bool)
    → BeginsWithReply (reply_of err closing with_body) (read err closing)
    (length (head_of err closing))
unfolding window
begins err closing with_body =
    let rest = cond with_body (body_of err) [] in
    let bytes = head_of err closing ++ rest in
    let all : take most bytes ≡ bytes = take_all most bytes (short with_body) in
    let cut : drop (length (head_of err closing)) (take most bytes) ≡ rest =
    ap (drop (length (head_of err closing))) all ∙ drop-append_seam (head_of err closing) rest in
    record {
      parts = parts err closing;
      reads = (
        valid err closing,
        all ∙ (printed err closing rest ∙ ap
            (λ (t : List ℕ). print_response (parts err closing) ++ t) (sym cut)),
      );
      long = ap length (sym (append-nil (head_of err closing))
          ∙ (printed err closing [] ∙ append-nil (print_response (parts err closing))));
      is = is_reply err closing;
    }
  where
    short : (b : Bool) → length (head_of err closing ++ cond b (body_of err) []) ≤ most
    short true =
        let head = head_short err closing in
        let body = body_short err in
        omega (arith, head, body, length-append (head_of err closing) (body_of err))
    short false = let head = head_short err closing in
        omega (arith, head, length-append {A = ℕ} (head_of err closing) [])

pub own_replies_are_replies : OwnRepliesAreReplies
own_replies_are_replies err closing with_body =
    let short = body_short err in
    let digits = trimmed_digits (length (body_of err)) (omega (arith, short)) in
    let said : told (codes "content-length") (pairs err closing)
    ≡ decimal (length (body_of err)) ∷ [] =
    lengths err closing ∙ ap (λ (t : List ℕ). t ∷ []) digits in (
      read err closing,
      record {
        whole = begins err closing with_body;
        behind = drop-append_seam (head_of err closing) (cond with_body (body_of err) []);
        status = refl;
        reason = refl;
        said = said;
        framing = (λ i. framed 1 (codings err closing i) (said i))
            ∙ ap length_framing (length_agreed (length (body_of err)) (omega (arith, short)));
      },
    )
