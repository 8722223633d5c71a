-- The head that is written is read as it was meant.
use Rattle.std.proofs.Common.{◌≡◌, ◌≢◌, ℕ, ◌-◌, ◌<◌, ◌≤◌, ◌&&◌, ◌||◌, not, arith, Bool, true, false}
use Rattle.std.proofs.Common.{cond, eqb, ltb, List, [], ◌∷◌, ◌++◌, length, map, filter, take, drop}
use Rattle.std.proofs.Common.{get_or, codes, Option, Some, None, Ok, IsSomeAnd, refl, sym, ap, ◌∙◌}
use Rattle.std.proofs.Common.{subst, All, IsTrue, append_assoc, append-nil, length-append}
use Rattle.std.specs.Str.{bytes_eq}
use Rattle.std.specs.Fmt.{decimal}
use Rattle.std.specs.List.{flat_map, list_all, list_any, position_or_len}
use Rattle.std.specs.Option.{option_map}
use Rattle.std.proofs.Math.ListN.{get_or-append}
use Rattle.std.proofs.Math.Seq.{drop-append_seam, drop-length, take-append_seam, get_or-append_seam}
use Rattle.std.proofs.lemmas.Bool.Decides.{nat_tests}
use Rattle.std.proofs.lemmas.List.{map-append, take_all}
use Rattle.std.proofs.lemmas.List.Concat.{flat_map-cons}
use Rattle.std.proofs.lemmas.List.Elements.{All-append, All-cons, All-filter, All-head, All-map}
use Rattle.std.proofs.lemmas.List.Elements.{All-nil, All-weaker, filter-append}
use Rattle.std.proofs.lemmas.List.Sums.{AllPass-from_list_all, position_or_len_is}
use Rattle.httparse.specs.Grammar.{crlf as cr_lf, print_field, print_request, is_token_byte}
use Rattle.httparse.specs.Grammar.{is_uri_byte, is_value_byte, trim_ows, IsField, IsRequestHead}
use Rattle.httparse.specs.Grammar.{IsToken, RequestHead, Field as Line}
use Rattle.httparse.specs.Spans.{name_and_value}
use Rattle.httparse.proofs.GrammarLemmas.{print_request-append}
use Rattle.name_tree.specs.Path.{canon_path}
use Rattle.dtab_table.specs.Rules.{Rule}
use Rattle.dtab_table.specs.Dtab.{rules_of}
use Rattle.dtab_table.specs.TableCanon.{AreSoundRules, canon_table}
use Rattle.http_wire.specs.declared.head.Field.{Field}
use Rattle.http_wire.specs.declared.head.Head.{Head}
use Rattle.http_wire.specs.declared.frames.Framing.{Framing}
use Rattle.http_wire.specs.Fields.{is_named, same_ignoring_case, values_of}
use Rattle.http_wire.specs.FirstLine.{ends_in_other_version, first_line, is_other_version}
use Rattle.http_wire.specs.FirstLine.{is_version, last_nine, line_at, skip_empty_lines}
use Rattle.http_wire.specs.FirstLine.{without_return}
use Rattle.http_wire.specs.Framing.{framed, length_framing}
use Rattle.http_wire.specs.Heads.{most, window, BeginsWith, IsSoundField}
use Rattle.http_wire.specs.Parsed.{pair_of}
use Rattle.http_wire.specs.Sound.{IsSoundHead}
use Rattle.http_wire.proofs.Lengths.{led, length_agreed, trimmed_digits}
use Rattle.http_wire.proofs.Looks.{differ, skip-other, token_byte_low, uri_byte_low}
use Rattle.forward.specs.declared.going.Going.{Going}
use Rattle.forward.specs.Dropped.{goes_on, has_name_of, kept, kept_but, named_in_connection}
use Rattle.forward.specs.Dropped.{never_kept}
use Rattle.forward.specs.Forwarded.{closing_lines, forwarded, framing_lines, lines, request_line}
use Rattle.forward.specs.Forwarded.{residual_lines, table_lines, via}
use Rattle.forward.specs.Laws.{HeadsReadBack, IsPlainWay, IsRequestFraming, table_texts}
use Rattle.httparse.specs.Ascii.{crlf_bytes}
use Rattle.http_wire.specs.Lines.{ended, field_line, line_of}
use Rattle.forward.proofs.CanonBytes.{IsValue, decimal_text, path_text, table_text}

-- ---- names and values, in their order

abbrev Pair : Type 0
Pair = List ℕ × List ℕ

abbrev framing_pairs : Framing → List Pair
framing_pairs Framing.Nothing = []
framing_pairs (Framing.Length n) = (codes "Content-Length", decimal n) ∷ []
framing_pairs Framing.Chunked = (codes "Transfer-Encoding", codes "chunked") ∷ []
framing_pairs Framing.ToEnd = []

abbrev table_pairs : List Rule → List Pair
table_pairs [] = []
table_pairs (rule ∷ rules) = (codes "l5d-ctx-dtab", canon_table (rule ∷ rules)) ∷ []

abbrev residual_pairs : List ℕ → List Pair
residual_pairs [] = []
residual_pairs (b ∷ bytes) = cond (bytes_eq (b ∷ bytes) (codes "/")) []
    ((codes "l5d-dst-residual", b ∷ bytes) ∷ [])

abbrev first_pairs : Head → Going → List Pair
first_pairs head to = (codes "Host", to.host.now) ∷ map pair_of (kept head.fields)

abbrev via_pairs : Head → Going → List Pair
via_pairs head to = (codes "Via", via head.version) ∷ table_pairs (rules_of to.local.now)

abbrev own_pairs : Going → List Pair
own_pairs to =
    (codes "l5d-dst-service", canon_path to.service.now) ∷ (codes "l5d-dst-client", to.client.now)
    ∷ residual_pairs to.residual.now

abbrev last_pairs : Bool → List Pair
last_pairs closes = cond closes ((codes "Connection", codes "close") ∷ []) []

abbrev pairs : Head → Going → List Pair
pairs head to = (((first_pairs head to ++ framing_pairs to.framing) ++ via_pairs head to)
    ++ own_pairs to) ++ last_pairs to.closes

abbrev pair_line : Pair → List ℕ
pair_line p = line_of p.0 p.1

kept_lines : (fields : List Field) → map field_line fields ≡ map pair_line (map pair_of fields)
kept_lines [] = refl
kept_lines (f ∷ fs) = ap (λ (ls : List (List ℕ)). field_line f ∷ ls) (kept_lines fs)

framing_is : (f : Framing) → framing_lines f ≡ map pair_line (framing_pairs f)
framing_is Framing.Nothing = refl
framing_is (Framing.Length n) = refl
framing_is Framing.Chunked = refl
framing_is Framing.ToEnd = refl

table_is : (rules : List Rule) → table_lines rules ≡ map pair_line (table_pairs rules)
table_is [] = refl
table_is (r ∷ rs) = refl

residual_is : (bytes : List ℕ) → residual_lines bytes ≡ map pair_line (residual_pairs bytes)
residual_is [] = refl
residual_is (b ∷ bytes) = by_test (bytes_eq (b ∷ bytes) (codes "/"))
  where
    by_test : (t : Bool) → cond t [] (line_of (codes "l5d-dst-residual") (b ∷ bytes) ∷ [])
        ≡ map pair_line (cond t [] ((codes "l5d-dst-residual", b ∷ bytes) ∷ []))
    by_test true = refl
    by_test false = refl

closing_is : (closes : Bool) → closing_lines closes ≡ map pair_line (last_pairs closes)
closing_is true = refl
closing_is false = refl

map_five : {A B : Type 0} (f : A → B) (a b c d e : List A)
    → map f ((((a ++ b) ++ c) ++ d) ++ e) ≡ (((map f a ++ map f b) ++ map f c) ++ map f d)
    ++ map f e
map_five f a b c d e = simp map-append

lines_are : (head : Head) (to : Going) → lines head to
    ≡ request_line head.method to.target.now ∷ map pair_line (pairs head to)
lines_are head to =
    (λ i. request_line head.method to.target.now
    ∷ ((((line_of (codes "Host") to.host.now ∷ kept_lines (kept head.fields) i)
    ++ framing_is to.framing i)
    ++ line_of (codes "Via") (via head.version) ∷ table_is (rules_of to.local.now) i)
    ++ line_of (codes "l5d-dst-service") (canon_path to.service.now)
    ∷ line_of (codes "l5d-dst-client") to.client.now ∷ residual_is to.residual.now i)
    ++ closing_is to.closes i)
    ∙ ap (λ (ls : List (List ℕ)). request_line head.method to.target.now ∷ ls)
    (sym (map_five pair_line (first_pairs head to) (framing_pairs to.framing) (via_pairs head to)
    (own_pairs to) (last_pairs to.closes)))

-- ---- the parts of the head

abbrev line_field : Pair → Line
line_field p = record { name = p.0; raw = 32 ∷ p.1; end = cr_lf }

ended_is : (ps : List Pair) → ended (map pair_line ps) ≡ flat_map print_field (map line_field ps)
ended_is [] = refl
ended_is (p ∷ ps) =
    (λ i. (append_assoc p.0 (58 ∷ 32 ∷ []) p.1 i ++ crlf_bytes) ++ ended_is ps i)
    ∙ sym (flat_map-cons print_field (line_field p) (map line_field ps))

abbrev parts : Head → Going → RequestHead
parts head to = record {
  blank = [];
  method = head.method;
  target = to.target.now;
  minor = 1;
  line_end = cr_lf;
  fields = map line_field (pairs head to);
  last = cr_lf;
}

regrouped : (m t s : List ℕ) → (((((m ++ 32 ∷ []) ++ t) ++ codes " HTTP/1.1") ++ crlf_bytes) ++ s)
    ++ crlf_bytes
    ≡ m ++ 32 ∷ (t ++ 32 ∷ (codes "HTTP/1.1" ++ (crlf_bytes ++ ((s ++ crlf_bytes) ++ []))))
regrouped m t s = simp (append_assoc, append-nil)

printed : (head : Head) (to : Going) → forwarded head to ≡ print_request (parts head to) ++ []
unfolding forwarded
printed head to =
    ap (λ (ls : List (List ℕ)). ended ls ++ crlf_bytes) (lines_are head to)
    ∙ (ap (λ (t : List ℕ). ((request_line head.method to.target.now ++ crlf_bytes) ++ t)
    ++ crlf_bytes) (ended_is (pairs head to))
    ∙ (regrouped head.method to.target.now (flat_map print_field (map line_field (pairs head to)))
    ∙ sym (print_request-append (parts head to) [])))

-- ---- each part is of its class

abbrev IsSoundPair : Pair → Type 0
IsSoundPair p = IsToken p.0 × All IsValue p.1

token : (text : List ℕ) → 0 < length text → list_all is_token_byte text ≡ true → IsToken text
token text some all = (some, AllPass-from_list_all is_token_byte text all)

one : (name value : List ℕ) → IsToken name → All IsValue value
    → All IsSoundPair ((name, value) ∷ [])
one name value is all = All-cons IsSoundPair (name, value) [] (is, all) (All-nil IsSoundPair)

host_name : IsToken (codes "Host")
unfolding is_token_byte
host_name = token (codes "Host") (omega arith) refl

length_name : IsToken (codes "Content-Length")
unfolding is_token_byte
length_name = token (codes "Content-Length") (omega arith) refl

coding_name : IsToken (codes "Transfer-Encoding")
unfolding is_token_byte
coding_name = token (codes "Transfer-Encoding") (omega arith) refl

via_name : IsToken (codes "Via")
unfolding is_token_byte
via_name = token (codes "Via") (omega arith) refl

table_name : IsToken (codes "l5d-ctx-dtab")
unfolding is_token_byte
table_name = token (codes "l5d-ctx-dtab") (omega arith) refl

service_name : IsToken (codes "l5d-dst-service")
unfolding is_token_byte
service_name = token (codes "l5d-dst-service") (omega arith) refl

client_name : IsToken (codes "l5d-dst-client")
unfolding is_token_byte
client_name = token (codes "l5d-dst-client") (omega arith) refl

residual_name : IsToken (codes "l5d-dst-residual")
unfolding is_token_byte
residual_name = token (codes "l5d-dst-residual") (omega arith) refl

connection_name : IsToken (codes "Connection")
unfolding is_token_byte
connection_name = token (codes "Connection") (omega arith) refl

sound_first : (head : Head) (to : Going) → IsSoundHead head → All IsValue to.host.now
    → All IsSoundPair (first_pairs head to)
unfolding kept_but
sound_first head to sound host =
    All-cons IsSoundPair (codes "Host", to.host.now) (map pair_of (kept head.fields))
    (host_name, host)
    (All-map IsSoundPair pair_of (kept head.fields)
    (All-filter (goes_on never_kept (named_in_connection head.fields)) IsSoundField head.fields
    sound.fields))

sound_framing : (f : Framing) → IsRequestFraming f → All IsSoundPair (framing_pairs f)
sound_framing Framing.Nothing is = All-nil IsSoundPair
sound_framing (Framing.Length n) is =
    one (codes "Content-Length") (decimal n) length_name (decimal_text n (omega (arith, is)))
sound_framing Framing.Chunked is = one (codes "Transfer-Encoding") (codes "chunked") coding_name
    (AllPass-from_list_all is_value_byte (codes "chunked") refl)
sound_framing Framing.ToEnd is = All-nil IsSoundPair

sound_table : (rules : List Rule) → AreSoundRules rules → All IsSoundPair (table_pairs rules)
sound_table [] are = All-nil IsSoundPair
sound_table (r ∷ rs) are = one (codes "l5d-ctx-dtab") (canon_table (r ∷ rs)) table_name
    (table_text (r ∷ rs) are)

via_text : (minor : ℕ) → All IsValue (via minor)
via_text minor = by_test (eqb minor 0)
  where
    by_test : (t : Bool) → All IsValue (cond t (codes "1.0 linkerd") (codes "1.1 linkerd"))
    by_test true = AllPass-from_list_all is_value_byte (codes "1.0 linkerd") refl
    by_test false = AllPass-from_list_all is_value_byte (codes "1.1 linkerd") refl

sound_residual : (bytes : List ℕ) → All IsValue bytes → All IsSoundPair (residual_pairs bytes)
sound_residual [] all = All-nil IsSoundPair
sound_residual (b ∷ bytes) all = by_test (bytes_eq (b ∷ bytes) (codes "/"))
  where
    by_test : (t : Bool) → All IsSoundPair (cond t [] ((codes "l5d-dst-residual", b ∷ bytes) ∷ []))
    by_test true = All-nil IsSoundPair
    by_test false = one (codes "l5d-dst-residual") (b ∷ bytes) residual_name all

sound_last : (closes : Bool) → All IsSoundPair (last_pairs closes)
sound_last true =
    one (codes "Connection") (codes "close") connection_name
    (AllPass-from_list_all is_value_byte (codes "close") refl)
sound_last false = All-nil IsSoundPair

five : (a b c d e : List Pair) → All IsSoundPair a → All IsSoundPair b → All IsSoundPair c
    → All IsSoundPair d → All IsSoundPair e
    → All IsSoundPair ((((a ++ b) ++ c) ++ d) ++ e)
five a b c d e x y z u v =
    All-append IsSoundPair (((a ++ b) ++ c) ++ d) e
    (All-append IsSoundPair ((a ++ b) ++ c) d
    (All-append IsSoundPair (a ++ b) c (All-append IsSoundPair a b x y) z) u) v

sound_pairs : (head : Head) (to : Going) → IsSoundHead head → IsPlainWay to
    → All IsSoundPair (pairs head to)
sound_pairs head to sound way =
    five (first_pairs head to) (framing_pairs to.framing) (via_pairs head to) (own_pairs to)
    (last_pairs to.closes)
    (sound_first head to sound way.host_bytes) (sound_framing to.framing way.framing)
    (All-cons IsSoundPair (codes "Via", via head.version) (table_pairs (rules_of to.local.now))
    (via_name, via_text head.version)
    (sound_table (rules_of to.local.now) way.local))
    (All-cons IsSoundPair (codes "l5d-dst-service", canon_path to.service.now)
    ((codes "l5d-dst-client", to.client.now) ∷ residual_pairs to.residual.now)
    (service_name, path_text to.service.now way.service)
    (All-cons IsSoundPair (codes "l5d-dst-client", to.client.now) (residual_pairs to.residual.now)
    (client_name, way.client)
    (sound_residual to.residual.now way.residual)))
    (sound_last to.closes)

good_field : (p : Pair) → IsSoundPair p → IsField (line_field p)
good_field p sound = record { name = sound.0; raw = All-cons IsValue 32 p.1 refl sound.1 }

valid : (head : Head) (to : Going) → IsSoundHead head → IsPlainWay to
    → IsRequestHead (parts head to)
valid head to sound way = record {
  method = sound.method;
  target = (way.target.some, way.target.bytes);
  target_text = way.target.utf8;
  minor = omega arith;
  fields = All-map IsField line_field (pairs head to)
      (All-weaker IsSoundPair (λ p. IsField (line_field p)) good_field (pairs head to)
      (sound_pairs head to sound way));
}

-- ---- what is read

abbrev back : Pair → Field
back p = record { name = p.0; value = trim_ows (32 ∷ p.1) }

abbrev read : Head → Going → Head
read head to = record {
  method = head.method;
  target = to.target.now;
  version = 1;
  fields =
      map back (pairs head to);
}

same_pairs : (ps : List Pair) → map (λ (f : Field). (f.name, f.value)) (map back ps)
    ≡ map name_and_value (map line_field ps)
same_pairs [] = refl
same_pairs (p ∷ ps) = ap (λ (qs : List Pair). (p.0, trim_ows (32 ∷ p.1)) ∷ qs) (same_pairs ps)

-- ---- the request line

line_found : (line rest : List ℕ) → All (λ b. b ≢ 10) line → line_at (line ++ 10 ∷ rest) ≡ Some line
line_found line rest clean =
    let feed : ℕ → Bool = λ (b : ℕ). eqb b 10 in
    let all = line ++ 10 ∷ rest in
    let place : position_or_len feed all ≡ length line =
    position_or_len_is feed all (length line) 0 (omega (arith, length-append line (10 ∷ rest)))
    (λ k below. ap feed (get_or-append line (10 ∷ rest) 0 k below)
    ∙ differ (get_or line k 0) 10 (clean k 0 below))
    (λ within. ap feed (get_or-append_seam line 10 rest 0)) in
    let inside : ltb (position_or_len feed all) (length all) ≡ true =
    rw place (grind (arith, nat_tests, length-append line (10 ∷ rest))) in
    ap (λ (t : Bool). option_map (λ (n : ℕ). take n all)
    (cond t (Some (position_or_len feed all)) None)) inside
    ∙ ap Some (ap (λ (n : ℕ). take n all) place ∙ take-append_seam line (10 ∷ rest))

served : (front : List ℕ) → ends_in_other_version ((front ++ codes " HTTP/1.1") ++ 13 ∷ []) ≡ false
unfolding ends_in_other_version is_version
served front =
    let text = front ++ codes " HTTP/1.1" in
    let long : length (text ++ 13 ∷ []) - 1 ≡ length text =
    omega (arith, length-append text (13 ∷ [])) in
    let return : eqb (get_or (text ++ 13 ∷ []) (length (text ++ 13 ∷ []) - 1) 0) 13 ≡ true =
    ap (λ (n : ℕ). eqb (get_or (text ++ 13 ∷ []) n 0) 13) long
    ∙ ap (λ (b : ℕ). eqb b 13) (get_or-append_seam text 13 [] 0) in
    let bare : without_return (text ++ 13 ∷ []) ≡ text =
    ap (λ (t : Bool). cond t (take (length (text ++ 13 ∷ []) - 1) (text ++ 13 ∷ []))
    (text ++ 13 ∷ [])) return
    ∙ (ap (λ (n : ℕ). take n (text ++ 13 ∷ [])) long ∙ take-append_seam text (13 ∷ [])) in
    let before : length text - 9 ≡ length front =
    omega (arith, length-append front (codes " HTTP/1.1")) in
    let nine : last_nine text ≡ codes " HTTP/1.1" = ap (λ (n : ℕ). drop n text) before
    ∙ drop-append_seam front (codes " HTTP/1.1") in
    ap (λ (t : List ℕ). is_other_version (last_nine t)) bare ∙ ap is_other_version nine

abbrev IsNoFeed : ℕ → Type 0
IsNoFeed b = b ≢ 10

no_feed : (b : ℕ) → IsTrue (not (eqb b 10)) → IsNoFeed b
no_feed b test same = grind (arith, nat_tests, test, same)

literal : (text : List ℕ) → list_all (λ b. not (eqb b 10)) text ≡ true → All IsNoFeed text
literal text test = All-weaker (λ b. IsTrue (not (eqb b 10))) IsNoFeed no_feed text
    (AllPass-from_list_all (λ (b : ℕ). not (eqb b 10)) text test)

clean_line : (head : Head) (to : Going) → IsSoundHead head → IsPlainWay to
    → All (λ b. b ≢ 10) (request_line head.method to.target.now ++ 13 ∷ [])
clean_line head to sound way =
    All-append IsNoFeed (request_line head.method to.target.now) (13 ∷ [])
    (All-append IsNoFeed ((head.method ++ codes " ") ++ to.target.now) (codes " HTTP/1.1")
    (All-append IsNoFeed (head.method ++ codes " ") to.target.now
    (All-append IsNoFeed head.method (codes " ")
    (All-weaker (λ b. IsTrue (is_token_byte b)) IsNoFeed
    (λ b t. (token_byte_low b t).0) head.method sound.method.1) (literal (codes " ") refl))
    (All-weaker (λ b. IsTrue (is_uri_byte b)) IsNoFeed uri_byte_low to.target.now
    way.target.bytes)) (literal (codes " HTTP/1.1") refl)) (literal (13 ∷ []) refl)

no_empty_line : (method rest : List ℕ) → IsToken method
    → skip_empty_lines (method ++ rest) ≡ method ++ rest
no_empty_line [] rest token_ = absurd (omega (arith, token_.0))
no_empty_line (m ∷ ms) rest token_ =
    let low = token_byte_low m (All-head (λ b. IsTrue (is_token_byte b)) m ms token_.1) in
    skip-other m (ms ++ rest) low.0 low.1

line_served : (head : Head) (to : Going) → IsSoundHead head → IsPlainWay to
    → IsSomeAnd (first_line (forwarded head to)) (λ line. ends_in_other_version line ≡ false)
unfolding forwarded first_line
line_served head to sound way =
    let line = request_line head.method to.target.now in
    let behind = (10 ∷ ended (map pair_line (pairs head to))) ++ crlf_bytes in
    let whole : ended (lines head to) ++ crlf_bytes ≡ (line ++ 13 ∷ []) ++ behind =
    ap (λ (ls : List (List ℕ)). ended ls ++ crlf_bytes) (lines_are head to)
    ∙ cut line (ended (map pair_line (pairs head to))) in
    let split : (line ++ 13 ∷ []) ++ behind ≡ head.method
    ++ (((32 ∷ to.target.now) ++ codes " HTTP/1.1") ++ 13 ∷ behind) =
    regroup head.method to.target.now behind in
    let skipped : skip_empty_lines (ended (lines head to) ++ crlf_bytes)
    ≡ (line ++ 13 ∷ []) ++ behind =
    ap skip_empty_lines (whole ∙ split)
    ∙ (no_empty_line head.method (((32 ∷ to.target.now) ++ codes " HTTP/1.1") ++ 13 ∷ behind)
    sound.method ∙ sym split) in
    let found : line_at (skip_empty_lines (ended (lines head to) ++ crlf_bytes))
    ≡ Some (line ++ 13 ∷ []) =
    ap line_at skipped ∙ line_found (line ++ 13 ∷ [])
    (ended (map pair_line (pairs head to)) ++ crlf_bytes) (clean_line head to sound way) in
    subst (λ (o : Option (List ℕ)). IsSomeAnd o (λ l. ends_in_other_version l ≡ false)) (sym found)
    (served ((head.method ++ codes " ") ++ to.target.now))
  where
    cut : (line rest : List ℕ) → ((line ++ crlf_bytes) ++ rest) ++ crlf_bytes
        ≡ (line ++ 13 ∷ []) ++ ((10 ∷ rest) ++ crlf_bytes)
    cut line rest = simp append_assoc

    regroup : (m t rest : List ℕ) → ((((m ++ codes " ") ++ t) ++ codes " HTTP/1.1") ++ 13 ∷ [])
        ++ rest ≡ m ++ (((32 ∷ t) ++ codes " HTTP/1.1") ++ 13 ∷ rest)
    regroup m t rest = simp append_assoc

-- ---- what frames and routes

abbrev told : List ℕ → List Pair → List (List ℕ)
told name ps = values_of name (map back ps)

told_more : (name : List ℕ) (xs ys : List Pair) → told name (xs ++ ys)
    ≡ told name xs ++ told name ys
unfolding values_of
told_more name xs ys =
    ap (λ (fs : List Field). map (λ (f : Field). f.value) (filter (is_named name) fs))
    (map-append back xs ys)
    ∙ (ap (map (λ (f : Field). f.value)) (filter-append (is_named name) (map back xs) (map back ys))
    ∙ map-append (λ (f : Field). f.value) (filter (is_named name) (map back xs))
    (filter (is_named name) (map back ys)))

told_five : (name : List ℕ) (a b c d e : List Pair)
    → told name ((((a ++ b) ++ c) ++ d) ++ e)
    ≡ (((told name a ++ told name b) ++ told name c) ++ told name d) ++ told name e
told_five name a b c d e =
    told_more name (((a ++ b) ++ c) ++ d) e
    ∙ ap (λ (t : List (List ℕ)). t ++ told name e)
    (told_more name ((a ++ b) ++ c) d
    ∙ ap (λ (t : List (List ℕ)). t ++ told name d)
    (told_more name (a ++ b) c ∙ ap (λ (t : List (List ℕ)). t ++ told name c) (told_more name a b)))

none_of : {A : Type 0} (p : A → Bool) (xs : List A) → list_any p xs ≡ false
    → All (λ x. p x ≡ false) xs
none_of p [] none = All-nil (λ x. p x ≡ false)
none_of p (x ∷ xs) none = All-cons (λ y. p y ≡ false) x xs (first (p x) none)
    (none_of p xs (later (p x) none))
  where
    first : (t : Bool) → (t || list_any p xs) ≡ false → t ≡ false
    first true is = is
    first false is = refl

    later : (t : Bool) → (t || list_any p xs) ≡ false → list_any p xs ≡ false
    later true is = absurd (cc)
    later false is = is

-- a field that goes on has none of the names that never do
apart : (listed : List (List ℕ)) (field : Field) (k : ℕ) → goes_on never_kept listed field ≡ true
    → k < length never_kept
    → is_named (get_or never_kept k []) field ≡ false
apart listed field k on within = by_test (has_name_of never_kept field) refl on
  where
    by_test : (t : Bool) → has_name_of never_kept field ≡ t
        → (not t && not (has_name_of listed field)) ≡ true
        → is_named (get_or never_kept k []) field ≡ false
    by_test true same holds = absurd (cc)
    by_test false same holds = none_of (λ (name : List ℕ). is_named name field) never_kept same k
        [] within

kept_none : (k : ℕ) (listed : List (List ℕ)) (name : List ℕ) (fields : List Field)
    → k < length never_kept
    → ((f : Field) → is_named name (back (pair_of f)) ≡ is_named (get_or never_kept k []) f)
    → told name (map pair_of (filter (goes_on never_kept listed) fields)) ≡ []
unfolding values_of
kept_none k listed name [] within same = refl
kept_none k listed name (f ∷ fs) within same =
    by_test (goes_on never_kept listed f) refl (kept_none k listed name fs within same)
  where
    by_test : (t : Bool) → goes_on never_kept listed f ≡ t
        → told name (map pair_of (filter (goes_on never_kept listed) fs)) ≡ []
        → told name (map pair_of
        (cond t (f ∷ filter (goes_on never_kept listed) fs)
        (filter (goes_on never_kept listed) fs))) ≡ []
    by_test false on later = later
    by_test true on later =
        let other : is_named name (back (pair_of f)) ≡ false =
        same f ∙ apart listed f k on within in
        ap (λ (t : Bool). map (λ (g : Field). g.value)
        (cond t (back (pair_of f) ∷ filter (is_named name)
        (map back (map pair_of (filter (goes_on never_kept listed) fs))))
        (filter (is_named name) (map back (map pair_of (filter (goes_on never_kept listed) fs))))))
        other ∙ later

framing_told : (f : Framing) → IsRequestFraming f
    → framed 1 (told (codes "transfer-encoding") (framing_pairs f))
    (told (codes "content-length") (framing_pairs f)) ≡ Ok f
unfolding values_of same_ignoring_case trim_ows
framing_told Framing.Nothing is = refl
framing_told (Framing.Length n) is =
    ap (λ (t : List ℕ). framed 1 [] (t ∷ [])) (trimmed_digits n is)
    ∙ ap length_framing (length_agreed n is)
framing_told Framing.Chunked is = refl
framing_told Framing.ToEnd is = absurd is

table_told : (name : List ℕ) (rules : List Rule) → same_ignoring_case (codes "l5d-ctx-dtab") name
    ≡ false → told name (table_pairs rules) ≡ []
unfolding values_of
table_told name [] other = refl
table_told name (r ∷ rs) other =
    ap (λ (t : Bool). map (λ (f : Field). f.value)
    (cond t (back (codes "l5d-ctx-dtab", canon_table (r ∷ rs)) ∷ []) [])) other

residual_told : (name : List ℕ) (bytes : List ℕ)
    → same_ignoring_case (codes "l5d-dst-residual") name ≡ false
    → told name (residual_pairs bytes) ≡ []
unfolding values_of
residual_told name [] other = refl
residual_told name (b ∷ bytes) other = by_test (bytes_eq (b ∷ bytes) (codes "/"))
  where
    by_test : (t : Bool) → told name (cond t [] ((codes "l5d-dst-residual", b ∷ bytes) ∷ [])) ≡ []
    by_test true = refl
    by_test false = ap (λ (t : Bool). map (λ (f : Field). f.value)
        (cond t (back (codes "l5d-dst-residual", b ∷ bytes) ∷ []) [])) other

closing_told : (name : List ℕ) (closes : Bool)
    → same_ignoring_case (codes "Connection") name ≡ false → told name (last_pairs closes) ≡ []
unfolding values_of
closing_told name true other =
    ap (λ (t : Bool). map (λ (f : Field). f.value)
    (cond t (back (codes "Connection", codes "close") ∷ []) [])) other
closing_told name false other = refl

alone : (xs : List (List ℕ)) → ((([] ++ xs) ++ []) ++ []) ++ [] ≡ xs
alone xs = simp append-nil

-- the values of a framing field are those of the framing alone
framing_values : (name : List ℕ) (k : ℕ) (head : Head) (to : Going) → k < length never_kept
    → ((f : Field) → is_named name (back (pair_of f)) ≡ is_named (get_or never_kept k []) f)
    → told name ((codes "Host", to.host.now) ∷ []) ≡ []
    → told name ((codes "Via", via head.version) ∷ []) ≡ []
    → told name ((codes "l5d-dst-service", canon_path to.service.now)
    ∷ (codes "l5d-dst-client", to.client.now) ∷ []) ≡ [] → told name (last_pairs to.closes) ≡ []
    → same_ignoring_case (codes "l5d-ctx-dtab") name ≡ false
    → same_ignoring_case (codes "l5d-dst-residual") name ≡ false
    → told name (pairs head to) ≡ told name (framing_pairs to.framing)
unfolding kept_but
framing_values name k head to within same host via_ own last table residual =
    let firsts : told name (first_pairs head to) ≡ [] =
    told_more name ((codes "Host", to.host.now) ∷ []) (map pair_of (kept head.fields))
    ∙ (λ i. host i ++ kept_none k (named_in_connection head.fields) name head.fields within same i)
    in
    let vias : told name (via_pairs head to) ≡ [] =
    told_more name ((codes "Via", via head.version) ∷ []) (table_pairs (rules_of to.local.now))
    ∙ (λ i. via_ i ++ table_told name (rules_of to.local.now) table i) in
    let owns : told name (own_pairs to) ≡ [] =
    told_more name ((codes "l5d-dst-service", canon_path to.service.now)
    ∷ (codes "l5d-dst-client", to.client.now) ∷ []) (residual_pairs to.residual.now)
    ∙ (λ i. own i ++ residual_told name to.residual.now residual i) in
    told_five name (first_pairs head to) (framing_pairs to.framing) (via_pairs head to)
    (own_pairs to) (last_pairs to.closes)
    ∙ ((λ i. (((firsts i ++ told name (framing_pairs to.framing)) ++ vias i) ++ owns i) ++ last i)
    ∙ alone (told name (framing_pairs to.framing)))

codings : (head : Head) (to : Going) → told (codes "transfer-encoding") (pairs head to)
    ≡ told (codes "transfer-encoding") (framing_pairs to.framing)
unfolding values_of same_ignoring_case
codings head to = framing_values (codes "transfer-encoding") 2 head to (omega arith) (λ f. refl)
    refl refl refl (closing_told (codes "transfer-encoding") to.closes refl) refl refl

lengths : (head : Head) (to : Going) → told (codes "content-length") (pairs head to)
    ≡ told (codes "content-length") (framing_pairs to.framing)
unfolding values_of same_ignoring_case
lengths head to = framing_values (codes "content-length") 1 head to (omega arith) (λ f. refl)
    refl refl refl (closing_told (codes "content-length") to.closes refl) refl refl

tables : (head : Head) (to : Going) → told (codes "l5d-dtab") (pairs head to) ≡ []
unfolding values_of same_ignoring_case
tables head to = framing_values (codes "l5d-dtab") 10 head to (omega arith) (λ f. refl)
    refl refl refl (closing_told (codes "l5d-dtab") to.closes refl) refl refl ∙ none to.framing
  where
    none : (f : Framing) → told (codes "l5d-dtab") (framing_pairs f) ≡ []
    none Framing.Nothing = refl
    none (Framing.Length n) = refl
    none Framing.Chunked = refl
    none Framing.ToEnd = refl

hosts : (head : Head) (to : Going) → told (codes "host") (pairs head to)
    ≡ trim_ows (32 ∷ to.host.now) ∷ []
unfolding values_of same_ignoring_case kept_but
hosts head to =
    let name = codes "host" in
    let firsts : told name (first_pairs head to) ≡ trim_ows (32 ∷ to.host.now) ∷ [] =
    ap (λ (vs : List (List ℕ)). trim_ows (32 ∷ to.host.now) ∷ vs)
    (kept_none 0 (named_in_connection head.fields) name head.fields (omega arith) (λ f. refl)) in
    let vias : told name (via_pairs head to) ≡ [] = table_told name (rules_of to.local.now) refl in
    let owns : told name (own_pairs to) ≡ [] = residual_told name to.residual.now refl in
    told_five name (first_pairs head to) (framing_pairs to.framing) (via_pairs head to)
    (own_pairs to) (last_pairs to.closes)
    ∙ (λ i. (((firsts i ++ none to.framing i) ++ vias i) ++ owns i)
    ++ closing_told name to.closes refl i)
  where
    none : (f : Framing) → told (codes "host") (framing_pairs f) ≡ []
    none Framing.Nothing = refl
    none (Framing.Length n) = refl
    none Framing.Chunked = refl
    none Framing.ToEnd = refl

own_table : (rules : List Rule) → told (codes "l5d-ctx-dtab") (table_pairs rules)
    ≡ map trim_ows (table_texts rules)
unfolding values_of same_ignoring_case
own_table [] = refl
own_table (r ∷ rs) = ap (λ (t : List ℕ). t ∷ []) (led (canon_table (r ∷ rs)))

between : (xs : List (List ℕ)) → (xs ++ []) ++ [] ≡ xs
between xs = simp append-nil

brought : (head : Head) (to : Going) → told (codes "l5d-ctx-dtab") (pairs head to)
    ≡ map trim_ows (table_texts (rules_of to.local.now))
unfolding values_of same_ignoring_case kept_but
brought head to =
    let name = codes "l5d-ctx-dtab" in
    let firsts : told name (first_pairs head to) ≡ [] =
    kept_none 11 (named_in_connection head.fields) name head.fields (omega arith) (λ f. refl) in
    let vias : told name (via_pairs head to) ≡ map trim_ows (table_texts (rules_of to.local.now)) =
    own_table (rules_of to.local.now) in
    let owns : told name (own_pairs to) ≡ [] = residual_told name to.residual.now refl in
    told_five name (first_pairs head to) (framing_pairs to.framing) (via_pairs head to)
    (own_pairs to) (last_pairs to.closes)
    ∙ ((λ i. (((firsts i ++ none to.framing i) ++ vias i) ++ owns i)
    ++ closing_told name to.closes refl i)
    ∙ between (map trim_ows (table_texts (rules_of to.local.now))))
  where
    none : (f : Framing) → told (codes "l5d-ctx-dtab") (framing_pairs f) ≡ []
    none Framing.Nothing = refl
    none (Framing.Length n) = refl
    none Framing.Chunked = refl
    none Framing.ToEnd = refl

-- ---- all of it

begins : (head : Head) (to : Going) → IsSoundHead head → IsPlainWay to
    → length (forwarded head to) ≤ most
    → BeginsWith (forwarded head to) (read head to) (length (forwarded head to))
unfolding window
begins head to sound way few =
    let bytes = forwarded head to in
    let all : take most bytes ≡ bytes = take_all most bytes few in
    let none : drop (length bytes) (take most bytes) ≡ [] =
    ap (drop (length bytes)) all ∙ drop-length bytes in
    record {
      parts = parts head to;
      line = subst (λ (xs : List ℕ). IsSomeAnd (first_line xs)
          (λ l. ends_in_other_version l ≡ false)) (sym all) (line_served head to sound way);
      reads = (
        valid head to sound way,
        all
            ∙ (printed head to ∙ ap (λ (rest : List ℕ). print_request (parts head to) ++ rest)
            (sym none)),
      );
      long = ap length (printed head to ∙ append-nil (print_request (parts head to)));
      is = record {
        method = refl;
        target = refl;
        version = refl;
        fields =
            same_pairs (pairs head to);
      };
    }

pub heads_read_back : HeadsReadBack
heads_read_back head to sound way few = (
  read head to,
  record {
    whole = begins head to sound way few;
    method = refl;
    target = refl;
    version = refl;
    framing = (λ i. framed 1 (codings head to i) (lengths head to i))
        ∙ framing_told to.framing way.framing;
    host = hosts head to ∙ ap (λ (t : List ℕ). t ∷ []) (led to.host.now ∙ way.host);
    no_table = tables head to;
    table = brought head to;
  },
)
