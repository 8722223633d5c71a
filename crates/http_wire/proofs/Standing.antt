-- How far the bytes of a head have come, and what they show there.
use Rattle.std.proofs.Common.{◌≡◌, ◌≢◌, ◌↔◌, ◌⊎◌, inl, inr, ◌<◌, ◌≤◌, ◌+◌, ℕ, Bool, true, false}
use Rattle.std.proofs.Common.{List, [], ◌∷◌, ◌++◌, length, take, eqb, ltb, cond, not, refl, sym, ap}
use Rattle.std.proofs.Common.{◌∙◌, subst, arith, IsTrue, All, codes, Option, Some, None}
use Rattle.std.proofs.Common.{append_assoc, append-nil}
use Rattle.std.specs.Prelude.{IsSome, is_some}
use Rattle.std.specs.List.{position_or_len}
use Rattle.std.specs.Option.{option_map}
use Rattle.std.proofs.lemmas.Bool.Decides.{nat_tests}
use Rattle.std.proofs.lemmas.List.Sums.{AllPass-from_list_all}
use Rattle.std.proofs.lemmas.List.Elements.{All-append, All-cons, All-head, All-nil, All-tail}
use Rattle.std.proofs.lemmas.List.Elements.{All-weaker}
use Rattle.httparse.specs.Grammar.{LineEnd, crlf, lf, print_end, print_blank, print_version}
use Rattle.httparse.specs.Grammar.{print_section, print_request, is_token_byte, is_uri_byte}
use Rattle.httparse.specs.Grammar.{RequestHead, IsRequestHead, ReadsRequest, HasNoRequest}
use Rattle.httparse.specs.Grammar.{NeverHasRequest}
use Rattle.httparse.proofs.GrammarLemmas.{print_request-append, ReadsRequest-append}
use Rattle.http_wire.specs.declared.section.Place.{Place}
use Rattle.http_wire.specs.declared.section.Place.TheVariants.{Start, Name, Value, ValueReturn}
use Rattle.http_wire.specs.declared.section.Place.TheVariants.{LastReturn, Ended, Refused}
use Rattle.http_wire.specs.declared.watch.Progress.TheVariants.{Before, BeforeReturn, Line, Fields}
use Rattle.http_wire.specs.FirstLine.{first_line, line_at, skip_empty_lines}
use Rattle.http_wire.specs.Heads.{MayBecomeHead}
use Rattle.http_wire.specs.Places.{IsSection, Begins, ReachesFields, HasLine, IsInLine, StandsAt}
use Rattle.http_wire.specs.Places.{is_over, IsDecided, Leads}
use Rattle.http_wire.proofs.Looks.{differ, skip-blank, skip-feed, skip-other, token_byte_low}
use Rattle.http_wire.proofs.Looks.{uri_byte_low}
use Rattle.http_wire.proofs.Leading.{may_follow, must_follow, reaches_more, reaches_start}

-- ---- the first line

some_test : (t : Bool) (n : ℕ) (bytes : List ℕ)
    → is_some (option_map (λ (at : ℕ). take at bytes) (cond t (Some n) None)) ≡ t
some_test true n bytes = refl
some_test false n bytes = refl

-- a byte that is no line feed does not end a line
line_later : (b : ℕ) (bytes : List ℕ) → b ≢ 10 → is_some (line_at (b ∷ bytes))
    ≡ is_some (line_at bytes)
line_later b bytes other =
    let n : ℕ = position_or_len (λ x. eqb x 10) bytes in
    some_test _ _ (b ∷ bytes)
    ∙ (ap (λ (t : Bool). ltb (cond (not t) (1 + n) 0) (length (b ∷ bytes))) (differ b 10 other)
    ∙ shifted n (ltb n (length bytes)) refl)
    ∙ sym (some_test _ _ bytes)
  where
    shifted : (n : ℕ) (t : Bool) → ltb n (length bytes) ≡ t
        → ltb (1 + n) (length (b ∷ bytes)) ≡ ltb n (length bytes)
    shifted n true test =
        (let more : 1 + n < length (b ∷ bytes) = grind (arith, nat_tests, test) in
        grind (arith, nat_tests, more)) ∙ sym test
    shifted n false test = grind (arith, nat_tests, test) ∙ sym test

-- the bytes of a line that has begun
line_behind : (line more : List ℕ) → All (λ b. b ≢ 10) line
    → is_some (line_at (line ++ more)) ≡ is_some (line_at more)
line_behind [] more other = refl
line_behind (b ∷ line) more other =
    line_later b (line ++ more) (All-head (λ x. x ≢ 10) b line other)
    ∙ line_behind line more (All-tail (λ x. x ≢ 10) b line other)

pub stands_first : StandsAt Before []
stands_first more = (λ line. line, λ line. line)

-- bytes as they are cut before and behind one of them
cut : (bytes : List ℕ) (b : ℕ) (more : List ℕ) → (bytes ++ b ∷ []) ++ more ≡ bytes ++ b ∷ more
cut bytes b more = append_assoc bytes (b ∷ []) more

-- where more bytes follow one that was followed
follows : (bytes : List ℕ) (b : ℕ) (P Q : List ℕ → Type 0)
    → ((more : List ℕ) → HasLine (bytes ++ more) ↔ P more)
    → ((more : List ℕ) → P (b ∷ more) ↔ Q more) → (more : List ℕ)
    → HasLine ((bytes ++ b ∷ []) ++ more) ↔ Q more
follows bytes b P Q stands leads more = (
  λ line. (leads more).0 ((stands (b ∷ more)).0 (subst HasLine (cut bytes b more) line)),
  λ q. subst HasLine (sym (cut bytes b more)) ((stands (b ∷ more)).1 ((leads more).1 q)),
)

same_line_test : (o p : Option (List ℕ)) → is_some o ≡ is_some p → IsSome o ↔ IsSome p
same_line_test o p same = (λ some. sym same ∙ some, λ some. same ∙ some)

pub before_feed : (bytes : List ℕ) → StandsAt Before bytes → StandsAt Before (bytes ++ 10 ∷ [])
unfolding first_line
before_feed bytes stands =
    follows bytes 10 HasLine HasLine stands
    (λ more. same_line_test (first_line (10 ∷ more)) (first_line more)
    (ap (λ (xs : List ℕ). is_some (line_at xs)) (skip-feed more)))

pub before_behind : (bytes : List ℕ) → StandsAt Before bytes
    → StandsAt BeforeReturn (bytes ++ 13 ∷ [])
before_behind bytes stands = follows bytes 13 HasLine (λ more. HasLine (13 ∷ more)) stands
    (λ more. (λ line. line, λ line. line))

pub before_other : (bytes : List ℕ) (b : ℕ) → b ≢ 10 → b ≢ 13 → StandsAt Before bytes
    → StandsAt Line (bytes ++ b ∷ [])
unfolding first_line
before_other bytes b feed return stands =
    follows bytes b HasLine (λ more. IsSome (line_at more)) stands
    (λ more. same_line_test (first_line (b ∷ more)) (line_at more)
    (ap (λ (xs : List ℕ). is_some (line_at xs)) (skip-other b more feed return)
    ∙ line_later b more feed))

pub return_feed : (bytes : List ℕ) → StandsAt BeforeReturn bytes
    → StandsAt Before (bytes ++ 10 ∷ [])
unfolding first_line
return_feed bytes stands =
    follows bytes 10 (λ more. HasLine (13 ∷ more)) HasLine stands
    (λ more. (λ line. line, λ line. line))

pub return_other : (bytes : List ℕ) (b : ℕ) → b ≢ 10 → StandsAt BeforeReturn bytes
    → StandsAt Line (bytes ++ b ∷ [])
unfolding first_line
return_other bytes b feed stands =
    follows bytes b (λ more. HasLine (13 ∷ more)) (λ more. IsSome (line_at more)) stands
    (λ more. same_line_test (first_line (13 ∷ b ∷ more)) (line_at more)
    (ap (λ (t : Bool). is_some (line_at (cond t (skip_empty_lines more) (13 ∷ b ∷ more))))
    (differ b 10 feed)
    ∙ (line_later 13 (b ∷ more) (omega arith) ∙ line_later b more feed)))

pub line_other : (bytes : List ℕ) (b : ℕ) → b ≢ 10 → StandsAt Line bytes
    → StandsAt Line (bytes ++ b ∷ [])
line_other bytes b feed stands =
    follows bytes b (λ more. IsSome (line_at more)) (λ more. IsSome (line_at more)) stands
    (λ more. same_line_test (line_at (b ∷ more)) (line_at more) (line_later b more feed))

pub line_feed_ends : (bytes : List ℕ) → StandsAt Line bytes
    → StandsAt (Fields Start) (bytes ++ 10 ∷ [])
line_feed_ends bytes stands = record {
  line = bytes;
  fields = [];
  behind = [];
  in_line = stands;
  reached = reaches_start;
  all = refl;
  none_behind = λ open_. refl;
}

pub fields_more : (bytes : List ℕ) (place next : Place) (b : ℕ) → is_over place ≡ false
    → Leads place b next
    → StandsAt (Fields place) bytes → StandsAt (Fields next) (bytes ++ b ∷ [])
fields_more bytes place next b open_ leads stands = record {
  line = stands.line;
  fields = stands.fields ++ b ∷ [];
  behind = [];
  in_line = stands.in_line;
  reached = reaches_more stands.fields place next b stands.reached open_ leads;
  all = ap (λ (xs : List ℕ). xs ++ b ∷ [])
      (stands.all ∙ ap (λ (xs : List ℕ). stands.line ++ 10 ∷ (stands.fields ++ xs))
      (stands.none_behind open_))
      ∙ regroup stands.line stands.fields;
  none_behind = λ still. refl;
}
  where
    regroup : (line fields : List ℕ) → (line ++ 10 ∷ (fields ++ [])) ++ b ∷ []
        ≡ line ++ 10 ∷ ((fields ++ b ∷ []) ++ [])
    regroup line fields =
        append_assoc line (10 ∷ (fields ++ [])) (b ∷ [])
        ∙ ap (λ (xs : List ℕ). line ++ 10 ∷ xs)
        (ap (λ (xs : List ℕ). xs ++ b ∷ []) (append-nil fields)
        ∙ sym (append-nil (fields ++ b ∷ [])))

-- any bytes behind the end
pub behind_end : (bytes more : List ℕ) (place : Place) → is_over place ≡ true
    → StandsAt (Fields place) bytes → StandsAt (Fields place) (bytes ++ more)
behind_end bytes more place over stands = record {
  line = stands.line;
  fields = stands.fields;
  behind = stands.behind ++ more;
  in_line = stands.in_line;
  reached = stands.reached;
  all = ap (λ (xs : List ℕ). xs ++ more) stands.all
      ∙ (append_assoc stands.line (10 ∷ (stands.fields ++ stands.behind)) more
      ∙ ap (λ (xs : List ℕ). stands.line ++ 10 ∷ xs)
      (append_assoc stands.fields stands.behind more));
  none_behind = λ open_. absurd (cc);
}

-- ---- where a request line ends

-- a line ends at a line feed
pub at_feed : (bytes : List ℕ) → IsSome (line_at (10 ∷ bytes))
at_feed bytes =
    let some : ltb 0 (length (10 ∷ bytes)) ≡ true =
    (let more : 0 < length (10 ∷ bytes) = omega arith in grind (arith, nat_tests, more)) in
    some_test (ltb 0 (length (10 ∷ bytes))) 0 (10 ∷ bytes) ∙ some

-- two cuts of the same bytes at a line feed are one, or the one lies behind the other
two_cuts : (a b y s : List ℕ) → a ++ 10 ∷ y ≡ b ++ 10 ∷ s
    → ((a ≡ b) × (y ≡ s))
    ⊎ (((z : List ℕ) × (b ≡ a ++ 10 ∷ z)) ⊎ ((z : List ℕ) × (a ≡ b ++ 10 ∷ z)))
two_cuts [] [] y s e = let same : y ≡ s = cc in inl (refl, same)
two_cuts [] (c ∷ cs) y s e = let first : c ≡ 10 = cc in inr (inl (cs, ap (λ (x : ℕ). x ∷ cs) first))
two_cuts (d ∷ ds) [] y s e = let first : d ≡ 10 = cc in inr (inr (ds, ap (λ (x : ℕ). x ∷ ds) first))
two_cuts (d ∷ ds) (c ∷ cs) y s e =
    let first : d ≡ c = cc in
    let after : ds ++ 10 ∷ y ≡ cs ++ 10 ∷ s = cc in
    by_rest first (two_cuts ds cs y s after)
  where
    by_rest : d ≡ c → ((ds ≡ cs) × (y ≡ s))
        ⊎ (((z : List ℕ) × (cs ≡ ds ++ 10 ∷ z)) ⊎ ((z : List ℕ) × (ds ≡ cs ++ 10 ∷ z)))
        → ((d ∷ ds ≡ c ∷ cs) × (y ≡ s))
        ⊎ (((z : List ℕ) × (c ∷ cs ≡ d ∷ ds ++ 10 ∷ z))
        ⊎ ((z : List ℕ) × (d ∷ ds ≡ c ∷ cs ++ 10 ∷ z)))
    by_rest first (inl (same, rest)) = inl ((λ k. first k ∷ same k), rest)
    by_rest first (inr (inl (z, is))) = inr (inl (z, (λ k. sym first k ∷ is k)))
    by_rest first (inr (inr (z, is))) = inr (inr (z, (λ k. first k ∷ is k)))

-- a line that has begun and not ended has no line feed behind its first byte
no_cut : (a b z : List ℕ) → IsInLine a → IsInLine b → b ≡ a ++ 10 ∷ z → ⊥
no_cut a b z a_in b_in is =
    let has : HasLine (b ++ []) = subst HasLine (sym is ∙ sym (append-nil b))
    ((a_in (10 ∷ z)).1 (at_feed z)) in
    let none = (b_in []).0 has in
    cc

-- so a line ends at one place
pub same_line : (a b y s : List ℕ) → IsInLine a → IsInLine b → a ++ 10 ∷ y ≡ b ++ 10 ∷ s
    → (a ≡ b) × (y ≡ s)
same_line a b y s a_in b_in e = by_cuts (two_cuts a b y s e)
  where
    by_cuts : ((a ≡ b) × (y ≡ s))
        ⊎ (((z : List ℕ) × (b ≡ a ++ 10 ∷ z)) ⊎ ((z : List ℕ) × (a ≡ b ++ 10 ∷ z)))
        → (a ≡ b) × (y ≡ s)
    by_cuts (inl same) = same
    by_cuts (inr (inl (z, is))) = absurd (no_cut a b z a_in b_in is)
    by_cuts (inr (inr (z, is))) = absurd (no_cut b a z b_in a_in is)

-- ---- the request line of the grammar

-- the bytes before the line feed that ends a line
abbrev before_feed_of : LineEnd → List ℕ
before_feed_of crlf = 13 ∷ []
before_feed_of lf = []

end_cut : (end : LineEnd) (rest : List ℕ) → print_end end ++ rest ≡ before_feed_of end ++ 10 ∷ rest
end_cut crlf rest = refl
end_cut lf rest = refl

-- the bytes of a head up to the line feed of its request line
abbrev line_text : RequestHead → List ℕ
line_text h = print_blank h.blank
    ++ (h.method ++ 32 ∷ (h.target ++ 32 ∷ (print_version h.minor ++ before_feed_of h.line_end)))

-- and those behind it
line_cut : (h : RequestHead) (rest : List ℕ) → print_request h ++ rest
    ≡ line_text h ++ 10 ∷ (print_section h.fields h.last ++ rest)
line_cut h rest =
    print_request-append h rest
    ∙ ap (λ (xs : List ℕ). print_blank h.blank
    ++ (h.method ++ 32 ∷ (h.target ++ 32 ∷ (print_version h.minor ++ xs))))
    (end_cut h.line_end (print_section h.fields h.last ++ rest))
    ∙ sym (regroup (print_blank h.blank) h.method h.target (print_version h.minor)
    (before_feed_of h.line_end) (print_section h.fields h.last ++ rest))
  where
    regroup : (a b c d e s : List ℕ)
        → (a ++ (b ++ 32 ∷ (c ++ 32 ∷ (d ++ e)))) ++ 10 ∷ s
        ≡ a ++ (b ++ 32 ∷ (c ++ 32 ∷ (d ++ (e ++ 10 ∷ s))))
    regroup a b c d e s = simp append_assoc

-- the bytes of a version and of a return are no line feeds
clean_version : (minor : ℕ) (end : LineEnd) → minor ≤ 1
    → All (λ b. b ≢ 10) (print_version minor ++ before_feed_of end)
clean_version minor end small =
    All-append (λ b. b ≢ 10) (print_version minor) (before_feed_of end)
    (All-append (λ b. b ≢ 10) (codes "HTTP/1.") ((48 + minor) ∷ [])
    (All-weaker (λ b. IsTrue (not (eqb b 10))) (λ b. b ≢ 10) other (codes "HTTP/1.")
    (AllPass-from_list_all (λ (b : ℕ). not (eqb b 10)) (codes "HTTP/1.") refl))
    (All-cons (λ b. b ≢ 10) (48 + minor) [] (omega arith) (All-nil (λ b. b ≢ 10)))) (return end)
  where
    other : (b : ℕ) → IsTrue (not (eqb b 10)) → b ≢ 10
    other b test same = grind (arith, nat_tests, test, same)

    return : (e : LineEnd) → All (λ b. b ≢ 10) (before_feed_of e)
    return crlf = All-cons (λ b. b ≢ 10) 13 [] (omega arith) (All-nil (λ b. b ≢ 10))
    return lf = All-nil (λ b. b ≢ 10)

line_of : (bytes line more : List ℕ) → skip_empty_lines bytes ≡ line ++ more
    → is_some (line_at (line ++ more)) ≡ is_some (line_at more)
    → is_some (first_line bytes) ≡ is_some (line_at more)
unfolding first_line
line_of bytes line more skipped behind = ap (λ (xs : List ℕ). is_some (line_at xs)) skipped ∙ behind

-- the request line of a head is a line that has begun and not ended
pub text_in_line : (h : RequestHead) → IsRequestHead h → IsInLine (line_text h)
text_in_line h good = by_method h.method refl good.method.0 good.method.1
  where
    by_method : (method : List ℕ) → h.method ≡ method → 0 < length h.method
        → All (λ b. IsTrue (is_token_byte b)) h.method → IsInLine (line_text h)
    by_method [] same some tokens more = absurd (omega (arith, some, ap length same))
    by_method (m ∷ ms) same some tokens more =
        let all : All (λ b. IsTrue (is_token_byte b)) (m ∷ ms) =
        subst (All (λ b. IsTrue (is_token_byte b))) same tokens in
        let low = token_byte_low m (All-head (λ b. IsTrue (is_token_byte b)) m ms all) in
        let tail = print_version h.minor ++ before_feed_of h.line_end in
        let line = m ∷ (ms ++ 32 ∷ (h.target ++ 32 ∷ tail)) in
        let clean : All (λ b. b ≢ 10) line =
        All-append (λ b. b ≢ 10) (m ∷ ms) (32 ∷ (h.target ++ 32 ∷ tail))
        (All-weaker (λ b. IsTrue (is_token_byte b)) (λ b. b ≢ 10) (λ b t. (token_byte_low b t).0)
        (m ∷ ms) all)
        (All-cons (λ b. b ≢ 10) 32 (h.target ++ 32 ∷ tail) (omega arith)
        (All-append (λ b. b ≢ 10) h.target (32 ∷ tail)
        (All-weaker (λ b. IsTrue (is_uri_byte b)) (λ b. b ≢ 10) uri_byte_low h.target good.target.1)
        (All-cons (λ b. b ≢ 10) 32 tail (omega arith)
        (clean_version h.minor h.line_end good.minor)))) in
        let cut : line_text h ++ more ≡ print_blank h.blank ++ (line ++ more) =
        append_assoc (print_blank h.blank) (h.method ++ 32 ∷ (h.target ++ 32 ∷ tail)) more
        ∙ ap (λ (xs : List ℕ). print_blank h.blank
        ++ ((xs ++ 32 ∷ (h.target ++ 32 ∷ tail)) ++ more)) same in
        let skipped : skip_empty_lines (line_text h ++ more) ≡ line ++ more =
        ap skip_empty_lines cut
        ∙ (skip-blank h.blank (line ++ more)
        ∙ skip-other m ((ms ++ 32 ∷ (h.target ++ 32 ∷ tail)) ++ more) low.0 low.1) in
        same_line_test (first_line (line_text h ++ more)) (line_at more)
        (line_of (line_text h ++ more) line more skipped (line_behind line more clean))

-- ---- what the bytes show

-- a request line that some head has
abbrev pub GoodLine : List ℕ → Type 0
GoodLine line = (h : RequestHead) × IsRequestHead h × (line ≡ line_text h)

-- where some continuation of the bytes is a head, their request line is one
pub good_line : (bytes : List ℕ) (place : Place) (stands : ReachesFields bytes place)
    → MayBecomeHead bytes → GoodLine stands.line
good_line bytes place stands (more, parts, reads) =
    let whole : stands.line ++ 10 ∷ ((stands.fields ++ stands.behind) ++ more)
    ≡ line_text parts ++ 10 ∷ (print_section parts.fields parts.last ++ []) =
    sym (append_assoc stands.line (10 ∷ (stands.fields ++ stands.behind)) more)
    ∙ ap (λ (xs : List ℕ). xs ++ more) (sym stands.all)
    ∙ (reads.1 ∙ line_cut parts []) in (
      parts,
      reads.0,
      (same_line stands.line (line_text parts) _ _ stands.in_line
          (text_in_line parts reads.0) whole).0,
    )

-- a good line and a section are a head
with_section : (line section : List ℕ) → GoodLine line → IsSection section
    → (h : RequestHead) × ReadsRequest (line ++ 10 ∷ section) h []
with_section line section (h, good, is) (fields, last, reads) =
    let head : RequestHead =
    record {
      blank = h.blank;
      method = h.method;
      target = h.target;
      minor = h.minor;
      line_end =
          h.line_end;
      fields = fields;
      last = last;
    } in (
      head,
      (
        record {
          method = good.method;
          target = good.target;
          target_text = good.target_text;
          minor = good.minor;
          fields = reads.0;
        },
        (λ k. is k ++ 10 ∷ reads.1 k) ∙ sym (line_cut head []),
      ),
    )

-- a head begins with a line, and a section behind it
section_of : (line rest : List ℕ) (h : RequestHead) (after : List ℕ) → IsInLine line
    → ReadsRequest (line ++ 10 ∷ rest) h after → Begins Start rest
section_of line rest h after in_line reads =
    let same = same_line line (line_text h) rest (print_section h.fields h.last ++ after) in_line
    (text_in_line h reads.0) (reads.1 ∙ line_cut h after) in (
      print_section h.fields h.last,
      after,
      (h.fields, h.last, (reads.0.fields, sym (append-nil (print_section h.fields h.last)))),
      same.1,
    )

-- bytes at an open place of the fields of a good line show no head and no refusal
pub no_head_yet : (bytes : List ℕ) (place : Place) (stands : ReachesFields bytes place)
    → is_over place ≡ false → HasNoRequest bytes
no_head_yet bytes place stands open_ h rest reads =
    let begins = stands.reached.splits []
    (subst (Begins Start) (ap (λ (xs : List ℕ). stands.fields ++ xs) (stands.none_behind open_))
    (section_of stands.line (stands.fields ++ stands.behind) h rest stands.in_line
    (subst (λ (xs : List ℕ). ReadsRequest xs h rest) stands.all reads))) in
    nothing begins
  where
    nothing : Begins place [] → ⊥
    nothing ([], after, completes, is) = must_follow place open_ completes
    nothing (x ∷ xs, after, completes, is) = cc

pub may_become : (bytes : List ℕ) (place : Place) (stands : ReachesFields bytes place)
    → is_over place ≡ false → GoodLine stands.line → MayBecomeHead bytes
may_become bytes place stands open_ good =
    let more = may_follow place open_ in
    let made = with_section stands.line (stands.fields ++ more.0) good
    (stands.reached.joins more.0 more.1) in
    let all : bytes ++ more.0 ≡ stands.line ++ 10 ∷ (stands.fields ++ more.0) =
    ap (λ (xs : List ℕ). xs ++ more.0) (stands.all
    ∙ ap (λ (xs : List ℕ). stands.line ++ 10 ∷ (stands.fields ++ xs)) (stands.none_behind open_))
    ∙ (append_assoc stands.line (10 ∷ (stands.fields ++ [])) more.0
    ∙ ap (λ (xs : List ℕ). stands.line ++ 10 ∷ (xs ++ more.0)) (append-nil stands.fields)) in
    (more.0, made.0, subst (λ (xs : List ℕ). ReadsRequest xs made.0 []) (sym all) made.1)

-- bytes at the end are decided
pub decided : (bytes : List ℕ) (place : Place) (stands : ReachesFields bytes place)
    → is_over place ≡ true → GoodLine stands.line → IsDecided bytes
decided bytes Ended stands over good =
    let made = with_section stands.line (stands.fields ++ []) good (stands.reached.joins [] refl) in
    let longer = ReadsRequest-append (stands.line ++ 10 ∷ (stands.fields ++ [])) made.0 []
    stands.behind made.1 in
    inl (
      made.0,
      stands.behind,
      subst (λ (xs : List ℕ). ReadsRequest xs made.0 stands.behind)
          (all ∙ sym stands.all) longer,
    )
  where
    all : (stands.line ++ 10 ∷ (stands.fields ++ [])) ++ stands.behind
        ≡ stands.line ++ 10 ∷ (stands.fields ++ stands.behind)
    all =
        append_assoc stands.line (10 ∷ (stands.fields ++ [])) stands.behind
        ∙ ap (λ (xs : List ℕ). stands.line ++ 10 ∷ (xs ++ stands.behind)) (append-nil stands.fields)
decided bytes Refused stands over good = inr never
  where
    never : NeverHasRequest bytes
    never more h rest reads =
        let whole : bytes ++ more ≡ stands.line ++ 10 ∷ (stands.fields ++ (stands.behind ++ more)) =
        ap (λ (xs : List ℕ). xs ++ more) stands.all
        ∙ (append_assoc stands.line (10 ∷ (stands.fields ++ stands.behind)) more
        ∙ ap (λ (xs : List ℕ). stands.line ++ 10 ∷ xs)
        (append_assoc stands.fields stands.behind more)) in
        let begins = stands.reached.splits (stands.behind ++ more)
        (section_of stands.line (stands.fields ++ (stands.behind ++ more)) h rest stands.in_line
        (subst (λ (xs : List ℕ). ReadsRequest xs h rest) whole reads)) in
        begins.2
decided bytes Start stands over good = absurd (cc)
decided bytes Name stands over good = absurd (cc)
decided bytes Value stands over good = absurd (cc)
decided bytes ValueReturn stands over good = absurd (cc)
decided bytes LastReturn stands over good = absurd (cc)
