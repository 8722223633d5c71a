-- How far the bytes of a reply's head have come, and what they show there.
use Rattle.std.proofs.Common.{◌≡◌, ◌≢◌, ◌⊎◌, inl, inr, ℕ, zero, suc, ◌+◌, ◌<◌, ◌≤◌, Bool, true}
use Rattle.std.proofs.Common.{false, List, [], ◌∷◌, ◌++◌, length, take, drop, get_or, eqb, ◌||◌}
use Rattle.std.proofs.Common.{refl, sym, ap, ◌∙◌, subst, arith, IsTrue, Some, None, append_assoc}
use Rattle.std.proofs.Common.{append-nil, length-drop}
use Rattle.std.specs.Char.{is_ascii_digit}
use Rattle.std.proofs.lemmas.Bool.Decides.{nat_tests}
use Rattle.std.proofs.lemmas.List.{take-append-drop, take_more}
use Rattle.std.proofs.lemmas.List.Concat.{flat_map-cons}
use Rattle.std.proofs.lemmas.List.Elements.{All-cons, All-nil}
use Rattle.httparse.specs.Grammar.{LineEnd, crlf, lf, print_end, print_blank, print_version}
use Rattle.httparse.specs.Grammar.{print_section, print_reason, print_response, AllPass}
use Rattle.httparse.specs.Grammar.{is_value_byte, ResponseHead, IsResponseHead, ReadsResponse}
use Rattle.httparse.specs.Grammar.{HasNoResponse, MayBecomeResponse, NeverHasResponse}
use Rattle.httparse.proofs.GrammarLemmas.{print_response-append, ReadsResponse-append}
use Rattle.http_wire.specs.declared.section.Place.TheVariants.{Start, Name, Value, ValueReturn}
use Rattle.http_wire.specs.declared.section.Place.TheVariants.{LastReturn, Ended, Refused}
use Rattle.http_wire.specs.declared.reply_watch.StatusPlace.{StatusPlace}
use Rattle.http_wire.specs.declared.reply_watch.StatusPlace.TheVariants.{Before, BeforeReturn, Code}
use Rattle.http_wire.specs.declared.reply_watch.StatusPlace.TheVariants.{Fields}
use Rattle.http_wire.specs.Places.{IsSection, EndsField, Completes as CompletesFields}
use Rattle.http_wire.specs.Replies.{fits, AllFit, IsReply, EndsLine, Completes, Leads, is_at_end}
use Rattle.http_wire.specs.Replies.{Begins, Tracks, IsOpenReply, IsDecidedReply}
use Rattle.http_wire.proofs.Leading.{may_follow as fields_may_follow}
use Rattle.http_wire.proofs.Leading.{must_follow as fields_must_follow}

-- ---- the status line

-- the head without its empty lines, by what stands behind the status code
code_cut : (h : ResponseHead) (rest : List ℕ) → print_response h ++ rest
    ≡ print_blank h.blank
    ++ ((print_version h.minor ++ 32 ∷ h.digits)
    ++ (print_reason h.reason ++ (print_end h.line_end ++ (print_section h.fields h.last ++ rest))))
code_cut h rest =
    print_response-append h rest
    ∙ ap (λ (xs : List ℕ). print_blank h.blank ++ xs)
    (sym (append_assoc (print_version h.minor) (32 ∷ h.digits)
    (print_reason h.reason ++ (print_end h.line_end ++ (print_section h.fields h.last ++ rest)))))

-- three digits
three : (digits : List ℕ) → length digits ≡ 3 → AllPass is_ascii_digit digits
    → (a : ℕ) × (b : ℕ) × (c : ℕ) × (digits ≡ a ∷ b ∷ c ∷ []) × IsTrue (is_ascii_digit a)
    × IsTrue (is_ascii_digit b) × IsTrue (is_ascii_digit c)
three [] long all = absurd (omega arith)
three (a ∷ []) long all = absurd (omega arith)
three (a ∷ b ∷ []) long all = absurd (omega arith)
three (a ∷ b ∷ c ∷ []) long all =
    (a, b, c, refl, all 0 0 (omega arith), all 1 0 (omega arith), all 2 0 (omega arith))
three (a ∷ b ∷ c ∷ d ∷ more) long all = absurd (omega arith)

minor_fits : (minor : ℕ) → minor ≤ 1 → IsTrue (fits 7 (48 + minor))
unfolding fits
minor_fits zero small = refl
minor_fits (suc zero) small = refl
minor_fits (suc (suc n)) small = absurd (omega (arith, small))

-- the twelve bytes of a version, a blank and a status code fit their places
code_fits : (minor a b c : ℕ) → minor ≤ 1 → IsTrue (is_ascii_digit a) → IsTrue (is_ascii_digit b)
    → IsTrue (is_ascii_digit c)
    → AllFit 0 (print_version minor ++ 32 ∷ a ∷ b ∷ c ∷ [])
unfolding fits
code_fits minor a b c small da db dc = (
  refl,
  (
    refl,
    (refl, (refl, (refl, (refl, (refl, (minor_fits minor small, (refl, (da, (db, (dc, tt)))))))))),
  ),
)

-- the first of some bytes that fit
first_fits : (place n : ℕ) (bytes : List ℕ) → length bytes ≡ suc n → AllFit place bytes
    → (b : ℕ) × (rest : List ℕ) × (bytes ≡ b ∷ rest) × IsTrue (fits place b)
    × AllFit (place + 1) rest × (length rest ≡ n)
first_fits place n [] long all = absurd (omega (arith, long))
first_fits place n (b ∷ rest) long all = (b, rest, refl, all.0, all.1, omega (arith, long))

fit_is : (place b c : ℕ) → ((x : ℕ) → fits place x ≡ eqb x c) → IsTrue (fits place b) → b ≡ c
fit_is place b c is fit = let test : eqb b c ≡ true = sym (is b) ∙ fit in
    grind (arith, nat_tests, test)

-- a byte that fits behind the point is that of a version
minor_of : (b : ℕ) → IsTrue (fits 7 b) → (minor : ℕ) × (minor ≤ 1) × (b ≡ 48 + minor)
unfolding fits
minor_of b fit = by_test (eqb b 48) refl fit
  where
    by_test : (t : Bool) → eqb b 48 ≡ t → (t || eqb b 49) ≡ true
        → (minor : ℕ) × (minor ≤ 1) × (b ≡ 48 + minor)
    by_test true test holds = (0, omega arith, grind (arith, nat_tests, test))
    by_test false test holds = (1, omega arith, grind (arith, nat_tests, holds))

-- the first four of them
first_four : (place n : ℕ) (bytes : List ℕ) → length bytes ≡ suc (suc (suc (suc n)))
    → AllFit place bytes
    → (a : ℕ) × (b : ℕ) × (c : ℕ) × (d : ℕ) × (rest : List ℕ) × (bytes ≡ a ∷ b ∷ c ∷ d ∷ rest)
    × IsTrue (fits place a) × IsTrue (fits (place + 1) b) × IsTrue (fits (place + 1 + 1) c)
    × IsTrue (fits (place + 1 + 1 + 1) d)
    × AllFit (place + 1 + 1 + 1 + 1) rest × (length rest ≡ n)
first_four place n bytes long all =
    let p0 = first_fits place (suc (suc (suc n))) bytes long all in
    let p1 = first_fits (place + 1) (suc (suc n)) p0.1 p0.5 p0.4 in
    let p2 = first_fits (place + 1 + 1) (suc n) p1.1 p1.5 p1.4 in
    let p3 = first_fits (place + 1 + 1 + 1) n p2.1 p2.5 p2.4 in (
      p0.0,
      p1.0,
      p2.0,
      p3.0,
      p3.1,
      p0.2 ∙ ap (λ (xs : List ℕ). p0.0 ∷ xs)
          (p1.2 ∙ ap (λ (xs : List ℕ). p1.0 ∷ xs) (p2.2 ∙ ap (λ (xs : List ℕ). p2.0 ∷ xs) p3.2)),
      p0.3,
      p1.3,
      p2.3,
      p3.3,
      p3.4,
      p3.5,
    )

-- and twelve bytes that fit are a version, a blank and a status code
code_of : (bytes : List ℕ) → length bytes ≡ 12 → AllFit 0 bytes
    → (minor : ℕ) × (a : ℕ) × (b : ℕ) × (c : ℕ) × (minor ≤ 1)
    × (bytes ≡ print_version minor ++ 32 ∷ a ∷ b ∷ c ∷ []) × AllPass is_ascii_digit (a ∷ b ∷ c ∷ [])
unfolding fits
code_of bytes long all =
    let p = first_four 0 8 bytes long all in
    let q = first_four 4 4 p.4 p.11 p.10 in
    let r = first_four 8 0 q.4 q.11 q.10 in
    let m = minor_of q.3 q.9 in
    let e0 : p.0 ≡ 72 = fit_is 0 p.0 72 (λ x. refl) p.6 in
    let e1 : p.1 ≡ 84 = fit_is 1 p.1 84 (λ x. refl) p.7 in
    let e2 : p.2 ≡ 84 = fit_is 2 p.2 84 (λ x. refl) p.8 in
    let e3 : p.3 ≡ 80 = fit_is 3 p.3 80 (λ x. refl) p.9 in
    let e4 : q.0 ≡ 47 = fit_is 4 q.0 47 (λ x. refl) q.6 in
    let e5 : q.1 ≡ 49 = fit_is 5 q.1 49 (λ x. refl) q.7 in
    let e6 : q.2 ≡ 46 = fit_is 6 q.2 46 (λ x. refl) q.8 in
    let e8 : r.0 ≡ 32 = fit_is 8 r.0 32 (λ x. refl) r.6 in
    let none : r.4 ≡ [] = nothing r.4 r.11 in
    let tail8 : q.4 ≡ 32 ∷ r.1 ∷ r.2 ∷ r.3 ∷ [] = r.5 ∙ (λ k. e8 k ∷ r.1 ∷ r.2 ∷ r.3 ∷ none k) in
    let tail4 : p.4 ≡ 47 ∷ 49 ∷ 46 ∷ (48 + m.0) ∷ 32 ∷ r.1 ∷ r.2 ∷ r.3 ∷ [] =
    q.5 ∙ (λ k. e4 k ∷ e5 k ∷ e6 k ∷ m.2 k ∷ tail8 k) in
    let tail0 : bytes ≡ 72 ∷ 84 ∷ 84 ∷ 80 ∷ 47 ∷ 49 ∷ 46 ∷ (48 + m.0) ∷ 32 ∷ r.1 ∷ r.2 ∷ r.3 ∷ [] =
    p.5 ∙ (λ k. e0 k ∷ e1 k ∷ e2 k ∷ e3 k ∷ tail4 k) in (
      m.0,
      r.1,
      r.2,
      r.3,
      m.1,
      tail0,
      All-cons (λ b. IsTrue (is_ascii_digit b)) r.1 (r.2 ∷ r.3 ∷ []) r.7
          (All-cons (λ b. IsTrue (is_ascii_digit b)) r.2 (r.3 ∷ []) r.8
          (All-cons (λ b. IsTrue (is_ascii_digit b)) r.3 [] r.9
          (All-nil (λ b. IsTrue (is_ascii_digit b))))),
    )
  where
    nothing : (xs : List ℕ) → length xs ≡ 0 → xs ≡ []
    nothing [] none = refl
    nothing (x ∷ xs) none = absurd (omega (arith, none))

-- a head with no empty lines before it
to_code : (bytes : List ℕ) (h : ResponseHead) → h.blank ≡ [] → ReadsResponse bytes h []
    → Completes (Code 0) bytes
to_code bytes h none reads =
    let ds = three h.digits reads.0.digits.0 reads.0.digits.1 in
    let front = print_version h.minor ++ 32 ∷ h.digits in
    let rest = print_reason h.reason
    ++ (print_end h.line_end ++ (print_section h.fields h.last ++ [])) in
    let fit : AllFit 0 front = subst (λ (xs : List ℕ). AllFit 0 (print_version h.minor ++ 32 ∷ xs))
    (sym ds.3)
    (code_fits h.minor ds.0 ds.1 ds.2 reads.0.minor ds.4 ds.5 ds.6) in
    let long : length front ≡ 12 = ap (λ (xs : List ℕ). length (print_version h.minor ++ 32 ∷ xs))
    ds.3 in (
      front,
      rest,
      fit,
      omega (arith, long),
      (
        h.reason,
        h.line_end,
        print_section h.fields h.last ++ [],
        reads.0.reason,
        (h.fields, h.last, (reads.0.fields, refl)),
        refl,
      ),
      reads.1 ∙ (code_cut h [] ∙ ap (λ (ends : List LineEnd). print_blank ends ++ (front ++ rest))
          none),
    )

from_code : (bytes : List ℕ) → Completes (Code 0) bytes → IsReply bytes
from_code bytes (
  front,
  rest,
  fit,
  long,
  (reason, end, after, values, (fields, last, section), cut),
  is,
) =
    let code = code_of front (omega (arith, long)) fit in
    let h : ResponseHead =
    record {
      blank = [];
      minor = code.0;
      digits = code.1 ∷ code.2 ∷ code.3 ∷ [];
      reason = reason;
      line_end = end;
      fields = fields;
      last = last;
    } in (
      h,
      (
        record { minor = code.4; digits = (refl, code.6); reason = values; fields = section.0 },
        is
            ∙
            ((λ k. code.5 k ++ (cut
            ∙ ap (λ (xs : List ℕ). print_reason reason ++ (print_end end ++ xs)) section.1) k)
            ∙ sym (code_cut h [])),
      ),
    )

-- ---- one byte

code_first : (b : ℕ) (more : List ℕ) → Completes (Code 0) (b ∷ more) → b ≡ 72
unfolding fits
code_first b more ([], rest, fit, long, ends, is) = absurd (omega (arith, long))
code_first b more (x ∷ xs, rest, fit, long, ends, is) =
    let first : b ≡ x = cc in
    first ∙ fit_is 0 x 72 (λ y. refl) fit.0

-- the head with other empty lines before it
abbrev with_blank : ResponseHead → List LineEnd → ResponseHead
with_blank h ends = record {
  blank = ends;
  minor = h.minor;
  digits = h.digits;
  reason = h.reason;
  line_end = h.line_end;
  fields = h.fields;
  last = h.last;
}

still_good : (h : ResponseHead) (ends : List LineEnd) → IsResponseHead h
    → IsResponseHead (with_blank h ends)
still_good h ends good =
    record { minor = good.minor; digits = good.digits; reason = good.reason; fields = good.fields }

-- the bytes behind them
abbrev behind_blank : ResponseHead → List ℕ
behind_blank h = (print_version h.minor ++ 32 ∷ h.digits)
    ++ (print_reason h.reason ++ (print_end h.line_end ++ (print_section h.fields h.last ++ [])))

abbrev ReplyCases : ℕ → List ℕ → Type 0
ReplyCases b more = ((b ≡ 13) × Completes BeforeReturn more)
    ⊎ (((b ≡ 10) × IsReply more) ⊎ Completes (Code 0) (b ∷ more))

-- what a reply's head begins with
reply_cases : (b : ℕ) (more : List ℕ) → IsReply (b ∷ more) → ReplyCases b more
reply_cases b more (h, reads) = by_blank h.blank refl
  where
    cut : (end : LineEnd) (ends : List LineEnd) → end ∷ ends ≡ h.blank
        → b ∷ more ≡ print_end end ++ (print_blank ends ++ behind_blank h)
    cut end ends same =
        reads.1 ∙ code_cut h []
        ∙ ap (λ (es : List LineEnd). print_blank es ++ behind_blank h) (sym same)
        ∙ ap (λ (xs : List ℕ). xs ++ behind_blank h) (flat_map-cons print_end end ends)
        ∙ append_assoc (print_end end) (print_blank ends) (behind_blank h)

    reply : (ends : List LineEnd) → IsReply (print_blank ends ++ behind_blank h)
    reply ends = (
      with_blank h ends,
      (still_good h ends reads.0, sym (code_cut (with_blank h ends) [])),
    )

    by_blank : (ends : List LineEnd) → ends ≡ h.blank → ReplyCases b more
    by_blank [] none = inr (inr (to_code (b ∷ more) h (sym none) reads))
    by_blank (crlf ∷ ends) same =
        let whole : b ∷ more ≡ 13 ∷ 10 ∷ (print_blank ends ++ behind_blank h) =
        cut crlf ends same in
        let after : more ≡ 10 ∷ (print_blank ends ++ behind_blank h) = cc in
        inl (cc, (print_blank ends ++ behind_blank h, reply ends, after))
    by_blank (lf ∷ ends) same =
        let whole : b ∷ more ≡ 10 ∷ (print_blank ends ++ behind_blank h) = cut lf ends same in
        let after : print_blank ends ++ behind_blank h ≡ more = cc in
        inr (inl (cc, subst IsReply after (reply ends)))

-- one empty line more
one_blank : (end : LineEnd) (bytes : List ℕ) → IsReply bytes → IsReply (print_end end ++ bytes)
one_blank end bytes (h, reads) = (
  with_blank h (end ∷ h.blank),
  (
    still_good h (end ∷ h.blank) reads.0,
    ap (λ (xs : List ℕ). print_end end ++ xs) (reads.1 ∙ code_cut h [])
        ∙ sym (append_assoc (print_end end) (print_blank h.blank) (behind_blank h))
        ∙ ap (λ (xs : List ℕ). xs ++ behind_blank h) (sym (flat_map-cons print_end end h.blank))
        ∙ sym (code_cut (with_blank h (end ∷ h.blank)) []),
  ),
)

pub before_feed : Leads Before 10 Before
before_feed more = (λ reply. by_case 10 refl (reply_cases 10 more reply), one_blank lf more)
  where
    by_case : (b : ℕ) → b ≡ 10 → ReplyCases b more → IsReply more
    by_case b feed (inl (return, rest)) = absurd (omega (arith, feed, return))
    by_case b feed (inr (inl (same, reply))) = reply
    by_case b feed (inr (inr code)) = absurd (omega (arith, feed, code_first b more code))

pub before_return : Leads Before 13 BeforeReturn
before_return more = (λ reply. by_case 13 refl (reply_cases 13 more reply), back)
  where
    by_case : (b : ℕ) → b ≡ 13 → ReplyCases b more → Completes BeforeReturn more
    by_case b return (inl (same, rest)) = rest
    by_case b return (inr (inl (feed, reply))) = absurd (omega (arith, feed, return))
    by_case b return (inr (inr code)) = absurd (omega (arith, return, code_first b more code))

    back : Completes BeforeReturn more → IsReply (13 ∷ more)
    back (rest, reply, is) = subst IsReply (ap (λ (xs : List ℕ). 13 ∷ xs) (sym is))
        (one_blank crlf rest reply)

pub before_code : (b : ℕ) (next : StatusPlace) → b ≢ 10 → b ≢ 13 → Leads (Code 0) b next
    → Leads Before b next
before_code b next feed return leads more = (
  λ reply. (leads more).0 (by_case (reply_cases b more reply)),
  λ completes. from_code (b ∷ more) ((leads more).1 completes),
)
  where
    by_case : ReplyCases b more → Completes (Code 0) (b ∷ more)
    by_case (inl (is_return, rest)) = absurd (return is_return)
    by_case (inr (inl (is_feed, reply))) = absurd (feed is_feed)
    by_case (inr (inr code)) = code

pub return_feed : Leads BeforeReturn 10 Before
return_feed more = (
  λ (rest, reply, is). let same : rest ≡ more = cc in
      subst IsReply same reply,
  λ reply. (more, reply, refl),
)

pub return_other : (b : ℕ) → b ≢ 10 → Leads BeforeReturn b (Fields Refused)
return_other b other more = (
  λ (rest, reply, is). let feed : b ≡ 10 = cc in
      other feed,
  λ none. absurd none,
)

pub code_more : (count b : ℕ) → count < 12 → IsTrue (fits count b)
    → Leads (Code count) b (Code (count + 1))
code_more count b few fit more = (shorter, longer)
  where
    shorter : Completes (Code count) (b ∷ more) → Completes (Code (count + 1)) more
    shorter ([], rest, all, long, ends, is) = absurd (omega (arith, few, long))
    shorter (x ∷ xs, rest, all, long, ends, is) = let after : more ≡ xs ++ rest = cc in
        (xs, rest, all.1, omega (arith, long), ends, after)

    longer : Completes (Code (count + 1)) more → Completes (Code count) (b ∷ more)
    longer (front, rest, all, long, ends, is) =
        (b ∷ front, rest, (fit, all), omega (arith, long), ends, ap (λ (xs : List ℕ). b ∷ xs) is)

pub code_other : (count b : ℕ) → count < 12 → fits count b ≡ false
    → Leads (Code count) b (Fields Refused)
code_other count b few other more = (refuted, λ none. absurd none)
  where
    refuted : Completes (Code count) (b ∷ more) → ⊥
    refuted ([], rest, all, long, ends, is) = omega (arith, few, long)
    refuted (x ∷ xs, rest, all, long, ends, is) =
        let first : b ≡ x = cc in
        let fit : fits count b ≡ true = subst (λ (y : ℕ). fits count y ≡ true) (sym first) all.0 in
        cc

-- more bytes than a version and a code have can't have come
pub code_past : (count b : ℕ) → 12 < count → Leads (Code count) b (Fields Refused)
code_past count b many more =
    (λ (front, rest, all, long, ends, is). omega (arith, many, long), λ none. absurd none)

-- behind the code
behind : (count : ℕ) (bytes : List ℕ) → count ≡ 12 → Completes (Code count) bytes → EndsLine bytes
behind count bytes whole ([], rest, all, long, ends, is) = subst EndsLine (sym is) ends
behind count bytes whole (x ∷ xs, rest, all, long, ends, is) = absurd (omega (arith, whole, long))

ahead : (count : ℕ) (bytes : List ℕ) → count ≡ 12 → EndsLine bytes → Completes (Code count) bytes
ahead count bytes whole ends = ([], bytes, tt, omega (arith, whole), ends, refl)

-- what a byte behind the code is, and what follows it
line_cases : (b : ℕ) (more : List ℕ) → EndsLine (b ∷ more)
    → ((b ≡ 32) × EndsField more)
    ⊎ (((b ≡ 13) × CompletesFields ValueReturn more) ⊎ ((b ≡ 10) × IsSection more))
line_cases b more (None, crlf, rest, values, section, is) =
    let first : b ≡ 13 = cc in
    let after : more ≡ 10 ∷ rest = cc in
    inr (inl (first, (rest, section, after)))
line_cases b more (None, lf, rest, values, section, is) =
    let first : b ≡ 10 = cc in
    let after : rest ≡ more = cc in
    inr (inr (first, subst IsSection after section))
line_cases b more (Some phrase, end, rest, values, section, is) =
    let first : b ≡ 32 = cc in
    let after : more ≡ phrase ++ (print_end end ++ rest) = cc in
    inl (first, (phrase, end, rest, values, section, after))

to_value : (more : List ℕ) → EndsLine (32 ∷ more) → EndsField more
to_value more ends = by_case (line_cases 32 more ends)
  where
    by_case : ((◌≡◌ {A = ℕ} 32 32) × EndsField more)
        ⊎ (((◌≡◌ {A = ℕ} 32 13) × CompletesFields ValueReturn more)
        ⊎ ((◌≡◌ {A = ℕ} 32 10) × IsSection more)) → EndsField more
    by_case (inl (same, field)) = field
    by_case (inr (inl (same, rest))) = absurd (omega (arith, same))
    by_case (inr (inr (same, rest))) = absurd (omega (arith, same))

to_return : (more : List ℕ) → EndsLine (13 ∷ more) → CompletesFields ValueReturn more
to_return more ends = by_case (line_cases 13 more ends)
  where
    by_case : ((◌≡◌ {A = ℕ} 13 32) × EndsField more)
        ⊎ (((◌≡◌ {A = ℕ} 13 13) × CompletesFields ValueReturn more)
        ⊎ ((◌≡◌ {A = ℕ} 13 10) × IsSection more)) → CompletesFields ValueReturn more
    by_case (inl (same, field)) = absurd (omega (arith, same))
    by_case (inr (inl (same, rest))) = rest
    by_case (inr (inr (same, rest))) = absurd (omega (arith, same))

to_start : (more : List ℕ) → EndsLine (10 ∷ more) → IsSection more
to_start more ends = by_case (line_cases 10 more ends)
  where
    by_case : ((◌≡◌ {A = ℕ} 10 32) × EndsField more)
        ⊎ (((◌≡◌ {A = ℕ} 10 13) × CompletesFields ValueReturn more)
        ⊎ ((◌≡◌ {A = ℕ} 10 10) × IsSection more)) → IsSection more
    by_case (inl (same, field)) = absurd (omega (arith, same))
    by_case (inr (inl (same, rest))) = absurd (omega (arith, same))
    by_case (inr (inr (same, rest))) = rest

from_value : (more : List ℕ) → EndsField more → EndsLine (32 ∷ more)
from_value more (phrase, end, rest, values, section, is) =
    (Some phrase, end, rest, values, section, ap (λ (xs : List ℕ). 32 ∷ xs) is)

from_return : (more : List ℕ) → CompletesFields ValueReturn more → EndsLine (13 ∷ more)
from_return more (rest, section, is) = (
  None,
  crlf,
  rest,
  All-nil (λ b. IsTrue (is_value_byte b)),
  section,
  ap (λ (xs : List ℕ). 13 ∷ xs) is,
)

from_start : (more : List ℕ) → IsSection more → EndsLine (10 ∷ more)
from_start more section = (None, lf, more, All-nil (λ b. IsTrue (is_value_byte b)), section, refl)

pub code_blank : (count : ℕ) → count ≡ 12 → Leads (Code count) 32 (Fields Value)
code_blank count whole more = (
  λ completes. to_value more (behind count (32 ∷ more) whole completes),
  λ ends. ahead count (32 ∷ more) whole (from_value more ends),
)

pub code_return : (count : ℕ) → count ≡ 12 → Leads (Code count) 13 (Fields ValueReturn)
code_return count whole more = (
  λ completes. to_return more (behind count (13 ∷ more) whole completes),
  λ rest. ahead count (13 ∷ more) whole (from_return more rest),
)

pub code_feed : (count : ℕ) → count ≡ 12 → Leads (Code count) 10 (Fields Start)
code_feed count whole more = (
  λ completes. to_start more (behind count (10 ∷ more) whole completes),
  λ section. ahead count (10 ∷ more) whole (from_start more section),
)

pub code_end : (count b : ℕ) → count ≡ 12 → b ≢ 32 → b ≢ 13 → b ≢ 10
    → Leads (Code count) b (Fields Refused)
code_end count b whole blank return feed more =
    (λ completes. refuted (behind count (b ∷ more) whole completes), λ none. absurd none)
  where
    refuted : EndsLine (b ∷ more) → ⊥
    refuted (None, crlf, rest, values, section, is) = let first : b ≡ 13 = cc in return first
    refuted (None, lf, rest, values, section, is) = let first : b ≡ 10 = cc in feed first
    refuted (Some phrase, end, rest, values, section, is) = let first : b ≡ 32 = cc in blank first

-- ---- the bytes so far

-- something has to follow at each place before the end
must_follow : (place : StatusPlace) → is_at_end place ≡ false → Completes place [] → ⊥
must_follow Before open_ (h, reads) = nothing (print_blank h.blank) _ (reads.1 ∙ code_cut h [])
  where
    nothing : (xs rest : List ℕ) → [] ≡ xs ++ 72 ∷ rest → ⊥
    nothing [] rest is = cc
    nothing (x ∷ xs) rest is = cc
must_follow BeforeReturn open_ (rest, reply, is) = cc
must_follow (Code count) open_ ([], rest, all, long, ends, is) = nothing ends
  where
    nothing : EndsLine rest → ⊥
    nothing (None, crlf, after, values, section, cut) = cc
    nothing (None, lf, after, values, section, cut) = cc
    nothing (Some phrase, end, after, values, section, cut) = cc
must_follow (Code count) open_ (x ∷ xs, rest, all, long, ends, is) = cc
must_follow (Fields place) open_ completes = fields_must_follow place open_ completes

fit_drop : (k place : ℕ) (bytes : List ℕ) → AllFit place bytes → AllFit (place + k) (drop k bytes)
fit_drop zero place bytes all = let same : place + 0 ≡ place = omega arith in
    subst (λ (n : ℕ). AllFit n bytes) (sym same) all
fit_drop (suc k) place [] all = tt
fit_drop (suc k) place (b ∷ bytes) all =
    let same : (place + 1) + k ≡ place + suc k = omega arith in
    subst (λ (n : ℕ). AllFit n (drop k bytes)) same (fit_drop k (place + 1) bytes all.1)

abbrev some_code : List ℕ
some_code = 72 ∷ 84 ∷ 84 ∷ 80 ∷ 47 ∷ 49 ∷ 46 ∷ 49 ∷ 32 ∷ 50 ∷ 48 ∷ 48 ∷ []

some_code_fits : AllFit 0 some_code
unfolding fits
some_code_fits = code_fits 1 50 48 48 (omega arith) refl refl refl

some_code_long : length some_code ≡ 12
some_code_long = refl

-- and something may
code_follows : (count : ℕ) → count ≤ 12 → (more : List ℕ) × Completes (Code count) more
code_follows count few =
    let front = drop count some_code in
    let same : 0 + count ≡ count = omega arith in
    let end = fields_may_follow Start refl in
    let ends : EndsLine (10 ∷ end.0) = from_start end.0 end.1 in (
      front ++ 10 ∷ end.0,
      (
        front,
        10 ∷ end.0,
        subst (λ (n : ℕ). AllFit n front) same (fit_drop count 0 some_code some_code_fits),
        omega (arith, few, length-drop count some_code, some_code_long),
        ends,
        refl,
      ),
    )

may_follow : (place : StatusPlace) → is_at_end place ≡ false
    → (more : List ℕ) × Completes place more
may_follow Before open_ =
    let code = code_follows 0 (omega arith) in
    (code.0, from_code code.0 code.1)
may_follow BeforeReturn open_ =
    let code = code_follows 0 (omega arith) in
    (10 ∷ code.0, (code.0, from_code code.0 code.1, refl))
may_follow (Code count) open_ = code_follows count (grind (arith, nat_tests, open_))
may_follow (Fields place) open_ = fields_may_follow place open_

-- nothing has come
pub tracks_first : Tracks [] Before
tracks_first = record {
  followed = [];
  behind = [];
  joins = λ more reply. reply;
  splits = λ more begins. begins;
  all = refl;
  none_behind = λ open_. refl;
}

-- one byte more
pub tracks_more : (bytes : List ℕ) (place next : StatusPlace) (b : ℕ) → is_at_end place ≡ false
    → Leads place b next → Tracks bytes place
    → Tracks (bytes ++ b ∷ []) next
tracks_more bytes place next b open_ leads tracks = record {
  followed = tracks.followed ++ b ∷ [];
  behind = [];
  joins = λ more completes. subst IsReply (sym (append_assoc tracks.followed (b ∷ []) more))
      (tracks.joins (b ∷ more) ((leads more).1 completes));
  splits = λ more begins. by_front more
      (tracks.splits (b ∷ more)
      (subst (Begins Before) (append_assoc tracks.followed (b ∷ []) more) begins));
  all = ap (λ (xs : List ℕ). xs ++ b ∷ [])
      (tracks.all ∙ (ap (λ (xs : List ℕ). tracks.followed ++ xs) (tracks.none_behind open_)
      ∙ append-nil tracks.followed))
      ∙ sym (append-nil (tracks.followed ++ b ∷ []));
  none_behind = λ still. refl;
}
  where
    by_front : (more : List ℕ) → Begins place (b ∷ more) → Begins next more
    by_front more ([], rest, completes, is) = absurd (must_follow place open_ completes)
    by_front more (x ∷ xs, rest, completes, is) =
        let first : x ≡ b = cc in
        let after : more ≡ xs ++ rest = cc in (
          xs,
          rest,
          (leads xs).0 (subst (λ (y : ℕ). Completes place (y ∷ xs)) first completes),
          after,
        )

-- any bytes behind the end
pub tracks_behind : (bytes more : List ℕ) (place : StatusPlace) → is_at_end place ≡ true
    → Tracks bytes place → Tracks (bytes ++ more) place
tracks_behind bytes more place end tracks = record {
  followed = tracks.followed;
  behind = tracks.behind ++ more;
  joins = tracks.joins;
  splits = tracks.splits;
  all = ap (λ (xs : List ℕ). xs ++ more) tracks.all
      ∙ append_assoc tracks.followed tracks.behind more;
  none_behind = λ open_. absurd (cc);
}

-- bytes at an open place show no head and no refusal
pub open_reply : (bytes : List ℕ) (place : StatusPlace) → is_at_end place ≡ false
    → Tracks bytes place → IsOpenReply bytes
open_reply bytes place open_ tracks = (none, may)
  where
    all : bytes ≡ tracks.followed
    all = tracks.all ∙ (ap (λ (xs : List ℕ). tracks.followed ++ xs) (tracks.none_behind open_)
        ∙ append-nil tracks.followed)

    nothing : Begins place [] → ⊥
    nothing ([], after, completes, is) = must_follow place open_ completes
    nothing (x ∷ xs, after, completes, is) = cc

    none : HasNoResponse bytes
    none h rest reads =
        let begins : Begins Before (tracks.followed ++ []) = (
          print_response h,
          rest,
          (h, (reads.0, sym (append-nil (print_response h)))),
          append-nil tracks.followed ∙ (sym all ∙ reads.1),
        ) in
        nothing (tracks.splits [] begins)

    may : MayBecomeResponse bytes
    may =
        let more = may_follow place open_ in
        let reply = tracks.joins more.0 more.1 in (
          more.0,
          reply.0,
          subst (λ (xs : List ℕ). ReadsResponse (xs ++ more.0) reply.0 [])
              (sym all) reply.1,
        )

-- bytes at the end are decided
pub decided_reply : (bytes : List ℕ) (place : StatusPlace) → is_at_end place ≡ true
    → Tracks bytes place → IsDecidedReply bytes
decided_reply bytes place end tracks = by_place place end tracks
  where
    never : (p : StatusPlace) → Tracks bytes p → ((xs : List ℕ) → Completes p xs → ⊥)
        → NeverHasResponse bytes
    never p t none more h rest reads =
        let whole : t.followed ++ (t.behind ++ more) ≡ print_response h ++ rest =
        sym (append_assoc t.followed t.behind more)
        ∙ (ap (λ (xs : List ℕ). xs ++ more) (sym t.all) ∙ reads.1) in
        let begins = t.splits (t.behind ++ more)
        (print_response h, rest, (h, (reads.0, sym (append-nil (print_response h)))), whole) in
        none begins.0 begins.2

    by_place : (p : StatusPlace) → is_at_end p ≡ true → Tracks bytes p → IsDecidedReply bytes
    by_place Before e t = absurd (cc)
    by_place BeforeReturn e t = absurd (cc)
    by_place (Code count) e t =
        let many : 12 < count = grind (arith, nat_tests, e) in
        inr (never (Code count) t (λ xs (front, rest, all, long, ends, is).
        omega (arith, many, long)))
    by_place (Fields Ended) e t =
        let reply = t.joins [] refl in
        let longer = ReadsResponse-append (t.followed ++ []) reply.0 [] t.behind reply.1 in
        inl (
          reply.0,
          t.behind,
          subst (λ (xs : List ℕ). ReadsResponse xs reply.0 t.behind)
              (ap (λ (xs : List ℕ). xs ++ t.behind) (append-nil t.followed) ∙ sym t.all) longer,
        )
    by_place (Fields Refused) e t = inr (never (Fields Refused) t (λ xs none. none))
    by_place (Fields Start) e t = absurd (cc)
    by_place (Fields Name) e t = absurd (cc)
    by_place (Fields Value) e t = absurd (cc)
    by_place (Fields ValueReturn) e t = absurd (cc)
    by_place (Fields LastReturn) e t = absurd (cc)

-- ---- many bytes

pub tracks_byte : (before bytes : List ℕ) (k : ℕ) (place : StatusPlace) → k < length bytes
    → Tracks ((before ++ take k bytes) ++ get_or bytes k 0 ∷ []) place
    → Tracks (before ++ take (k + 1) bytes) place
tracks_byte before bytes k place less tracks =
    let more : (before ++ take k bytes) ++ get_or bytes k 0 ∷ [] ≡ before ++ take (k + 1) bytes =
    append_assoc before (take k bytes) (get_or bytes k 0 ∷ [])
    ∙ ap (λ (xs : List ℕ). before ++ xs) (sym (take_more bytes k 0 less)) in
    subst (λ (xs : List ℕ). Tracks xs place) more tracks

pub tracks_all : (before bytes : List ℕ) (k : ℕ) (place : StatusPlace) → is_at_end place ≡ true
    → Tracks (before ++ take k bytes) place
    → Tracks (before ++ bytes) place
tracks_all before bytes k place end tracks =
    subst (λ (xs : List ℕ). Tracks xs place)
    (append_assoc before (take k bytes) (drop k bytes)
    ∙ ap (λ (xs : List ℕ). before ++ xs) (take-append-drop k bytes))
    (tracks_behind (before ++ take k bytes) (drop k bytes) place end tracks)
