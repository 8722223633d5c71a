-- How one byte leads from place to place in the field lines.
use Rattle.std.proofs.Common.{◌≡◌, ◌≢◌, ◌↔◌, ◌⊎◌, inl, inr, ℕ, Bool, true, false, List, [], ◌∷◌}
use Rattle.std.proofs.Common.{◌++◌, length, eqb, cond, refl, sym, ap, ◌∙◌, subst, arith, IsTrue}
use Rattle.std.proofs.Common.{append_assoc}
use Rattle.std.specs.List.{flat_map}
use Rattle.std.proofs.lemmas.Bool.Decides.{nat_tests}
use Rattle.std.proofs.lemmas.List.Concat.{flat_map-cons}
use Rattle.std.proofs.lemmas.List.Elements.{All-nil, All-cons, All-head, All-tail}
use Rattle.httparse.specs.Grammar.{LineEnd, crlf, lf, print_end, Field, IsField, print_field}
use Rattle.httparse.specs.Grammar.{print_section, AllPass, is_token_byte, is_value_byte}
use Rattle.http_wire.specs.declared.section.Place.{Place}
use Rattle.http_wire.specs.declared.section.Place.TheVariants.{Start, Name, Value, ValueReturn}
use Rattle.http_wire.specs.declared.section.Place.TheVariants.{LastReturn, Ended, Refused}
use Rattle.http_wire.specs.Places.{IsSection, EndsField, Completes, Leads, is_over, Begins, Reaches}

-- ---- the classes of bytes

token_colon : IsTrue (is_token_byte 58) → ⊥
unfolding is_token_byte
token_colon token = cc

token_feed : IsTrue (is_token_byte 10) → ⊥
unfolding is_token_byte
token_feed token = cc

token_return : IsTrue (is_token_byte 13) → ⊥
unfolding is_token_byte
token_return token = cc

value_feed : IsTrue (is_value_byte 10) → ⊥
value_feed value = cc

value_return : IsTrue (is_value_byte 13) → ⊥
value_return value = cc

-- ---- sections

-- for `simp`, which does not compute it
cons-append : (x : ℕ) (a b : List ℕ) → (x ∷ a) ++ b ≡ x ∷ (a ++ b)
cons-append x a b = refl

-- the bytes of a section whose first field is this one
cut_first : (f : Field) (fs : List Field) (last : LineEnd)
    → print_section (f ∷ fs) last ++ [] ≡ f.name ++ 58
    ∷ (f.raw ++ (print_end f.end ++ (print_section fs last ++ [])))
cut_first f fs last =
    ap (λ (xs : List ℕ). (xs ++ print_end last) ++ []) (flat_map-cons print_field f fs)
    ∙ regroup f.name f.raw (print_end f.end) (flat_map print_field fs) (print_end last)
  where
    regroup : (a b c d e : List ℕ) → (((a ++ 58 ∷ b ++ c) ++ d) ++ e) ++ []
        ≡ a ++ 58 ∷ (b ++ (c ++ ((d ++ e) ++ [])))
    regroup a b c d e = simp (append_assoc, cons-append)

-- one field more in front of a section
section_more : (f : Field) (rest : List ℕ) → IsField f → IsSection rest
    → IsSection (f.name ++ 58 ∷ (f.raw ++ (print_end f.end ++ rest)))
section_more f rest field (fields, last, reads) = (
  f ∷ fields,
  last,
  (
    All-cons IsField f fields field reads.0,
    ap (λ (xs : List ℕ). f.name ++ 58 ∷ (f.raw ++ (print_end f.end ++ xs))) reads.1
        ∙ sym (cut_first f fields last),
  ),
)

-- what a byte is that a section, the rest of a name, the rest of a value begins with, and what
-- follows it
abbrev StartCases : ℕ → List ℕ → Type 0
StartCases b more = ((b ≡ 13) × (more ≡ 10 ∷ []))
    ⊎ (((b ≡ 10) × (more ≡ [])) ⊎ (IsTrue (is_token_byte b) × Completes Name more))

abbrev NameCases : ℕ → List ℕ → Type 0
NameCases b more = ((b ≡ 58) × EndsField more) ⊎ (IsTrue (is_token_byte b) × Completes Name more)

abbrev ValueCases : ℕ → List ℕ → Type 0
ValueCases b more = ((b ≡ 10) × IsSection more)
    ⊎ (((b ≡ 13) × Completes ValueReturn more) ⊎ (IsTrue (is_value_byte b) × EndsField more))

-- what a section begins with: its end, or a field's name
section_cases : (b : ℕ) (more : List ℕ) → IsSection (b ∷ more)
    → StartCases b more
section_cases b more ([], crlf, reads) = let e = reads.1 in inl (cc, cc)
section_cases b more ([], lf, reads) = let e = reads.1 in inr (inl (cc, cc))
section_cases b more (f ∷ fs, last, reads) =
    by_name f.name refl (All-head IsField f fs reads.0).name.1 (reads.1 ∙ cut_first f fs last)
  where
    by_name : (name : List ℕ) → name ≡ f.name → AllPass is_token_byte f.name
        → b ∷ more ≡ f.name ++ 58 ∷ (f.raw ++ (print_end f.end ++ (print_section fs last ++ [])))
        → StartCases b more
    by_name [] same all e =
        let some = (All-head IsField f fs reads.0).name.0 in
        absurd (omega (arith, some, ap length same))
    by_name (n ∷ ns) same all e =
        let parts : b ∷ more ≡ n
        ∷ (ns ++ 58 ∷ (f.raw ++ (print_end f.end ++ (print_section fs last ++ [])))) =
        e ∙ ap (λ (xs : List ℕ). xs ++ 58
        ∷ (f.raw ++ (print_end f.end ++ (print_section fs last ++ [])))) (sym same) in
        let first : b ≡ n = cc in
        let after : more ≡ ns ++ 58 ∷ (f.raw ++ (print_end f.end ++ (print_section fs last ++ [])))
        = cc in
        let tokens : AllPass is_token_byte (n ∷ ns) =
        subst (AllPass is_token_byte) (sym same) all in
        inr (
        inr (
          subst (λ (x : ℕ). IsTrue (is_token_byte x)) (sym first)
              (All-head (λ x. IsTrue (is_token_byte x)) n ns tokens),
          (
            ns,
            f.raw ++ (print_end f.end ++ (print_section fs last ++ [])),
            All-tail (λ x. IsTrue (is_token_byte x)) n ns tokens,
            (
              f.raw,
              f.end,
              print_section fs last ++ [],
              (All-head IsField f fs reads.0).raw,
              (fs, last, (All-tail IsField f fs reads.0, refl)),
              refl,
            ),
            after,
          ),
        )
        )

-- a name's first byte, and the rest of its field and what follows, are a section
named_section : (b : ℕ) (more : List ℕ) → IsTrue (is_token_byte b) → Completes Name more
    → IsSection (b ∷ more)
named_section b more token (name, rest, tokens, (raw, end, after, values, section, cut), is) =
    subst IsSection (ap (λ (xs : List ℕ). b ∷ xs)
    (ap (λ (xs : List ℕ). name ++ 58 ∷ xs) (sym cut) ∙ sym is))
    (section_more (record { name = b ∷ name; raw = raw; end = end }) after
    (record {
      name = (omega arith, All-cons (λ x. IsTrue (is_token_byte x)) b name token tokens);
      raw = values;
    }) section)

-- what the rest of a name begins with
name_cases : (b : ℕ) (more : List ℕ) → Completes Name (b ∷ more) → NameCases b more
name_cases b more ([], rest, tokens, ends, is) =
    let after : rest ≡ more = cc in
    inl (cc, subst EndsField after ends)
name_cases b more (n ∷ ns, rest, tokens, ends, is) =
    let first : n ≡ b = cc in
    let after : more ≡ ns ++ 58 ∷ rest = cc in
    inr (
      subst (λ (x : ℕ). IsTrue (is_token_byte x)) first
          (All-head (λ x. IsTrue (is_token_byte x)) n ns tokens),
      (ns, rest, All-tail (λ x. IsTrue (is_token_byte x)) n ns tokens, ends, after),
    )

-- what the rest of a value begins with
value_cases : (b : ℕ) (more : List ℕ) → EndsField (b ∷ more)
    → ValueCases b more
value_cases b more ([], crlf, rest, values, section, is) =
    let after : more ≡ 10 ∷ rest = cc in
    inr (inl (cc, (rest, section, after)))
value_cases b more ([], lf, rest, values, section, is) =
    let after : rest ≡ more = cc in
    inl (cc, subst IsSection after section)
value_cases b more (v ∷ vs, end, rest, values, section, is) =
    let first : v ≡ b = cc in
    let after : more ≡ vs ++ (print_end end ++ rest) = cc in
    inr (
    inr (
      subst (λ (x : ℕ). IsTrue (is_value_byte x)) first
          (All-head (λ x. IsTrue (is_value_byte x)) v vs values),
      (vs, end, rest, All-tail (λ x. IsTrue (is_value_byte x)) v vs values, section, after),
    )
    )

-- ---- a line's first byte

pub start_return : Leads Start 13 LastReturn
start_return more = (
  λ section. by_case 13 refl (section_cases 13 more section),
  λ last. subst (λ (xs : List ℕ). IsSection (13 ∷ xs)) (sym last)
      ([], crlf, (All-nil IsField, refl)),
)
  where
    by_case : (b : ℕ) → b ≡ 13 → StartCases b more → more ≡ 10 ∷ []
    by_case b return (inl (same, is)) = is
    by_case b return (inr (inl (feed, is))) = absurd (omega (arith, return, feed))
    by_case b return (inr (inr (token, rest))) =
        absurd (token_return (subst (λ (x : ℕ). IsTrue (is_token_byte x)) return token))

pub start_feed : Leads Start 10 Ended
start_feed more = (
  λ section. by_case 10 refl (section_cases 10 more section),
  λ none. subst (λ (xs : List ℕ). IsSection (10 ∷ xs)) (sym none) ([], lf, (All-nil IsField, refl)),
)
  where
    by_case : (b : ℕ) → b ≡ 10 → StartCases b more → more ≡ []
    by_case b feed (inl (return, is)) = absurd (omega (arith, feed, return))
    by_case b feed (inr (inl (same, is))) = is
    by_case b feed (inr (inr (token, rest))) =
        absurd (token_feed (subst (λ (x : ℕ). IsTrue (is_token_byte x)) feed token))

pub start_token : (b : ℕ) → IsTrue (is_token_byte b) → Leads Start b Name
start_token b token more =
    (λ section. by_case (section_cases b more section), named_section b more token)
  where
    by_case : StartCases b more → Completes Name more
    by_case (inl (return, is)) = absurd
        (token_return (subst (λ (x : ℕ). IsTrue (is_token_byte x)) return token))
    by_case (inr (inl (feed, is))) = absurd
        (token_feed (subst (λ (x : ℕ). IsTrue (is_token_byte x)) feed token))
    by_case (inr (inr (same, rest))) = rest

pub start_other : (b : ℕ) → b ≢ 13 → b ≢ 10 → is_token_byte b ≡ false → Leads Start b Refused
start_other b return feed other more =
    (λ section. by_case (section_cases b more section), λ none. absurd none)
  where
    by_case : StartCases b more → ⊥
    by_case (inl (is_return, is)) = return is_return
    by_case (inr (inl (is_feed, is))) = feed is_feed
    by_case (inr (inr (token, rest))) = cc

-- ---- a byte of a name

pub name_colon : Leads Name 58 Value
name_colon more = (
  λ name. by_case 58 refl (name_cases 58 more name),
  λ ends. ([], more, All-nil (λ x. IsTrue (is_token_byte x)), ends, refl),
)
  where
    by_case : (b : ℕ) → b ≡ 58 → NameCases b more → EndsField more
    by_case b colon (inl (same, ends)) = ends
    by_case b colon (inr (token, rest)) =
        absurd (token_colon (subst (λ (x : ℕ). IsTrue (is_token_byte x)) colon token))

pub name_token : (b : ℕ) → IsTrue (is_token_byte b) → Leads Name b Name
name_token b token more = (λ name. by_case (name_cases b more name), longer)
  where
    by_case : NameCases b more → Completes Name more
    by_case (inl (colon, ends)) = absurd
        (token_colon (subst (λ (x : ℕ). IsTrue (is_token_byte x)) colon token))
    by_case (inr (same, rest)) = rest

    longer : Completes Name more → Completes Name (b ∷ more)
    longer (name, rest, tokens, ends, is) = (
      b ∷ name,
      rest,
      All-cons (λ x. IsTrue (is_token_byte x)) b name token tokens,
      ends,
      ap (λ (xs : List ℕ). b ∷ xs) is,
    )

pub name_other : (b : ℕ) → b ≢ 58 → is_token_byte b ≡ false → Leads Name b Refused
name_other b colon other more = (λ name. by_case (name_cases b more name), λ none. absurd none)
  where
    by_case : NameCases b more → ⊥
    by_case (inl (is_colon, ends)) = colon is_colon
    by_case (inr (token, rest)) = cc

-- ---- a byte of a value

pub value_line : Leads Value 10 Start
value_line more = (
  λ ends. by_case 10 refl (value_cases 10 more ends),
  λ section. ([], lf, more, All-nil (λ x. IsTrue (is_value_byte x)), section, refl),
)
  where
    by_case : (b : ℕ) → b ≡ 10 → ValueCases b more → IsSection more
    by_case b feed (inl (same, section)) = section
    by_case b feed (inr (inl (return, rest))) = absurd (omega (arith, feed, return))
    by_case b feed (inr (inr (value, rest))) =
        absurd (value_feed (subst (λ (x : ℕ). IsTrue (is_value_byte x)) feed value))

pub value_behind : Leads Value 13 ValueReturn
value_behind more = (λ ends. by_case 13 refl (value_cases 13 more ends), back)
  where
    by_case : (b : ℕ) → b ≡ 13 → ValueCases b more → Completes ValueReturn more
    by_case b return (inl (feed, section)) = absurd (omega (arith, return, feed))
    by_case b return (inr (inl (same, rest))) = rest
    by_case b return (inr (inr (value, rest))) =
        absurd (value_return (subst (λ (x : ℕ). IsTrue (is_value_byte x)) return value))

    back : Completes ValueReturn more → EndsField (13 ∷ more)
    back (rest, section, is) = (
      [],
      crlf,
      rest,
      All-nil (λ x. IsTrue (is_value_byte x)),
      section,
      ap (λ (xs : List ℕ). 13 ∷ xs) is,
    )

pub value_more : (b : ℕ) → IsTrue (is_value_byte b) → Leads Value b Value
value_more b value more = (λ ends. by_case (value_cases b more ends), longer)
  where
    by_case : ValueCases b more → EndsField more
    by_case (inl (feed, section)) = absurd
        (value_feed (subst (λ (x : ℕ). IsTrue (is_value_byte x)) feed value))
    by_case (inr (inl (return, rest))) =
        absurd (value_return (subst (λ (x : ℕ). IsTrue (is_value_byte x)) return value))
    by_case (inr (inr (same, rest))) = rest

    longer : EndsField more → EndsField (b ∷ more)
    longer (raw, end, rest, values, section, is) = (
      b ∷ raw,
      end,
      rest,
      All-cons (λ x. IsTrue (is_value_byte x)) b raw value values,
      section,
      ap (λ (xs : List ℕ). b ∷ xs) is,
    )

pub value_other : (b : ℕ) → b ≢ 10 → b ≢ 13 → is_value_byte b ≡ false → Leads Value b Refused
value_other b feed return other more =
    (λ ends. by_case (value_cases b more ends), λ none. absurd none)
  where
    by_case : ValueCases b more → ⊥
    by_case (inl (is_feed, section)) = feed is_feed
    by_case (inr (inl (is_return, rest))) = return is_return
    by_case (inr (inr (value, rest))) = cc

-- ---- a byte that has to be a line feed

pub return_leads : (b : ℕ) → Leads ValueReturn b (cond (eqb b 10) Start Refused)
return_leads b more = by_test (eqb b 10) refl
  where
    by_test : (t : Bool) → eqb b 10 ≡ t → Completes ValueReturn (b ∷ more)
        ↔ Completes (cond t Start Refused) more
    by_test true test =
        let feed : b ≡ 10 = grind (arith, nat_tests, test) in (
          λ (rest, section, is). let same : rest ≡ more = cc in subst IsSection same section,
          λ section. (more, section, ap (λ (x : ℕ). x ∷ more) feed),
        )
    by_test false test = (
      λ (rest, section, is). let feed : b ≡ 10 = cc in
          grind (arith, nat_tests, test, feed),
      λ none. absurd none,
    )

pub last_leads : (b : ℕ) → Leads LastReturn b (cond (eqb b 10) Ended Refused)
last_leads b more = by_test (eqb b 10) refl
  where
    by_test : (t : Bool) → eqb b 10 ≡ t → (b ∷ more ≡ 10 ∷ [])
        ↔ Completes (cond t Ended Refused) more
    by_test true test =
        let feed : b ≡ 10 = grind (arith, nat_tests, test) in (
          λ is. cc,
          λ none. (λ k. feed k ∷ none k),
        )
    by_test false test = (
      λ is. let feed : b ≡ 10 = cc in
          grind (arith, nat_tests, test, feed),
      λ none. absurd none,
    )

-- behind the end nothing follows
pub ended_leads : (b : ℕ) → Leads Ended b Refused
ended_leads b more = (λ is. cc, λ none. absurd none)

pub refused_leads : (b : ℕ) → Leads Refused b Refused
refused_leads b more = (λ none. none, λ none. none)

-- ---- the bytes so far

-- something may follow at each place before the end
pub may_follow : (place : Place) → is_over place ≡ false → (more : List ℕ) × Completes place more
may_follow Start open_ = (10 ∷ [], ([], lf, (All-nil IsField, refl)))
may_follow Name open_ = (
  58 ∷ 10 ∷ 10 ∷ [],
  (
    [],
    10 ∷ 10 ∷ [],
    All-nil (λ x. IsTrue (is_token_byte x)),
    (
      [],
      lf,
      10 ∷ [],
      All-nil (λ x. IsTrue (is_value_byte x)),
      ([], lf, (All-nil IsField, refl)),
      refl,
    ),
    refl,
  ),
)
may_follow Value open_ = (
  10 ∷ 10 ∷ [],
  (
    [],
    lf,
    10 ∷ [],
    All-nil (λ x. IsTrue (is_value_byte x)),
    ([], lf, (All-nil IsField, refl)),
    refl,
  ),
)
may_follow ValueReturn open_ = (10 ∷ 10 ∷ [], (10 ∷ [], ([], lf, (All-nil IsField, refl)), refl))
may_follow LastReturn open_ = (10 ∷ [], refl)
may_follow Ended over = absurd (cc)
may_follow Refused over = absurd (cc)

-- and something has to
pub must_follow : (place : Place) → is_over place ≡ false → Completes place [] → ⊥
must_follow Start open_ ([], crlf, reads) = let e = reads.1 in cc
must_follow Start open_ ([], lf, reads) = let e = reads.1 in cc
must_follow Start open_ (f ∷ fs, last, reads) =
    nothing f.name (f.raw ++ (print_end f.end ++ (print_section fs last ++ [])))
    (reads.1 ∙ cut_first f fs last)
  where
    nothing : (name rest : List ℕ) → [] ≡ name ++ 58 ∷ rest → ⊥
    nothing [] rest e = cc
    nothing (n ∷ ns) rest e = cc
must_follow Name open_ ([], rest, tokens, ends, is) = cc
must_follow Name open_ (n ∷ ns, rest, tokens, ends, is) = cc
must_follow Value open_ ([], crlf, rest, values, section, is) = cc
must_follow Value open_ ([], lf, rest, values, section, is) = cc
must_follow Value open_ (v ∷ vs, end, rest, values, section, is) = cc
must_follow ValueReturn open_ (rest, section, is) = cc
must_follow LastReturn open_ is = cc
must_follow Ended over is = cc
must_follow Refused over is = is

-- nothing has come at the first place
pub reaches_start : Reaches [] Start
reaches_start = record { joins = λ more section. section; splits = λ more begins. begins }

-- one byte more
pub reaches_more : (bytes : List ℕ) (place next : Place) (b : ℕ) → Reaches bytes place
    → is_over place ≡ false → Leads place b next
    → Reaches (bytes ++ b ∷ []) next
reaches_more bytes place next b reached open_ leads = record {
  joins = λ more completes. subst IsSection (sym (append_assoc bytes (b ∷ []) more))
      (reached.joins (b ∷ more) ((leads more).1 completes));
  splits = λ more begins. by_front more
      (reached.splits (b ∷ more) (subst (Begins Start) (append_assoc bytes (b ∷ []) more) begins));
}
  where
    by_front : (more : List ℕ) → Begins place (b ∷ more) → Begins next more
    by_front more ([], rest, completes, is) = absurd (must_follow place open_ completes)
    by_front more (x ∷ xs, rest, completes, is) =
        let first : x ≡ b = cc in
        let after : more ≡ xs ++ rest = cc in (
          xs,
          rest,
          (leads xs).0 (subst (λ (y : ℕ). Completes place (y ∷ xs)) first completes),
          after,
        )
