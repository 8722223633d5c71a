-- What a watch says of the bytes that it has followed.
use Rattle.std.proofs.Common.{◌≡◌, ◌⊎◌, inl, inr, ℕ, ◌+◌, ◌<◌, Bool, true, false, List, [], ◌∷◌}
use Rattle.std.proofs.Common.{◌++◌, length, take, drop, get_or, ◌||◌, refl, sym, ap, ◌∙◌, subst}
use Rattle.std.proofs.Common.{Option, Some, None, MatchOption, append_assoc, append-nil}
use Rattle.std.specs.Prelude.{⊤, IsSome}
use Rattle.std.proofs.lemmas.List.{take-append-drop, take_more}
use Rattle.httparse.specs.Grammar.{HasNoRequest}
use Rattle.httparse.proofs.GrammarLemmas.{ReadsRequest-append}
use Rattle.http_wire.specs.declared.section.Place.{Place}
use Rattle.http_wire.specs.declared.watch.Progress.{Progress}
use Rattle.http_wire.specs.declared.watch.Progress.TheVariants.{Before, BeforeReturn, Line, Fields}
use Rattle.http_wire.specs.declared.watch.Watch.{Watch}
use Rattle.http_wire.specs.FirstLine.{first_line, ends_in_other_version}
use Rattle.http_wire.specs.Heads.{IsOpen, MayBecomeHead}
use Rattle.http_wire.specs.Places.{ReachesFields, HasLine, StandsAt, is_over, is_at_end}
use Rattle.http_wire.specs.Places.{is_in_fields, is_news, Advances, Follows, IsDecided}
use Rattle.http_wire.proofs.Settled.{first_line_more}
use Rattle.http_wire.proofs.Standing.{GoodLine, at_feed, behind_end, decided, good_line, may_become}
use Rattle.http_wire.proofs.Standing.{no_head_yet, same_line}

-- ---- lines that have ended

has_line : (bytes line : List ℕ) → Some line ≡ first_line bytes → HasLine bytes
has_line bytes line is = subst IsSome is refl

line_of : (bytes : List ℕ) → HasLine bytes → (line : List ℕ) × (Some line ≡ first_line bytes)
line_of bytes has = by_line (first_line bytes) refl has
  where
    by_line : (o : Option (List ℕ)) → o ≡ first_line bytes → IsSome o
        → (line : List ℕ) × (Some line ≡ first_line bytes)
    by_line None is some = absurd (cc)
    by_line (Some line) is some = (line, is)

no_line : (bytes : List ℕ) → (HasLine bytes → ⊥) → first_line bytes ≡ None
no_line bytes never = by_line (first_line bytes) refl
  where
    by_line : (o : Option (List ℕ)) → o ≡ first_line bytes → first_line bytes ≡ None
    by_line None is = sym is
    by_line (Some line) is = absurd (never (has_line bytes line is))

has_more : (bytes more : List ℕ) → HasLine bytes → HasLine (bytes ++ more)
has_more bytes more has =
    let line = line_of bytes has in
    has_line (bytes ++ more) line.0 (first_line_more bytes more line.0 line.1)

-- before the fields no line has ended
before_fields : (progress : Progress) (bytes : List ℕ) → is_in_fields progress ≡ false
    → StandsAt progress bytes → HasLine bytes → ⊥
unfolding first_line
before_fields Before bytes open_ stands has = let none =
    (stands []).0 (subst HasLine (sym (append-nil bytes)) has) in cc
before_fields BeforeReturn bytes open_ stands has = let none =
    (stands []).0 (subst HasLine (sym (append-nil bytes)) has) in cc
before_fields Line bytes open_ stands has = let none =
    (stands []).0 (subst HasLine (sym (append-nil bytes)) has) in cc
before_fields (Fields place) bytes open_ stands has = cc

-- in the fields one has
in_fields : (bytes : List ℕ) (place : Place) → ReachesFields bytes place → HasLine bytes
in_fields bytes place stands = subst HasLine (sym stands.all)
    ((stands.in_line (10 ∷ (stands.fields ++ stands.behind))).1
    (at_feed (stands.fields ++ stands.behind)))

-- ---- bytes that show no head and no refusal

open_before : (bytes : List ℕ) → first_line bytes ≡ None → IsOpen bytes
open_before bytes none =
    let P : Option (List ℕ) → Type 0 = λ o. MatchOption o ⊤
    (λ line. (ends_in_other_version line ≡ false) × HasNoRequest bytes × MayBecomeHead bytes) in
    subst P (sym none) tt

-- what open bytes say of their line, once it has ended
opened : (bytes line : List ℕ) → Some line ≡ first_line bytes → IsOpen bytes
    → (ends_in_other_version line ≡ false) × HasNoRequest bytes × MayBecomeHead bytes
opened bytes line is open_ =
    let P : Option (List ℕ) → Type 0 = λ o. MatchOption o ⊤
    (λ l. (ends_in_other_version l ≡ false) × HasNoRequest bytes × MayBecomeHead bytes) in
    subst P (sym is) open_

-- the line of longer bytes is a good one where that of the shorter is
still_good : (bytes more : List ℕ) (place next : Place) (stands : ReachesFields bytes place)
    (later : ReachesFields (bytes ++ more) next)
    → MayBecomeHead bytes → GoodLine later.line
still_good bytes more place next stands later may =
    let cut : stands.line ++ 10 ∷ ((stands.fields ++ stands.behind) ++ more)
    ≡ later.line ++ 10 ∷ (later.fields ++ later.behind) =
    sym (append_assoc stands.line (10 ∷ (stands.fields ++ stands.behind)) more)
    ∙ (ap (λ (xs : List ℕ). xs ++ more) (sym stands.all) ∙ later.all) in
    subst GoodLine (same_line stands.line later.line _ _ stands.in_line later.in_line cut).0
    (good_line bytes place stands may)

open_fields : (bytes more : List ℕ) (place next : Place) (stands : ReachesFields bytes place)
    (later : ReachesFields (bytes ++ more) next)
    → is_over next ≡ false → IsOpen bytes → IsOpen (bytes ++ more)
open_fields bytes more place next stands later still open_ =
    let line = line_of bytes (in_fields bytes place stands) in
    let facts = opened bytes line.0 line.1 open_ in
    let P : Option (List ℕ) → Type 0 = λ o. MatchOption o ⊤
    (λ l. (ends_in_other_version l ≡ false) × HasNoRequest (bytes ++ more)
    × MayBecomeHead (bytes ++ more)) in
    subst P (first_line_more bytes more line.0 line.1) (
      facts.0,
      no_head_yet (bytes ++ more) next later still,
      may_become (bytes ++ more) next later still
          (still_good bytes more place next stands later facts.2),
    )

-- ---- one byte

quiet_next : (from to : Progress) (now : List ℕ) (byte : ℕ) → is_news from to ≡ false
    → StandsAt from now → StandsAt to (now ++ byte ∷ [])
    → IsOpen now → IsOpen (now ++ byte ∷ [])
quiet_next from Before now byte quiet stands later open_ =
    open_before _ (no_line _ (before_fields Before (now ++ byte ∷ []) refl later))
quiet_next from BeforeReturn now byte quiet stands later open_ =
    open_before _ (no_line _ (before_fields BeforeReturn (now ++ byte ∷ []) refl later))
quiet_next from Line now byte quiet stands later open_ =
    open_before _ (no_line _ (before_fields Line (now ++ byte ∷ []) refl later))
quiet_next (Fields place) (Fields next) now byte quiet stands later open_ =
    open_fields now (byte ∷ []) place next stands later quiet open_
quiet_next Before (Fields next) now byte quiet stands later open_ = absurd (cc)
quiet_next BeforeReturn (Fields next) now byte quiet stands later open_ = absurd (cc)
quiet_next Line (Fields next) now byte quiet stands later open_ = absurd (cc)

-- the bytes are decided, or their request line has just ended
abbrev Newly : List ℕ → List ℕ → Type 0
Newly before now = IsDecided now ⊎ ((first_line before ≡ None) × HasLine now)

line_just : (before followed now more : List ℕ) → now ≡ before ++ followed → (HasLine now → ⊥)
    → HasLine (now ++ more) → Newly before (now ++ more)
line_just before followed now more all never has =
    inr (
      no_line before (λ earlier. never
          (subst HasLine (sym all) (has_more before followed earlier))),
      has,
    )

due_next : (before followed now : List ℕ) (from to : Progress) (byte : ℕ)
    → now ≡ before ++ followed → is_news from to ≡ true → StandsAt from now
    → StandsAt to (now ++ byte ∷ []) → IsOpen now → Newly before (now ++ byte ∷ [])
due_next before followed now from Before byte all news stands later open_ = absurd (cc)
due_next before followed now from BeforeReturn byte all news stands later open_ = absurd (cc)
due_next before followed now from Line byte all news stands later open_ = absurd (cc)
due_next before followed now (Fields place) (Fields next) byte all news stands later open_ =
    let line = line_of now (in_fields now place stands) in
    let facts = opened now line.0 line.1 open_ in
    inl (decided (now ++ byte ∷ []) next later news
    (still_good now (byte ∷ []) place next stands later facts.2))
due_next before followed now Before (Fields next) byte all news stands later open_ =
    line_just before followed now (byte ∷ []) all (before_fields Before now refl stands)
    (in_fields (now ++ byte ∷ []) next later)
due_next before followed now BeforeReturn (Fields next) byte all news stands later open_ =
    line_just before followed now (byte ∷ []) all (before_fields BeforeReturn now refl stands)
    (in_fields (now ++ byte ∷ []) next later)
due_next before followed now Line (Fields next) byte all news stands later open_ =
    line_just before followed now (byte ∷ []) all (before_fields Line now refl stands)
    (in_fields (now ++ byte ∷ []) next later)

decided_more : (now more : List ℕ) → IsDecided now → IsDecided (now ++ more)
decided_more now more (inl (head, rest, reads)) =
    inl (head, rest ++ more, ReadsRequest-append now head rest more reads)
decided_more now more (inr never) =
    inr (λ after. subst HasNoRequest (sym (append_assoc now more after)) (never (more ++ after)))

newly_more : (before now more : List ℕ) → Newly before now → Newly before (now ++ more)
newly_more before now more (inl decided) = inl (decided_more now more decided)
newly_more before now more (inr (none, has)) = inr (none, has_more now more has)

-- the end is news
end_is_news : (from to : Progress) → is_at_end to ≡ true → is_news from to ≡ true
end_is_news Before Before at_end = absurd (cc)
end_is_news BeforeReturn Before at_end = absurd (cc)
end_is_news Line Before at_end = absurd (cc)
end_is_news (Fields place) Before at_end = absurd (cc)
end_is_news Before BeforeReturn at_end = absurd (cc)
end_is_news BeforeReturn BeforeReturn at_end = absurd (cc)
end_is_news Line BeforeReturn at_end = absurd (cc)
end_is_news (Fields place) BeforeReturn at_end = absurd (cc)
end_is_news Before Line at_end = absurd (cc)
end_is_news BeforeReturn Line at_end = absurd (cc)
end_is_news Line Line at_end = absurd (cc)
end_is_news (Fields place) Line at_end = absurd (cc)
end_is_news Before (Fields next) at_end = refl
end_is_news BeforeReturn (Fields next) at_end = refl
end_is_news Line (Fields next) at_end = refl
end_is_news (Fields place) (Fields next) at_end = at_end

pub one_more : (before now : List ℕ) (w : Watch) (byte : ℕ) (to : Progress) (due : Bool)
    → is_at_end w.progress ≡ false → Advances w.progress byte to
    → due ≡ (w.due || is_news w.progress to) → Follows before now w
    → Follows before (now ++ byte ∷ []) (record { progress = to; due = due })
one_more before now w byte to due still advances is follows = by_due w.due refl
  where
    stands : StandsAt to (now ++ byte ∷ [])
    stands = advances still now follows.stands

    grown : now ++ byte ∷ [] ≡ before ++ (follows.followed ++ byte ∷ [])
    grown = ap (λ (xs : List ℕ). xs ++ byte ∷ []) follows.all
        ∙ append_assoc before follows.followed (byte ∷ [])

    by_due : (d : Bool) → d ≡ w.due → Follows before (now ++ byte ∷ [])
        (record { progress = to; due = due })
    by_due true same =
        let set : due ≡ true = is ∙ ap (λ (b : Bool). b || is_news w.progress to) (sym same) in
        record {
          followed = follows.followed ++ byte ∷ [];
          all = grown;
          stands = stands;
          at_end = λ end. set;
          quiet = λ clear. absurd (cc);
          due = λ still_set. newly_more before now (byte ∷ []) (follows.due (sym same));
        }
    by_due false same =
        let news : due ≡ is_news w.progress to =
        is ∙ ap (λ (b : Bool). b || is_news w.progress to) (sym same) in
        let open_ = follows.quiet (sym same) in
        record {
          followed = follows.followed ++ byte ∷ [];
          all = grown;
          stands = stands;
          at_end = λ end. news ∙ end_is_news w.progress to end;
          quiet = λ clear. quiet_next w.progress to now byte
              (sym news ∙ clear) follows.stands stands open_;
          due = λ set. due_next before follows.followed now w.progress to byte follows.all
              (sym news ∙ set) follows.stands stands open_;
        }

-- ---- many bytes

-- nothing was followed yet
pub none_yet : (before : List ℕ) (w : Watch) → StandsAt w.progress before → IsOpen before
    → w.due ≡ is_at_end w.progress → Follows before (before ++ []) w
none_yet before w stands open_ due = record {
  followed = [];
  all = refl;
  stands = subst (StandsAt w.progress) (sym (append-nil before)) stands;
  at_end = λ end. due ∙ end;
  quiet = λ clear. subst IsOpen (sym (append-nil before)) open_;
  due = λ set. subst (Newly before) (sym (append-nil before))
      (at_once w.progress stands (sym due ∙ set));
}
  where
    at_once : (progress : Progress) → StandsAt progress before → is_at_end progress ≡ true
        → Newly before before
    at_once Before s end = absurd (cc)
    at_once BeforeReturn s end = absurd (cc)
    at_once Line s end = absurd (cc)
    at_once (Fields place) s end =
        let line = line_of before (in_fields before place s) in
        let facts = opened before line.0 line.1 open_ in
        inl (decided before place s end (good_line before place s facts.2))

-- one byte more of those that are followed
pub next_byte : (before bytes : List ℕ) (k : ℕ) (byte : ℕ) (w : Watch) → k < length bytes
    → byte ≡ get_or bytes k byte
    → Follows before ((before ++ take k bytes) ++ byte ∷ []) w
    → Follows before (before ++ take (k + 1) bytes) w
next_byte before bytes k byte w less at follows =
    let cut : (before ++ take k bytes) ++ byte ∷ [] ≡ before ++ take (k + 1) bytes =
    append_assoc before (take k bytes) (byte ∷ [])
    ∙ ap (λ (b : ℕ). before ++ (take k bytes ++ b ∷ [])) at
    ∙ ap (λ (xs : List ℕ). before ++ xs) (sym (take_more bytes k byte less)) in
    subst (λ (xs : List ℕ). Follows before xs w) cut follows

-- where the end is reached nothing more has to be followed
pub no_more : (before now more : List ℕ) (w : Watch) → is_at_end w.progress ≡ true
    → Follows before now w → Follows before (now ++ more) w
no_more before now more w end follows = record {
  followed = follows.followed ++ more;
  all = ap (λ (xs : List ℕ). xs ++ more) follows.all ∙ append_assoc before follows.followed more;
  stands = behind w.progress end follows.stands;
  at_end = λ again. follows.at_end end;
  quiet = λ clear. let set = follows.at_end end in absurd (cc);
  due = λ set. newly_more before now more (follows.due set);
}
  where
    behind : (progress : Progress) → is_at_end progress ≡ true → StandsAt progress now
        → StandsAt progress (now ++ more)
    behind Before e s = absurd (cc)
    behind BeforeReturn e s = absurd (cc)
    behind Line e s = absurd (cc)
    behind (Fields place) e s = behind_end now more place e s

pub all_bytes : (before bytes : List ℕ) (k : ℕ) (w : Watch) → is_at_end w.progress ≡ true
    → Follows before (before ++ take k bytes) w
    → Follows before (before ++ bytes) w
all_bytes before bytes k w end follows =
    subst (λ (xs : List ℕ). Follows before xs w)
    (append_assoc before (take k bytes) (drop k bytes)
    ∙ ap (λ (xs : List ℕ). before ++ xs) (take-append-drop k bytes))
    (no_more before (before ++ take k bytes) (drop k bytes) w end follows)
