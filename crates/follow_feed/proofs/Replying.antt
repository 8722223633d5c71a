-- What the bytes of a reply say.
use Rattle.std.proofs.Common.{◌≡◌, ℕ, ◌+◌, ◌≤◌, length, take, drop, List, [], ◌∷◌, ◌++◌, Option}
use Rattle.std.proofs.Common.{Some, None, Result, Ok, Err, refl, sym, ap, ◌∙◌, subst, inl, inr}
use Rattle.std.proofs.Common.{arith, append-nil, append_assoc, length-append, length-take}
use Rattle.std.specs.List.{concat}
use Rattle.std.proofs.lemmas.List.{drop-append-le}
use Rattle.std.proofs.lemmas.List.Folds.{concat-append}
use Rattle.httparse.specs.Ascii.{space}
use Rattle.httparse.specs.Grammar.{ResponseHead, print_blank, print_end, print_reason}
use Rattle.httparse.specs.Grammar.{print_response, print_section, print_version}
use Rattle.http_wire.specs.declared.frames.Framing.{Framing}
use Rattle.http_wire.specs.declared.frames.FramingFault.{FramingFault}
use Rattle.http_wire.specs.declared.head.ReplyHead.{ReplyHead}
use Rattle.http_wire.specs.declared.reading.HeadEnd.{HeadEnd}
use Rattle.http_wire.specs.Heads.{most, window}
use Rattle.http_wire.specs.Reading.{Whatever}
use Rattle.http_wire.specs.Replies.{BeginsWithReply, IsBadReply, IsTooLargeReply, IsUnfinishedReply}
use Rattle.http_wire.specs.ReplyReading.{AnswersReply, SaysEnd, joined}
use Rattle.http_wire.proofs.Excluding.{reply_heads_are_unique, reply_readings_exclude}
use Rattle.follow_feed.specs.declared.polling.PollEnd.{PollEnd}
use Rattle.follow_feed.specs.Feeds.{FeedValue}
use Rattle.follow_feed.specs.Polling.{BeginsWithFeed, HasNoFeed, IsBody, IsFeedHead, IsShort, Says}
use Rattle.follow_feed.specs.Polling.{SaysBehind, SaysBody, SaysNothing, end_of_head}
use Rattle.follow_feed.specs.Reading.{feed_in}
use Rattle.follow_feed.proofs.Growing.{joined_is}

-- a head is no longer than the bytes that begin with it
head_within : (bytes : List ℕ) (head : ReplyHead) (len : ℕ) → BeginsWithReply bytes head len
    → len ≤ length bytes
unfolding window
head_within bytes head len begins =
    let whole : length (window bytes)
    ≡ length (print_response begins.parts) + length (drop len (window bytes)) =
    ap length begins.reads.1
    ∙ length-append (print_response begins.parts) (drop len (window bytes)) in
    let few : length (take most bytes) ≤ length bytes = omega (arith, length-take most bytes) in
    let long = begins.long in
    omega (arith, whole, few, long)

-- and it has some
some_bytes : (h : ResponseHead) → 1 ≤ length (print_response h)
unfolding print_response
some_bytes h =
    let line = print_blank h.blank ++ print_version h.minor ++ space ∷ h.digits in
    omega (
      arith,
      length-append (line ++ print_reason h.reason ++ print_end h.line_end)
          (print_section h.fields h.last),
      length-append (line ++ print_reason h.reason) (print_end h.line_end),
      length-append line (print_reason h.reason),
      length-append (print_blank h.blank ++ print_version h.minor) (space ∷ h.digits),
    )

-- so that no bytes are no feed
pub nothing_got : HasNoFeed []
nothing_got = λ feed h.
    let within = head_within [] h.head h.len h.begins in
    let long = h.begins.long in
    absurd (omega (arith, within, long, some_bytes h.begins.parts))

drop_front : (n : ℕ) (xs ys : List ℕ) → n ≤ length xs → drop n (xs ++ ys) ≡ drop n xs ++ ys
drop_front n xs ys within = drop-append-le n xs ys within

-- lists that begin with fronts of one length have one front
one_front : (n : ℕ) (xs ys us vs : List ℕ) → length xs ≡ n → length ys ≡ n → xs ++ us ≡ ys ++ vs
    → xs ≡ ys
one_front n [] [] us vs p q same = refl
one_front n [] (y ∷ ys) us vs p q same = absurd (omega (arith, p, q))
one_front n (x ∷ xs) [] us vs p q same = absurd (omega (arith, p, q))
one_front n (x ∷ xs) (y ∷ ys) us vs p q same =
    let first : x ≡ y = cc in
    let rest : xs ++ us ≡ ys ++ vs = cc in
    let long : length ys ≡ length xs = omega (arith, p, q) in
    let tail : xs ≡ ys = one_front (length xs) xs ys us vs refl long rest in
    cc

one_length : (r : Result Framing FramingFault) (n m : ℕ) → r ≡ Ok (Framing.Length n) → r
    ≡ Ok (Framing.Length m) → n ≡ m
one_length r n m p q = cc

one_count : (head : ReplyHead) (n m : ℕ) → IsFeedHead head n → IsFeedHead head m → n ≡ m
one_count head n m a b = one_length _ n m a.framed b.framed

-- the bytes begin with this head, whatever follows: what they say is what stands behind it
pub begins_with : (bytes : List ℕ) (head : ReplyHead) (len : ℕ) (kept : List ℕ)
    (got : List (List ℕ)) (feed : FeedValue)
    → Whatever (λ all. BeginsWithReply all head len) bytes → kept ≡ drop len bytes
    → BeginsWithReply bytes head len
    → SaysBody head (kept ++ concat got) feed → BeginsWithFeed (bytes ++ concat got) feed
begins_with bytes head len kept got feed begins is here says = record {
  head = head;
  len = len;
  begins = begins (concat got);
  count = says.count;
  good = says.good;
  body = says.body;
  whole =
      subst (λ (l : List ℕ). IsBody l says.body says.count)
      (ap (λ l. l ++ concat got) is
      ∙ sym (drop_front len bytes (concat got) (head_within bytes head len here)))
      says.whole;
  says = says.says;
}

-- what a good reply says where another head, or this one, is known to stand there
same_head : (bytes : List ℕ) (head : ReplyHead) (len : ℕ) (feed : FeedValue)
    (h : BeginsWithFeed bytes feed)
    → BeginsWithReply bytes head len → (h.head ≡ head) × (h.len ≡ len)
same_head bytes head len feed h begins =
    reply_heads_are_unique bytes h.head head h.len len h.begins begins

-- and the body that it has
record Found (head : ReplyHead) (bytes : List ℕ) (feed : FeedValue) : Type 0 where
  found_count : ℕ
  found_good : IsFeedHead head found_count
  found_body : List ℕ
  found_whole : IsBody bytes found_body found_count
  found_says : feed_in found_body ≡ Some feed

found : (bytes : List ℕ) (head : ReplyHead) (len : ℕ) (feed : FeedValue) → BeginsWithFeed bytes feed
    → BeginsWithReply bytes head len → Found head (drop len bytes) feed
found bytes head len feed h begins =
    let same = same_head bytes head len feed h begins in record {
      found_count = h.count;
      found_good = subst (λ (x : ReplyHead). IsFeedHead x h.count) same.0 h.good;
      found_body = h.body;
      found_whole = subst (λ n. IsBody (drop n bytes) h.body h.count) same.1 h.whole;
      found_says = h.says;
    }

none_is_some : (o : Option FeedValue) (feed : FeedValue) → o ≡ None → o ≡ Some feed → ⊥
none_is_some o feed p q = cc

-- no good reply begins so, whatever follows
never_bad : (bytes : List ℕ) → Whatever IsBadReply bytes → Whatever HasNoFeed bytes
never_bad bytes bad = λ more feed h.
    ((reply_readings_exclude (bytes ++ more)).head h.head h.len h.begins).0 (bad more)

never_large : (bytes : List ℕ) → Whatever IsTooLargeReply bytes → Whatever HasNoFeed bytes
never_large bytes large = λ more feed h.
    ((reply_readings_exclude (bytes ++ more)).head h.head h.len h.begins).1 (large more)

-- and a head that has not ended is none yet
not_unfinished : (bytes : List ℕ) → IsUnfinishedReply bytes → HasNoFeed bytes
not_unfinished bytes open_ = λ feed h.
    ((reply_readings_exclude bytes).head h.head h.len h.begins).2 open_

module _ (bytes : List ℕ) (head : ReplyHead) (len : ℕ) (kept : List ℕ) (got : List (List ℕ))
    (begins : Whatever (λ all. BeginsWithReply all head len) bytes) (is : kept ≡ drop len bytes)
    (here : BeginsWithReply bytes head len) where
  behind : (more : List ℕ) → drop len (bytes ++ more) ≡ kept ++ more
  behind more = drop_front len bytes more (head_within bytes head len here)
      ∙ ap (λ l. l ++ more) (sym is)

  never_by_head : ((count : ℕ) → IsFeedHead head count → ⊥)
      → Whatever HasNoFeed (bytes ++ concat got)
  never_by_head other = λ more feed h.
      let all : List ℕ = concat got ++ more in
      let whole : BeginsWithReply ((bytes ++ concat got) ++ more) head len =
      subst (λ (l : List ℕ). BeginsWithReply l head len)
      (sym (append_assoc bytes (concat got) more)) (begins all) in
      let f = found ((bytes ++ concat got) ++ more) head len feed h whole in
      other f.found_count f.found_good

  never_by_body : SaysNothing head (kept ++ concat got) → Whatever HasNoFeed (bytes ++ concat got)
  never_by_body says = λ more feed h.
      let all : List ℕ = concat got ++ more in
      let joins : (bytes ++ concat got) ++ more ≡ bytes ++ all =
      append_assoc bytes (concat got) more in
      let whole : BeginsWithReply ((bytes ++ concat got) ++ more) head len =
      subst (λ (l : List ℕ). BeginsWithReply l head len) (sym joins) (begins all) in
      let f = found ((bytes ++ concat got) ++ more) head len feed h whole in
      let rest : drop len ((bytes ++ concat got) ++ more) ≡ kept ++ all =
      ap (drop len) joins ∙ behind all in
      let ours : kept ++ all ≡ says.body ++ (says.whole.behind ++ more) =
      sym (append_assoc kept (concat got) more) ∙ ap (λ l. l ++ more) says.whole.cut
      ∙ append_assoc says.body says.whole.behind more in
      let count : f.found_count ≡ says.count =
      one_count head f.found_count says.count f.found_good says.good in
      let same : f.found_body ≡ says.body =
      one_front says.count f.found_body says.body f.found_whole.behind (says.whole.behind ++ more)
      (f.found_whole.long ∙ count) says.whole.long ((sym f.found_whole.cut ∙ rest) ∙ ours) in
      none_is_some (feed_in f.found_body) feed (ap feed_in same ∙ says.says) f.found_says

  not_short : IsShort head (kept ++ concat got) → HasNoFeed (bytes ++ concat got)
  not_short short = λ feed h.
      let f = found (bytes ++ concat got) head len feed h (begins (concat got)) in
      let rest : drop len (bytes ++ concat got) ≡ kept ++ concat got = behind (concat got) in
      let count : f.found_count ≡ short.count =
      one_count head f.found_count short.count f.found_good short.good in
      let size : length (kept ++ concat got) ≡ length f.found_body + length f.found_whole.behind =
      ap length (sym rest ∙ f.found_whole.cut) ∙ length-append f.found_body f.found_whole.behind in
      let long = f.found_whole.long in
      let less = short.short in
      omega (arith, size, count, long, less)

  joins : (pieces : List (List ℕ)) → concat pieces ≡ bytes → bytes ++ concat got
      ≡ concat (pieces ++ got)
  joins pieces same = sym (concat-append pieces got ∙ ap (λ l. l ++ concat got) same)

  pub says_all : (result : Result FeedValue PollEnd) → SaysBehind head kept got result
      → (pieces : List (List ℕ))
      → concat pieces ≡ bytes → Says (pieces ++ got) result
  says_all (Ok feed) says pieces same =
      subst (λ (l : List ℕ). BeginsWithFeed l feed) (joins pieces same)
      (begins_with bytes head len kept got feed begins is here says)
  says_all (Err PollEnd.Lost) short pieces same =
      subst HasNoFeed (joins pieces same) (not_short short)
  says_all (Err PollEnd.OutOfMemory) says pieces same = tt
  says_all (Err PollEnd.Strange) (inl other) pieces same =
      inl (subst (λ (l : List ℕ). Whatever HasNoFeed l) (joins pieces same) (never_by_head other))
  says_all (Err PollEnd.Strange) (inr (inl nothing)) pieces same =
      inl (subst (λ (l : List ℕ). Whatever HasNoFeed l) (joins pieces same) (never_by_body nothing))
  says_all (Err PollEnd.Strange) (inr (inr (end, short))) pieces same =
      inr (
        (
          pieces ++ end.0,
          ap (λ l. pieces ++ l) end.1 ∙ sym (append_assoc pieces end.0 ([] ∷ [])),
        ),
        subst HasNoFeed (joins pieces same) (not_short short),
      )

-- a head was received, and what stands behind it says this
pub says_behind : (pieces got : List (List ℕ)) (kept kept_after : List ℕ) (head : ReplyHead)
    (result : Result FeedValue PollEnd)
    → kept ≡ [] → AnswersReply (kept ++ joined pieces) kept_after (Ok head)
    → SaysBehind head kept_after got result → Says (pieces ++ got) result
says_behind pieces got kept kept_after head result none answers says =
    let first : kept ++ joined pieces ≡ concat pieces =
    ap (λ l. l ++ joined pieces) none ∙ joined_is pieces in
    let begins : Whatever (λ all. BeginsWithReply all head answers.0) (concat pieces) =
    subst (λ (l : List ℕ). Whatever (λ all. BeginsWithReply all head answers.0) l) first
    answers.1 in
    let here : BeginsWithReply (concat pieces) head answers.0 =
    subst (λ (l : List ℕ). BeginsWithReply l head answers.0) (append-nil (concat pieces))
    (begins []) in
    says_all (concat pieces) head answers.0 kept_after got begins
    (answers.2 ∙ ap (drop answers.0) first) here result says pieces refl

-- no head was received
pub says_end : (left : Option (List ℕ)) (pieces : List (List ℕ)) (kept kept_after : List ℕ)
    (end : HeadEnd) → kept ≡ []
    → AnswersReply (kept ++ joined pieces) kept_after (Err end) → SaysEnd left pieces (Err end)
    → Says pieces (Err (end_of_head end))
says_end left pieces kept kept_after end none answers says =
    by end (subst (λ (l : List ℕ). AnswersReply l kept_after (Err end))
    (ap (λ l. l ++ joined pieces) none ∙ joined_is pieces) answers) says
  where
    by : (e : HeadEnd) → AnswersReply (concat pieces) kept_after (Err e)
        → SaysEnd left pieces (Err e) → Says pieces (Err (end_of_head e))
    by HeadEnd.Ended a s = inr (s.1, not_unfinished (concat pieces) a.0)
    by HeadEnd.Cut a s = inr (s.1, not_unfinished (concat pieces) a.0)
    by HeadEnd.Bad a s = inl (never_bad (concat pieces) a.0)
    by HeadEnd.Version a s = absurd a
    by HeadEnd.TooLarge a s = inl (never_large (concat pieces) a.0)
    by HeadEnd.ReadFault a s = not_unfinished (concat pieces) a.0
    by HeadEnd.OutOfMemory a s = tt
