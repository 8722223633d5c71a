-- Over a silent visit not a byte of a reply was got, and its connection was ended.
use Rattle.std.proofs.Common.{◌≡◌, ℕ, Bool, true, false, eqb, List, [], ◌∷◌, ◌++◌, length}
use Rattle.std.proofs.Common.{refl, sym, ap, subst, ◌∙◌, inl, inr, None, Result, Ok, Err, arith}
use Rattle.std.proofs.lemmas.Bool.Decides.{nat_tests}
use Rattle.std.specs.List.{concat}
use Rattle.line_base.specs.declared.dialer.DialEvent.TheVariants.{Hung}
use Rattle.line_base.specs.Lines.{Line}
use Rattle.http_wire.specs.declared.frames.Framing.{Framing}
use Rattle.http_wire.specs.declared.head.Head.{Head}
use Rattle.http_wire.specs.declared.head.ReplyHead.{ReplyHead}
use Rattle.http_wire.specs.declared.reading.HeadEnd.{HeadEnd}
use Rattle.http_wire.specs.ReplyReading.{AnswersReply, joined}
use Rattle.body_wire.specs.declared.end.BodyEnd.{BodyEnd}
use Rattle.body_wire.specs.declared.end.BodyEnd.TheVariants.{BadChunk, Cut, TooLong, ReadFault}
use Rattle.body_wire.specs.declared.end.BodyEnd.TheVariants.{WriteFault, SendFault, RecvFault}
use Rattle.body_wire.specs.declared.end.BodyEnd.TheVariants.{OutOfMemory}
use Rattle.replica_try.specs.declared.final_head.HeadFault.{HeadFault}
use Rattle.replica_try.specs.declared.moved.Moved.{Moved}
use Rattle.replica_try.specs.declared.tried.Tried.{Tried}
use Rattle.replica_try.specs.declared.tried.Tried.TheVariants as tried
use Rattle.replica_try.specs.Heads.{Decides, Hears, Interims, fault_of, is_nothing, no_reply}
use Rattle.replica_try.specs.Trying.{Converses, Replies, is_silent, only_sent, stop_of}
use Rattle.replica_try.specs.Trying.{tried_of_back}
use Rattle.replica_try.specs.Trying.{tried_of_head}
use Rattle.replica_try.proofs.BothHold.{and_left, and_right}

-- the connection is ended
pub silent_hung : (keeps : Bool) (how : Tried) → is_silent how ≡ true → stop_of keeps how ≡ Hung
silent_hung true (tried.NotSent moved) silent = refl
silent_hung false (tried.NotSent moved) silent = refl
silent_hung true (tried.Silent moved) silent = refl
silent_hung false (tried.Silent moved) silent = refl
silent_hung keeps tried.NotDialed silent = absurd (cc)
silent_hung keeps (tried.BadBody moved) silent = absurd (cc)
silent_hung keeps (tried.LongBody moved) silent = absurd (cc)
silent_hung keeps (tried.BodyCut moved) silent = absurd (cc)
silent_hung keeps (tried.BodyFault moved) silent = absurd (cc)
silent_hung keeps (tried.NoReply moved) silent = absurd (cc)
silent_hung keeps (tried.ReplyCut moved status) silent = absurd (cc)
silent_hung keeps (tried.WrittenShort moved status) silent = absurd (cc)
silent_hung keeps (tried.Whole moved status closes reusable) silent = absurd (cc)
silent_hung keeps (tried.OutOfMemory moved status) silent = absurd (cc)

-- ---- no final head came

none_left : (xs : List ℕ) → length xs ≡ 0 → xs ≡ []
none_left [] is = refl
none_left (x ∷ xs) is = absurd (omega (arith, is))

is_zero : (n : ℕ) → eqb n 0 ≡ true → n ≡ 0
is_zero n is = grind (arith, nat_tests)

last_nothing : (xs ys : List ℕ) → xs ++ ys ≡ [] → ys ≡ []
last_nothing [] ys is = is
last_nothing (x ∷ xs) ys is = absurd (cc)

joined_pieces : (pieces : List (List ℕ)) → concat pieces ≡ joined pieces
joined_pieces [] = refl
joined_pieces (piece ∷ pieces) = ap (λ (l : List ℕ). piece ++ l) (joined_pieces pieces)

-- where no head is read, all bytes are kept
all_kept : (bytes kept : List ℕ) (end : HeadEnd) → AnswersReply bytes kept (Err end)
    → kept ≡ bytes
all_kept bytes kept HeadEnd.Ended answers = answers.2
all_kept bytes kept HeadEnd.Cut answers = answers.2
all_kept bytes kept HeadEnd.Bad answers = answers.1
all_kept bytes kept HeadEnd.Version answers = absurd answers
all_kept bytes kept HeadEnd.TooLarge answers = answers.1
all_kept bytes kept HeadEnd.ReadFault answers = answers.1
all_kept bytes kept HeadEnd.OutOfMemory answers = answers

-- silence says that there was no byte
silence : (nothing : Bool) → HeadFault.Silent ≡ no_reply nothing → nothing ≡ true
silence true is = refl
silence false is = absurd (cc)

silent_end : (nothing : Bool) (end : HeadEnd) → HeadFault.Silent ≡ fault_of nothing end
    → nothing ≡ true
silent_end nothing HeadEnd.Ended is = silence nothing is
silent_end nothing HeadEnd.Cut is = silence nothing is
silent_end nothing HeadEnd.Bad is = silence nothing is
silent_end nothing HeadEnd.Version is = silence nothing is
silent_end nothing HeadEnd.TooLarge is = silence nothing is
silent_end nothing HeadEnd.ReadFault is = silence nothing is
silent_end nothing HeadEnd.OutOfMemory is = absurd (cc)

no_interims : (n : ℕ) (mid : List ℕ) (before : List (List ℕ)) → n ≡ 0
    → Interims n [] mid before → before ≡ []
no_interims n mid before none dropped =
    let here : Interims 0 [] mid before = subst (λ (k : ℕ). Interims k [] mid before) none dropped
    in here.1

same_fault : (a b : HeadFault) (x : Result (ReplyHead × Framing) HeadFault)
    → x ≡ Err a → x ≡ Err b → a ≡ b
same_fault a b x p q = cc

heard_by : (method : List ℕ) (n : ℕ) (mid kept : List ℕ) (before last pieces : List (List ℕ))
    (shown : Result ReplyHead HeadEnd) → Interims n [] mid before → pieces ≡ before ++ last
    → Decides method n kept shown (Err HeadFault.Silent)
    → AnswersReply (mid ++ joined last) kept shown → concat pieces ≡ []
heard_by method n mid kept before last pieces (Ok head) dropped whole decides answers =
    absurd decides
heard_by method n mid kept before last pieces (Err end) dropped whole decides answers =
    let test = silent_end (is_nothing n kept) end
    (same_fault HeadFault.Silent (fault_of (is_nothing n kept) end) (Err HeadFault.Silent) refl
    decides) in
    let none = is_zero n (and_left (eqb n 0) _ test) in
    let left = none_left kept (is_zero (length kept) (and_right (eqb n 0) _ test)) in
    let bytes = sym (all_kept (mid ++ joined last) kept end answers) ∙ left in
    ap concat
    (whole ∙ ap (λ (l : List (List ℕ)). l ++ last) (no_interims n mid before none dropped))
    ∙ (joined_pieces last ∙ last_nothing mid (joined last) bytes)

heard_nothing : (method kept : List ℕ) (pieces : List (List ℕ)) (f0 f1 : ℕ)
    → Hears method [] kept pieces f0 f1 (Err HeadFault.Silent) → concat pieces ≡ []
heard_nothing method kept pieces f0 f1 h =
    heard_by method h.interims h.mid kept h.before h.last pieces h.shown h.dropped h.whole
    h.decides h.shows.answers

silent_head : (sent : ℕ) (fault : HeadFault) → is_silent (tried_of_head sent fault) ≡ true
    → fault ≡ HeadFault.Silent
silent_head sent HeadFault.Silent silent = refl
silent_head sent HeadFault.NoReply silent = absurd (cc)
silent_head sent HeadFault.OutOfMemory silent = absurd (cc)

-- ---- a reply that went back is none

never_back : (moved : Moved) (status : ℕ) (closes reusable : Bool) (r : Result ℕ BodyEnd)
    → is_silent (tried_of_back moved status closes reusable r) ≡ true → ⊥
never_back moved status closes reusable (Ok n) silent = cc
never_back moved status closes reusable (Err (BadChunk n)) silent = cc
never_back moved status closes reusable (Err Cut) silent = cc
never_back moved status closes reusable (Err TooLong) silent = cc
never_back moved status closes reusable (Err ReadFault) silent = cc
never_back moved status closes reusable (Err WriteFault) silent = cc
never_back moved status closes reusable (Err SendFault) silent = cc
never_back moved status closes reusable (Err RecvFault) silent = cc
never_back moved status closes reusable (Err OutOfMemory) silent = cc

abbrev IsQuiet : Tried → Type 0
IsQuiet how = is_silent how ≡ true

replied_nothing : (head : Head) (last : Bool) (sent : ℕ) (old new : Line) (f0 f1 : ℕ)
    (got : List (List ℕ)) (how : Tried) → IsQuiet how
    → Replies head last sent old new f0 f1 got how → concat got ≡ []
replied_nothing head last sent old new f0 f1 got how silent (inl (fault, kept, hears, rests, is)) =
    heard_nothing head.method kept got f0 f1
    (subst (λ (f : HeadFault). Hears head.method [] kept got f0 f1 (Err f))
    (silent_head sent fault (subst IsQuiet is silent)) hears)
replied_nothing head last sent old new f0 f1 got how silent
    (inr (reply, framing, kept, between, before, behind, hears, inl none, is)) =
    let never : IsQuiet (tried.OutOfMemory (only_sent sent) None) = subst IsQuiet none.3 silent in
    absurd (cc)
replied_nothing head last sent old new f0 f1 got how silent
    (inr (reply, framing, kept, between, before, behind, hears, inr (after, r, goes, way), is)) =
    absurd (never_back _ _ _ _ r (subst IsQuiet way silent))

-- not a byte of a reply was got
pub silent_got : (head : Head) (onward : List ℕ) (framing : Framing) (last : Bool) (old new : Line)
    (kept kept_after : List ℕ) (f0 f1 : ℕ) (sent : List ℕ) (got : List (List ℕ)) (how : Tried)
    → is_silent how ≡ true
    → Converses head onward framing last old new kept kept_after f0 f1 sent got how
    → concat got ≡ []
silent_got head onward framing last old new kept kept_after f0 f1 sent got how silent
    (inl (end, goes, none, is)) =
    ap concat none
silent_got head onward framing last old new kept kept_after f0 f1 sent got how silent
    (inr (n, mid, between, goes, replies)) =
    replied_nothing head last n mid new between f1 got how silent replies
