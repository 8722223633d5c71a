-- The play of a script: what was written so far, what waits to be written, and what is yet to be
-- played.
use Rattle.std.proofs.Common.{◌≡◌, ℕ, ◌+◌, ◌≤◌, List, [], ◌∷◌, ◌++◌, length, take}
use Rattle.std.proofs.Common.{append_assoc, refl, sym, ap, subst, ◌∙◌, arith, Bool, true, false}
use Rattle.std.proofs.Common.{inl, inr}
use Rattle.std.specs.Prelude.{Option}
use Rattle.std.proofs.lemmas.List.{append-nil, take_at}
use Rattle.std.specs.Io.KnownBytes.{Appends}
use Rattle.std.proofs.KnownBytes.{Appends-trans}
use Rattle.line_base.specs.Counts.{Rose}
use Rattle.text_parts.specs.Lines.{lines_of}
use Rattle.machine.specs.Values.{StateValue}
use Rattle.machine.specs.State.{opening}
use Rattle.script.specs.Line.{line_value}
use Rattle.script.specs.Reply.{SaidValue}
use Rattle.script.specs.Said.{line_said}
use Rattle.script.specs.Carried.{script_settings, line_answer, line_after}
use Rattle.script.specs.declared.line.Line as code
use Rattle.script.specs.declared.line.Line.TheVariants as line
use Rattle.machine.specs.Values.{SettingsValue}
use Rattle.script.specs.Replay.{Played, before, played, line_played, replay_of}
use Rattle.script.specs.Replay.{answer_line}
use Rattle.script.specs.Written.{AppendsFront}
use Rattle.script.specs.declared.player.PlayEnd.{PlayEnd}
use Rattle.script.specs.declared.player.PlayEnd.TheVariants.{Done, BadLine, WriteFault}
use Rattle.script.specs.declared.player.PlayEnd.TheVariants.{OutOfMemory}
use Rattle.script.specs.declared.player.Turn.{Turn}
use Rattle.script.specs.declared.player.Turn.TheVariants.{Next, Stop}
use Rattle.script.specs.Played.{Answers, BeginsReplay, Finishes, Plays}

-- a front of what comes next, behind what was written
pub front_of : (a b c : Option (List ℕ)) (all written bytes rest : List ℕ)
    → all ≡ written ++ (bytes ++ rest) → Appends a b written → AppendsFront b c bytes
    → AppendsFront a c all
front_of a b c all written bytes rest is old now = (
  written ++ now.0,
  now.1 ++ rest,
  is ∙ (ap (λ (xs : List ℕ). written ++ (xs ++ rest)) now.2
      ∙ (ap (λ (xs : List ℕ). written ++ xs) (append_assoc now.0 now.1 rest)
      ∙ sym (append_assoc written now.0 (now.1 ++ rest)))),
  Appends-trans a b c written now.0 old now.3,
)

-- the count rose before it did not fall
pub rose_later : (a b c : ℕ) → a ≤ b → Rose b c → Rose a c
rose_later a b c later rose = omega arith

-- a play that ends with its last replies
pub plays_end : (script : List ℕ) (end result : PlayEnd) (a b c : Option (List ℕ)) (f g : ℕ)
    (written replies rest : List ℕ) → (replay_of script).0 ≡ written ++ (replies ++ rest)
    → Appends a b written → Finishes replies end b c f g result
    → (Appends a c (written ++ replies) → Plays script a c end) → Plays script a c result
plays_end script end result a b c f g written replies rest is old (inl done) ends =
    subst (Plays script a c) (sym done.0) (ends (Appends-trans a b c written replies old done.1))
plays_end script end result a b c f g written replies rest is old (inr failed) ends =
    subst (Plays script a c) (sym failed.0) (front_of a b c (replay_of script).0 written replies
    rest is old failed.2)

pub fault_cause : (end result : PlayEnd) (bytes : List ℕ) (b c : Option (List ℕ)) (e f g : ℕ)
    → e ≤ f → Finishes bytes end b c f g result → (end ≡ WriteFault → ⊥) → result ≡ WriteFault
    → Rose e g
fault_cause end result bytes b c e f g later (inl done) other is = absurd (other (sym done.0 ∙ is))
fault_cause end result bytes b c e f g later (inr failed) other is = rose_later e f g later failed.1

-- one line more: what was played so far, with its piece behind the replies, is played whatever
-- lines follow
module _ (all : Played) (written replies piece new_replies : List ℕ) (state : StateValue)
    (number : ℕ) (line : List ℕ) (lines : List (List ℕ))
    (same : all ≡ before (written ++ replies) (played state number (line ∷ lines)))
    (grown : new_replies ≡ replies ++ piece) where
  abbrev rest : StateValue → Played
  rest next_state = played next_state (number + 1) lines

  joined : (end : Played) → before (written ++ replies) (before piece end) ≡ before
      (written ++ new_replies) end
  joined end =
      ap (λ (xs : List ℕ). (xs, end.1)) (sym (append_assoc (written ++ replies) piece end.0)
      ∙ ap (λ (xs : List ℕ). xs ++ end.0) (append_assoc written replies piece
      ∙ ap (λ (xs : List ℕ). written ++ xs) (sym grown)))

  -- the script goes on
  pub goes_on : (next_state : StateValue) (turn : Turn) → turn ≡ Next
      → Answers (line_value line) state number next_state piece turn
      → all ≡ before (written ++ new_replies) (rest next_state)
  goes_on next_state turn is answers =
      let told = subst (Answers (line_value line) state number next_state piece) is answers in
      same ∙ (ap (before (written ++ replies)) (told rest) ∙ joined (rest next_state))

  -- the line ends it
  pub stops : (next_state : StateValue) (turn : Turn) → turn ≡ Stop
      → Answers (line_value line) state number next_state piece turn
      → all ≡ (written ++ new_replies, false)
  stops next_state turn is answers =
      let told = subst (Answers (line_value line) state number next_state piece) is answers in
      same ∙ (ap (before (written ++ replies)) (told rest)
      ∙ ap (λ (xs : List ℕ). (xs, false)) (append_assoc written replies piece
      ∙ ap (λ (xs : List ℕ). written ++ xs) (sym grown)))

-- a front of the replies that waited is written now
pub flushed : (all : Played) (written front others replies : List ℕ) (rest : Played)
    → replies ≡ front ++ others → all ≡ before (written ++ replies) rest
    → all ≡ before ((written ++ front) ++ others) rest
flushed all written front others replies rest is same =
    same ∙ ap (λ (xs : List ℕ). before xs rest) (ap (λ (xs : List ℕ). written ++ xs) is
    ∙ sym (append_assoc written front others))

-- no line is left
pub at_end : (all : Played) (bytes : List ℕ) → all ≡ before bytes ([], true) → all ≡ (bytes, true)
at_end all bytes same = same ∙ ap (λ (xs : List ℕ). (xs, true)) (append-nil bytes)

-- what the lines so far come to, whatever lines follow them
abbrev pub PlaysSo : List (List ℕ) → List ℕ → StateValue → ℕ → Type 0
PlaysSo front replies state number =
    (more : List (List ℕ)) → played opening 1 (front ++ more) ≡ before replies
    (played state number more)

-- the whole script, of which some lines were played
pub whole_script : (script : List ℕ) (front lines : List (List ℕ)) (replies : List ℕ)
    (state : StateValue) (number : ℕ) → lines_of script ≡ front ++ lines
    → PlaysSo front replies state number
    → replay_of script ≡ before replies (played state number lines)
whole_script script front lines replies state number split so =
    ap (played opening 1) split ∙ so lines

-- the lines so far are the whole replies to the script's first lines
pub begins_so : (script : List ℕ) (front lines : List (List ℕ)) (replies : List ℕ)
    (state : StateValue) (number : ℕ) → lines_of script ≡ front ++ lines
    → PlaysSo front replies state number
    → BeginsReplay script replies
begins_so script front lines replies state number split so = (
  length front,
  ap (λ (ls : List (List ℕ)). played opening 1 (take (length front) ls)) split
      ∙ (ap (played opening 1) (take_at front lines (length front) refl ∙ sym (append-nil front))
      ∙ (so [] ∙ ap (λ (xs : List ℕ). (xs, true)) (append-nil replies))),
)

-- one line more
pub split_on : (all front lines : List (List ℕ)) (line : List ℕ) (rest : List (List ℕ))
    → all ≡ front ++ lines → lines ≡ line ∷ rest → all ≡ (front ++ line ∷ []) ++ rest
split_on all front lines line rest split is =
    split ∙ (ap (λ (ls : List (List ℕ)). front ++ ls) is
    ∙ sym (append_assoc front (line ∷ []) rest))

pub plays_on : (front : List (List ℕ)) (line written replies piece new_replies out others : List ℕ)
    (state next_state : StateValue) (number : ℕ) (turn : Turn)
    → PlaysSo front (written ++ replies) state number
    → new_replies ≡ replies ++ piece → new_replies ≡ out ++ others → turn ≡ Next
    → Answers (line_value line) state number next_state piece turn
    → PlaysSo (front ++ line ∷ []) ((written ++ out) ++ others) next_state (number + 1)
plays_on front line written replies piece new_replies out others state next_state number turn so
    grown cut is answers more =
    flushed (played opening 1 ((front ++ line ∷ []) ++ more)) written out others new_replies
    (played next_state (number + 1) more) cut
    (goes_on (played opening 1 ((front ++ line ∷ []) ++ more)) written replies piece new_replies
    state number line more
    (ap (played opening 1) (append_assoc front (line ∷ []) more) ∙ so (line ∷ more)) grown
    next_state turn is answers)

module _ (script : List ℕ) (a b c : Option (List ℕ)) (f g : ℕ) (written replies bytes : List ℕ)
    (result : PlayEnd) (old : Appends a b written) (same : bytes ≡ replies) where
  whole : (good : Bool) → replay_of script ≡ (written ++ replies, good)
      → (replay_of script).0 ≡ written ++ (replies ++ [])
  whole good is = ap (λ p. p.0) is ∙ ap (λ (xs : List ℕ). written ++ xs) (sym (append-nil replies))

  pub plays_stop : replay_of script ≡ (written ++ replies, false)
      → Finishes bytes BadLine b c f g result → Plays script a c result
  plays_stop is fin =
      plays_end script BadLine result a b c f g written replies [] (whole false is) old
      (rw same at fin)
      (λ app. (ap (λ p. p.1) is, subst (Appends a c) (sym (ap (λ p. p.0) is)) app))

  pub plays_done : replay_of script ≡ (written ++ replies, true)
      → Finishes bytes Done b c f g result → Plays script a c result
  plays_done is fin =
      plays_end script Done result a b c f g written replies [] (whole true is) old (rw same at fin)
      (λ app. (ap (λ p. p.1) is, subst (Appends a c) (sym (ap (λ p. p.0) is)) app))

  pub plays_short : (rest : Played) → replay_of script ≡ before (written ++ replies) rest
      → BeginsReplay script (written ++ replies) → Finishes bytes OutOfMemory b c f g result
      → Plays script a c result
  plays_short rest is begins fin =
      plays_end script OutOfMemory result a b c f g written replies rest.0
      (ap (λ p. p.0) is ∙ append_assoc written replies rest.0) old (rw same at fin)
      (λ app. (written ++ replies, rest.0, ap (λ p. p.0) is, app, begins))

  -- a front of the replies is written, and then a write fails
  pub plays_fault : (rest : Played) → replay_of script ≡ before (written ++ replies) rest
      → AppendsFront b c replies → AppendsFront a c (replay_of script).0
  plays_fault rest is front =
      front_of a b c (replay_of script).0 written replies rest.0
      (ap (λ p. p.0) is ∙ append_assoc written replies rest.0) old front

-- a line of the code is no bad one: the script goes on behind it
good_played : (said : code.Line) (state : StateValue) (number : ℕ) (rest : StateValue → Played)
    → line_played (line_said said) state number rest ≡ before
    (answer_line (line_answer script_settings state (line_said said)))
    (rest (line_after script_settings state (line_said said)))
good_played line.Blank state number rest = refl
good_played (line.Table dtab) state number rest = refl
good_played (line.Change change) state number rest = refl
good_played (line.Look look) state number rest = refl
good_played (line.Ask ask) state number rest = refl

-- a line that was carried out
pub answered : (text : List ℕ) (said : code.Line) (settings : SettingsValue)
    (state new : StateValue) (number : ℕ) (replies out : List ℕ) (answer : Option SaidValue)
    → line_value text ≡ line_said said → settings ≡ script_settings
    → answer ≡ line_answer settings state (line_said said)
    → new ≡ line_after settings state (line_said said)
    → out ≡ replies ++ answer_line answer
    → (piece : List ℕ) × (out ≡ replies ++ piece) × ((rest : StateValue → Played)
    → line_played (line_value text) state number rest ≡ before piece (rest new))
answered text said settings state new number replies out answer read set told left grown = (
  answer_line answer,
  grown,
  λ rest.
      ap (λ v. line_played v state number rest) read
      ∙ (good_played said state number rest
      ∙ (ap (λ o. before (answer_line o) (rest (line_after script_settings state (line_said said))))
      (sym (told ∙ ap (λ s. line_answer s state (line_said said)) set))
      ∙ ap (λ n. before (answer_line answer) (rest n))
      (sym (left ∙ ap (λ s. line_after s state (line_said said)) set)))),
)
