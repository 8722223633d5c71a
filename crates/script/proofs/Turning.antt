-- Turns that are drawn and taken one after another.
use Rattle.std.proofs.Common.{◌≡◌, ℕ, suc, ◌+◌, ◌-◌, ◌/◌, ◌%◌, ◌<◌, ◌≤◌, ◌==◌, Bool, true, false}
use Rattle.std.proofs.Common.{not, if◌then◌else◌, refl, sym, ap, ◌∙◌, arith, lt-ltb, nat_lt}
use Rattle.std.specs.Prelude.{Result, Ok, Err, OnOk}
use Rattle.std.proofs.lemmas.Bool.Decides.{nat_tests}
use Rattle.rand_pcg.specs.Lcg.{Lcg}
use Rattle.rand_pcg.specs.Pcg.{pcg64}
use Rattle.machine.specs.Values.{SettingsValue, StateValue, ChangeValue, create, put, delete}
use Rattle.machine.specs.Values.{set_addrs, drop_service, report, AskValue, ChosenValue, picked}
use Rattle.machine.specs.Values.{not_picked}
use Rattle.machine.specs.State.{changed, after, is_accepted}
use Rattle.machine.specs.Choosing.{pick_of, chosen_of}
use Rattle.turn_parts.specs.Parts.{drawn_ask}
use Rattle.script.specs.Turns.{changing, picking, change_by, pick_by, turn_by, next_turn}
use Rattle.script.specs.Turns.{turns_from}
use Rattle.script.specs.Storm.{RunValue, with_answer, after_turn, after_turns}
use Rattle.script.specs.Ran.{IsWithin}

-- ---- drawn turns
pub changing_turn : (number word : ℕ) (words left : Lcg) (c : ChangeValue)
    → (word, left) ≡ pcg64 words → word % 8 < 4
    → c ≡ change_by (word % 8) (word / 8 % 16) (word / 128 % 4096) number
    → (changing c, left) ≡ next_turn number words
unfolding next_turn
changing_turn number word words left c drawn few is =
    let turn : turn_by number word left
    ≡ (changing (change_by (word % 8) (word / 8 % 16) (word / 128 % 4096) number), left) =
    rw (lt-ltb (word % 8) 4 few) refl in
    ap (λ (d : ChangeValue). (changing d, left)) is ∙ sym turn
    ∙ ap (λ (d : ℕ × Lcg). turn_by number d.0 d.1) drawn

pub picking_turn : (number word : ℕ) (words left rest : Lcg) (ask : AskValue)
    → (word, left) ≡ pcg64 words → 4 ≤ word % 8 → (ask, rest)
    ≡ drawn_ask (word / 8 % 16) number left
    → (picking ask, rest) ≡ next_turn number words
unfolding next_turn
picking_turn number word words left rest ask drawn many is =
    let later : nat_lt (word % 8) 4 ≡ false = grind (arith, nat_tests) in
    let turn : turn_by number word left ≡ pick_by (word / 8 % 16) number left = rw later refl in
    ap (λ (d : AskValue × Lcg). (picking d.0, d.1)) is ∙ sym turn
    ∙ ap (λ (d : ℕ × Lcg). turn_by number d.0 d.1) drawn

-- ---- accepted changes
one_on : (settings : SettingsValue) (state : StateValue) (c : ChangeValue)
    → (changed settings state c).place ≡ state.place + 1
one_on settings state (create name rules) = refl
one_on settings state (put name expected rules) = refl
one_on settings state (delete name expected) = refl
one_on settings state (set_addrs service list) = refl
one_on settings state (drop_service service) = refl
one_on settings state (report addr good moment) = refl

-- a change is accepted exactly where the history gets longer
pub longer : (settings : SettingsValue) (state : StateValue) (c : ChangeValue)
    → not ((after settings state c).place == state.place) ≡ is_accepted state c
longer settings state c = go (is_accepted state c) refl
  where
    go : (b : Bool) → is_accepted state c ≡ b
        → not ((if b then changed settings state c else state).place == state.place) ≡ b
    go true e =
        let on = one_on settings state c in
        grind (arith, nat_tests, on)
    go false e = grind (arith, nat_tests)

-- ---- counts
pub on_ok : {T E P Q R : Type 0} (r : Result T E) → (P → Q → R) → OnOk r P → OnOk r Q → OnOk r R
on_ok (Ok x) f p q = f p q
on_ok (Err e) f p q = tt

within_answer : (number : ℕ) (run next : RunValue) (said : ChosenValue) → IsWithin number run
    → next ≡ with_answer run said → next.ports ≤ run.ports + 65535 → IsWithin (number + 1) next
within_answer number run next (picked addr client residual) w is ports =
    record {
      refused = omega (arith, w.refused, ap (λ (r : RunValue). r.refused) is);
      picked = omega (arith, w.picked, ap (λ (r : RunValue). r.picked) is);
      lacking = omega (arith, w.lacking, ap (λ (r : RunValue). r.lacking) is);
      ports = omega (arith, w.ports, ports);
    }
within_answer number run next (not_picked why) w is ports =
    record {
      refused = omega (arith, w.refused, ap (λ (r : RunValue). r.refused) is);
      picked = omega (arith, w.picked, ap (λ (r : RunValue). r.picked) is);
      lacking = omega (arith, w.lacking, ap (λ (r : RunValue). r.lacking) is);
      ports = omega (arith, w.ports, ports);
    }

-- a pick's counts stay within one turn more
pub within_pick : (settings : SettingsValue) (number : ℕ) (run next : RunValue) (ask : AskValue)
    → IsWithin number run → next ≡ after_turn settings run (picking ask)
    → next.ports ≤ run.ports + 65535 → IsWithin (number + 1) next
within_pick settings number run next ask =
    within_answer number run next (chosen_of (pick_of settings run.state ask 0 0))

-- ---- turns that are left
-- a run of which the turns from the kth on are still to be taken, of n in all
abbrev pub to_come : SettingsValue → ℕ → ℕ → RunValue → Lcg → RunValue
to_come settings n k run words = after_turns settings run (turns_from (n - k) k words)

pub one_taken : (settings : SettingsValue) (n k : ℕ) (run next whole : RunValue) (words left : Lcg)
    → k < n → next ≡ after_turn settings run (next_turn k words).0
    → left ≡ (next_turn k words).1 → to_come settings n k run words ≡ whole
    → to_come settings n (k + 1) next left ≡ whole
one_taken settings n k run next whole words left more is on same =
    let turns : n - k ≡ suc (n - (k + 1)) = omega arith in
    ap (λ (r : RunValue). to_come settings n (k + 1) r left) is
    ∙ ap (λ (w : Lcg). to_come settings n (k + 1) (after_turn settings run (next_turn k words).0)
    w) on
    ∙ ap (λ m. after_turns settings run (turns_from m k words)) (sym turns)
    ∙ same

pub all_taken : (settings : SettingsValue) (n k : ℕ) (run whole : RunValue) (words : Lcg) → n ≤ k
    → to_come settings n k run words ≡ whole → run ≡ whole
all_taken settings n k run whole words end same =
    let none : n - k ≡ 0 = omega arith in
    ap (λ m. after_turns settings run (turns_from m k words)) (sym none) ∙ same

pub none_taken : (settings : SettingsValue) (n : ℕ) (run first : RunValue) (words seeded : Lcg)
    → run ≡ first → words ≡ seeded
    → to_come settings n 0 run words ≡ after_turns settings first (turns_from n 0 seeded)
none_taken settings n run first words seeded is from =
    let all : n - 0 ≡ n = omega arith in
    ap (λ m. after_turns settings run (turns_from m 0 words)) all
    ∙ ap (λ (r : RunValue). after_turns settings r (turns_from n 0 words)) is
    ∙ ap (λ (w : Lcg). after_turns settings first (turns_from n 0 w)) from
