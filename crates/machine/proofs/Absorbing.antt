-- A prepared change that is absorbed leaves what the change leaves.
use Rattle.std.proofs.Common.{◌≡◌, ℕ, Bool, true, false, Option, Some, cond, refl, sym, ap, ◌∙◌}
use Rattle.std.specs.Prelude.{◌&&◌, is_none}
use Rattle.addr_book.specs.Book.{is_used}
use Rattle.choose_core.specs.Marks.{MarkMap, mark_at, with_mark}
use Rattle.machine.specs.Values.{SettingsValue, StateValue, ChangeValue, create, put, delete}
use Rattle.machine.specs.Values.{set_addrs, drop_service, report, ReplyValue, not_kept}
use Rattle.machine.specs.State.{refusal, good_refusal, changed, with_marks, mark_after}
use Rattle.machine.specs.Ready.{PartValue, store_then, book_then, reported, prepared_of, absorbed}
use Rattle.machine.specs.Ready.{with_part, AbsorbingIsChanging}

first_of_and : (a b : Bool) → (a && b) ≡ true → a ≡ true
first_of_and true b e = refl
first_of_and false b e = e

used_if_taken : (used : Bool) (r : Option ReplyValue)
    → is_none (cond used r (Some not_kept)) ≡ true → used ≡ true
used_if_taken true r e = refl
used_if_taken false r e = absurd (cc)

-- what was prepared of an accepted change
absorbed_changed : (settings : SettingsValue) (state : StateValue) (change : ChangeValue)
    → is_none (refusal state change) ≡ true → absorbed state (prepared_of settings state change)
    ≡ changed settings state change
absorbed_changed settings state (create name rules) taken = refl
absorbed_changed settings state (put name expected rules) taken = refl
absorbed_changed settings state (delete name expected) taken = refl
absorbed_changed settings state (set_addrs service list) taken = refl
absorbed_changed settings state (drop_service service) taken = refl
absorbed_changed settings state (report addr good moment) taken =
    let used = used_if_taken (is_used state.book.services addr)
    (good_refusal (mark_at state.marks addr) good) taken in
    ap (λ (marks : MarkMap). with_marks state marks)
    (ap (λ b. cond b (with_mark state.marks addr
    (mark_after settings.limits state.marks addr good moment)) state.marks) used)

pub absorbing_is_changing : AbsorbingIsChanging
absorbing_is_changing settings state change ready for =
    ap (absorbed state) for.prepared
    ∙ (absorbed_changed settings state change
    (first_of_and (is_none (refusal state change)) _ for.accepted)
    ∙ sym (ap (λ b. cond b (changed settings state change) state) for.accepted))

-- at another place
pub moved_part : (state : StateValue) (part : PartValue) (place : ℕ) (new : StateValue)
    → new ≡ with_part state part state.place
    → record new { place = place } ≡ with_part state part place
moved_part state (store_then store) place new is =
    ap (λ (s : StateValue). record s { place = place }) is
moved_part state (book_then book) place new is =
    ap (λ (s : StateValue). record s { place = place }) is
moved_part state (reported addr good moment limits) place new is =
    ap (λ (s : StateValue). record s { place = place }) is
