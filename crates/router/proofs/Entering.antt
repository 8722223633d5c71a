-- What a reader enters is what the operations come to that it has seen.
use Rattle.std.proofs.Common.{◌≡◌, ℕ, List, [], ◌∷◌, ◌++◌, length, refl, arith, ap, sym, ◌∙◌, subst}
use Rattle.std.proofs.Common.{append_assoc}
use Rattle.std.specs.Prelude.{fold, true, IfOk, OnErr, Result, Option, Some, None, is_some}
use Rattle.std.specs.Prelude.{option_map}
use Rattle.std.specs.Arc.{arc_value}
use Rattle.std.proofs.lemmas.List.{append-nil}
use Rattle.std.proofs.lemmas.List.Sums.{fold-append}
use Rattle.snap_cell.specs.Legal.{AllFit as Legal}
use Rattle.machine.specs.Code.{settings_of, change_of, ready_of}
use Rattle.machine.specs.Values.{SettingsValue, StateValue}
use Rattle.machine.specs.Values.{AskValue}
use Rattle.machine.specs.declared.settings.Settings.{Settings}
use Rattle.machine.specs.declared.reply.Reply.{Reply}
use Rattle.machine.specs.Code.{reply_value}
use Rattle.machine.specs.Choosing.{offer_of}
use Rattle.machine.specs.State.{report_refusal}
use Rattle.addr_book.specs.declared.addr.Addr.{Addr}
use Rattle.name_tree.specs.Path.{Labels}
use Rattle.dtab_table.specs.Rules.{Rule}
use Rattle.bind_core.specs.Delegation.{Ending}
use Rattle.bind_cache.specs.Cache.{found_in}
use Rattle.bind_cache.specs.Stored.{kept_of}
use Rattle.router_log.specs.Operation.{place_of}
use Rattle.router_log.specs.Value.{Value, opening_value, value_of, applied, AllFit, Fits}
use Rattle.router_log.specs.Value.{IsRightValue}
use Rattle.router_log.proofs.Right.{values_right}
use Rattle.router_log.proofs.Places.{place_is}
use Rattle.router_log.proofs.Taking.{change_taken, kept_taken}
use Rattle.router.specs.declared.update.Update.{Update}
use Rattle.router.specs.declared.update.Update.TheVariants as update
use Rattle.router.specs.declared.detached.Detached.{Detached}
use Rattle.router.specs.declared.picking.CacheLookup.{CacheLookup}
use Rattle.router.specs.Detached.{IsOut, IsLookedUp}
use Rattle.router.specs.declared.answer.Peek.{Peek}
use Rattle.router.specs.declared.names.Names.{Names}
use Rattle.router.specs.Peeked.{IsPeek}
use Rattle.router.specs.declared.current.Current.{Current}
use Rattle.router.specs.Loads.{MayHaveRead}
use Rattle.router.specs.Update.{operation_of, operations_of, taking, taken_in, UpdateFits}
use Rattle.router.specs.Update.{AllUpdatesFit}
use Rattle.router.specs.Values.{settings_in, value_in, IsEmpty}
use Rattle.router.specs.Whole.{Shown, with_update, shown_by, value_shown, whole_of}

abbrev pub fits_shown : Shown → Update → Type 0
fits_shown s u = UpdateFits (settings_of s.0) (taken_in (settings_of s.0) s.1) u

none_is : {A : Type 0} (xs : List A) → length xs ≡ 0 → xs ≡ []
none_is [] is = refl
none_is (x ∷ xs) is = absurd (omega (arith, is))

pub fold_shown : (s : Settings) (us more : List Update)
    → fold with_update (s, us) more ≡ (s, us ++ more)
fold_shown s us [] = ap (λ (l : List Update). (s, l)) (sym (append-nil us))
fold_shown s us (u ∷ more) = fold_shown s (us ++ u ∷ []) more
    ∙ ap (λ (l : List Update). (s, l)) (append_assoc us (u ∷ []) more)

-- the copy that was entered has the settings and the updates of the reader
pub same_settings : (v o : Shown) (seen : List Update) → v ≡ fold with_update o seen → v.0 ≡ o.0
same_settings v o seen is = ap (λ (s : Shown). s.0) (is ∙ fold_shown o.0 o.1 seen)

pub same_updates : (v o : Shown) (seen : List Update) → length o.1 ≡ 0
    → v ≡ fold with_update o seen → v.1 ≡ seen
same_updates v o seen none is = ap (λ (s : Shown). s.1) (is ∙ fold_shown o.0 o.1 seen)
    ∙ ap (λ (l : List Update). l ++ seen) (none_is o.1 none)

legal_from : (s : Settings) (past us : List Update) → Legal with_update fits_shown (s, past) us
    → AllUpdatesFit (settings_of s) (taken_in (settings_of s) past) us
legal_from s past [] legal = tt
legal_from s past (u ∷ us) legal =
    let next : taken_in (settings_of s) (past ++ u ∷ [])
    ≡ taking (settings_of s) (taken_in (settings_of s) past) u =
    fold-append (taking (settings_of s)) opening_value past (u ∷ []) in (
      legal.0,
      subst (λ (v : Value). AllUpdatesFit (settings_of s) v us) next
          (legal_from s (past ++ u ∷ []) us legal.1),
    )

pub legal_updates : (o : Shown) (us : List Update) → length o.1 ≡ 0
    → Legal with_update fits_shown o us → AllUpdatesFit (settings_of o.0) opening_value us
legal_updates o us none legal =
    subst (λ (l : List Update). AllUpdatesFit (settings_of o.0) (taken_in (settings_of o.0) l) us)
    (none_is o.1 none) (legal_from o.0 o.1 us legal)

-- on a value that it fits an update leaves what its operation leaves
pub taken_is : (settings : SettingsValue) (value : Value) (u : Update)
    → UpdateFits settings value u → taking settings value u
    ≡ applied settings value (operation_of u)
taken_is settings value (update.Changed by serial change ready) fits =
    change_taken settings value by serial (change_of change) (ready_of ready) fits
taken_is settings value (update.Kept by serial binding) fits =
    kept_taken settings value by serial (kept_of (arc_value binding)) fits

pub updates_come_to : (settings : SettingsValue) (value : Value) (us : List Update)
    → AllUpdatesFit settings value us
    → fold (taking settings) value us ≡ fold (applied settings) value (operations_of us)
updates_come_to settings value [] all = refl
updates_come_to settings value (u ∷ us) all =
    updates_come_to settings (taking settings value u) us all.1
    ∙ ap (λ (v : Value). fold (applied settings) v (operations_of us))
    (taken_is settings value u all.0)

fits_operation : (settings : SettingsValue) (value : Value) (u : Update)
    → UpdateFits settings value u → Fits settings value (operation_of u)
fits_operation settings value (update.Changed by serial change ready) fits = fits.accepted
fits_operation settings value (update.Kept by serial binding) fits = fits

pub operations_fit : (settings : SettingsValue) (value : Value) (us : List Update)
    → AllUpdatesFit settings value us → AllFit settings value (operations_of us)
operations_fit settings value [] all = tt
operations_fit settings value (u ∷ us) all = (
  fits_operation settings value u all.0,
  subst (λ (v : Value). AllFit settings v (operations_of us)) (taken_is settings value u all.0)
      (operations_fit settings (taking settings value u) us all.1),
)

-- what some updates that fit leave is what their operations come to
pub whole_is : (o : Current) (seen : List Update) → IsEmpty o
    → Legal with_update fits_shown (shown_by o) seen → whole_of o seen
    ≡ value_of (settings_in o) (operations_of seen)
whole_is o seen empty legal =
    ap value_shown (fold_shown (shown_by o).0 (shown_by o).1 seen)
    ∙ (ap (λ (l : List Update). taken_in (settings_in o) (l ++ seen)) (none_is (shown_by o).1 empty)
    ∙ updates_come_to (settings_in o) opening_value seen
    (legal_updates (shown_by o) seen empty legal))

pub whole_fits : (o : Current) (seen : List Update) → IsEmpty o
    → Legal with_update fits_shown (shown_by o) seen
    → AllFit (settings_in o) opening_value (operations_of seen)
whole_fits o seen empty legal = operations_fit (settings_in o) opening_value seen
    (legal_updates (shown_by o) seen empty legal)

pub whole_place : (o : Current) (seen : List Update) → IsEmpty o
    → Legal with_update fits_shown (shown_by o) seen → (whole_of o seen).state.place
    ≡ place_of (operations_of seen)
whole_place o seen empty legal =
    ap (λ (x : Value). x.state.place) (whole_is o seen empty legal)
    ∙ place_is (settings_in o) (operations_of seen) (whole_fits o seen empty legal)

pub whole_settings : (o : Current) (seen : List Update)
    → settings_of (fold with_update (shown_by o) seen).0 ≡ settings_in o
whole_settings o seen = ap (λ (s : Shown). settings_of s.0)
    (fold_shown (shown_by o).0 (shown_by o).1 seen)

-- What was entered: the copy v, which has just these updates behind those of the value with which
-- the cell began, of which there are none
module _ (v o : Current) (seen : List Update) (empty : IsEmpty o)
    (is : shown_by v ≡ fold with_update (shown_by o) seen)
    (legal : Legal with_update fits_shown (shown_by o) seen) where
  pub entered_settings : settings_in v ≡ settings_in o
  entered_settings = ap (λ (s : Shown). settings_of s.0)
      (is ∙ fold_shown (shown_by o).0 (shown_by o).1 seen)

  pub entered_value : value_in v ≡ value_of (settings_in o) (operations_of seen)
  entered_value = ap value_shown is ∙ whole_is o seen empty legal

  pub entered_place : (value_in v).state.place ≡ place_of (operations_of seen)
  entered_place = ap (λ (x : Value). x.state.place) entered_value
      ∙ place_is (settings_in o) (operations_of seen) (whole_fits o seen empty legal)

  -- what is told of a value that is equal to the copy is told of the whole
  pub whole_told : (P : SettingsValue → StateValue → Type 0) (S : SettingsValue) (t : StateValue)
      (c : Current) → c ≡ v → S ≡ settings_in c → t ≡ (value_in c).state → P S t
      → P (settings_in o) (whole_of o seen).state
  whole_told P S t c same settings state p =
      let S' = settings ∙ (ap settings_in same ∙ entered_settings) in
      let t' = state ∙ (ap (λ (x : Current). (value_in x).state) same
      ∙ ap (λ (s : Shown). (value_shown s).state) is) in
      subst (λ (u : StateValue). P (settings_in o) u) t' (subst (λ (T : SettingsValue). P T t) S' p)

  -- where all of it fitted, what is kept is right for what was entered
  pub entered_right : IsRightValue (settings_in v) (value_in v)
  entered_right =
      subst (λ (w : Value). IsRightValue (settings_in v) w) (sym entered_value)
      (subst (λ (s : SettingsValue). IsRightValue s
      (value_of (settings_in o) (operations_of seen))) (sym entered_settings)
      (values_right (settings_in o) (operations_of seen) (whole_fits o seen empty legal)))

  -- what is told of the copy is told of what its operations come to, also where it is named by an
  -- equal one, and the updates by equal ones
  module _ (c : Current) (same : c ≡ v) (seen' : List Update) (then : seen' ≡ seen) where
    pub told_place : (place : ℕ) → place ≡ (value_in c).state.place
        → place ≡ place_of (operations_of seen')
    told_place place told =
        told ∙ (ap (λ (x : Current). (value_in x).state.place) same
        ∙ (entered_place ∙ sym (ap (λ (us : List Update). place_of (operations_of us)) then)))

    pub told_right : IsRightValue (settings_in c) (value_in c)
    told_right = subst (λ (x : Current). IsRightValue (settings_in x) (value_in x))
        (sym same) entered_right

    told_of : (P : SettingsValue → Value → Type 0) → P (settings_in c) (value_in c)
        → P (settings_in o) (value_of (settings_in o) (operations_of seen'))
    told_of P p =
        subst (λ (us : List Update). P (settings_in o)
        (value_of (settings_in o) (operations_of us))) (sym then)
        (subst (λ (w : Value). P (settings_in o) w) entered_value
        (subst (λ (s : SettingsValue). P s (value_in v)) entered_settings
        (subst (λ (x : Current). P (settings_in x) (value_in x)) same p)))

    pub told_kept : (kept : ℕ) → kept ≡ length (value_in c).cache
        → kept ≡ length (value_of (settings_in o) (operations_of seen')).cache
    told_kept kept told = told_of (λ s w. kept ≡ length w.cache) told

    pub told_out : {E : Type 0} (r : Result Detached E)
        → IfOk r (IsOut (settings_in c) (value_in c).state)
        → IfOk r (IsOut (settings_in o) (value_of (settings_in o) (operations_of seen')).state)
    told_out r told = told_of (λ s w. IfOk r (IsOut s w.state)) told

    pub told_found : {E : Type 0} (r : Result CacheLookup E) (place : ℕ) (ask : AskValue)
        (before after : List (ℕ × ℕ)) → place ≡ (value_in c).state.place
        → IfOk r (IsLookedUp (settings_in c) (value_in c) (value_in c).state.place ask before after)
        → IfOk r (IsLookedUp (settings_in o) (value_of (settings_in o) (operations_of seen')) place
        ask before after)
    told_found r place ask before after at told =
        told_of (λ s w. IfOk r (IsLookedUp s w place ask before after))
        (subst (λ (n : ℕ). IfOk r (IsLookedUp (settings_in c) (value_in c) n ask before after))
        (sym at) told)

    pub told_read : {A E : Type 0} (r : Result A E) (ask : AskValue) (before after : List (ℕ × ℕ))
        → OnErr r (MayHaveRead (offer_of (settings_in c) (value_in c).state ask) before after)
        → OnErr r (MayHaveRead
        (offer_of (settings_in o) (value_of (settings_in o) (operations_of seen')).state ask)
        before after)
    told_read r ask before after told =
        told_of (λ s w. OnErr r (MayHaveRead (offer_of s w.state ask) before after)) told

    pub told_success : (r : Option Reply) (addr : Addr)
        → option_map reply_value r ≡ report_refusal (value_in c).state addr true
        → option_map reply_value r ≡ report_refusal
        (value_of (settings_in o) (operations_of seen')).state addr true
    told_success r addr told =
        told_of (λ s w. option_map reply_value r ≡ report_refusal w.state addr true) told

    pub told_peek : (p : Peek) (place : ℕ) (ask : AskValue) (before after : List (ℕ × ℕ))
        (names : Names) → place ≡ (value_in c).state.place
        → IsPeek (settings_in c) (value_in c) (value_in c).state.place ask before after names p
        → IsPeek (settings_in o) (value_of (settings_in o) (operations_of seen')) place ask before
        after names p
    told_peek p place ask before after names at told =
        told_of (λ s w. IsPeek s w place ask before after names p)
        (subst (λ (n : ℕ). IsPeek (settings_in c) (value_in c) n ask before after names p)
        (sym at) told)

-- whether something is kept, as the code looks it up
is_some_map : {A : Type 0} (f : A → Ending) (r : Option A) → is_some r ≡ is_some (option_map f r)
is_some_map f None = refl
is_some_map f (Some x) = refl

pub had_is : {A : Type 0} (f : A → Ending) (r : Option A) (c v : Current) (whole : Value)
    (path path' : Labels) (local local' : List Rule) → option_map f r
    ≡ found_in (value_in c).cache path local → c ≡ v → value_in v ≡ whole
    → path ≡ path' → local ≡ local' → is_some r ≡ is_some (found_in whole.cache path' local')
had_is f r c v whole path path' local local' found same is p l =
    is_some_map f r ∙ (ap is_some found
    ∙ (ap (λ (x : Current). is_some (found_in (value_in x).cache path local)) same
    ∙ (ap (λ (w : Value). is_some (found_in w.cache path local)) is
    ∙ (ap (λ (q : Labels). is_some (found_in whole.cache q local)) p
    ∙ ap (λ (m : List Rule). is_some (found_in whole.cache path' m)) l))))
