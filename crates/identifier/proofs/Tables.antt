-- Tables one behind the other.
use Rattle.std.proofs.Common.{◌≡◌, ◌<◌, ◌≤◌, ◌+◌, ℕ, suc, Bool, true, false, List, [], ◌∷◌, ◌++◌}
use Rattle.std.proofs.Common.{length, drop, get_or, cond, arith, refl, sym, ap, ◌∙◌, map, filter}
use Rattle.std.proofs.Common.{Option, Some, None, Err, append_assoc, codes, leb}
use Rattle.std.specs.Option.{option_map, option_and_then}
use Rattle.http_wire.specs.declared.head.Field.{Field}
use Rattle.http_wire.specs.Fields.{is_named, values_of}
use Rattle.dtab_table.specs.declared.entry.Entry.{Entry}
use Rattle.dtab_table.specs.Rules.{Rule, rule_of}
use Rattle.dtab_table.specs.Computed.{few_enough, table_of}
use Rattle.std.proofs.Math.Seq.{drop-cons}
use Rattle.std.proofs.Math.ListN.{drop_of_length-le}
use Rattle.std.proofs.lemmas.List.{append-nil}
use Rattle.identifier.specs.declared.fault.LocalFault.{LocalFault}
use Rattle.identifier.specs.declared.fault.LocalFault.TheVariants.{BadDtab, OutOfMemory}
use Rattle.dtab_table.specs.Answers.{most_entries}
use Rattle.std.proofs.lemmas.Bool.Decides.{nat_tests}
use Rattle.std.proofs.lemmas.List.{length-map}
use Rattle.identifier.specs.Local.{joined_rules, local_rules, local_texts, Adds, Gives}

-- the rules of some texts behind others
abbrev pub behind : List Entry → List (List ℕ) → Option (List Rule)
behind entries texts = option_map (λ more. map rule_of entries ++ more) (joined_rules texts)

-- a field of the name is the first of them
pub value_first : (name : List ℕ) (f : Field) (fs : List Field) → is_named name f ≡ true
    → values_of name (f ∷ fs) ≡ f.value ∷ values_of name fs
unfolding values_of
value_first name f fs test =
    let value : Field → List ℕ = λ (g : Field). g.value in
    ap (λ (b : Bool). map value
    (cond b (f ∷ filter (is_named name) fs) (filter (is_named name) fs))) test

-- and another field is none of them
pub value_other : (name : List ℕ) (f : Field) (fs : List Field) → is_named name f ≡ false
    → values_of name (f ∷ fs) ≡ values_of name fs
unfolding values_of
value_other name f fs test =
    let value : Field → List ℕ = λ (g : Field). g.value in
    ap (λ (b : Bool). map value
    (cond b (f ∷ filter (is_named name) fs) (filter (is_named name) fs))) test

some_same : (a b : List Rule) → Some a ≡ Some b → a ≡ b
some_same a b is = cc

-- the entries of one more table were put behind the others
pub added : (old new : List Entry) (text : List ℕ) (texts : List (List ℕ))
    → option_map (λ more. map rule_of old ++ more) (table_of text) ≡ Some (map rule_of new)
    → behind new texts ≡ behind old (text ∷ texts)
added old new text texts adds = by_table (table_of text) (joined_rules texts) adds
  where
    by_table : (table : Option (List Rule)) (later : Option (List Rule))
        → option_map (λ more. map rule_of old ++ more) table ≡ Some (map rule_of new)
        → option_map (λ more. map rule_of new ++ more) later
        ≡ option_map (λ more. map rule_of old ++ more)
        (option_and_then (λ rules. option_map (λ more. rules ++ more) later) table)
    by_table None later is = absurd (cc)
    by_table (Some rules) None is = refl
    by_table (Some rules) (Some more) is =
        ap Some (ap (λ (front : List Rule). front ++ more) (sym (some_same _ _ is))
        ∙ append_assoc (map rule_of old) rules more)

-- a text that is no table's
pub refused : (text : List ℕ) (texts : List (List ℕ)) → table_of text ≡ None
    → joined_rules (text ∷ texts) ≡ None
refused text texts none =
    ap (option_and_then (λ rules. option_map (λ more. rules ++ more) (joined_rules texts))) none

-- the rules of some texts and then of others
pub joined_rules-append : (a b : List (List ℕ))
    → joined_rules (a ++ b) ≡ option_and_then
    (λ rules. option_map (λ more. rules ++ more) (joined_rules b)) (joined_rules a)
joined_rules-append [] b = by_later (joined_rules b)
  where
    by_later : (later : Option (List Rule)) → later ≡ option_map (λ more. [] ++ more) later
    by_later None = refl
    by_later (Some more) = refl
joined_rules-append (text ∷ a) b =
    ap (λ (found : Option (List Rule)). option_and_then
    (λ rules. option_map (λ more. rules ++ more) found) (table_of text)) (joined_rules-append a b)
    ∙ by_table (table_of text) (joined_rules a) (joined_rules b)
  where
    by_table : (table first later : Option (List Rule))
        → option_and_then (λ rules. option_map (λ more. rules ++ more)
        (option_and_then (λ rs. option_map (λ more. rs ++ more) later) first)) table
        ≡ option_and_then (λ rules. option_map (λ more. rules ++ more) later)
        (option_and_then (λ rules. option_map (λ more. rules ++ more) first) table)
    by_table None first later = refl
    by_table (Some rules) None later = refl
    by_table (Some rules) (Some more) None = refl
    by_table (Some rules) (Some more) (Some last) = ap Some (sym (append_assoc rules more last))

-- the fields from a place on begin with the field there
from_place : (fields : List Field) (at : ℕ) (f : Field) → at < length fields
    → f ≡ get_or fields at f → drop at fields ≡ f ∷ drop (at + 1) fields
from_place fields at f within is =
    let next : suc at ≡ at + 1 = omega arith in
    drop-cons fields at f within ∙ (λ k. sym is k ∷ drop (next k) fields)

-- the values from a field of the name on begin with its value
pub values_from : (name : List ℕ) (fields : List Field) (at : ℕ) (f : Field) → at < length fields
    → f ≡ get_or fields at f → is_named name f ≡ true
    → values_of name (drop at fields) ≡ f.value ∷ values_of name (drop (at + 1) fields)
values_from name fields at f within is test =
    ap (values_of name) (from_place fields at f within is)
    ∙ value_first name f (drop (at + 1) fields) test

-- and from another field on they are those behind it
pub values_behind : (name : List ℕ) (fields : List Field) (at : ℕ) (f : Field) → at < length fields
    → f ≡ get_or fields at f → is_named name f ≡ false
    → values_of name (drop at fields) ≡ values_of name (drop (at + 1) fields)
values_behind name fields at f within is test =
    ap (values_of name) (from_place fields at f within is)
    ∙ value_other name f (drop (at + 1) fields) test

none_found : (front : List Rule) (found : Option (List Rule))
    → option_map (λ more. front ++ more) found ≡ None → found ≡ None
none_found front None is = refl
none_found front (Some rules) is = absurd (cc)

-- a table that is refused is one of those of the name
pub failed : (old now new : List Entry) (text : List ℕ) (texts : List (List ℕ))
    (all : List (List ℕ)) (fault : LocalFault)
    → behind now (text ∷ texts) ≡ behind old all → Adds now new (table_of text) (Err fault)
    → Adds old new (joined_rules all) (Err fault)
failed old now new text texts all BadDtab same none =
    none_found (map rule_of old) (joined_rules all)
    (sym same ∙ ap (option_map (λ more. map rule_of now ++ more)) (refused text texts none))
failed old now new text texts all OutOfMemory same none = tt

-- behind the last field there is no more value
pub ended : (old now : List Entry) (name : List ℕ) (fields : List Field) (at : ℕ)
    → length fields ≤ at
    → behind now (values_of name (drop at fields)) ≡ behind old (values_of name fields)
    → behind old (values_of name fields) ≡ Some (map rule_of now)
unfolding values_of
ended old now name fields at past same =
    sym same ∙ ap (λ (fs : List Field). behind now (values_of name fs))
    (drop_of_length-le fields past) ∙ ap Some (append-nil (map rule_of now))

-- the next field is of the name, and the entries of its table were put behind the others
pub goes_on : (old now new : List Entry) (name text : List ℕ) (fields : List Field) (at : ℕ)
    (f : Field) → at < length fields → f ≡ get_or fields at f
    → is_named name f ≡ true → text ≡ f.value
    → behind now (values_of name (drop at fields)) ≡ behind old (values_of name fields)
    → option_map (λ more. map rule_of now ++ more) (table_of text) ≡ Some (map rule_of new)
    → behind new (values_of name (drop (at + 1) fields)) ≡ behind old (values_of name fields)
goes_on old now new name text fields at f within is test value same adds =
    let rest = values_of name (drop (at + 1) fields) in
    added now new text rest adds
    ∙ ap (λ (t : List ℕ). behind now (t ∷ rest)) value
    ∙ ap (behind now) (sym (values_from name fields at f within is test))
    ∙ same

-- the next field is of the name, and its table is refused
pub stops : (old now new : List Entry) (name text : List ℕ) (fields : List Field) (at : ℕ)
    (f : Field) (fault : LocalFault) → at < length fields
    → f ≡ get_or fields at f → is_named name f ≡ true → text ≡ f.value
    → behind now (values_of name (drop at fields)) ≡ behind old (values_of name fields)
    → Adds now new (table_of text) (Err fault)
    → Adds old new (joined_rules (values_of name fields)) (Err fault)
stops old now new name text fields at f fault within is test value same refused =
    let rest = values_of name (drop (at + 1) fields) in
    failed old now new text rest (values_of name fields) fault
    (ap (λ (t : List ℕ). behind now (t ∷ rest)) value
    ∙ ap (behind now) (sym (values_from name fields at f within is test)) ∙ same)
    refused

-- the values of the fields that another router passed on, and those of the client's own
abbrev passed_on : List Field → List (List ℕ)
passed_on fields = values_of (codes "l5d-ctx-dtab") fields

abbrev own : List Field → List (List ℕ)
own fields = values_of (codes "l5d-dtab") fields

-- one of the tables that were passed on is refused
pub first_refused : (fields : List Field) (old new : List Entry) (fault : LocalFault)
    → Adds old new (joined_rules (passed_on fields)) (Err fault)
    → Gives (local_rules fields) (Err fault)
first_refused fields old new BadDtab none =
    ap (option_and_then few_enough)
    (joined_rules-append (passed_on fields) (own fields)
    ∙ ap (option_and_then
    (λ rules. option_map (λ more. rules ++ more) (joined_rules (own fields)))) none)
first_refused fields old new OutOfMemory none = tt

-- one of the client's own is
pub second_refused : (fields : List Field) (mid new : List Entry) (fault : LocalFault)
    → Adds mid new (joined_rules (own fields)) (Err fault)
    → Gives (local_rules fields) (Err fault)
second_refused fields mid new BadDtab none =
    ap (option_and_then few_enough)
    (joined_rules-append (passed_on fields) (own fields)
    ∙ ap (λ (later : Option (List Rule)). option_and_then
    (λ rules. option_map (λ more. rules ++ more) later) (joined_rules (passed_on fields))) none
    ∙ by_first (joined_rules (passed_on fields)))
  where
    by_first : (first : Option (List Rule))
        → option_and_then (λ rules. option_map (λ more. rules ++ more) None) first ≡ None
    by_first None = refl
    by_first (Some rules) = refl
second_refused fields mid new OutOfMemory none = tt

-- all of them were put one behind the other
pub all_joined : (fields : List Field) (old mid new : List Entry) → old ≡ []
    → option_map (λ more. map rule_of old ++ more) (joined_rules (passed_on fields))
    ≡ Some (map rule_of mid)
    → option_map (λ more. map rule_of mid ++ more) (joined_rules (own fields))
    ≡ Some (map rule_of new)
    → joined_rules (local_texts fields) ≡ Some (map rule_of new)
all_joined fields old mid new none first second =
    joined_rules-append (passed_on fields) (own fields)
    ∙ by_first (joined_rules (passed_on fields))
    (ap (λ (es : List Entry). option_map (λ more. map rule_of es ++ more)
    (joined_rules (passed_on fields))) (sym none) ∙ first)
  where
    by_first : (found : Option (List Rule)) → option_map (λ more. [] ++ more) found
        ≡ Some (map rule_of mid)
        → option_and_then (λ rules. option_map (λ more. rules ++ more) (joined_rules (own fields)))
        found ≡ Some (map rule_of new)
    by_first None is = absurd (cc)
    by_first (Some rules) is =
        ap (λ (front : List Rule). option_map (λ more. front ++ more) (joined_rules (own fields)))
        (some_same rules (map rule_of mid) is) ∙ second

-- the whole has too many entries
pub many : (fields : List Field) (new : List Entry)
    → joined_rules (local_texts fields) ≡ Some (map rule_of new) → most_entries < length new
    → local_rules fields ≡ None
many fields new is past = ap (option_and_then few_enough) is
    ∙ by_test (leb (length (map rule_of new)) most_entries) refl
  where
    len : length (map rule_of new) ≡ length new
    len = length-map new rule_of

    by_test : (b : Bool) → leb (length (map rule_of new)) most_entries ≡ b
        → cond b (Some (map rule_of new)) None ≡ None
    by_test true test = let bad : length (map rule_of new) ≤ most_entries =
        grind (arith, nat_tests) in absurd (omega (arith, len, bad, past))
    by_test false test = refl

-- or few enough
pub few : (fields : List Field) (new : List Entry)
    → joined_rules (local_texts fields) ≡ Some (map rule_of new) → length new ≤ most_entries
    → local_rules fields ≡ Some (map rule_of new)
few fields new is within = ap (option_and_then few_enough) is
    ∙ by_test (leb (length (map rule_of new)) most_entries) refl
  where
    len : length (map rule_of new) ≡ length new
    len = length-map new rule_of

    by_test : (b : Bool) → leb (length (map rule_of new)) most_entries ≡ b
        → cond b (Some (map rule_of new)) None ≡ Some (map rule_of new)
    by_test true test = refl
    by_test false test = let bad : most_entries < length (map rule_of new) =
        grind (arith, nat_tests) in absurd (omega (arith, len, bad, within))
