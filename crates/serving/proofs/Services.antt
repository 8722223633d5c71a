-- The services that are set when a router begins.
use Rattle.std.proofs.Common.{◌≡◌, ℕ, ◌+◌, ◌≤◌, ◌==◌, ◌&&◌, not, Bool, true, false, List, [], ◌∷◌}
use Rattle.std.proofs.Common.{◌++◌, append_assoc, length, length-append, map, take, drop, ap, arith}
use Rattle.std.proofs.Common.{sym, subst, ◌∙◌, refl, Option, Some, None}
use Rattle.std.specs.Prelude.{filter, if◌then◌else◌, option_map, is_none, Result, Ok, Err, OnOk}
use Rattle.std.specs.List.{AllByRecursion}
use Rattle.std.specs.Option.{option_to_list}
use Rattle.std.proofs.lemmas.List.{take-append-le, take-append-drop, take_at}
use Rattle.std.proofs.lemmas.List.Elements.{filter-append}
use mathlib.Core.List.{IsPrefix}
use Rattle.addr_book.specs.declared.addr.Weighted.{Weighted}
use Rattle.addr_book.specs.declared.fault.BookFault.{BookFault}
use Rattle.addr_book.specs.declared.fault.BookFault.TheVariants as fault
use Rattle.addr_book.specs.BookFault.{set_refusal}
use Rattle.linker_config.specs.declared.loaded.LoadedItem.{LoadedItem}
use Rattle.machine.specs.Code.{reply_value}
use Rattle.machine.specs.State.{book_reply, decided, is_accepted, last_place, reply_of}
use Rattle.machine.specs.Values.{StateValue, ChangeValue, set_addrs, set_to, history_spent}
use Rattle.machine.specs.declared.reply.Reply.{Reply}
use Rattle.machine.specs.declared.reply.Reply.TheVariants as replies
use Rattle.router.specs.declared.naming.Naming.{Ghosts}
use Rattle.router.specs.declared.pass.Pass.{Pass}
use Rattle.router.specs.Changing.{IsChanged}
use Rattle.router.specs.Passes.{made_in, number_in, seen_in}
use Rattle.router.proofs.Closing.{map_length}
use Rattle.router_log.specs.Operation.{Operation, changed, is_change, place_of}
use Rattle.router_log.specs.Value.{value_of}
use Rattle.serving.specs.Services.{HasSeen, HaveSeen, IsAdded, StandIn, setting}

-- the changes of a beginning are no more
pub fewer_before : (xs ys : List Operation) → IsPrefix xs ys → place_of xs ≤ place_of ys
fewer_before xs ys p = let all = ap place_of (sym p.1)
    ∙ (ap length (filter-append is_change xs p.0)
    ∙ length-append (filter is_change xs) (filter is_change p.0)) in omega (arith, all)

-- a beginning of the whole that is no longer than what stands before the last one begins that
before_last : (xs before : List Operation) (op : Operation) → IsPrefix xs (before ++ op ∷ [])
    → length xs ≤ length before → IsPrefix xs before
before_last xs before op p few =
    let here : take (length xs) (xs ++ p.0) ≡ xs = take_at xs p.0 (length xs) refl in
    let same : take (length xs) before ≡ xs = sym (take-append-le (length xs) before (op ∷ []) few)
    ∙ (ap (take (length xs)) (sym p.1) ∙ here) in (
      drop (length xs) before,
      ap (λ (zs : List Operation). zs ++ drop (length xs) before)
          (sym same) ∙ take-append-drop (length xs) before,
    )

spent_not : (spent : Bool) (n m : ℕ) → set_to n ≡ (if spent then history_spent else set_to m)
    → (true && not spent) ≡ true
spent_not true n m is = cc is
spent_not false n m is = refl

-- a service that was set was accepted
set_accepted : (state : StateValue) (refused : Option BookFault) (n m : ℕ)
    → set_to n ≡ decided state (option_map book_reply refused) (set_to m)
    → (is_none (option_map book_reply refused) && not (state.place == last_place)) ≡ true
set_accepted state None n m is = spent_not (state.place == last_place) n m is
set_accepted state (Some (fault.BookFull k)) n m is = cc is
set_accepted state (Some fault.TooManyServices) n m is = cc is
set_accepted state (Some fault.Missing) n m is = cc is
set_accepted state (Some fault.OutOfMemory) n m is = cc is

published : (b : Bool) (before after : List Operation) (op : Operation) → b ≡ true
    → after ≡ before ++ option_to_list (if b then Some op else None) → after ≡ before ++ op ∷ []
published true before after op sure is = is
published false before after op sure is = cc sure

pub made_where : (b t : Bool) (now next last : ℕ) → b ≡ t → now ≡ (if b then next else last)
    → now ≡ (if t then next else last)
made_where b t now next last same is = is ∙ ap (λ (c : Bool). if c then next else last) same

module _ {J : Type 0} {g : Ghosts J} where
  -- a service that is set was accepted there
  accepted_there : (old new : Pass J g) (service : List ℕ) (list : List Weighted) (reply : Reply)
      (n : ℕ) → (c : IsChanged old new (set_addrs service list) reply) → reply ≡ replies.Set n
      → is_accepted (value_of g.settings c.before).state (set_addrs service list) ≡ true
  accepted_there old new service list reply n c is =
      let state = (value_of g.settings c.before).state in
      let said : set_to n ≡ reply_of g.settings state (set_addrs service list) =
      sym (ap reply_value is) ∙ c.answered in
      set_accepted state (set_refusal state.book service list) n (length list) said

  -- and is one change more
  pub set_adds : (old new : Pass J g) (service : List ℕ) (list : List Weighted) (reply : Reply)
      (n : ℕ) → IsChanged old new (set_addrs service list) reply → reply ≡ replies.Set n
      → IsAdded (seen_in old) (seen_in new) (set_addrs service list)
  set_adds old new service list reply n c is =
      let state = (value_of g.settings c.before).state in
      let op = changed (number_in old) (made_in old) (set_addrs service list) in
      let seen : seen_in new ≡ c.before ++ op ∷ [] =
      published (is_accepted state (set_addrs service list)) c.before (seen_in new) op
      (accepted_there old new service list reply n c is) c.seen in
      let front : IsPrefix (seen_in old) c.before =
      before_last (seen_in old) c.before op (subst (IsPrefix (seen_in old)) seen c.called.before)
      c.called.late in
      (c.before, number_in old, made_in old, front, seen)

  pub set_makes : (old new : Pass J g) (service : List ℕ) (list : List Weighted) (reply : Reply)
      (n : ℕ) → IsChanged old new (set_addrs service list) reply → reply ≡ replies.Set n
      → made_in new ≡ made_in old + 1
  set_makes old new service list reply n c is =
      let state = (value_of g.settings c.before).state in
      made_where (is_accepted state (set_addrs service list)) true (made_in new) (made_in old + 1)
      (made_in old) (accepted_there old new service list reply n c is) c.made

-- what stands in a list stands in each that it begins
pub stands_longer : (ops more : List Operation) (cs : List ChangeValue) → StandIn ops cs
    → StandIn (ops ++ more) cs
stands_longer ops more [] s = tt
stands_longer ops more (c ∷ cs) s =
    let op = changed s.1 s.2 c in
    let split : ops ++ more ≡ s.0 ++ op ∷ (s.3 ++ more) =
    ap (λ (zs : List Operation). zs ++ more) s.4 ∙ append_assoc s.0 (op ∷ s.3) more in
    (s.0, s.1, s.2, s.3 ++ more, split, stands_longer s.3 more cs s.5)

pub stands_later : (old new : List Operation) (cs : List ChangeValue) → IsPrefix old new
    → StandIn old cs → StandIn new cs
stands_later old new cs p s = subst (λ (ops : List Operation). StandIn ops cs) p.1
    (stands_longer old p.0 cs s)

-- and one more change behind the others
stands_push : (ops more : List Operation) (caller serial : ℕ) (change : ChangeValue)
    (cs : List ChangeValue) → StandIn ops cs
    → StandIn (ops ++ (more ++ changed caller serial change ∷ [])) (cs ++ change ∷ [])
stands_push ops more caller serial change [] s = (
  ops ++ more,
  caller,
  serial,
  [],
  sym
      (append_assoc ops more (changed caller serial change ∷ [])),
  tt,
)
stands_push ops more caller serial change (c ∷ cs) s =
    let op = changed s.1 s.2 c in
    let last = more ++ changed caller serial change ∷ [] in
    let split : ops ++ last ≡ s.0 ++ op ∷ (s.3 ++ last) =
    ap (λ (zs : List Operation). zs ++ last) s.4 ∙ append_assoc s.0 (op ∷ s.3) last in
    (s.0, s.1, s.2, s.3 ++ last, split, stands_push s.3 more caller serial change cs s.5)

stands_added : (old new : List Operation) (change : ChangeValue) (cs : List ChangeValue)
    → IsAdded old new change → StandIn old cs → StandIn new (cs ++ change ∷ [])
stands_added old new change cs a s =
    let op = changed a.1 a.2 change in
    let p = a.3 in
    let split : old ++ (p.0 ++ op ∷ []) ≡ new = sym (append_assoc old p.0 (op ∷ []))
    ∙ (ap (λ (zs : List Operation). zs ++ op ∷ []) p.1 ∙ sym a.4) in
    subst (λ (ops : List Operation). StandIn ops (cs ++ change ∷ [])) split
    (stands_push old p.0 a.1 a.2 change cs s)

map_push : {A B : Type 0} (f : A → B) (xs : List A) (x : A)
    → map f (xs ++ x ∷ []) ≡ map f xs ++ f x ∷ []
map_push f [] x = refl
map_push f (y ∷ xs) x = ap (λ (zs : List _). f y ∷ zs) (map_push f xs x)

-- so many of the services are set, each by a change more
pub record AreSet (all rest : List LoadedItem) (ops : List Operation)
    (made made_then : ℕ) : Type 0 where
  pub done : List LoadedItem
  pub items : done ++ rest ≡ all
  pub stand : StandIn ops (map setting done)
  pub count : made_then ≡ made + length done

pub none_set : (all : List LoadedItem) (ops : List Operation) (made : ℕ)
    → AreSet all all ops made made
none_set all ops made = record { done = []; items = refl; stand = tt; count = omega arith }

pub one_set : (all whole rest : List LoadedItem) (item : LoadedItem) (old new : List Operation)
    (made now next : ℕ) → whole ≡ item ∷ rest → AreSet all whole old made now
    → IsAdded old new (setting item) → next ≡ now + 1 → AreSet all rest new made next
one_set all whole rest item old new made now next cut set added more = record {
  done = set.done ++ item ∷ [];
  items = append_assoc set.done (item ∷ []) rest
      ∙ (ap (λ (zs : List LoadedItem). set.done ++ zs) (sym cut) ∙ set.items);
  stand = subst (StandIn new) (sym (map_push setting set.done item))
      (stands_added old new (setting item) (map setting set.done) added set.stand);
  count = omega (arith, more, set.count, length-append set.done (item ∷ []));
}

nil_behind : {A : Type 0} (xs : List A) → xs ++ [] ≡ xs
nil_behind [] = refl
nil_behind (x ∷ xs) = ap (λ (zs : List _). x ∷ zs) (nil_behind xs)

pub all_set : (all rest : List LoadedItem) (ops : List Operation) (made now : ℕ) → rest ≡ []
    → AreSet all rest ops made now → StandIn ops (map setting all)
all_set all rest ops made now none set =
    let same : set.done ≡ all = sym (nil_behind set.done)
    ∙ (ap (λ (zs : List LoadedItem). set.done ++ zs) (sym none) ∙ set.items) in
    subst (λ (items : List LoadedItem). StandIn ops (map setting items)) same set.stand

-- as many changes as stand there
pub stand_count : (ops : List Operation) (cs : List ChangeValue) → StandIn ops cs
    → length cs ≤ place_of ops
stand_count ops [] s = omega arith
stand_count ops (c ∷ cs) s =
    let op = changed s.1 s.2 c in
    let all : place_of ops ≡ length (filter is_change s.0) + length (op ∷ filter is_change s.3) =
    ap place_of s.4 ∙ (ap length (filter-append is_change s.0 (op ∷ s.3))
    ∙ length-append (filter is_change s.0) (op ∷ filter is_change s.3)) in
    let more = stand_count s.3 cs s.5 in
    omega (arith, all, more)

pub prefix_trans : (xs ys zs : List Operation) → IsPrefix xs ys → IsPrefix ys zs → IsPrefix xs zs
prefix_trans xs ys zs p q = (
  p.0 ++ q.0,
  sym (append_assoc xs p.0 q.0)
      ∙ (ap (λ (ws : List Operation). ws ++ q.0) p.1 ∙ q.1),
)

module _ {J : Type 0} {g : Ghosts J} where
  -- a loaded service is a change in each list that a pass which saw it begins
  pub loaded_few : (loaded : List LoadedItem) (p : Pass J g) (ops : List Operation)
      → HasSeen loaded p → IsPrefix (seen_in p) ops → length loaded ≤ place_of ops
  loaded_few loaded p ops seen front =
      let many = stand_count (seen_in p) (map setting loaded) seen in
      let same = map_length setting loaded in
      let fewer = fewer_before (seen_in p) ops front in
      omega (arith, many, same, fewer)

  -- passes that begin with what one has seen, one more of them
  pub met_push : (seen old mid : List Operation) (ps qs : List (Pass J g)) (p : Pass J g)
      → qs ≡ ps ++ p ∷ [] → IsPrefix seen old → IsPrefix old mid → seen_in p ≡ mid
      → AllByRecursion (λ (q : Pass J g). IsPrefix seen (seen_in q)) ps
      → AllByRecursion (λ (q : Pass J g). IsPrefix seen (seen_in q)) qs
  met_push seen old mid ps qs p grown a b same all =
      let Holds : List (Pass J g) → Type 0 =
      λ rs. AllByRecursion (λ (q : Pass J g). IsPrefix seen (seen_in q)) rs in
      let one : IsPrefix seen (seen_in p) =
      subst (IsPrefix seen) (sym same) (prefix_trans seen old mid a b) in
      subst Holds (sym grown) (push ps all one)
    where
      push : (rs : List (Pass J g)) → AllByRecursion (λ (q : Pass J g). IsPrefix seen (seen_in q))
          rs → IsPrefix seen (seen_in p)
          → AllByRecursion (λ (q : Pass J g). IsPrefix seen (seen_in q)) (rs ++ p ∷ [])
      push [] h one = (one, tt)
      push (r ∷ rs) h one = (h.0, push rs h.1 one)

  -- so they have all seen the services
  met_seen : (loaded : List LoadedItem) (seen : List Operation) (ps : List (Pass J g))
      → StandIn seen (map setting loaded)
      → AllByRecursion (λ (q : Pass J g). IsPrefix seen (seen_in q)) ps → HaveSeen loaded ps
  met_seen loaded seen [] s all = tt
  met_seen loaded seen (p ∷ ps) s all =
      (stands_later seen (seen_in p) (map setting loaded) all.0 s, met_seen loaded seen ps s all.1)

  seen_push : (loaded : List LoadedItem) (ps : List (Pass J g)) (p : Pass J g) → HaveSeen loaded ps
      → HasSeen loaded p → HaveSeen loaded (ps ++ p ∷ [])
  seen_push loaded [] p all one = (one, tt)
  seen_push loaded (q ∷ ps) p all one = (all.0, seen_push loaded ps p all.1 one)

  seen_by_all : (loaded : List LoadedItem) (seen : List Operation) (ps qs : List (Pass J g))
      (p : Pass J g) → qs ≡ ps ++ p ∷ [] → StandIn seen (map setting loaded)
      → AllByRecursion (λ (q : Pass J g). IsPrefix seen (seen_in q)) ps → IsPrefix seen (seen_in p)
      → HaveSeen loaded qs
  seen_by_all loaded seen ps qs p grown s all front =
      subst (HaveSeen loaded) (sym grown)
      (seen_push loaded ps p (met_seen loaded seen ps s all)
      (stands_later seen (seen_in p) (map setting loaded) front s))

  -- where they were set
  pub seen_where : {E : Type 0} (r : Result (Unit {0}) E) (loaded : List LoadedItem)
      (seen : List Operation) (ps qs : List (Pass J g)) (p : Pass J g)
      → OnOk r (StandIn seen (map setting loaded))
      → qs ≡ ps ++ p ∷ [] → AllByRecursion (λ (q : Pass J g). IsPrefix seen (seen_in q)) ps
      → IsPrefix seen (seen_in p) → OnOk r (HaveSeen loaded qs)
  seen_where (Ok u) loaded seen ps qs p set grown all front =
      seen_by_all loaded seen ps qs p grown set all front
  seen_where (Err e) loaded seen ps qs p set grown all front = tt

  pub last_seen : (loaded : List LoadedItem) (ps : List (Pass J g)) (p : Pass J g)
      → HaveSeen loaded (ps ++ p ∷ []) → HasSeen loaded p
  last_seen loaded [] p all = all.0
  last_seen loaded (q ∷ ps) p all = last_seen loaded ps p all.1
