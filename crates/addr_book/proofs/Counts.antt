-- How many services have an address, where a service comes, goes or changes.
use Rattle.std.proofs.Common.{◌≡◌, ℕ, ◌+◌, ◌≤◌, Bool, true, false, List, [], ◌∷◌, length, refl, sym}
use Rattle.std.proofs.Common.{ap, ◌∙◌, arith, map, Option, Some, None, cond, suc, nat_cmp}
use Rattle.std.specs.Prelude.{T, not, ◌&&◌, ◌||◌, ◌==◌}
use Rattle.std.specs.declared.cmp.Ordering.{Ordering}
use Rattle.std.specs.declared.cmp.Ordering.TheVariants.{Less, Equal, Greater}
use Rattle.std.specs.Ordering.{eq_by_cmp, is_eq, is_lt, match_ordering}
use Rattle.std.specs.Cmp.{eq_by_cmp_equiv, alike_right, tied_back}
use Rattle.std.specs.Cmp.Lexicographic.{slice_cmp, nat_list_cmp_total}
use Rattle.std.specs.List.{list_any}
use Rattle.std.specs.FinMap.{entries, entries_sorted, entries-insert, find, put, is_sorted, get}
use Rattle.std.specs.FinMap.{get-entries, insert, remove, values, len, len-entries, same_map}
use Rattle.std.specs.FinMap.{from_sorted, get-from_sorted, entries-from_sorted, get-remove}
use Rattle.std.specs.FinMap.Entries.{below_all, where_key, is_sorted-where_key, find-where_key}
use Rattle.std.proofs.lemmas.Bool.Decides.{nat_tests}
use Rattle.addr_book.specs.declared.addr.Addr.{Addr}
use Rattle.addr_book.specs.declared.addr.Weighted.{Weighted}
use Rattle.addr_book.specs.AddrList.{has_addr}
use Rattle.addr_book.specs.Book.{Services, is_used}
use Rattle.addr_book.specs.Uses.{having, list_of}
use Rattle.addr_book.proofs.AddrMaps.{name_only}

and_first : (a b : Bool) → T (a && b) → T a
and_first true b p = tt
and_first false b p = p

and_second : (a b : Bool) → T (a && b) → T b
and_second true b p = p
and_second false b p = absurd p

is_less : (r : Ordering) → T (is_lt r) → r ≡ Less
is_less Less p = refl
is_less Equal p = absurd p
is_less Greater p = absurd p

-- 1 where the list has the address
abbrev pub one : List Weighted → Addr → ℕ
one list a = cond (has_addr list a) 1 0

abbrev one_of : Option (List Weighted) → Addr → ℕ
one_of None a = 0
one_of (Some list) a = one list a

abbrev Kept : Type 0
Kept = List (List ℕ × List Weighted)

abbrev lists : Kept → List (List Weighted)
lists es = map (λ e. e.1) es

-- a key that is below the first is below all behind it
found_none : (k x : List ℕ) (es : Kept)
    → ((z : List ℕ) → slice_cmp nat_cmp x z ≡ Less → slice_cmp nat_cmp k z ≡ Less)
    → T (below_all (slice_cmp nat_cmp) x es) → find (slice_cmp nat_cmp) k es ≡ None
found_none k x [] less h = refl
found_none k x (e ∷ es) less h =
    let first = less e.0 (is_less _ (and_first _ _ h)) in
    ap (λ r. cond (is_eq r) (Some e.1) (find (slice_cmp nat_cmp) k es)) first
    ∙ found_none k x es less (and_second _ _ h)

put_case : (k : List ℕ) (list : List Weighted) (a : Addr) (e : List ℕ × List Weighted) (es : Kept)
    → T (below_all (slice_cmp nat_cmp) e.0 es)
    → having (lists (put (slice_cmp nat_cmp) k list es)) a
    + one_of (find (slice_cmp nat_cmp) k es) a ≡ having (lists es) a + one list a → (r : Ordering)
    → slice_cmp nat_cmp k e.0 ≡ r
    → having (lists (match_ordering r ((k, list) ∷ e ∷ es) ((e.0, list) ∷ es)
    (e ∷ put (slice_cmp nat_cmp) k list es))) a + one_of
    (cond (is_eq r) (Some e.1) (find (slice_cmp nat_cmp) k es)) a
    ≡ having (lists (e ∷ es)) a + one list a
put_case k list a e es h rest Less is =
    let none = found_none k e.0 es (λ z. nat_list_cmp_total.trans k e.0 z is) h in
    rw none (omega arith)
put_case k list a e es h rest Equal is = omega arith
put_case k list a e es h rest Greater is = omega (arith, rest)

having-put : (k : List ℕ) (list : List Weighted) (a : Addr) (es : Kept)
    → T (is_sorted (slice_cmp nat_cmp) es)
    → having (lists (put (slice_cmp nat_cmp) k list es)) a
    + one_of (find (slice_cmp nat_cmp) k es) a ≡ having (lists es) a + one list a
having-put k list a [] h = omega arith
having-put k list a (e ∷ es) h = put_case k list a e es (and_first _ _ h)
    (having-put k list a es (and_second _ _ h)) (slice_cmp nat_cmp k e.0) refl

abbrev without : List ℕ → Kept → Kept
without k es = where_key (slice_cmp nat_cmp) (λ x. not (eq_by_cmp (slice_cmp nat_cmp) k x)) es

gone_entry : (k : List ℕ) (a : Addr) (e : List ℕ × List Weighted) (es : Kept)
    → T (below_all (slice_cmp nat_cmp) e.0 es)
    → having (lists (without k es)) a + one_of (find (slice_cmp nat_cmp) k es) a
    ≡ having (lists es) a → (r : Ordering) → slice_cmp nat_cmp k e.0 ≡ r
    → having (lists (cond (not (is_eq r)) (e ∷ without k es) (without k es))) a
    + one_of (cond (is_eq r) (Some e.1) (find (slice_cmp nat_cmp) k es)) a
    ≡ having (lists (e ∷ es)) a
gone_entry k a e es h rest Less is = omega (arith, rest)
gone_entry k a e es h rest Equal is =
    let none = found_none k e.0 es (λ z less. nat_list_cmp_total.congr k e.0 z is ∙ less) h in
    let all : having (lists (without k es)) a + 0 ≡ having (lists es) a = rw none at rest in
    omega (arith, all)
gone_entry k a e es h rest Greater is = omega (arith, rest)

having-without : (k : List ℕ) (a : Addr) (es : Kept) → T (is_sorted (slice_cmp nat_cmp) es)
    → having (lists (without k es)) a + one_of (find (slice_cmp nat_cmp) k es) a
    ≡ having (lists es) a
having-without k a [] h = omega arith
having-without k a (e ∷ es) h = gone_entry k a e es (and_first _ _ h)
    (having-without k a es (and_second _ _ h)) (slice_cmp nat_cmp k e.0) refl

one_of_list : (found : Option (List Weighted)) (a : Addr) → one_of found a ≡ one (list_of found) a
one_of_list None a = refl
one_of_list (Some list) a = refl

pub having-insert : (services : Services) (k : List ℕ) (list : List Weighted) (a : Addr)
    → having (values (insert services k list)) a + one (list_of (get services k)) a
    ≡ having (values services) a + one list a
having-insert services k list a =
    ap (λ es. having (lists es) a + one (list_of (get services k)) a)
    (entries-insert nat_list_cmp_total services k list)
    ∙ (ap (λ n. having (lists (put (slice_cmp nat_cmp) k list (entries services))) a + n)
    (sym (one_of_list (get services k) a))
    ∙ (ap (λ found. having (lists (put (slice_cmp nat_cmp) k list (entries services))) a
    + one_of found a) (get-entries services k)
    ∙ having-put k list a (entries services) (entries_sorted services)))

turned : (b : Bool) (x : Option (List Weighted)) → cond b None x ≡ cond (not b) x None
turned true x = refl
turned false x = refl

entries-remove : (services : Services) (k : List ℕ)
    → entries (remove services k) ≡ without k (entries services)
entries-remove services k =
    let other : List ℕ → Bool = λ x. not (eq_by_cmp (slice_cmp nat_cmp) k x) in
    let sorted = is_sorted-where_key (slice_cmp nat_cmp) other (entries services)
    (entries_sorted services) in
    ap entries
    (same_map nat_list_cmp_total name_only (remove services k)
    (from_sorted (without k (entries services))) (λ q.
    get-remove nat_list_cmp_total services k q
    ∙ (ap (λ b. cond b None (get services q)) ((eq_by_cmp_equiv nat_list_cmp_total).symm q k)
    ∙ (turned (eq_by_cmp (slice_cmp nat_cmp) k q) (get services q)
    ∙ (ap (λ found. cond (other q) found None) (get-entries services q)
    ∙ (sym (find-where_key (slice_cmp nat_cmp) other q
    (λ x t. ap (λ r. not (is_eq r))
    (alike_right nat_list_cmp_total x q k (tied_back nat_list_cmp_total q x t))) (entries services))
    ∙ sym (get-from_sorted (slice_cmp nat_cmp) (without k (entries services)) q sorted)))))))
    ∙ entries-from_sorted (slice_cmp nat_cmp) (without k (entries services)) sorted

pub having-remove : (services : Services) (k : List ℕ) (a : Addr)
    → having (values (remove services k)) a + one (list_of (get services k)) a
    ≡ having (values services) a
having-remove services k a =
    ap (λ es. having (lists es) a + one (list_of (get services k)) a) (entries-remove services k)
    ∙ (ap (λ n. having (lists (without k (entries services))) a + n)
    (sym (one_of_list (get services k) a))
    ∙ (ap (λ found. having (lists (without k (entries services))) a + one_of found a)
    (get-entries services k)
    ∙ having-without k a (entries services) (entries_sorted services)))

any_having : (ls : List (List Weighted)) (a : Addr)
    → list_any (λ list. has_addr list a) ls ≡ not (having ls a == 0)
any_having [] a = refl
any_having (l ∷ ls) a =
    let rest = any_having ls a in
    elim (has_addr l a) as (λ b. (b || list_any (λ list. has_addr list a) ls)
    ≡ not ((cond b 1 0 + having ls a) == 0)) [
      | true ↦ grind (arith, nat_tests)
      | false ↦ rest ∙ ap (λ n. not (n == 0)) (omega arith)
    ]

pub used_count : (services : Services) (a : Addr)
    → is_used services a ≡ not (having (values services) a == 0)
used_count services a = any_having (values services) a

having_few : (ls : List (List Weighted)) (a : Addr) → having ls a ≤ length ls
having_few [] a = omega arith
having_few (l ∷ ls) a =
    let rest = having_few ls a in
    elim (has_addr l a) as (λ b. cond b 1 0 + having ls a ≤ length (l ∷ ls))
    [ true ↦ omega arith | false ↦ omega arith ]

length_lists : (es : Kept) → length (lists es) ≡ length es
length_lists [] = refl
length_lists (e ∷ es) = ap suc (length_lists es)

pub count_few : (services : Services) (a : Addr) → having (values services) a ≤ len services
count_few services a =
    omega (
      arith,
      having_few (values services) a,
      length_lists (entries services),
      len-entries services,
    )

pub length_numbers : (es : List (Addr × ℕ)) → length (map (λ e. e.1) es) ≡ length es
length_numbers [] = refl
length_numbers (e ∷ es) = ap suc (length_numbers es)
