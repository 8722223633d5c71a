-- How many namespaces an edit leaves.
use Rattle.std.proofs.Common.{◌≡◌, ℕ, ◌+◌, ◌-◌, ◌<◌, ◌≤◌, Bool, true, false, cond, List, Option}
use Rattle.std.proofs.Common.{Some, None, refl, arith}
use Rattle.std.specs.Prelude.{is_some}
use Rattle.std.specs.Ordering.{nat_cmp}
use Rattle.std.specs.Cmp.Lexicographic.{slice_cmp, nat_list_cmp_total}
use Rattle.std.specs.FinMap.{get, len, insert, remove, len-insert, len-remove}
use Rattle.ns_store.specs.declared.fault.StoreFault.{StoreFault}
use Rattle.ns_store.specs.Contents.{Space, Spaces}
use Rattle.ns_store.specs.Refusal.{expected_refusal}

less_or_same : (there : Bool) (n : ℕ) → cond there (n - 1) n ≤ n
less_or_same true n = omega arith
less_or_same false n = omega arith

pub len_removed : (spaces : Spaces) (name : List ℕ) → len spaces ≤ 256
    → len (remove spaces name) ≤ 256
len_removed spaces name few = omega (
  arith,
  len-remove nat_list_cmp_total spaces name,
  less_or_same (is_some (get spaces name)) (len spaces),
)

one_more : (there : Bool) (n : ℕ) → cond there n (n + 1) ≤ n + 1
one_more true n = omega arith
one_more false n = omega arith

pub len_with_room : (spaces : Spaces) (name : List ℕ) (space : Space) → len spaces < 256
    → len (insert spaces name space) ≤ 256
len_with_room spaces name space room =
    omega (
      arith,
      len-insert nat_list_cmp_total spaces name space,
      one_more (is_some (get spaces name)) (len spaces),
    )

same_where_there : (found : Option Space) (expected : Option ℕ) (n : ℕ)
    → expected_refusal found expected ≡ None → cond (is_some found) n (n + 1) ≡ n
same_where_there None expected n e = cc
same_where_there (Some space) expected n e = refl

pub len_replaced : (spaces : Spaces) (name : List ℕ) (space : Space) (expected : Option ℕ)
    → expected_refusal (get spaces name) expected ≡ None → len spaces ≤ 256
    → len (insert spaces name space) ≤ 256
len_replaced spaces name space expected there few =
    omega (
      arith,
      len-insert nat_list_cmp_total spaces name space,
      same_where_there (get spaces name) expected (len spaces) there,
    )
