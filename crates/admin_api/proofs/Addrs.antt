-- The addresses of a body, by what its reader answers.
use Rattle.std.proofs.Common.{◌≡◌, ℕ, ◌≤◌, ◌<◌, true, false, List, length, Some, None, Ok, Err}
use Rattle.std.proofs.Common.{refl, sym, ap, arith}
use Rattle.std.specs.Prelude.{nat_le}
use Rattle.std.proofs.lemmas.Bool.Decides.{nat_tests}
use Rattle.addr_book.specs.declared.addr.Weighted.{Weighted}
use Rattle.addr_book.specs.declared.addr_file.AddrFault.TheVariants.{BadLine, TooMany}
use Rattle.addr_book.specs.AddrFile.{File, addrs, bad_at, file_value, IsFileAnswer}
use Rattle.admin_api.specs.Demand.{addrs_of, few_addrs}

small : (n : ℕ) → n ≤ 1024 → nat_le n 1024 ≡ true
small n h = grind (arith, nat_tests)

large : (n : ℕ) → 1024 < n → nat_le n 1024 ≡ false
large n h = grind (arith, nat_tests)

kept : (file : File) (list : List Weighted) → IsFileAnswer file (Ok list)
    → few_addrs file ≡ Some list
kept (addrs all) list h = rw (small (length all) h.0) (ap Some (sym h.1))
kept (bad_at line) list h = absurd h

many : (file : File) (n : ℕ) → IsFileAnswer file (Err (TooMany n)) → few_addrs file ≡ None
many (addrs all) n h = rw (large (length all) h.0) refl
many (bad_at line) n h = refl

bad : (file : File) (n : ℕ) → IsFileAnswer file (Err (BadLine n)) → few_addrs file ≡ None
bad (addrs all) n h = absurd h
bad (bad_at line) n h = refl

pub addrs_known : (text : List ℕ) (list : List Weighted) → IsFileAnswer (file_value text) (Ok list)
    → addrs_of text ≡ Some list
unfolding addrs_of
addrs_known text list h = kept (file_value text) list h

pub addrs_many : (text : List ℕ) (n : ℕ) → IsFileAnswer (file_value text) (Err (TooMany n))
    → addrs_of text ≡ None
unfolding addrs_of
addrs_many text n h = many (file_value text) n h

pub addrs_bad : (text : List ℕ) (n : ℕ) → IsFileAnswer (file_value text) (Err (BadLine n))
    → addrs_of text ≡ None
unfolding addrs_of
addrs_bad text n h = bad (file_value text) n h
