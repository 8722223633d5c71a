-- Addresses and names tie only where they are the same.
use Rattle.std.proofs.Common.{◌≡◌, refl, nat_cmp}
use Rattle.std.specs.declared.cmp.Ordering.{Ordering}
use Rattle.std.specs.declared.cmp.Ordering.TheVariants.{Less, Equal, Greater}
use Rattle.std.specs.Ordering.{ordering_then}
use Rattle.std.specs.Cmp.Lexicographic.{slice_cmp}
use Rattle.std.specs.FinMap.{IsAntisymmetric, nat_cmp-IsAntisymmetric, slice_cmp-IsAntisymmetric}
use Rattle.addr_book.specs.AddrList.{addr_cmp}

first_equal : (r s : Ordering) → ordering_then r s ≡ Equal → r ≡ Equal
first_equal Less s e = cc
first_equal Equal s e = refl
first_equal Greater s e = cc

second_equal : (r s : Ordering) → ordering_then r s ≡ Equal → s ≡ Equal
second_equal Less s e = cc
second_equal Equal s e = e
second_equal Greater s e = cc

pub addr_only : IsAntisymmetric addr_cmp
addr_only x y e =
    let ips = nat_cmp-IsAntisymmetric x.ip y.ip (first_equal _ _ e) in
    let ports = nat_cmp-IsAntisymmetric x.port y.port
    (second_equal (nat_cmp x.ip y.ip) (nat_cmp x.port y.port) e) in
    λ i. record { ip = ips i; port = ports i }

pub name_only : IsAntisymmetric (slice_cmp nat_cmp)
name_only = slice_cmp-IsAntisymmetric nat_cmp-IsAntisymmetric
