-- Lists of addresses, each with a weight.
use Rattle.std.specs.Prelude.{◌≡◌, ◌≤◌, Bool, false, not, List, [], ◌∷◌, length, filter, All}
use Rattle.std.specs.List.{list_any}
use Rattle.std.specs.declared.cmp.Ordering.{Ordering}
use Rattle.std.specs.Ordering.{nat_cmp, on, then_cmp, eq_by_cmp}
use Rattle.std.specs.Prelude.{ℕ, refl}
use Rattle.std.specs.Coded.{Coded, code_by, coded×, coded_ℕ}
use Rattle.addr_book.specs.declared.addr.Addr.{Addr}
use Rattle.addr_book.specs.declared.addr.Weighted.{Weighted}

-- by the IPv4 address, and then by the port
abbrev pub addr_cmp : Addr → Addr → Ordering
addr_cmp = then_cmp (on (λ a. a.ip) nat_cmp) (on (λ a. a.port) nat_cmp)

-- an address is stored as its two numbers
abbrev pub addr_code : Coded Addr
addr_code =
    code_by (ℕ × ℕ) (coded× coded_ℕ coded_ℕ) (λ a. (a.ip, a.port))
    (λ p. record { ip = p.0; port = p.1 }) (λ _. refl)

-- an address with a weight is stored as the two
abbrev pub weighted_code : Coded Weighted
weighted_code =
    code_by (Addr × ℕ) (coded× addr_code coded_ℕ) (λ w. (w.addr, w.weight))
    (λ p. record { addr = p.0; weight = p.1 }) (λ _. refl)

abbrev pub same_addr : Addr → Addr → Bool
same_addr = eq_by_cmp addr_cmp

-- whether a list has an address, with whatever weight
abbrev pub has_addr : List Weighted → Addr → Bool
has_addr list addr = list_any (λ item. same_addr addr item.addr) list

-- no two addresses are alike
abbrev pub AreDistinct : List Weighted → Type 0
AreDistinct [] = Unit {0}
AreDistinct (a ∷ rest) = (has_addr rest a.addr ≡ false) × AreDistinct rest

-- a weight in millionths: more than 0, and less than a million wholes
abbrev pub IsWeight : ℕ → Type 0
IsWeight weight = (1 ≤ weight) × (weight ≤ 999999999999)

abbrev pub HaveWeights : List Weighted → Type 0
HaveWeights list = All (λ item. IsWeight item.weight) list

-- at most 1,024 addresses, no two alike, each with a weight
pub record IsAddrList (list : List Weighted) : Type 0 where
  pub few : length list ≤ 1024
  pub distinct : AreDistinct list
  pub weights : HaveWeights list

-- each address once, at its first place, with the weight that it has there
abbrev pub first_places : List Weighted → List Weighted
first_places [] = []
first_places (a ∷ rest) = a ∷ filter (λ b. not (same_addr b.addr a.addr)) (first_places rest)
