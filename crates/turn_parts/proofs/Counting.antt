-- Addresses of this machine with ports that count up, and the bytes of names with numbers.
use Rattle.std.proofs.Common.{rules, codes, ◌≡◌, ℕ, suc, zero, ◌+◌, ◌-◌, ◌%◌, ◌<◌, ◌≤◌, ◌^◌, List}
use Rattle.std.proofs.Common.{[], ◌∷◌, ◌++◌, length, false, refl, sym, ap, ◌∙◌, arith, append_assoc}
use Rattle.std.proofs.Common.{lt-ltb}
use Rattle.std.proofs.lemmas.List.{append-nil}
use Rattle.std.proofs.lemmas.List.Elements.{All-cons, All-nil, All-from_get_or}
use Rattle.std.proofs.lemmas.Fmt.{IsAscii-decimal}
use Rattle.std.specs.Prelude.{decimal}
use Rattle.name_tree.specs.Canon.{IsByteLabel}
use Rattle.addr_book.specs.declared.addr.Weighted.{Weighted}
use Rattle.addr_book.specs.AddrList.{AreDistinct, HaveWeights, IsWeight, has_addr}
use Rattle.dtab_table.specs.TableCanon.{AreSoundRules}
use Rattle.turn_parts.specs.Parts.{local_addr, addrs_from, service_name, table_by}

abbrev pub local_item : ℕ → Weighted
local_item port = record { addr = local_addr port; weight = 1000000 }

pub length-addrs_from : (n port : ℕ) → length (addrs_from n port) ≡ n
length-addrs_from zero port = refl
length-addrs_from (suc n) port = ap suc (length-addrs_from n (port + 1))

-- an address is none of later ones
later : (n p port : ℕ) → p < port → has_addr (addrs_from n port) (local_addr p) ≡ false
later zero p port h = refl
later (suc n) p port h = rw (lt-ltb p port h) (later n p (port + 1) (omega arith))

pub AreDistinct-addrs_from : (n port : ℕ) → AreDistinct (addrs_from n port)
AreDistinct-addrs_from zero port = tt
AreDistinct-addrs_from (suc n) port =
    (later n port (port + 1) (omega arith), AreDistinct-addrs_from n (port + 1))

pub HaveWeights-addrs_from : (n port : ℕ) → HaveWeights (addrs_from n port)
HaveWeights-addrs_from zero port = All-nil (λ item. IsWeight item.weight)
HaveWeights-addrs_from (suc n) port =
    All-cons (λ item. IsWeight item.weight) (local_item port) (addrs_from n (port + 1))
    (omega arith, omega arith) (HaveWeights-addrs_from n (port + 1))

-- one more was put there
pub one_put : (items new : List Weighted) (n k port : ℕ) → k < n
    → new ≡ items ++ local_item (port + k) ∷ [] → items ++ addrs_from (n - k) (port + k)
    ≡ addrs_from n port
    → new ++ addrs_from (n - (k + 1)) (port + (k + 1)) ≡ addrs_from n port
one_put items new n k port more pushed same =
    let left : n - k ≡ suc (n - (k + 1)) = omega arith in
    let on : port + (k + 1) ≡ port + k + 1 = omega arith in
    ap (λ xs. xs ++ addrs_from (n - (k + 1)) (port + (k + 1))) pushed
    ∙ append_assoc items (local_item (port + k) ∷ []) (addrs_from (n - (k + 1)) (port + (k + 1)))
    ∙ ap (λ p. items ++ local_item (port + k) ∷ addrs_from (n - (k + 1)) p) on
    ∙ ap (λ m. items ++ addrs_from m (port + k)) (sym left)
    ∙ same

-- all are there
pub all_put : (items : List Weighted) (n k port : ℕ) → n ≤ k
    → items ++ addrs_from (n - k) (port + k) ≡ addrs_from n port → items ≡ addrs_from n port
all_put items n k port end same =
    let left : n - k ≡ 0 = omega arith in
    sym (append-nil items) ∙ ap (λ m. items ++ addrs_from m (port + k)) (sym left) ∙ same

-- a name with a number is a label
pub IsByteLabel-service_name : (s : ℕ) → s < 2 ^ 64 → IsByteLabel (service_name s)
IsByteLabel-service_name s fits =
    let ascii = IsAscii-decimal s fits in (
      omega arith,
      All-cons (λ b. b < 256) 115 (decimal s) (omega arith)
          (All-from_get_or (λ b. b < 256) (decimal s) 0 (λ i h. omega (arith, ascii i))),
    )

svc : IsByteLabel (codes "svc")
svc = search rules

-- the tables of turns are sound
pub AreSoundRules-table_by : (s : ℕ) → s < 16 → AreSoundRules (table_by s)
AreSoundRules-table_by s few =
    let from = IsByteLabel-service_name s (omega arith) in
    let to = IsByteLabel-service_name ((s + 1) % 16) (omega arith) in (
      search rules,
      (
        record {
          patterns = (svc, (from, tt));
          sound = tt;
          labels =
              (search rules, (search rules, (to, tt)));
        },
        tt,
      ),
    )
