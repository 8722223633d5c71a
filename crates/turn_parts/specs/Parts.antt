-- What the turns of generated runs are made of.
use Rattle.std.specs.Prelude.{ℕ, zero, suc, ◌+◌, ◌%◌, List, [], ◌∷◌, ◌++◌, codes, Some, None}
use Rattle.std.specs.Fmt.{decimal}
use Rattle.rand_pcg.specs.Lcg.{Lcg}
use Rattle.rand_pcg.specs.Pcg.{pcg64}
use Rattle.name_tree.specs.Path.{Labels}
use Rattle.name_tree.specs.Value.{leaf}
use Rattle.dtab_table.specs.Rules.{Rule}
use Rattle.addr_book.specs.declared.addr.Addr.{Addr}
use Rattle.addr_book.specs.declared.addr.Weighted.{Weighted}
use Rattle.machine.specs.Values.{AskValue, ChangeValue, create, put, set_addrs}

-- an address of this machine
abbrev pub local_addr : ℕ → Addr
local_addr port = record { ip = 2130706433; port = port }

-- so many addresses of this machine, with ports that count up from one, each of the weight 1
abbrev pub addrs_from : ℕ → ℕ → List Weighted
addrs_from zero port = []
addrs_from (suc n) port =
    record { addr = local_addr port; weight = 1000000 } ∷ addrs_from n (port + 1)

-- the name of a service: `s` and its number
abbrev pub service_name : ℕ → List ℕ
service_name s = codes "s" ++ decimal s

-- the path `/svc/sN`
abbrev pub service_path : ℕ → Labels
service_path s = codes "svc" ∷ service_name s ∷ []

-- the rule `/svc => /#/io.l5d.fs`
abbrev pub namer_rule : Rule
namer_rule =
    record { prefix = Some (codes "svc") ∷ []; tree = leaf (codes "#" ∷ codes "io.l5d.fs" ∷ []) }

-- the rule `/svc/sN => /#/io.l5d.fs/sM`
abbrev pub service_rule : ℕ → ℕ → Rule
service_rule n m =
    record {
      prefix = Some (codes "svc") ∷ Some (service_name n) ∷ [];
      tree = leaf (codes "#" ∷ codes "io.l5d.fs" ∷ service_name m ∷ []);
    }

-- the table that also sends one service to the next of the 16
abbrev pub table_by : ℕ → List Rule
table_by s = namer_rule ∷ service_rule s ((s + 1) % 16) ∷ []

-- the change that comes before all turns: the namespace `default`, whose table sends each service
-- to the book
abbrev pub first_change : ChangeValue
first_change = create (codes "default") (namer_rule ∷ [])

-- fewer than five addresses for a service, by a number
abbrev pub addrs_change : ℕ → ℕ → ChangeValue
addrs_change s q = set_addrs (service_name s) (addrs_from (q % 5) (1024 + q))

-- a table that sends one service to the next
abbrev pub table_change : ℕ → ChangeValue
table_change s = put (codes "default") None (table_by s)

-- the pick of a service at a moment, by the next three words, and the generator behind them
abbrev pub drawn_ask : ℕ → ℕ → Lcg → AskValue × Lcg
drawn_ask s moment words =
    let branch = pcg64 words in
    let first = pcg64 branch.1 in
    let second = pcg64 first.1 in
    let ask : AskValue = record {
      path = service_path s;
      own = [];
      moment = moment;
      branch_word = branch.0;
      first_draw = first.0;
      second_draw = second.0;
    } in
    (ask, second.1)
