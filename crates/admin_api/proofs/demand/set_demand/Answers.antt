use Rattle.std.proofs.Common.{ap, sym, subst, Err}
use Rattle.addr_book.specs.AddrFile.{IsFileAnswer, file_value}
use Rattle.addr_book.specs.declared.addr_file.AddrFault.{AddrFault}
use Rattle.admin_api.specs.Demand.{set_demand}
use Rattle.admin_api.proofs.Addrs.{addrs_known, addrs_many, addrs_bad}
use Rattle.api_wire.proofs.Demands.{asks_same}
use Rattle.admin_api.proofs.demand.set_demand.Goals as goal

pub returns-in-Ok : goal.returns-in-Ok
returns-in-Ok c =
    ap (set_demand c.args.name) (sym (addrs_known c.args.body.now c.in-Ok.list c.in-Ok.ensures))

pub returns-in-Err-BadLine : goal.returns-in-Err-BadLine
returns-in-Err-BadLine c =
    let h = subst (λ (f : AddrFault). IsFileAnswer (file_value c.args.body.now) (Err f))
    c.in-Err-BadLine.field-0-is c.in-Err-BadLine.ensures in
    asks_same _ _ c.word.result (ap (set_demand c.args.name) (sym (addrs_bad c.args.body.now _ h)))
    c.word.ensures

pub returns-in-Err-TooMany : goal.returns-in-Err-TooMany
returns-in-Err-TooMany c =
    let h = subst (λ (f : AddrFault). IsFileAnswer (file_value c.args.body.now) (Err f))
    c.in-Err-TooMany.field-0-is c.in-Err-TooMany.ensures in
    asks_same _ _ c.word-in-Err-TooMany.result
    (ap (set_demand c.args.name) (sym (addrs_many c.args.body.now _ h)))
    c.word-in-Err-TooMany.ensures
