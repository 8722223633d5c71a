use Rattle.std.proofs.Common.{◌≡◌, true}
use Rattle.api_wire.proofs.JsonValues.{json_known, json_unknown}
use Rattle.api_wire.proofs.json.json_value.Goals as goal

pub returns-in-Ok : goal.returns-in-Ok
returns-in-Ok c = json_known c.args.text.now _ c.in-Ok.ensures.ok.0 c.in-Ok.ensures.ok.1

pub returns-else-is_memory : goal.returns-else-is_memory
returns-else-is_memory c =
    let f = c.if-is_memory.false in
    json_unknown c.args.text.now
    (c.in-Err.ensures.err
    (λ memory. let t : c.is_memory.result ≡ true = c.is_memory.ensures.1 memory in cc))
