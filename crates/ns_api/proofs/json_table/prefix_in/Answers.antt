use Rattle.std.proofs.Common.{subst}
use Rattle.dtab_table.specs.Answers.{PrefixFaultFits}
use Rattle.ns_api.proofs.Prefixes.{prefix_known, prefix_unknown}
use Rattle.ns_api.proofs.json_table.prefix_in.Goals as goal

pub returns-in-Ok : goal.returns-in-Ok
returns-in-Ok c = prefix_known c.args.text.now c.in-Ok.prefix c.in-Ok.ensures.exact

pub returns-in-Err-NotPrefix : goal.returns-in-Err-NotPrefix
returns-in-Err-NotPrefix c =
    λ _. prefix_unknown c.args.text.now
    (subst (PrefixFaultFits c.args.text.now) c.in-Err-NotPrefix.field-0-is
    c.in-Err-NotPrefix.ensures.exact)
