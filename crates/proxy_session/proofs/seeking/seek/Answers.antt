use Rattle.std.proofs.Common.{ℕ, List, Err, Some, None, subst}
use Rattle.http_wire.specs.Target.{form_of}
use Rattle.identifier.specs.declared.fault.LocalFault.{LocalFault}
use Rattle.identifier.specs.Local.{Gives, local_rules}
use Rattle.identifier.specs.Naming.{Answers, identified}
use Rattle.proxy_session.proofs.Tests.{named, refused_at_once, unidentified}
use Rattle.std.proofs.lemmas.Result.{err_from_is_err_and}
use Rattle.proxy_session.proofs.seeking.seek.Goals as goal

pub returns-in_err-tested : goal.returns-in_err-tested
returns-in_err-tested c =
    let p = err_from_is_err_and c.from_residual.result c.from_residual.ensures.1 in
    record {
      seeks =
          rw (p.1, p.2)
          (refused_at_once c.args.rule.now c.args.head.now c.in_err-tested.field-0.0
          c.in_err-tested.ensures);
    }

pub returns-in-Err-Unidentified : goal.returns-in-Err-Unidentified
returns-in-Err-Unidentified c = record {
  seeks =
      unidentified c.args.rule.now c.args.head.now c.in_ok-tested.tested c.in_ok-tested.ensures
      c.in-Err-Unidentified.field-0 c.in-Err-Unidentified.field-0-is
      (subst (λ (host : List ℕ). Answers (identified c.args.rule.now c.args.head.now host
      c.in_ok-tested.tested.target.line.items) (Err c.in-Err-Unidentified.field-0))
      c.as_slice.ensures.value
      (c.in-Err-Unidentified.ensures (form_of c.in_ok-tested.tested.target)
      c.in_ok-tested.ensures.served));
}

pub returns-in-Err-BadDtab : goal.returns-in-Err-BadDtab
returns-in-Err-BadDtab c = record {
  seeks =
      named c.args.rule.now c.args.head.now c.in_ok-tested.tested c.in_ok-tested.ensures
      c.in-Ok.path None
      (rw (← c.as_slice.ensures.value)
      (c.in-Ok.ensures (form_of c.in_ok-tested.tested.target) c.in_ok-tested.ensures.served))
      (subst (λ (e : LocalFault). Gives (local_rules c.args.head.now.fields) (Err e))
      c.in-Err-BadDtab.field-0-is c.in-Err-BadDtab.ensures.rules);
}

pub returns : goal.returns
returns c = record {
  seeks =
      named c.args.rule.now c.args.head.now c.in_ok-tested.tested c.in_ok-tested.ensures
      c.in-Ok.path (Some _)
      (rw (← c.as_slice.ensures.value)
      (c.in-Ok.ensures (form_of c.in_ok-tested.tested.target) c.in_ok-tested.ensures.served))
      c.in-Ok-local_dtab.ensures.rules;
}
