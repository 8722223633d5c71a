use Rattle.std.proofs.Common.{◌≡◌}
use Rattle.form_urlencoded.specs.Form.{raw_pairs}
use Rattle.form_urlencoded.specs.Parse.{raw_pairs_left}
use Rattle.delegate_view.specs.Query.{first_value}
use Rattle.delegate_view.proofs.query.first_value.Given as goal

abbrev pub invariant-loop-encoded : goal.invariant-loop-encoded
invariant-loop-encoded l = first_value l.name (raw_pairs_left l.encoded-iterator)
    ≡ first_value l.name (raw_pairs l.query)
