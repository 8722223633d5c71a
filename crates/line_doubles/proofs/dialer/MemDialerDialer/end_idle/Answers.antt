use Rattle.line_base.proofs.Kept.{some_all}
use Rattle.line_doubles.specs.Memory.{upstream_of}
use Rattle.line_doubles.proofs.dialer.MemDialerDialer.end_idle.Goals as goal

pub returns-clause-others : goal.returns-clause-others
returns-clause-others c = some_all (upstream_of c.args.self.now).kept
