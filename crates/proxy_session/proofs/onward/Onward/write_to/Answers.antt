use Rattle.proxy_session.proofs.Hosts.{heads_to}
use Rattle.proxy_session.proofs.onward.Onward.write_to.Goals as goal

pub returns : goal.returns
returns c =
    heads_to c.args.self.now.head.now _ c.forward_head_into.new.out.items c.forward_head_into.result
    c.forward_head_into.ensures.ok
