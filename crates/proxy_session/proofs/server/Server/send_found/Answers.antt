use Rattle.proxy_session.proofs.server.Server.send_found.Goals as goal

pub returns-in-Replica-clause-sends : goal.returns-in-Replica-clause-sends
returns-in-Replica-clause-sends g c = rw c.in-Replica.is c.send_to.ensures.sends
