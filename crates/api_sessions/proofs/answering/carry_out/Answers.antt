use Rattle.std.proofs.Common.{refl, ap, sym, subst}
use Rattle.std.specs.Prelude.{false, true}
use Rattle.machine.specs.Code.{change_of, look_value}
use Rattle.api_wire.specs.Demand.{answer, stop, alter, ask, demand_value, IsSoundDemand}
use Rattle.api_wire.specs.Response.{response_value}
use Rattle.api_sessions.proofs.Carrying.{answered_at_once, done_as, left_as, same_at_err}
use Rattle.api_sessions.proofs.answering.carry_out.Goals as goal

pub alter-requires : goal.alter-requires
alter-requires g c = subst IsSoundDemand (ap demand_value c.in-Change.is) c.requires

pub returns-in-Answer-clause-done : goal.returns-in-Answer-clause-done
returns-in-Answer-clause-done g c =
    done_as (answer (response_value c.in-Answer.response)) _ c.args.delivery c.args.delivery
    c.args.pass.now c.args.pass.now c.write.result (ap demand_value (sym c.in-Answer.is)) refl
    (answered_at_once (response_value c.in-Answer.response) c.args.delivery false c.args.pass.now
    c.write.result c.write.ensures)

pub returns-in-Answer-clause-want : goal.returns-in-Answer-clause-want
returns-in-Answer-clause-want g c =
    left_as (answer (response_value c.in-Answer.response)) _ c.args.pass.now c.args.pass.now
    c.write.result (ap demand_value (sym c.in-Answer.is))
    (same_at_err c.args.pass.now c.write.result)

pub returns-in-Stop-clause-done : goal.returns-in-Stop-clause-done
returns-in-Stop-clause-done g c =
    done_as (stop (response_value c.in-Stop.response)) _ c.args.delivery c.args.delivery
    c.args.pass.now c.args.pass.now c.write_last.result (ap demand_value (sym c.in-Stop.is)) refl
    (answered_at_once (response_value c.in-Stop.response) c.args.delivery true c.args.pass.now
    c.write_last.result c.write_last.ensures)

pub returns-in-Stop-clause-want : goal.returns-in-Stop-clause-want
returns-in-Stop-clause-want g c =
    left_as (stop (response_value c.in-Stop.response)) _ c.args.pass.now c.args.pass.now
    c.write_last.result (ap demand_value (sym c.in-Stop.is))
    (same_at_err c.args.pass.now c.write_last.result)

pub returns-in-Change-clause-done : goal.returns-in-Change-clause-done
returns-in-Change-clause-done g c =
    done_as (alter (change_of c.in-Change.change)) _ c.args.delivery c.args.delivery c.args.pass.now
    c.alter.new.pass c.alter.result (ap demand_value (sym c.in-Change.is)) refl
    c.alter.ensures.altered

pub returns-in-Change-clause-want : goal.returns-in-Change-clause-want
returns-in-Change-clause-want g c =
    left_as (alter (change_of c.in-Change.change)) _ c.args.pass.now c.alter.new.pass c.alter.result
    (ap demand_value (sym c.in-Change.is)) c.alter.ensures.want

pub returns-in-Look-clause-done : goal.returns-in-Look-clause-done
returns-in-Look-clause-done g c =
    done_as (ask (look_value c.in-Look.look)) _ c.args.delivery c.args.delivery c.args.pass.now
    c.ask.new.pass c.ask.result (ap demand_value (sym c.in-Look.is)) refl c.ask.ensures.asked

pub returns-in-Look-clause-want : goal.returns-in-Look-clause-want
returns-in-Look-clause-want g c =
    left_as (ask (look_value c.in-Look.look)) _ c.args.pass.now c.ask.new.pass c.ask.result
    (ap demand_value (sym c.in-Look.is)) c.ask.ensures.want
