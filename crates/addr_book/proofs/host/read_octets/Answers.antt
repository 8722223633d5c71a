use Rattle.addr_book.proofs.Hosts.{only_three, over_four}
use Rattle.addr_book.proofs.host.read_octets.Goals as goal

pub returns-in_default-rest-2 : goal.returns-in_default-rest-2
returns-in_default-rest-2 c =
    only_three c.args.text.now _ _ _ _ _ _ c.in-Some.rest c.in-Some-rest.rest
    c.cut_at_point.ensures c.in-Some.is c.cut_at_point-2.ensures c.in-Some-rest.is
    c.cut_at_point-3.ensures c.in_default-rest-2.is

pub returns-then-is_some : goal.returns-then-is_some
returns-then-is_some c =
    over_four c.args.text.now _ _ _ _ _ _ c.in-Some.rest c.in-Some-rest.rest c.cut_at_point.ensures
    c.in-Some.is c.cut_at_point-2.ensures c.in-Some-rest.is
    c.cut_at_point-3.ensures _ c.in-Some-rest-2.rest _ c.in-Some-rest-2.is c.cut_at_point-4.ensures
    c.if-is_some.ensures
