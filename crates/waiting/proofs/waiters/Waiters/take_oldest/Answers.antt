use Rattle.std.proofs.Common.{refl, ap}
use Rattle.waiting.proofs.waiters.Waiters.take_oldest.Goals as goal

pub returns-clause-some : goal.returns-clause-some
returns-clause-some g c = record {
  oldest = rw (← c.self.view_is, c.in_ok-_number.ensures.removal) (refl, refl);
  next = ap (λ l. l.next) c.self.view_is;
}
