use Rattle.proxy_session.proofs.ReadingBack.{exchanges_read_back, heads_read_back}
use Rattle.proxy_session.proofs.ReadingBack.{requests_read_back}
use Rattle.proxy_session.proofs.Visiting.{stays_read_back}
use Rattle.proxy_session.proofs.laws.heads_that_go_on_are_read_back.Goals as goal

pub returns : goal.returns
returns c = record {
  heads = heads_read_back;
  exchanges = exchanges_read_back;
  requests = requests_read_back;
  stays = stays_read_back;
}
