use Rattle.admin_api.proofs.metrics.response_of.Goals as goal

pub returns : goal.returns
returns c = record {
  text = c.in_ok-body.body.items;
  body = c.in_ok-body.ensures;
  is = c.of.ensures;
}
