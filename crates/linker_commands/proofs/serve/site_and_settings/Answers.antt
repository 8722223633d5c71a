use Rattle.std.proofs.Common.{refl}
use Rattle.linker_commands.proofs.serve.site_and_settings.Goals as goal

pub returns-clause-site : goal.returns-clause-site
returns-clause-site g c = record {
  server = refl;
  namerd = refl;
  admin = refl;
  rule = refl;
  retries = refl;
  pool = refl;
  workers = refl;
  seed = refl;
  feed = c.feeding.ensures;
}
