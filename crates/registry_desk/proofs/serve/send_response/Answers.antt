use Rattle.std.proofs.Common.{refl}
use Rattle.registry_desk.proofs.serve.send_response.Goals as goal

pub returns : goal.returns
returns g c = let sent = c.write_response-status.ensures in (sent.0, (sent.1, refl), (sent.2, sent.3))
