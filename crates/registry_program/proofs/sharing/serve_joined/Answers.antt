use Rattle.std.proofs.Common.{inl, inr, refl, subst}
use Rattle.registry_program.specs.Outputs.{silent_ends}
use Rattle.registry_program.specs.Sharing.{AreServedOverLog, TellsServed}
use Rattle.registry_program.proofs.sharing.serve_joined.Goals as goal

pub returns-in-Ok : goal.returns-in-Ok
returns-in-Ok g c out =
    let serve = c.serve_shared-served in
    inl (record {
      listening = c.listen.new.self;
      listens = c.in-Ok.ensures.listens;
      done = serve.new.connections;
      left = serve.new.cursor;
      end = serve.result;
      served = subst (λ limit. AreServedOverLog g.H.Host g.H.Connections g.H.Reader.Source g.H.Writer.Sink g.H.Logs g.H.Log.Log c.listen.new.self serve.new.connections c.args.registry.now serve.new.registry c.args.cursor serve.new.cursor limit serve.result)
          c.limit_of.ensures (record { served = serve.ensures.served; notes = serve.ensures.notes; endures = serve.ensures.endures });
      tells = subst (λ log. TellsServed g.H.Logs serve.new.connections c.end_serving.new.host log serve.result (silent_ends g.E.Sink out c.args.errors.now c.end_serving.new.errors c.end_serving.result))
          c.into_log.ensures (c.end_serving.ensures out);
    })

pub returns-in-Err : goal.returns-in-Err
returns-in-Err g c out = inr (c.listen.new.self, c.in-Err.ensures.refused, subst (λ log. g.H.Logs.closes c.listen.new.self c.close_log.new.self log) c.into_log-in-Err.ensures c.close_log.ensures, refl, (refl, c.fail_socket.ensures.status, c.fail_socket.ensures.told))
