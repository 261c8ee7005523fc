use Rattle.std.proofs.Common.{inl, subst}
use Rattle.registry_program.specs.Serving.{AreServed}
use Rattle.registry_program.proofs.serving.serve_port.Goals as goal

pub returns-in-Ok : goal.returns-in-Ok
returns-in-Ok g c out =
    let serve = c.serve_all-served in
    inl (record {
      listening = c.listen.new.self;
      listens = c.in-Ok.ensures.listens;
      end = serve.result;
      served = subst (λ limit. AreServed g.H.Host g.H.Connections g.H.Reader.Source g.H.Writer.Sink c.listen.new.self serve.new.connections c.args.registry.now serve.new.registry limit serve.result)
          c.limit_of.ensures (record { served = serve.ensures.served; told = serve.ensures.told; goes_on = serve.ensures.goes_on; notes = serve.ensures.notes; endures = serve.ensures.endures });
      tells = c.end_serving.ensures out;
    })
