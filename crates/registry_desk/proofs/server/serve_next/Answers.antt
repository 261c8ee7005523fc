use Rattle.registry_desk.proofs.ServerLemmas.{came_alone}
use Rattle.registry_desk.proofs.server.serve_next.Goals as goal

pub returns-clause-visited : goal.returns-clause-visited
returns-clause-visited g c =
    came_alone g.C.Connections.opens g.C.Connections.closes g.C.Reader.Source.remaining g.C.Reader.Source.failures g.C.Writer.Sink.contents g.C.Writer.Sink.failures g.C.Connections.fails
    c.args.connections.now c.serve_beside.new.connections c.args.registry.now c.serve_beside.new.registry c.new-cache.result c.serve_beside.new.cache c.serve_beside.result c.new-cache.ensures c.serve_beside.ensures.visited
