use Rattle.shared_desk.proofs.ServerLemmas.{visit_of}
use Rattle.shared_desk.proofs.server.serve_beside.Goals as goal

pub returns-in-None-clause-visited : goal.returns-in-None-clause-visited
returns-in-None-clause-visited g c =
    let serve = c.serve_message-turn in
    let said = serve.ensures in
    visit_of g.L.Log g.C.Connections.opens g.C.Connections.closes g.C.Reader.Source.remaining g.C.Reader.Source.failures g.C.Writer.Sink.contents g.C.Writer.Sink.failures
    c.args.connections.now c.open.new.self c.close.new.self c.in_ok-reader.reader serve.new.source c.in_ok-reader.writer serve.new.sink c.args.registry.now serve.new.registry c.args.cursor.now serve.new.cursor c.args.cache.now serve.new.cache serve.result c.status_of.result _
    said.served.0 c.in_ok-reader.ensures.opened c.close.ensures c.status_of.ensures c.in-None.ensures said.served.1 said.served.2 said.read said.kept

pub returns-in-Some-clause-visited : goal.returns-in-Some-clause-visited
returns-in-Some-clause-visited g c =
    let serve = c.serve_message-turn in
    let said = serve.ensures in
    visit_of g.L.Log g.C.Connections.opens g.C.Connections.closes g.C.Reader.Source.remaining g.C.Reader.Source.failures g.C.Writer.Sink.contents g.C.Writer.Sink.failures
    c.args.connections.now c.open.new.self c.close.new.self c.in_ok-reader.reader serve.new.source c.in_ok-reader.writer serve.new.sink c.args.registry.now serve.new.registry c.args.cursor.now serve.new.cursor c.args.cache.now serve.new.cache serve.result c.status_of.result _
    said.served.0 c.in_ok-reader.ensures.opened c.close.ensures c.status_of.ensures c.in-Some.ensures said.served.1 said.served.2 said.read said.kept
