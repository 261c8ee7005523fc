use Rattle.std.proofs.Common.{Option, sym, subst}
use Rattle.registry_store.specs.declared.fault.Fault.{Fault}
use Rattle.registry_store.specs.Promise.{NotesForeign}
use Rattle.registry_desk.proofs.ServerLemmas.{visit_of}
use Rattle.registry_desk.proofs.server.serve_beside.Goals as goal

pub returns-in-None-clause-visited : goal.returns-in-None-clause-visited
returns-in-None-clause-visited g c =
    let serve = c.serve_message-served in
    let said = serve.ensures in
    visit_of g.C.Connections.opens g.C.Connections.closes g.C.Reader.Source.remaining g.C.Reader.Source.failures g.C.Writer.Sink.contents g.C.Writer.Sink.failures g.C.Connections.fails
    c.args.connections.now c.open.new.self c.close.new.self c.in_ok-reader.reader serve.new.source c.in_ok-reader.writer serve.new.sink c.args.registry.now serve.new.registry c.args.cache.now serve.new.cache serve.result c.status_of.result _
    said.served.0 c.in_ok-reader.ensures.opened c.close.ensures c.status_of.ensures c.in-None.ensures said.served.1 said.served.2 said.read said.kept

pub returns-in-Some-clause-visited : goal.returns-in-Some-clause-visited
returns-in-Some-clause-visited g c =
    let serve = c.serve_message-served in
    let said = serve.ensures in
    visit_of g.C.Connections.opens g.C.Connections.closes g.C.Reader.Source.remaining g.C.Reader.Source.failures g.C.Writer.Sink.contents g.C.Writer.Sink.failures g.C.Connections.fails
    c.args.connections.now c.open.new.self c.close.new.self c.in_ok-reader.reader serve.new.source c.in_ok-reader.writer serve.new.sink c.args.registry.now serve.new.registry c.args.cache.now serve.new.cache serve.result c.status_of.result _
    said.served.0 c.in_ok-reader.ensures.opened c.close.ensures c.status_of.ensures c.in-Some.ensures said.served.1 said.served.2 said.read said.kept

pub returns-in-None-clause-goes_on : goal.returns-in-None-clause-goes_on
returns-in-None-clause-goes_on g c = λ sane none. c.serve_message-served.ensures.goes_on sane (sym c.in-None.ensures)

pub returns-in-None-clause-notes : goal.returns-in-None-clause-notes
returns-in-None-clause-notes g c =
    let serve = c.serve_message-served in
    subst (λ (fault : Option Fault). NotesForeign c.args.registry.now serve.new.registry fault) (sym c.in-None.ensures) serve.ensures.notes

pub returns-in-Some-clause-goes_on : goal.returns-in-Some-clause-goes_on
returns-in-Some-clause-goes_on g c = λ sane none. absurd cc

pub returns-in-Some-clause-notes : goal.returns-in-Some-clause-notes
returns-in-Some-clause-notes g c =
    let serve = c.serve_message-served in
    subst (λ (fault : Option Fault). NotesForeign c.args.registry.now serve.new.registry fault) (sym c.in-Some.ensures) serve.ensures.notes
