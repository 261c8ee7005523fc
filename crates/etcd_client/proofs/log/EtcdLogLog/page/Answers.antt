use Rattle.etcd_client.proofs.LogLemmas.{read_failed, read_is_failure}
use Rattle.etcd_client.proofs.log.EtcdLogLog.page.Goals as goal

pub returns-in-Err-clause-failed : goal.returns-in-Err-clause-failed
returns-in-Err-clause-failed g c =
    read_is_failure g.C.Connection c.args.self.now c.fail.new.self c.page.new.session c.args.n c.in-Err.fault c.fail.result c.in-Err.ensures.err c.fail.ensures.kept c.fail.ensures.kind

pub returns-in-Err-clause-why : goal.returns-in-Err-clause-why
returns-in-Err-clause-why g c =
    read_failed g.C.Connection c.args.self.now c.fail.new.self c.page.new.session c.args.n c.in-Err.fault c.fail.result c.in-Err.ensures.err c.fail.ensures.kept c.fail.ensures.kind
