use Rattle.etcd_client.proofs.LogLemmas.{append_failed, append_is_failure}
use Rattle.etcd_client.proofs.log.EtcdLogLog.append.Goals as goal

pub returns-in-Err-clause-failed : goal.returns-in-Err-clause-failed
returns-in-Err-clause-failed g c =
    append_is_failure g.C.Connection c.args.self.now c.fail.new.self c.append.new.session c.args.n c.args.line.now c.in-Err.fault c.fail.result c.in-Err.ensures.err c.fail.ensures.kept c.fail.ensures.kind

pub returns-in-Err-clause-why : goal.returns-in-Err-clause-why
returns-in-Err-clause-why g c =
    append_failed g.C.Connection c.args.self.now c.fail.new.self c.append.new.session c.args.n c.args.line.now c.in-Err.fault c.fail.result c.in-Err.ensures.err c.fail.ensures.kept c.fail.ensures.kind
