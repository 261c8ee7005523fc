use Rattle.shared_desk.proofs.LawLemmas.{no_older}
use Rattle.shared_desk.proofs.laws.is_no_older.Goals as goal

pub returns : goal.returns
returns c = no_older
