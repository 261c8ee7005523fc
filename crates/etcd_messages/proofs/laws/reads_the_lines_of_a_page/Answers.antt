use Rattle.etcd_messages.proofs.StatedLemmas.{page_in_said}
use Rattle.etcd_messages.proofs.laws.reads_the_lines_of_a_page.Goals as goal

pub returns : goal.returns
returns c = λ s name n lines more bytes fits none. page_in_said s name n lines more bytes fits none
