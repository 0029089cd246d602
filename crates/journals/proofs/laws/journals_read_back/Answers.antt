use Rattle.journals.proofs.ReadsBack.{journals_read_back}
use Rattle.journals.proofs.laws.journals_read_back.Goals as goal

pub returns : goal.returns
returns c = journals_read_back
