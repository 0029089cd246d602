use Rattle.journals.proofs.ReadsBack.{lines_read_back}
use Rattle.journals.proofs.laws.lines_read_back.Goals as goal

pub returns : goal.returns
returns c = lines_read_back
