use Rattle.journals.proofs.SheetsShown.{sheets_shown}
use Rattle.journals.proofs.laws.sheets_shown.Goals as goal

pub returns : goal.returns
returns c = sheets_shown
