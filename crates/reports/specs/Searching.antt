-- By which bounding rules the round of a sheet is searched.
use Rattle.bounds.specs.Blocks.{Answers}
use Rattle.bounds.specs.Rules.{all_in, limits_kept, limits_and_all_in, shares_kept, tangent, joined}
use Rattle.reports.specs.declared.searching.Rules.{Rules}
use Rattle.reports.specs.declared.searching.Rules.TheVariants.{Stated, Quick}

abbrev pub searching : Rules → Answers
searching Stated = limits_and_all_in
searching Quick = joined limits_kept (joined all_in (joined shares_kept tangent))
