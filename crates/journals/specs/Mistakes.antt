-- What is wrong with a line, in words.
use Rattle.std.specs.Prelude.{ℕ, List, ◌++◌, codes, decimal}
use Rattle.journals.specs.declared.journals.Mistake.{Mistake}
use Rattle.journals.specs.declared.wrongs.Wrong.{Wrong}
use Rattle.journals.specs.declared.wrongs.Wrong.TheVariants.{UnknownWord, UnknownKind, UnknownRule, WordMissing, WordTooMany, NotANumber, TooLarge, RuleNumberOutside, NotBytes}

abbrev pub wrong_text : Wrong → List ℕ
wrong_text UnknownWord = codes "the first word names no call"
wrong_text UnknownKind = codes "no kind of record has this name"
wrong_text UnknownRule = codes "no rule has this name"
wrong_text WordMissing = codes "a word is missing"
wrong_text WordTooMany = codes "a word too many"
wrong_text NotANumber = codes "a word that should be a number is none"
wrong_text TooLarge = codes "a number is too large"
wrong_text RuleNumberOutside = codes "a number of a price rule is outside its range"
wrong_text NotBytes = codes "a word that should be bytes has not two hexadecimal digits for each"

-- the line's number, and what is wrong with it
abbrev pub mistake_text : Mistake → List ℕ
mistake_text m = codes "line " ++ (decimal m.line ++ (codes ": " ++ wrong_text m.wrong))
