-- Answers as lines.
use Rattle.std.specs.Prelude.{ℕ, ℤ, List, [], ◌∷◌, ◌++◌, take, codes, decimal, Ok, Err}
use Rattle.std.specs.Fmt.{signed_decimal}
use Rattle.std.specs.List.{flat_map}
use Rattle.hex.specs.Hex.{encode_lower}
use Rattle.offers.specs.declared.refusals.Refusal.{Refusal}
use Rattle.offers.specs.Refusals.{code_number}
use Rattle.rounds.specs.declared.awarded_round.Award.{Award}
use Rattle.rounds.specs.Model.{Answer, Done, Found, Reopened, Awarded, Charged, Written, NotTaken, PlainStage, AtOpen, AtClosed, AtAwarded}
use Rattle.journals.specs.declared.lines.Shown.{Shown}
use Rattle.journals.specs.declared.lines.Shown.TheVariants.{Whole, Filled}

-- a code with all its values
abbrev pub refusal_text : Refusal → List ℕ
refusal_text r =
    codes "refused " ++ (decimal (code_number r.code) ++ (codes " tag " ++ (decimal r.tag ++ (codes " number " ++ (decimal r.number
    ++ (codes " field " ++ (decimal r.field ++ (codes " byte " ++ (decimal r.byte ++ (codes " depth " ++ decimal r.depth))))))))))

-- choices settled, and the leader's surplus in pesos
abbrev pub found_text : ℕ → ℤ → List ℕ
found_text settled surplus = codes "settled " ++ (decimal settled ++ (codes " surplus " ++ signed_decimal surplus))

-- a number behind others
abbrev pub place_text : ℕ → List ℕ
place_text number = 32 ∷ decimal number

-- the choice, its surplus in pesos, and every place of the row
abbrev pub awarded_text : Award → List ℕ → List ℕ
awarded_text award row =
    codes "choice " ++ (decimal award.choice ++ (codes " surplus " ++ (signed_decimal award.surplus ++ (codes " sold" ++ flat_map place_text row))))

-- the total in centavos, and every place of the row
abbrev pub charged_text : ℕ → List ℕ → List ℕ
charged_text total row = codes "fees " ++ (decimal total ++ flat_map place_text row)

-- bytes behind a number, two digits each; nothing where there are none
abbrev pub bytes_text : List ℕ → List ℕ
bytes_text [] = []
bytes_text (b ∷ bs) = 32 ∷ encode_lower (b ∷ bs)

-- what is shown of a buffer whose first bytes a sheet of this length fills
abbrev pub shown_bytes : Shown → ℕ → List ℕ → List ℕ
shown_bytes Whole length buffer = buffer
shown_bytes Filled length buffer = take length buffer

-- the sheet's length, and the bytes that are shown
abbrev pub sheet_text : ℕ → List ℕ → List ℕ
sheet_text length bytes = codes "sheet " ++ (decimal length ++ bytes_text bytes)

abbrev pub stage_word : PlainStage → List ℕ
stage_word AtOpen = codes "open"
stage_word (AtClosed at) = codes "closed"
stage_word (AtAwarded at) = codes "awarded"

-- what a call was answered, where the round stands after it
abbrev pub answer_text : Shown → PlainStage → Answer → List ℕ
answer_text shown stage (Done (Ok done)) = codes "done"
answer_text shown stage (Done (Err refusal)) = refusal_text refusal
answer_text shown stage (Found (Ok found)) = found_text found.0 found.1
answer_text shown stage (Found (Err refusal)) = refusal_text refusal
answer_text shown stage Reopened = codes "done"
answer_text shown stage (Awarded (Ok award) row) = awarded_text award row
answer_text shown stage (Awarded (Err refusal) row) = refusal_text refusal
answer_text shown stage (Charged (Ok total) row) = charged_text total row
answer_text shown stage (Charged (Err refusal) row) = refusal_text refusal
answer_text shown stage (Written (Ok length) buffer) = sheet_text length (shown_bytes shown length buffer)
answer_text shown stage (Written (Err refusal) buffer) = refusal_text refusal
answer_text shown stage NotTaken = codes "not taken while " ++ stage_word stage
