-- A field as a reader holds it, and as the definitions have it.
use Rattle.std.specs.Prelude.{◌≡◌, Ok, Err, Result}
use Rattle.offers.specs.declared.refusals.Refusal.{Refusal}
use Rattle.sheets.specs.declared.fields.SheetField as read
use Rattle.sheets.specs.Fields.{SheetField}

-- its bytes as plain lists
abbrev pub plain_field : read.SheetField → SheetField
plain_field field = record { kind = field.kind; content = field.content.now; rest = field.rest.now }

-- what a reader answers is what is defined: the same field, or the same refusal
abbrev pub ReadAs : Result read.SheetField Refusal → Result SheetField Refusal → Type 0
ReadAs (Ok field) defined = defined ≡ Ok (plain_field field)
ReadAs (Err refusal) defined = defined ≡ Err refusal
