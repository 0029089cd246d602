-- What a line says.
use Rattle.std.specs.Prelude.{ℕ, List, [], ◌∷◌, vec_items, slice_index, ◌==◌, unwrap_or, Some, None, Option, Ok, Result, if◌then◌else◌}
use Rattle.offers.specs.declared.kinds.Kind.{Kind}
use Rattle.offers.specs.declared.memory.Offer.{Offer}
use Rattle.offers.specs.Tables.{BANDS, BUYERS}
use Rattle.fees.specs.declared.rates.FeeRates.{FeeRates}
use Rattle.journals.specs.declared.lines.Line.{Line}
use Rattle.journals.specs.declared.lines.Line.TheVariants as line
use Rattle.journals.specs.declared.names.Verb.{Verb}
use Rattle.journals.specs.declared.names.Verb.TheVariants as verb
use Rattle.journals.specs.declared.wrongs.Wrong.{Wrong}
use Rattle.journals.specs.declared.wrongs.Wrong.TheVariants.{UnknownWord, UnknownKind}
use Rattle.journals.specs.Bytes.{bytes_at}
use Rattle.journals.specs.Chains.{Rules, joined_rules, chain_at}
use Rattle.journals.specs.Names.{case_named, verbs, kinds}
use Rattle.journals.specs.Readers.{Reading, known, name_at, number_at, optional_at, end_at}
use Rattle.journals.specs.Records.{offer_at}
use Rattle.journals.specs.Stacks.{PlainStack, plain_stack, stack_at}
use Rattle.journals.specs.Words.{words_in}
use Rattle.journals.specs.Wrongs.{◌>>=◌}

-- What a line says: a call, as plain values.
pub data Said : Type 0 where
  -- a record under an offer number
  File : ℕ → Offer → Said
  Withdraw : Kind → ℕ → Said
  -- a sheet's bytes
  CatchUp : List ℕ → Said
  Close : PlainStack → Said
  -- bounding rules, and a count of steps
  Search : Rules → ℕ → Said
  Reopen : Said
  -- the length of the row that is lent
  Award : ℕ → Said
  -- the rates, and the length of the row that is lent
  Fees : FeeRates → ℕ → Said
  -- the length of the buffer that is lent; none for one as long as the sheet
  Sheet : Option ℕ → Said

abbrev pub said : Line → Said
said (line.File n offer) = File n offer
said (line.Withdraw k n) = Withdraw k n
said (line.CatchUp bytes) = CatchUp (vec_items bytes)
said (line.Close stack) = Close (plain_stack stack)
said (line.Search chain steps) = Search (joined_rules chain) steps
said line.Reopen = Reopen
said (line.Award length) = Award length
said (line.Fees rates length) = Fees rates length
said (line.Sheet length) = Sheet length

-- what the words after a line's first say
unfoldable pub said_at : Verb → List (List ℕ) → Reading Said
said_at verb.File words = do
  k ← name_at UnknownKind kinds words
  n ← number_at 1 k.1
  offer ← offer_at k.0 n.1
  Ok (File n.0 offer.0, offer.1)
said_at verb.Withdraw words = do
  k ← name_at UnknownKind kinds words
  n ← number_at 1 k.1
  Ok (Withdraw k.0 n.0, n.1)
said_at verb.CatchUp words = do
  bytes ← bytes_at words
  Ok (CatchUp bytes.0, bytes.1)
said_at verb.Close words = do
  stack ← stack_at words
  Ok (Close stack.0, stack.1)
said_at verb.Search words = do
  chain ← chain_at words
  steps ← number_at 4 chain.1
  Ok (Search chain.0 steps.0, steps.1)
said_at verb.Reopen words = Ok (Reopen, words)
said_at verb.Award words = do
  length ← optional_at 4 words
  Ok (Award (unwrap_or length.0 BANDS), length.1)
said_at verb.Fees words = do
  first ← number_at 4 words
  second ← number_at 4 first.1
  third ← number_at 4 second.1
  length ← optional_at 4 third.1
  Ok (Fees (record { first = first.0; second = second.0; third = third.0 }) (unwrap_or length.0 BUYERS), length.1)
said_at verb.Sheet words = do
  length ← optional_at 4 words
  Ok (Sheet length.0, length.1)

-- what a line's words say; a line without any is passed over
unfoldable pub said_by : List (List ℕ) → Result (Option Said) Wrong
said_by [] = Ok None
said_by (word ∷ words) = do
  v ← known UnknownWord (case_named verbs word)
  s ← said_at v words
  end ← end_at s.1
  Ok (Some s.0)

-- what a line says; one that begins with a byte 35 is passed over
abbrev pub said_in : List ℕ → Result (Option Said) Wrong
said_in line = if slice_index line 0 == 35 then Ok None else said_by (words_in line)
