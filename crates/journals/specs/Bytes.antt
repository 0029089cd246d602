-- Bytes as a word of two hexadecimal digits each, in either case.
use Rattle.std.specs.Prelude.{ℕ, List, [], ◌∷◌, Ok, Err, Result}
use Rattle.hex.specs.Hex.{decode_of}
use Rattle.hex.specs.declared.error.FromHexError.{FromHexError}
use Rattle.journals.specs.declared.wrongs.Wrong.{Wrong}
use Rattle.journals.specs.declared.wrongs.Wrong.TheVariants.{NotBytes}
use Rattle.journals.specs.Readers.{Reading}
use Rattle.journals.specs.Wrongs.{◌>>=◌}

abbrev pub decoded : Result (List ℕ) FromHexError → Result (List ℕ) Wrong
decoded (Ok bytes) = Ok bytes
decoded (Err e) = Err NotBytes

-- the bytes that a word has
abbrev pub bytes_in : List ℕ → Result (List ℕ) Wrong
bytes_in word = decoded (decode_of word)

-- the next word as bytes; none where there is no word
abbrev pub bytes_at : List (List ℕ) → Reading (List ℕ)
bytes_at [] = Ok ([], [])
bytes_at (word ∷ words) = do
  bytes ← bytes_in word
  Ok (bytes, words)
