-- What a refusal tells: its number, the values beside it, and its words.
use Rattle.std.specs.Prelude.{ℕ, List, [], ◌∷◌, ◌++◌, Some, None, Ok, Err, codes, decimal, Option, Result, slice_index_or}
use Rattle.controller_log.specs.declared.refusal.Refusal.{Refusal}
use Rattle.controller_log.specs.declared.refusal.Refusal.TheVariants.{RecordLength, RecordPadding, MomentTooLate, TableLength, RowOutOfRange, ChannelRepeated, NoSuchWatch, SeverityTooLong, OutOfOrder, HoldFull, RowListTooShort}

-- a refusal's number, and the values beside it
pub record Told : Type 0 where
  pub number : ℕ
  pub values : List ℕ

-- the number and the values of each case
abbrev pub told : Refusal → Told
told RecordLength = record { number = 1; values = [] }
told RecordPadding = record { number = 2; values = [] }
told MomentTooLate = record { number = 3; values = [] }
told TableLength = record { number = 4; values = [] }
told (RowOutOfRange row) = record { number = 5; values = row ∷ [] }
told (ChannelRepeated row) = record { number = 6; values = row ∷ [] }
told NoSuchWatch = record { number = 7; values = [] }
told SeverityTooLong = record { number = 8; values = [] }
told OutOfOrder = record { number = 9; values = [] }
told HoldFull = record { number = 10; values = [] }
told RowListTooShort = record { number = 11; values = [] }

-- what a call answers: its value, or the number and values of its refusal
abbrev pub answer : {X : Type 0} → Result X Refusal → Result X Told
answer (Ok x) = Ok x
answer (Err e) = Err (told e)

-- the same of a call that changes what it is made on, and answers that
abbrev pub answer_with : {X : Type 0} → Result (Unit {0}) Refusal → X → Result X Told
answer_with (Ok done) x = Ok x
answer_with (Err e) x = Err (told e)

-- f goes on from what a call answered, unless it was refused
abbrev pub then : {X Y E : Type 0} → Result X E → (X → Result Y E) → Result Y E
then (Ok x) f = f x
then (Err e) f = Err e

-- a row's place as the values of a refusal
abbrev pub row_told : Option ℕ → List ℕ
row_told None = []
row_told (Some row) = row ∷ []

-- each refusal in words, by its number, which counts from 1
unfoldable pub words : List (List ℕ)
words =
    [] ∷ codes "the record is not 8 bytes long"
    ∷ codes "the last two bytes of the record are not zero"
    ∷ codes "the moment is later than 4000000000"
    ∷ codes "the detector table's length is no multiple of 8 bytes, or over 512"
    ∷ codes "the detector table has a value out of range"
    ∷ codes "the detector table has a channel twice"
    ∷ codes "the phase is not 1 to 16, the measure not 1 to 3 or the steady mark not 0 or 1"
    ∷ codes "the severity setting is over 200"
    ∷ codes "the moment is before the last accepted one"
    ∷ codes "256 records are held and none of them is due"
    ∷ codes "more cycles may close than the row list has places"
    ∷ []

-- words, and the table's row where one is told
abbrev pub at_row : List ℕ → List ℕ → List ℕ
at_row text [] = text
at_row text (row ∷ more) = text ++ (codes ", row " ++ decimal row)

-- a refusal in words
unfoldable pub wording : Told → List ℕ
wording e = at_row (slice_index_or words e.number []) e.values
