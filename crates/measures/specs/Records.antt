-- Lists of own records with their adjusted moments: their kinds, what they say of a channel, and what is counted over them.
use Rattle.std.specs.Prelude.{ℕ, Bool, false, cond, ◌&&◌, ◌||◌, List, [], ◌∷◌, map, Some, None, fold, sum_by, count_by, filter, Option, ◌==◌}
use Rattle.controller_log.specs.Events.{code_of}
use Rattle.controller_log.specs.declared.event.Event.TheVariants.{GreenBegins, GapOut, MaxOut, ForceOff, YellowBegins, YellowEnds, RedClearanceEnds, DetectorOff, DetectorOn}
use Rattle.measures.specs.Channels.{holds, entered, removed}
use Rattle.measures.specs.declared.own.OwnRecord.{OwnRecord}

-- a code is one of some codes
abbrev pub among : List ℕ → ℕ → Bool
among [] c = false
among (d ∷ ds) c = c == d || among ds c

-- the codes of phase records
abbrev pub phase_codes : List ℕ
phase_codes = map code_of (GreenBegins ∷ GapOut ∷ MaxOut ∷ ForceOff ∷ YellowBegins ∷ YellowEnds ∷ RedClearanceEnds ∷ [])

-- a detector record goes off or on; an activation goes on
abbrev pub activation : OwnRecord → Bool
activation s = s.code == code_of DetectorOn

abbrev pub detector : OwnRecord → Bool
detector s = s.code == code_of DetectorOff || activation s

-- a detector record of a channel
abbrev pub of_channel : ℕ → OwnRecord → Bool
of_channel c s = detector s && s.parameter == c

-- the latest of some records, if there is one
abbrev pub latest : List OwnRecord → Option OwnRecord
latest xs = fold (λ before s. Some s) None xs

-- a channel is on by its latest record, or where it has none by whether it was on before
abbrev pub on_by : Bool → Option OwnRecord → Bool
on_by before None = before
on_by before (Some s) = activation s

-- a channel is occupied after some records: its latest record is an activation, or it was in the set at the opening and has none
unfoldable pub occupied_after : ℕ → List OwnRecord → ℕ → Bool
occupied_after q xs c = on_by (holds q c) (latest (filter (of_channel c) xs))

-- the set of occupied channels, one record on
abbrev pub changed : ℕ → OwnRecord → ℕ
changed q s = cond (activation s) (entered q s.parameter) (cond (s.code == code_of DetectorOff) (removed q s.parameter) q)

-- the moment of the latest record with a code
abbrev pub moment_of : ℕ → List OwnRecord → ℕ
moment_of c xs = fold (λ a s. cond (s.code == c) s.adjusted a) 0 xs

-- over the activations whose adjusted moments pass a test: how many there are, and the sum of some function of the moments
abbrev pub count : (ℕ → Bool) → List OwnRecord → ℕ
count p xs = count_by (λ s. activation s && p s.adjusted) xs

abbrev pub total : (ℕ → Bool) → (ℕ → ℕ) → List OwnRecord → ℕ
total p f xs = sum_by (λ s. cond (activation s && p s.adjusted) (f s.adjusted) 0) xs
