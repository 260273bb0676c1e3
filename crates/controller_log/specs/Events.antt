-- The events that the engine knows, by their codes in the log.
use Rattle.std.specs.Prelude.{◌≡◌, ℕ, cond, List, [], ◌∷◌, Some, None, codes, Option, Ok, Err, Result, ◌==◌}
use Rattle.controller_log.specs.declared.event.Event.{Event}
use Rattle.controller_log.specs.declared.event.UnknownCode.{UnknownCode}
use Rattle.controller_log.specs.declared.event.Event.TheVariants.{GreenBegins, GapOut, MaxOut, ForceOff, YellowBegins, YellowEnds, RedClearanceEnds, DetectorOff, DetectorOn}

-- the code of an event
abbrev pub code_of : Event → ℕ
code_of GreenBegins = 1
code_of GapOut = 4
code_of MaxOut = 5
code_of ForceOff = 6
code_of YellowBegins = 8
code_of YellowEnds = 9
code_of RedClearanceEnds = 11
code_of DetectorOff = 81
code_of DetectorOn = 82

-- all of them
abbrev pub events : List Event
events = GreenBegins ∷ GapOut ∷ MaxOut ∷ ForceOff ∷ YellowBegins ∷ YellowEnds ∷ RedClearanceEnds ∷ DetectorOff ∷ DetectorOn ∷ []

-- the first of some events that has a code
abbrev pub with_code : ℕ → List Event → Option Event
with_code c [] = None
with_code c (e ∷ es) = cond (c == code_of e) (Some e) (with_code c es)

-- the event of a code, if it is one of these
abbrev pub event : ℕ → Option Event
event c = with_code c events

-- a code is turned into its event, or is handed back where it has none
abbrev pub Decodes : ℕ → Result Event UnknownCode → Type 0
Decodes c (Ok e) = event c ≡ Some e
Decodes c (Err u) = (event c ≡ None) × (u.0 ≡ c)

-- an event's name
abbrev pub event_name : Event → List ℕ
event_name GreenBegins = codes "green begins"
event_name GapOut = codes "gap-out"
event_name MaxOut = codes "max-out"
event_name ForceOff = codes "force-off"
event_name YellowBegins = codes "yellow begins"
event_name YellowEnds = codes "yellow ends"
event_name RedClearanceEnds = codes "red clearance ends"
event_name DetectorOff = codes "detector off"
event_name DetectorOn = codes "detector on"
