-- What the functions promise of a listing, its window and the lent octets.
-- Assumes nothing.
use Rattle.std.specs.Prelude.{◌≡◌, Bool, true, false, Option, Some, None, ◌&&◌, List, ℕ, ◌+◌, ◌<◌, ◌≤◌, ◌^◌, ltb, length, take, set}
use Rattle.std.proofs.lemmas.List.Edits.{sets}
use Rattle.listing.specs.declared.form.Scan.{Scan}
use Rattle.listing.specs.declared.form.Scan.TheVariants.{Begin, Digit, Symbol, Line, Space}
use Rattle.listing.specs.declared.Listing.{Listing}
use Rattle.line.specs.Write.{frame_room}
use Rattle.text.specs.Put.{has_room, Prints}
use Rattle.listing.specs.Lines.{frame_line_room}
use Rattle.listing.specs.Scans.{form_after}
use Rattle.listing.specs.Steps.{ListingState, empty_state, Step, goes, stops, step_to, end_text}

-- the longest frame
abbrev pub window_room : ℕ
window_room = frame_room

-- fewer symbols are held than the longest frame has, and all are counted in 64 bits: so is every listing that calls lead to
pub record Right (l : Listing) : Type 0 where
  pub few : l.count < window_room
  pub counted : l.before + l.count < 2 ^ 64

-- and the next one's number can be printed
pub record Bounded (l : Listing) : Type 0 where
  pub few : l.count < window_room
  pub fits : l.before + l.count + 1 < 2 ^ 64

-- the same as a test
abbrev pub in_bounds : Listing → Bool
in_bounds l = ltb l.count window_room && ltb (l.before + l.count + 1) (2 ^ 64)

-- a listing in bounds, with room for any line behind at
abbrev pub may_print : Listing → List ℕ → ℕ → Bool
may_print l out at = in_bounds l && has_room frame_line_room out at

-- the state that a listing stands for, its symbols at the beginning of the window
abbrev pub state_of : Listing → List ℕ → ListingState
state_of l window = record { scan = l.scan; before = l.before; symbols = take l.count window }

abbrev pub listing_of : ListingState → Listing
listing_of s = record { scan = s.scan; before = s.before; count = length s.symbols }

-- ---- a step

-- after a character: the listing, whether it ends there, and the place behind what was printed
pub record Fed : Type 0 where
  pub listing : Listing
  pub ends : Bool
  pub at : ℕ

-- an answer to a character: the listing that goes on, or none where it ends and stays as it stood
abbrev pub fed_as : Listing → Option Listing → ℕ → Fed
fed_as l (Some m) at = record { listing = m; ends = false; at = at }
fed_as l None at = record { listing = l; ends = true; at = at }

unfoldable pub printed_by : Step → List ℕ
printed_by (goes t s) = t
printed_by (stops t) = t

abbrev pub stopped : Listing → ℕ → Fed
stopped l at = record { listing = l; ends = true; at = at }

-- where it stops the listing stays as it stood
unfoldable pub fed_by : Step → Listing → ℕ → Fed
fed_by (goes t s) l at = record { listing = listing_of s; ends = false; at = at + length t }
fed_by (stops t) l at = stopped l (at + length t)

-- a symbol is put behind those in the window
unfoldable pub window_after : Option Scan → ℕ → List ℕ → List ℕ
window_after (Some Begin) n window = window
window_after (Some (Digit a)) n window = window
window_after (Some (Symbol v)) n window = set window n v
window_after (Some Line) n window = window
window_after (Some Space) n window = window
window_after None n window = window

-- the step to a form of the text
pub record Goes (l : Listing) (to : Option Scan) (window out : List ℕ) (at : ℕ) (r : Fed) (window' out' : List ℕ) : Type 0 where
  pub fed : r ≡ fed_by (step_to to l.before (take l.count window)) l at
  pub stands : out' ≡ sets out at (printed_by (step_to to l.before (take l.count window)))
  pub holds : window' ≡ window_after to l.count window
  pub inside : r.at ≤ length out
  pub few : r.listing.count < window_room
  pub counts : r.listing.before + r.listing.count ≤ l.before + l.count + 1

-- ---- promises

abbrev pub BeginsListing : Listing → Type 0
BeginsListing r = r ≡ listing_of empty_state

-- a character is taken; or all stays as it stood and the listing ends
unfoldable pub TakesCharacter : Bool → Listing → ℕ → List ℕ → List ℕ → ℕ → Fed → List ℕ → List ℕ → Type 0
TakesCharacter true l c window out at r window' out' = Goes l (form_after l.scan c) window out at r window' out'
TakesCharacter false l c window out at r window' out' =
    (r ≡ stopped l at) × (window' ≡ window) × (out' ≡ out)

-- feed takes a character exactly where it may print
abbrev pub Feeds : Listing → ℕ → List ℕ → List ℕ → ℕ → Fed → List ℕ → List ℕ → Type 0
Feeds l c window out at r window' out' = TakesCharacter (may_print l out at) l c window out at r window' out'

-- finish prints what is said at the end of the input, or nothing
abbrev pub Finishes : Listing → List ℕ → ℕ → ℕ → List ℕ → Type 0
Finishes l out at r out' = Prints (may_print l out at) out at (end_text l.scan l.before l.count) r out'
