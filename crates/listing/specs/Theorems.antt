-- What holds of a listing; proofs/ has the proof of each statement.
-- Assumes nothing.
use Rattle.std.specs.Prelude.{◌≡◌, true, List, ℕ, ◌+◌, ◌<◌, ◌^◌, length, Option}
use Rattle.line.specs.Frame.{Frame, AllWhole, joined}
use Rattle.reader.specs.Walk.{read_exact}
use Rattle.listing.specs.declared.Listing.{Listing}
use Rattle.listing.specs.Form.{recorded}
use Rattle.listing.specs.Listed.{frames_text, listed}
use Rattle.listing.specs.Steps.{empty_state, printed_from}
use Rattle.listing.specs.Promises.{Fed, fed_as, window_room, Right, listing_of, BeginsListing, Feeds, Finishes}
use Rattle.listing.specs.Calls.{CallsPrint}

-- ---- 1. Of whole frames each is shown, none with a mark, and nothing more

abbrev pub ShowsFrames : Type 0
ShowsFrames =
    (input : List ℕ) (fs : List Frame) → AllWhole fs → recorded input ≡ record { symbols = joined fs; kept = true }
    → listed input ≡ frames_text 0 (read_exact fs)

-- ---- 2. Character by character, all of an input is listed

abbrev pub ListsAll : Type 0
ListsAll = (input : List ℕ) → printed_from empty_state input ≡ listed input

-- ---- 3. Whatever the window held, calls from a new listing on print what is listed, of any input that 64 bits can count

abbrev pub ListsByCalls : Type 0
ListsByCalls =
    (window input t : List ℕ) → length window ≡ window_room → length input + 1 < 2 ^ 64
    → CallsPrint (listing_of empty_state) window input t → t ≡ listed input

-- ---- 4. Every listing that calls lead to is right

pub record StaysRight : Type 0 where
  pub begin : (r : Listing) → BeginsListing r → Right r
  pub feed : (l : Listing) (c : ℕ) (window out : List ℕ) (at : ℕ) (r : Fed) (window' out' : List ℕ)
      → Right l → Feeds l c window out at r window' out' → Right r.listing

-- ---- 5. No second outcome

abbrev pub OneBegin : Type 0
OneBegin = (r s : Listing) → BeginsListing r → BeginsListing s → r ≡ s

abbrev pub OneFeed : Type 0
OneFeed =
    (l : Listing) (c : ℕ) (window out : List ℕ) (at : ℕ) (r s : Fed) (w x a b : List ℕ)
    → Feeds l c window out at r w a → Feeds l c window out at s x b → (r ≡ s) × (w ≡ x) × (a ≡ b)

-- and no two answers are read as the same
abbrev pub OneMeaningFed : Type 0
OneMeaningFed = (l : Listing) (r s : Option Listing) (p q : ℕ) → fed_as l r p ≡ fed_as l s q → (r ≡ s) × (p ≡ q)

abbrev pub OneFinish : Type 0
OneFinish =
    (l : Listing) (out : List ℕ) (at r s : ℕ) (a b : List ℕ) → Finishes l out at r a → Finishes l out at s b → (r ≡ s) × (a ≡ b)
