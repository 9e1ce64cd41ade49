-- An input fed to a listing by calls, one after the other: what the caller finds printed.
-- Assumes nothing.
use Rattle.std.specs.Prelude.{◌≡◌, true, false, List, [], ◌∷◌, ◌++◌, ℕ, ◌-◌, take, drop}
use Rattle.text.specs.Put.{has_room}
use Rattle.listing.specs.declared.Listing.{Listing}
use Rattle.listing.specs.Lines.{frame_line_room}
use Rattle.listing.specs.Promises.{Fed, Feeds, Finishes}

-- what stands in the lent octets from one place to another
abbrev pub text_between : ℕ → ℕ → List ℕ → List ℕ
text_between at to out = take (to - at) (drop at out)

-- feed's promise for each character in turn until it ends, and finish's at the end of the input, each lent room for any line; all that was printed
pub data CallsPrint : Listing → List ℕ → List ℕ → List ℕ → Type 0 where
  last : (l : Listing) (window out : List ℕ) (at r : ℕ) (out' : List ℕ)
      → has_room frame_line_room out at ≡ true → Finishes l out at r out'
      → CallsPrint l window [] (text_between at r out')
  on : (l : Listing) (window out : List ℕ) (at c : ℕ) (r : Fed) (window' out' input t : List ℕ)
      → has_room frame_line_room out at ≡ true → Feeds l c window out at r window' out' → r.ends ≡ false
      → CallsPrint r.listing window' input t → CallsPrint l window (c ∷ input) (text_between at r.at out' ++ t)
  stop : (l : Listing) (window out : List ℕ) (at c : ℕ) (r : Fed) (window' out' input : List ℕ)
      → has_room frame_line_room out at ≡ true → Feeds l c window out at r window' out' → r.ends ≡ true
      → CallsPrint l window (c ∷ input) (text_between at r.at out')
