-- What holds of texts; proofs/ has the proof of each statement.
-- Assumes nothing.
use Rattle.std.specs.Prelude.{◌≡◌, Bool, List, ℕ, ◌<◌, ◌^◌}
use Rattle.text.specs.Hex.{TellsHex, MakesOctet}
use Rattle.text.specs.Put.{decimal_of, value_of, TellsRoom, Puts, Prints}
use Rattle.text.specs.Page.{PutsOn, PrintsOn}
use Rattle.text.specs.declared.page.Page.{Page}

-- ---- 1. So many digits lose nothing of a number that is below that power of ten

abbrev pub DecimalReadsBack : Type 0
DecimalReadsBack = (most n : ℕ) → n < 10 ^ most → value_of (decimal_of most n) ≡ n

-- ---- 2. No second outcome

abbrev pub OneHex : Type 0
OneHex = (c : ℕ) (r s : Bool) → TellsHex c r → TellsHex c s → r ≡ s

abbrev pub OneOctet : Type 0
OneOctet = (a b r s : ℕ) → MakesOctet a b r → MakesOctet a b s → r ≡ s

abbrev pub OneRoom : Type 0
OneRoom = (need octets at : ℕ) (r s : Bool) → TellsRoom need octets at r → TellsRoom need octets at s → r ≡ s

abbrev pub OnePut : Type 0
OnePut =
    (before : List ℕ) (at : ℕ) (t : List ℕ) (r s : ℕ) (a b : List ℕ)
    → Puts before at t r a → Puts before at t s b → (r ≡ s) × (a ≡ b)

-- of all that put: each is Prints of its own text, with its own room
abbrev pub OnePrinting : Type 0
OnePrinting =
    (fits : Bool) (before : List ℕ) (at : ℕ) (t : List ℕ) (r s : ℕ) (a b : List ℕ)
    → Prints fits before at t r a → Prints fits before at t s b → (r ≡ s) × (a ≡ b)

-- the same on a page: its place, its octets, and which lent octets these are
pub record SamePage (q r : Page) : Type 0 where
  pub at : q.at ≡ r.at
  pub octets : q.octets.now ≡ r.octets.now
  pub lent : q.octets.ghost_name ≡ r.octets.ghost_name

abbrev pub OnePutOn : Type 0
OnePutOn = (p : Page) (t : List ℕ) (q r : Page) → PutsOn p t q → PutsOn p t r → SamePage q r

abbrev pub OnePrintingOn : Type 0
OnePrintingOn = (fits : Bool) (p : Page) (t : List ℕ) (q r : Page) → PrintsOn fits p t q → PrintsOn fits p t r → SamePage q r
