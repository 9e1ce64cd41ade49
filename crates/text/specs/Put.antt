-- Texts, and where they are put.
-- Assumes nothing.
use Rattle.std.specs.Prelude.{◌≡◌, Bool, cond, List, [], ◌∷◌, ◌++◌, ℕ, zero, suc, ◌+◌, ◌*◌, ◌-◌, ◌/◌, ◌%◌, ltb, leb, length}
use Rattle.std.proofs.lemmas.List.Edits.{sets}
use Rattle.text.specs.Ascii.{text}
use Rattle.text.specs.Hex.{hex_of}

-- a number in decimal, in at most so many digits: of a longer one the last so many
unfoldable pub decimal_of : ℕ → ℕ → List ℕ
decimal_of zero n = []
decimal_of (suc k) n = cond (ltb n 10) ((48 + n) ∷ []) (decimal_of k (n / 10) ++ ((48 + n % 10) ∷ []))

-- the number that digits write, behind those of v
unfoldable pub onto : ℕ → List ℕ → ℕ
onto v [] = v
onto v (c ∷ l) = onto (10 * v + (c - 48)) l

unfoldable pub value_of : List ℕ → ℕ
value_of l = onto 0 l

-- a space and two digits for each octet
unfoldable pub spaced : List ℕ → List ℕ
spaced [] = []
spaced (s ∷ ss) = 0x20 ∷ (hex_of s ++ spaced ss)

-- the same, and ` -` for none
unfoldable pub octets_text : List ℕ → List ℕ
octets_text [] = text " -"
octets_text (s ∷ ss) = spaced (s ∷ ss)

-- t stands in the lent octets from at on, the rest as before, and r is the place after it
pub record Puts (before : List ℕ) (at : ℕ) (t : List ℕ) (r : ℕ) (after : List ℕ) : Type 0 where
  pub next : r ≡ at + length t
  pub stands : after ≡ sets before at t

-- so many more have room behind at
abbrev pub has_room : ℕ → List ℕ → ℕ → Bool
has_room need before at = leb (at + need) (length before)

-- the same of so many octets, as an answer tells it
abbrev pub TellsRoom : ℕ → ℕ → ℕ → Bool → Type 0
TellsRoom need octets at r = r ≡ leb (at + need) octets

-- a whole text, or, where it need not fit, none
pub record Prints (fits : Bool) (before : List ℕ) (at : ℕ) (t : List ℕ) (r : ℕ) (after : List ℕ) : Type 0 where
  pub puts : Puts before at (cond fits t []) r after
