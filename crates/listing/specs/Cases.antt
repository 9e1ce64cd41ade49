-- Inputs, and all that is printed of each.
-- Assumes nothing.
use Rattle.std.specs.Prelude.{◌≡◌}
use Rattle.text.specs.Ascii.{text}
use Rattle.listing.specs.Listed.{listed}

pub record Cases : Type 0 where
  -- whole frames, however they are divided into lines
  pub empty : listed (text "") ≡ text ""
  pub resets : listed (text "07 07 07 19\n07 07 07 19") ≡ text "0 5 -\n4 5 -\n"
  -- the tank's name, whose letter holds A1
  pub tank :
      listed (text "18 18 18 11 1D 0A 1E 09 1A 0E 15 1A 09 16 09 14 1A 1A 15 0F 1E 0A 0E 15 0D\n")
      ≡ text "0 0 4F 10 6C C3 A1 21 CC 73 40 36\n"
  -- the record does not go on with a frame; what stands behind is not looked at
  pub no_frame : listed (text "07 07 07 19 18 18 18 11 0D 1") ≡ text "0 5 -\nno13 8\n"
  -- three K-codes of four, and the mark; none and several kinds that agree in three places; three symbols (02, A4)
  pub near : listed (text "07 07 07 19 07 07 FF 19\n") ≡ text "0 5 -\n4 5~ -\n"
  pub near_tank :
      listed (text "18 18 18 0D 1D 0A 1E 09 1A 0E 15 1A 09 16 09 14 1A 1A 15 0F 1E 0A 0E 15 0D\n")
      ≡ text "0 0~ 4F 10 6C C3 A1 21 CC 73 40 36\n"
  pub far : listed (text "07 07 07 19 07 07 06 06 1") ≡ text "0 5 -\nno13 4\n"
  pub doubtful : listed (text "18 18 06 11") ≡ text "no13 0\n"
  pub three : listed (text "18 18 11") ≡ text "no14 3\n"
  pub cut : listed (text "07 07 07 19 18 18\n") ≡ text "0 5 -\nno14 6\n"
  pub wrong_crc :
      listed (text "18 18 18 11 09 0A 1E 09 1A 0E 15 1A 09 16 09 14 1A 1A 15 0F 1E 0A 0E 15 0D,")
      ≡ text "no15 24\n"
  -- the form breaks
  pub line_alone : listed (text "\n") ≡ text "bad octet 1\n"
  pub small_letter : listed (text "0d") ≡ text "bad octet 1\n"
  pub no_gap : listed (text "1818") ≡ text "bad octet 2\n"
  pub comma : listed (text "07 07 07 19,18") ≡ text "0 5 -\nbad octet 5\n"
  pub space_last : listed (text "07 07 07 19 ") ≡ text "0 5 -\nbad octet 5\n"
  pub two_lines : listed (text "07 07 07 19\n\n") ≡ text "0 5 -\nbad octet 5\n"
  pub half : listed (text "07 07 0") ≡ text "bad octet 3\n"
