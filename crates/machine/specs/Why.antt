-- Why was there no GoodCRC? (02, A5): the reasons in 02's order, each a test that packets heard go through, and the first that applies.
-- Assumes nothing.
use Rattle.std.specs.Prelude.{Bool, not, cond, List, [], ◌∷◌, ℕ}
use Rattle.std.proofs.Math.Option.{Option, none, some}
use Rattle.line.specs.Crc.{crc_right}
use Rattle.line.specs.Write.{frame_room}
use Rattle.machine.specs.Registers.{switches1, control0, has, AUTO_CRC, AUTO_PRE}
use Rattle.machine.specs.State.{State, reg}
use Rattle.machine.specs.Headers.{GoodCRC, is_control}
use Rattle.machine.specs.Requests.{driver_on}
use Rattle.machine.specs.Packets.{kind_on, fits_rx}
use Rattle.machine.specs.Events.{packet}
use Rattle.machine.specs.Refusals.{no11, no9}

pub data Reason : Type 0 where
  refused : (number : ℕ) → Reason
  kind_off : Reason
  crc_wrong : Reason
  no_room : Reason
  is_good_crc : Reason
  auto_crc_off : Reason
  auto_pre_on : Reason
  driver_off : Reason

-- ---- the rows, each over a state and a packet

pub record Cause : Type 0 where
  pub reason : Reason
  pub applies : Bool

abbrev pub because : Reason → Bool → Cause
because r b = record { reason = r; applies = b }

-- in 02's order
abbrev pub causes : State → ℕ → List ℕ → List Cause
causes s k m =
    because (refused 11) (no11 s (packet frame_room k m))
    ∷ because (refused 9) (no9 s (packet frame_room k m))
    ∷ because kind_off (not (kind_on k s))
    ∷ because crc_wrong (not (crc_right m))
    ∷ because no_room (not (fits_rx m s))
    ∷ because is_good_crc (is_control GoodCRC m)
    ∷ because auto_crc_off (not (has AUTO_CRC (reg switches1 s)))
    ∷ because auto_pre_on (has AUTO_PRE (reg control0 s))
    ∷ because driver_off (not (driver_on (reg switches1 s)))
    ∷ []

-- ---- the first that applies

unfoldable pub first_cause : List Cause → Option Reason
first_cause [] = none
first_cause (c ∷ cs) = cond c.applies (some c.reason) (first_cause cs)

-- why no reply leaves; where nothing stands in its way, one does
unfoldable pub why : State → ℕ → List ℕ → Option Reason
why s k m = first_cause (causes s k m)
