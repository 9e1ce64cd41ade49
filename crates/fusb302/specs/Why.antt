-- What an answer to 'why was there no GoodCRC?' means, and what the method promises (02, A5).
-- Assumes nothing.
use Rattle.std.specs.Prelude.{◌≡◌, List, ℕ, drop}
use Rattle.std.proofs.Math.Option.{Option, none, some}
use Rattle.machine.specs.Why.{Reason, refused, kind_off, crc_wrong, no_room, is_good_crc, auto_crc_off, auto_pre_on, driver_off, causes, first_cause, why}
use Rattle.fusb302.specs.declared.device.Device.{Device}
use Rattle.fusb302.specs.declared.refusals.No.{No}
use Rattle.fusb302.specs.declared.why.Why.{Why}
use Rattle.fusb302.specs.declared.why.Why.TheVariants.{Refused, KindOff, CrcWrong, NoRoom, IsGoodCrc, AutoCrcOff, AutoPreOn, DriverOff, Leaves}
use Rattle.fusb302.specs.Refusals.{number_of}
use Rattle.fusb302.specs.View.{view}

-- the reason that an answer names, or none where a reply leaves
abbrev pub reason_of : Why No → Option Reason
reason_of (Refused n) = some (refused (number_of n))
reason_of KindOff = some kind_off
reason_of CrcWrong = some crc_wrong
reason_of NoRoom = some no_room
reason_of IsGoodCrc = some is_good_crc
reason_of AutoCrcOff = some auto_crc_off
reason_of AutoPreOn = some auto_pre_on
reason_of DriverOff = some driver_off
reason_of Leaves = none

-- the answer is the machine's, of the state that the device stands for
abbrev pub Explains : Device → ℕ → List ℕ → Why No → Type 0
Explains d k m r = reason_of r ≡ why (view d) k m

-- the same behind the two rows of refusals
abbrev pub ExplainsHeard : Device → ℕ → List ℕ → Why No → Type 0
ExplainsHeard d k m r = reason_of r ≡ first_cause (drop 2 (causes (view d) k m))
