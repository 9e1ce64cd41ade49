-- The number of each reason to refuse an event, in the order in which it is tried for them (01, 'Numbers of no').
-- Assumes nothing.
use Rattle.std.specs.Prelude.{ℕ}
use Rattle.fusb302.specs.declared.refusals.No.{No}
use Rattle.fusb302.specs.declared.refusals.No.TheVariants.{
  SmallBuffer,
  NoSuchAddress,
  ReadOnly,
  RequestOpen,
  NotAToken,
  QueueFull,
  NotAMessage,
  DriverOff,
  NothingHeld,
  NoSuchKind,
  WrongLength,
  TimeTooLong,
}

abbrev pub number_of : No → ℕ
number_of SmallBuffer = 12
number_of NoSuchAddress = 1
number_of ReadOnly = 2
number_of RequestOpen = 6
number_of NotAToken = 3
number_of QueueFull = 5
number_of NotAMessage = 4
number_of DriverOff = 7
number_of NothingHeld = 8
number_of NoSuchKind = 11
number_of WrongLength = 9
number_of TimeTooLong = 10
