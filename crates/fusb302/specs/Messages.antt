-- Control messages and packets heard, as the code holds them.
-- Assumes nothing.
use Rattle.std.specs.Prelude.{◌≡◌, cond, ◌||◌, List, ℕ, ltb, length, Result, MatchResult}
use Rattle.std.specs.Borrow.{Bor}
use Rattle.std.proofs.Math.Option.{Option, none, some}
use Rattle.line.specs.Numbered.{sop_number}
use Rattle.line.specs.Frame.{Frame}
use Rattle.machine.specs.Headers.{GoodCRC, Soft_Reset, control}
use Rattle.fusb302.specs.declared.header.ControlMessage.{ControlMessage}
use Rattle.fusb302.specs.declared.header.ControlMessage.TheVariants.{GoodCrc, SoftReset}
use Rattle.fusb302.specs.declared.header.Control.{Control}
use Rattle.fusb302.specs.declared.header.Packet.{Packet}
use Rattle.fusb302.specs.declared.refusals.No.{No}
use Rattle.fusb302.specs.Refusals.{number_of}

abbrev pub type_number : ControlMessage → ℕ
type_number GoodCrc = GoodCRC
type_number SoftReset = Soft_Reset

abbrev pub frame_of : Control → Frame
frame_of c = control (type_number c.message) (sop_number c.kind) c.switches1 c.id

-- the number of no of a packet's kind and length, where it is refused
unfoldable pub packet_no : ℕ → List ℕ → Option ℕ
packet_no k m = cond (ltb 4 k) (some 11) (cond (ltb (length m) 6 || ltb 34 (length m)) (some 9) none)

-- a packet of this kind and these lent octets; or it is refused
abbrev pub Takes : ℕ → Bor (List ℕ) → Result Packet No → Type 0
Takes k m r = MatchResult r (λ p. (sop_number p.kind ≡ k) × (p.octets ≡ m)) (λ n. some (number_of n) ≡ packet_no k m.now)
