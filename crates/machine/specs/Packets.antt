-- Packets heard (01, 'Packets heard'): the tests in 01's order, what each does, and the reply.
-- Assumes nothing.
use Rattle.std.specs.Prelude.{Bool, true, false, not, cond, ◌&&◌, List, [], ◌∷◌, ◌++◌, ℕ, suc, ◌+◌, leb, eqb, length, get_or}
use Rattle.std.proofs.Math.Option.{Option, none, some}
use Rattle.line.specs.Frame.{Frame}
use Rattle.line.specs.Crc.{crc_right}
use Rattle.machine.specs.Registers.{
  switches1,
  control0,
  control1,
  has,
  AUTO_CRC,
  AUTO_PRE,
  ENSOP1,
  ENSOP2,
  ENSOP1DB,
  ENSOP2DB,
}
use Rattle.machine.specs.State.{State, reg, with_rx, with_crc_chk, with_kind, shows, raises_a, raises_b, raises, Request}
use Rattle.machine.specs.Status.{rx_room, rx_full, SOFTRST, I_SOFTRST, I_GCRCSENT, I_CRC_CHK, I_ALERT}
use Rattle.machine.specs.Headers.{GoodCRC, Soft_Reset, control, message_id, is_control}
use Rattle.machine.specs.Requests.{Effect, silent, sends, driver_on, flight, acknowledged}

-- ---- tests

-- the bit of Control1 that enables kinds 1 to 4; kind 0 always is
abbrev pub enables : ℕ → ℕ
enables k = get_or (0 ∷ ENSOP1 ∷ ENSOP2 ∷ ENSOP1DB ∷ ENSOP2DB ∷ []) k 0

unfoldable pub kind_on : ℕ → State → Bool
kind_on k s = cond (eqb k 0) true (has (enables k) (reg control1 s))

-- token and octets fit
abbrev pub fits_rx : List ℕ → State → Bool
fits_rx m s = leb (length s.rx + suc (length m)) rx_room

-- a GoodCRC of the kind and MessageID of the frame that is in flight
abbrev pub answers : ℕ → List ℕ → Option Frame → Bool
answers k m none = false
answers k m (some f) = is_control GoodCRC m && (eqb f.kind k && eqb (message_id f.octets) (message_id m))

unfoldable pub awaited_by : ℕ → List ℕ → State → Option Request → Bool
awaited_by k m s none = false
awaited_by k m s (some q) = answers k m (flight s q)

abbrev pub awaited : ℕ → List ℕ → State → Bool
awaited k m s = awaited_by k m s s.request

-- why a reply leaves: not a GoodCRC, AUTO_CRC 1, AUTO_PRE 0, driver on
unfoldable pub replies_to : List ℕ → State → Bool
replies_to m s =
    not (is_control GoodCRC m)
    && (has AUTO_CRC (reg switches1 s) && (not (has AUTO_PRE (reg control0 s)) && driver_on (reg switches1 s)))

-- ---- what they do

-- E0, C0, A0, 80, 60 for kinds 0 to 4
abbrev pub rx_token : ℕ → ℕ
rx_token k = get_or (0xE0 ∷ 0xC0 ∷ 0xA0 ∷ 0x80 ∷ 0x60 ∷ []) k 0

-- a condition's effect on the state, or none
abbrev pub only_if : Bool → (State → State) → State → State
only_if b f s = cond b (f s) s

abbrev pub checks : State → State
checks s = raises I_CRC_CHK (with_crc_chk true s)

abbrev pub soft_reset_heard : State → State
soft_reset_heard s = raises_a I_SOFTRST (shows SOFTRST s)

unfoldable pub keeps : ℕ → List ℕ → State → State
keeps k m s = let t = with_kind k (with_rx (s.rx ++ (rx_token k ∷ m)) s) in only_if (rx_full t) (raises I_ALERT) t

-- the GoodCRC goes by Switches1 as it stands
unfoldable pub stores : ℕ → List ℕ → State → Effect
stores k m s =
    let t = keeps k m s in
    cond (replies_to m s) (sends (control GoodCRC k (reg switches1 s) (message_id m)) (raises_b I_GCRCSENT t)) (silent t)

-- its CRC is right: whether it is stored or not, an awaited GoodCRC ends the request, and a Soft_Reset is shown
abbrev pub noted : ℕ → List ℕ → State → State
noted k m s = only_if (is_control Soft_Reset m) soft_reset_heard (only_if (awaited k m s) acknowledged (checks s))

unfoldable pub accepts : ℕ → List ℕ → State → Effect
accepts k m s = let t = noted k m s in cond (fits_rx m t) (stores k m t) (silent (raises I_ALERT t))

unfoldable pub hears : ℕ → List ℕ → State → Effect
hears k m s = cond (kind_on k s) (cond (crc_right m) (accepts k m s) (silent (with_crc_chk false s))) (silent s)
