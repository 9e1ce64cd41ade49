-- Status registers, interrupts and INT_N (01, 'Registers', last paragraph).
-- Assumes nothing.
use Rattle.std.specs.Prelude.{Bool, true, false, not, cond, ◌&&◌, ◌||◌, List, [], ◌∷◌, ℕ, ◌+◌, ◌-◌, eqb, length}
use Rattle.std.proofs.Math.Option.{Option, none, some}
use Rattle.machine.specs.Registers.{mask, maska, maskb, control0, interrupta, interruptb, interrupt, has, INT_MASK}
use Rattle.machine.specs.State.{Interrupts, State, reg, raises}
use Rattle.machine.specs.Pins.{Readings, readings}

-- ---- capacities

abbrev pub tx_room : ℕ
tx_room = 48

abbrev pub rx_room : ℕ
rx_room = 80

-- ---- bits

-- Status0a
abbrev pub SOFTFAIL : ℕ
SOFTFAIL = 0x20

abbrev pub RETRYFAIL : ℕ
RETRYFAIL = 0x10

abbrev pub SOFTRST : ℕ
SOFTRST = 0x02

abbrev pub HARDRST : ℕ
HARDRST = 0x01

-- Status1a
abbrev pub RXSOP2DB : ℕ
RXSOP2DB = 0x04

abbrev pub RXSOP1DB : ℕ
RXSOP1DB = 0x02

abbrev pub RXSOP : ℕ
RXSOP = 0x01

-- Interrupta
abbrev pub I_SOFTFAIL : ℕ
I_SOFTFAIL = 0x20

abbrev pub I_RETRYFAIL : ℕ
I_RETRYFAIL = 0x10

abbrev pub I_HARDSENT : ℕ
I_HARDSENT = 0x08

abbrev pub I_TXSENT : ℕ
I_TXSENT = 0x04

abbrev pub I_SOFTRST : ℕ
I_SOFTRST = 0x02

abbrev pub I_HARDRST : ℕ
I_HARDRST = 0x01

-- Interruptb
abbrev pub I_GCRCSENT : ℕ
I_GCRCSENT = 0x01

-- Status0
abbrev pub VBUSOK : ℕ
VBUSOK = 0x80

abbrev pub COMP : ℕ
COMP = 0x20

abbrev pub CRC_CHK : ℕ
CRC_CHK = 0x10

abbrev pub ALERT : ℕ
ALERT = 0x08

abbrev pub BC_LVL : ℕ
BC_LVL = 0x03

-- Status1
abbrev pub RXSOP2 : ℕ
RXSOP2 = 0x80

abbrev pub RXSOP1 : ℕ
RXSOP1 = 0x40

abbrev pub RX_EMPTY : ℕ
RX_EMPTY = 0x20

abbrev pub RX_FULL : ℕ
RX_FULL = 0x10

abbrev pub TX_EMPTY : ℕ
TX_EMPTY = 0x08

abbrev pub TX_FULL : ℕ
TX_FULL = 0x04

-- Interrupt
abbrev pub I_VBUSOK : ℕ
I_VBUSOK = 0x80

abbrev pub I_COMP_CHNG : ℕ
I_COMP_CHNG = 0x20

abbrev pub I_CRC_CHK : ℕ
I_CRC_CHK = 0x10

abbrev pub I_ALERT : ℕ
I_ALERT = 0x08

abbrev pub I_BC_LVL : ℕ
I_BC_LVL = 0x01

-- ---- 3C to 42

abbrev pub flag : ℕ → Bool → ℕ
flag m b = cond b m 0

abbrev pub tx_full : State → Bool
tx_full s = eqb (length s.tx) tx_room

abbrev pub rx_full : State → Bool
rx_full s = eqb (length s.rx) rx_room

-- the kind last stored is k
abbrev pub is_last : ℕ → Option ℕ → Bool
is_last k none = false
is_last k (some j) = eqb j k

abbrev pub last_is : State → ℕ → Bool
last_is s k = is_last k s.status.kind

unfoldable pub status1a_of : State → ℕ
status1a_of s = flag RXSOP2DB (last_is s 4) + (flag RXSOP1DB (last_is s 3) + flag RXSOP (last_is s 0))

unfoldable pub status0_of : State → ℕ
status0_of s =
    flag VBUSOK (readings s).vbus_ok + (flag COMP (readings s).comp + (flag CRC_CHK s.status.crc_chk
    + (flag ALERT (rx_full s || tx_full s) + (readings s).bc_lvl)))

unfoldable pub status1_of : State → ℕ
status1_of s =
    flag RXSOP2 (last_is s 2) + (flag RXSOP1 (last_is s 1) + (flag RX_EMPTY (eqb (length s.rx) 0) + (flag RX_FULL (rx_full s)
    + (flag TX_EMPTY (eqb (length s.tx) 0) + flag TX_FULL (tx_full s)))))

-- the registers 3C to 42 in the order of their addresses
abbrev pub shown : State → List ℕ
shown s = s.status.status0a ∷ status1a_of s ∷ s.ints.a ∷ s.ints.b ∷ status0_of s ∷ status1_of s ∷ s.ints.main ∷ []

-- ---- interrupts

abbrev pub differ : Bool → Bool → Bool
differ true b = not b
differ false b = b

-- each change of what the comparators show has its interrupt (02, A1)
unfoldable pub changes : Readings → Readings → ℕ
changes x y =
    flag I_VBUSOK (differ x.vbus_ok y.vbus_ok) + (flag I_COMP_CHNG (differ x.comp y.comp)
    + flag I_BC_LVL (not (eqb x.bc_lvl y.bc_lvl)))

-- sets the interrupts of what the comparators show otherwise in t than in s
abbrev pub reports : State → State → State
reports s t = raises (changes (readings s) (readings t)) t

-- reading 3E, 3F or 42 clears it
unfoldable pub cleared_at : ℕ → Interrupts → Interrupts
cleared_at r i =
    record { a = cond (eqb r interrupta) 0 i.a; b = cond (eqb r interruptb) 0 i.b; main = cond (eqb r interrupt) 0 i.main }

-- ---- INT_N

-- a bit of x is set whose bit in the mask m is 0
abbrev pub unmasked : ℕ → ℕ → Bool
unmasked x m = has (0xFF - m) x

-- INT_N is low
unfoldable pub int_low : State → Bool
int_low s =
    not (has INT_MASK (reg control0 s))
    && (unmasked s.ints.a (reg maska s) || (unmasked s.ints.b (reg maskb s) || unmasked s.ints.main (reg mask s)))
