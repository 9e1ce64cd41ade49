-- What holds of the machine; proofs/ has the proof of each statement. Bench.antt has the table of worked cases.
-- Assumes nothing.
use Rattle.std.specs.Prelude.{◌≡◌, Bool, true, false, not, cond, ◌&&◌, ◌||◌, List, [], ◌∷◌, ◌++◌, map, ◌↔◌, ◌⊎◌, ℕ, suc, ◌+◌, ◌*◌, ◌-◌, ◌/◌, ◌%◌, ◌^◌, ◌<◌, ◌≤◌, ltb, leb, eqb, length, take, replicate, get_or}
use Rattle.std.proofs.Math.Option.{Option, none, some}
use Rattle.std.specs.Int.Bits.{bit_and, bit_or}
use Rattle.line.specs.Kind.{sop_kinds, set_of}
use Rattle.line.specs.Frame.{Octets, Frame, Whole, AllWhole, joined}
use Rattle.line.specs.Crc.{with_crc, crc_right}
use Rattle.line.specs.Refusal.{Row}
use Rattle.line.specs.Write.{frame_room}
use Rattle.machine.specs.Registers.{
  stored,
  switches0,
  switches1,
  measure,
  control0,
  control1,
  control3,
  mask,
  power,
  reset,
  maska,
  maskb,
  interrupt,
  fifos,
  has,
  MEAS_CC2,
  MEAS_CC1,
  MEAS_VBUS,
  PWR2,
  TX_FLUSH,
  TX_START,
  RX_FLUSH,
  SEND_HARD_RESET,
  PD_RESET,
  SW_RES,
}
use Rattle.machine.specs.State.{message, soft_reset, Request, State, power_up, reg, with_cells, with_ints, with_pins}
use Rattle.machine.specs.Status.{
  tx_room,
  SOFTFAIL,
  RETRYFAIL,
  VBUSOK,
  COMP,
  BC_LVL,
  I_SOFTFAIL,
  I_RETRYFAIL,
  I_HARDSENT,
  I_TXSENT,
  I_VBUSOK,
  I_COMP_CHNG,
  I_CRC_CHK,
  I_BC_LVL,
  status0_of,
}
use Rattle.machine.specs.Queue.{START, closing, set_symbol, inside, spelt}
use Rattle.machine.specs.Headers.{GoodCRC, heard_header, type_of, message_id, objects, is_control}
use Rattle.machine.specs.Requests.{wait, hard_reset_frame, opened, driver_on, soft_reset_of, latched}
use Rattle.machine.specs.Packets.{kind_on, awaited}
use Rattle.machine.specs.Events.{Event, write, read, pass, hard_reset, packet, sense, Fits, Reply, done, no, value, on_read}
use Rattle.machine.specs.Refusals.{starts, table, refusal}
use Rattle.machine.specs.Step.{Result, sw_reset, step, after, frames, record_of}
use Rattle.machine.specs.Why.{Reason, refused, kind_off, crc_wrong, no_room, is_good_crc, auto_crc_off, auto_pre_on, driver_off, why}
use Rattle.machine.specs.Good.{Good}

abbrev pub AllFit : List Event → Type 0
AllFit [] = Unit {0}
AllFit (e ∷ es) = Fits e × AllFit es

-- ---- 1. Every state that events lead to is good

abbrev pub PowerUpGood : Type 0
PowerUpGood = Good power_up

abbrev pub StaysGood : Type 0
StaysGood = (s : State) (e : Event) → Good s → Fits e → Good (step s e).state

abbrev pub AlwaysGood : Type 0
AlwaysGood = (es : List Event) → AllFit es → Good (after power_up es)

-- ---- 2. Condition 1: a refusal is given exactly when its row is the first that applies, and changes nothing

abbrev pub NoneApplies : List Row → Type 0
NoneApplies [] = Unit {0}
NoneApplies (r ∷ rs) = (r.applies ≡ false) × NoneApplies rs

-- a row with this number applies
pub record Applies (n : ℕ) (rows : List Row) : Type 0 where
  pub before : List Row
  pub here : Row
  pub behind : List Row
  pub is : rows ≡ before ++ (here ∷ behind)
  pub number : here.number ≡ n
  pub applies : here.applies ≡ true

-- and none before it does
pub record FirstToApply (n : ℕ) (rows : List Row) : Type 0 where
  pub row : Applies n rows
  pub not_before : NoneApplies row.before

abbrev pub RefusedExactly : Type 0
RefusedExactly = (s : State) (e : Event) (n : ℕ) → ((step s e).reply ≡ no n) ↔ FirstToApply n (table s e)

abbrev pub RefusalChangesNothing : Type 0
RefusalChangesNothing = (s : State) (e : Event) (n : ℕ) → (step s e).reply ≡ no n → ((step s e).state ≡ s) × ((step s e).frames ≡ [])

-- an event after some history is refused with this number
pub record GivenAfter (n : ℕ) : Type 0 where
  pub history : List Event
  pub event : Event
  pub fits : AllFit history × Fits event
  pub refused : (step (after power_up history) event).reply ≡ no n

pub record EachNumberGiven : Type 0 where
  pub no_12 : GivenAfter 12
  pub no_1 : GivenAfter 1
  pub no_2 : GivenAfter 2
  pub no_6 : GivenAfter 6
  pub no_3 : GivenAfter 3
  pub no_5 : GivenAfter 5
  pub no_4 : GivenAfter 4
  pub no_7 : GivenAfter 7
  pub no_8 : GivenAfter 8
  pub no_11 : GivenAfter 11
  pub no_9 : GivenAfter 9
  pub no_10 : GivenAfter 10

-- two rows apply to an event after some history, and the first number is given
pub record GivenBefore (n m : ℕ) : Type 0 where
  pub history : List Event
  pub event : Event
  pub refused : (step (after power_up history) event).reply ≡ no n
  pub other : Applies m (table (after power_up history) event)

-- the order of checks: 12 before the first and the last of the others, and each later pair that can meet
pub record OrderOfChecks : Type 0 where
  pub buffer_address : GivenBefore 12 1
  pub buffer_time : GivenBefore 12 10
  pub open_token : GivenBefore 6 3
  pub open_message : GivenBefore 6 4
  pub open_driver : GivenBefore 6 7
  pub message_driver : GivenBefore 4 7
  pub kind_length : GivenBefore 11 9

-- ---- 3. At most one frame leaves in an event, and it is whole

abbrev pub OneFrame : Type 0
OneFrame = (s : State) (e : Event) → Good s → Fits e → length (step s e).frames ≤ 1

abbrev pub WholeFrames : Type 0
WholeFrames = (s : State) (e : Event) → Good s → Fits e → AllWhole (step s e).frames

-- so no symbols are sent, or 4, or 17 to 73
abbrev pub SymbolsSent : Type 0
SymbolsSent =
    (s : State) (e : Event) → Good s → Fits e
    → (length (joined (step s e).frames) ≡ 0)
    ⊎ ((length (joined (step s e).frames) ≡ 4)
    ⊎ ((17 ≤ length (joined (step s e).frames)) × (length (joined (step s e).frames) ≤ frame_room)))

-- ---- 4. What a queue spells

-- a set's tokens, one counted block, CRC, EOP, driver off, and no more
pub record Spells (q : List ℕ) (f : Frame) : Type 0 where
  pub set : List ℕ
  pub sop : f.kind < sop_kinds
  pub tokens : map set_symbol set ≡ set_of f.kind
  pub many : 2 ≤ length f.octets
  pub few : length f.octets ≤ 30
  pub is : q ≡ set ++ ((0x80 + length f.octets) ∷ (f.octets ++ closing))

abbrev pub SpeltExactly : Type 0
SpeltExactly = (q : List ℕ) (f : Frame) → (spelt q ≡ some f) ↔ Spells q f

-- ---- 5. Retries are real, and a request fails exactly when 01 says ('Start')

-- microseconds pass, in parts that time events may carry
abbrev pub passing : ℕ → List ℕ → List Event
passing room ns = map (pass room) ns

abbrev pub AllParts : List ℕ → Type 0
AllParts [] = Unit {0}
AllParts (n ∷ ns) = (n ≤ wait) × AllParts ns

abbrev pub in_all : List ℕ → ℕ
in_all [] = 0
in_all (n ∷ ns) = n + in_all ns

-- so many waits run out, and nothing else happens
abbrev pub waits : ℕ → ℕ → List Event
waits room n = passing room (replicate n wait)

-- an accepted start, by the token or by TX_START
pub record Started (s : State) (e : Event) (f : Frame) : Type 0 where
  pub room : ℕ
  pub address : ℕ
  pub octet : ℕ
  pub is : e ≡ write room address octet
  pub starting : starts s address octet ≡ true
  pub taken : refusal s e ≡ none
  pub sent : (step s e).frames ≡ f ∷ []

-- what follows a message on kind k: Soft_Resets on that kind if AUTO_SOFTRESET was latched, and then a Hard Reset if AUTO_HARDRESET was
abbrev pub sequel : ℕ → Request → List Frame
sequel k q =
    cond q.soft
    (replicate (suc q.retries) (soft_reset_of k q) ++ cond q.hard (hard_reset_frame ∷ []) [])
    []

-- while nothing but time passes, one frame leaves at the start and one at each 1,000 microseconds: the message r + 1 times, and then its sequel
abbrev pub SentToTheEnd : Type 0
SentToTheEnd =
    (s : State) (e : Event) (f : Frame) (room : ℕ) (ns : List ℕ) → frame_room ≤ room → AllParts ns → Started s e f
    → frames s (e ∷ passing room ns)
    ≡ take (suc (in_all ns / wait)) (replicate (suc (latched s).retries) f ++ sequel f.kind (latched s))

-- what a start in s has come to in t: whether the message failed, the Soft_Reset failed, a Hard Reset left, and the request is open;
-- of these three interrupts, those that were set before stay, and no other is set
pub record ComesTo (s t : State) (failed soft_failed hard_sent is_open : Bool) : Type 0 where
  pub retryfail : has RETRYFAIL t.status.status0a ≡ failed
  pub softfail : has SOFTFAIL t.status.status0a ≡ soft_failed
  pub i_retryfail : has I_RETRYFAIL t.ints.a ≡ (failed || has I_RETRYFAIL s.ints.a)
  pub i_softfail : has I_SOFTFAIL t.ints.a ≡ (soft_failed || has I_SOFTFAIL s.ints.a)
  pub i_hardsent : has I_HARDSENT t.ints.a ≡ (hard_sent || has I_HARDSENT s.ints.a)
  pub queue : t.tx ≡ cond failed [] s.tx
  pub request : opened t ≡ is_open

-- the message fails at (r + 1) times 1,000 microseconds, the Soft_Reset at twice that, and neither earlier
abbrev pub FailsExactly : Type 0
FailsExactly =
    (s : State) (e : Event) (f : Frame) (room : ℕ) (ns : List ℕ) → frame_room ≤ room → AllParts ns → Started s e f
    → let q = latched s in
    let end = suc q.retries * wait in
    let failed = leb end (in_all ns) in
    let soft_failed = leb (end + end) (in_all ns) && q.soft in
    ComesTo s (after s (e ∷ passing room ns)) failed soft_failed (soft_failed && q.hard) (not failed || (q.soft && not soft_failed))

-- ---- 6. Models that 01 shuts out ('How tight each promise is')

-- what a model answers to an event after a history
abbrev pub Model : Type 0
Model = List Event → Event → Result

abbrev pub ours : Model
ours es e = step (after power_up es) e

-- refusals are given only as listed
abbrev pub RefusesAsListed : Model → Type 0
RefusesAsListed m =
    (es : List Event) (e : Event) (n : ℕ) → (m es e).reply ≡ no n → FirstToApply n (table (after power_up es) e)

-- different registers are read as different values
abbrev pub TellsApart : Model → Type 0
TellsApart m = ((m [] (read 73 0x01)).reply ≡ value 0x91) × ((m [] (read 73 0x02)).reply ≡ value 0x03)

-- what is written is read
abbrev pub ReadsWhatWasWritten : Model → Type 0
ReadsWhatWasWritten m = (v : ℕ) → v < 256 → (m (write 73 0x02 v ∷ []) (read 73 0x02)).reply ≡ value v

-- while there are retries to send, a wait that runs out sends the frame again
abbrev pub SendsAgain : Model → Type 0
SendsAgain m =
    (es : List Event) (e : Event) (f : Frame) (n : ℕ) → Started (after power_up es) e f → n < (latched (after power_up es)).retries
    → (m (es ++ (e ∷ waits 73 n)) (pass 73 wait)).frames ≡ f ∷ []

pub record OursDoes : Type 0 where
  pub refuses : RefusesAsListed ours
  pub tells : TellsApart ours
  pub reads : ReadsWhatWasWritten ours
  pub sends : SendsAgain ours

pub record ShutOut : Type 0 where
  pub refusing : (m : Model) → ((es : List Event) (e : Event) → (n : ℕ) × ((m es e).reply ≡ no n)) → RefusesAsListed m → ⊥
  pub alike : (m : Model) (r : Reply) → ((es : List Event) (e : Event) → (m es e).reply ≡ r) → TellsApart m → ⊥
  pub forgetful : (m : Model) → ((es : List Event) (e : Event) → m es e ≡ m [] e) → ReadsWhatWasWritten m → ⊥
  pub pretending : (m : Model) → ((es : List Event) (room n : ℕ) → (m es (pass room n)).frames ≡ []) → SendsAgain m → ⊥

-- ---- 7. The record of a history names its frames

abbrev pub RecordNamesFrames : Type 0
RecordNamesFrames =
    (es : List Event) → AllFit es
    → AllWhole (frames power_up es) × ((gs : List Frame) → AllWhole gs → joined gs ≡ record_of power_up es → gs ≡ frames power_up es)

abbrev pub RecordsDiffer : Type 0
RecordsDiffer =
    (es fs : List Event) → AllFit es → AllFit fs → (frames power_up es ≡ frames power_up fs → ⊥)
    → record_of power_up es ≡ record_of power_up fs → ⊥

-- a message written octet by octet, whatever its octets are, leaves whole at the start token
abbrev pub AnyMessageSent : Type 0
AnyMessageSent =
    (s : State) (f : Frame) (set : List ℕ) (room : ℕ) → Whole f → map set_symbol set ≡ set_of f.kind → f.kind < sop_kinds
    → s.tx ≡ [] → s.request ≡ none → driver_on (reg switches1 s) ≡ true → frame_room ≤ room
    → frames s (map (write room fifos) (set ++ ((0x80 + length f.octets) ∷ (f.octets ++ (closing ++ (START ∷ [])))))) ≡ f ∷ []

-- ---- 8. What a tired builder forgets (01, 'Tempting to a tired builder', 'Registers', 'Start')

-- inside a counted block every octet is data: it is stored, and nothing is sent
abbrev pub DataIsData : Type 0
DataIsData =
    (s : State) (room v : ℕ) → frame_room ≤ room → inside s.tx ≡ true → s.request ≡ none → length s.tx < tx_room
    → ((step s (write room fifos v)).state.tx ≡ s.tx ++ (v ∷ [])) × ((step s (write room fifos v)).frames ≡ [])

-- registers that change in mid-request change neither what leaves nor when
abbrev pub LatchedGoverns : Type 0
LatchedGoverns =
    (s : State) (cells : List ℕ) (room n : ℕ)
    → ((step (with_cells cells s) (pass room n)).frames ≡ (step s (pass room n)).frames)
    × ((step (with_cells cells s) (pass room n)).state.request ≡ (step s (pass room n)).state.request)

abbrev pub GoodCrcNotAnswered : Type 0
GoodCrcNotAnswered = (s : State) (room k : ℕ) (m : List ℕ) → is_control GoodCRC m ≡ true → (step s (packet room k m)).frames ≡ []

-- a packet of a kind that is on, with right CRC
pub record HeardRight (s : State) (room k : ℕ) (m : List ℕ) : Type 0 where
  pub taken : refusal s (packet room k m) ≡ none
  pub on : kind_on k s ≡ true
  pub right : crc_right m ≡ true

-- the awaited GoodCRC ends the request, whether Rx has room or not
abbrev pub AwaitedEnds : Type 0
AwaitedEnds =
    (s : State) (room k : ℕ) (m : List ℕ) → HeardRight s room k m → awaited k m s ≡ true
    → ((step s (packet room k m)).state.request ≡ none)
    × (((step s (packet room k m)).state.tx ≡ []) × (has I_TXSENT (step s (packet room k m)).state.ints.a ≡ true))

-- a packet that is taken for right is recorded
abbrev pub Recorded : Type 0
Recorded =
    (s : State) (room k : ℕ) (m : List ℕ) → HeardRight s room k m
    → has I_CRC_CHK (step s (packet room k m)).state.ints.main ≡ true

-- two states that differ in nothing but what Mask, Maska and Maskb hold
abbrev pub without_masks : State → State
without_masks s = with_cells (stored mask 0 (stored maska 0 (stored maskb 0 s.cells))) s

pub record SameButMasks (s t : State) : Type 0 where
  pub same : without_masks s ≡ without_masks t

abbrev pub is_mask : ℕ → Bool
is_mask a = eqb a mask || (eqb a maska || eqb a maskb)

-- whatever the masks are, the same happens, leaves and is recorded, by every event and in every interrupt bit; only who reads a mask sees it
pub record MasksOnlyMask : Type 0 where
  pub states : (s t : State) (e : Event) → SameButMasks s t → SameButMasks (step s e).state (step t e).state
  pub recorded : (s t : State) (e : Event) → SameButMasks s t → (step s e).state.ints ≡ (step t e).state.ints
  pub frames : (s t : State) (e : Event) → SameButMasks s t → (step s e).frames ≡ (step t e).frames
  pub replies : (s t : State) (e : Event) → SameButMasks s t → on_read is_mask e ≡ false → (step s e).reply ≡ (step t e).reply

-- a new wait begins when the old one runs out: time in two parts is time in one
abbrev pub TimeAdds : Type 0
TimeAdds =
    (s : State) (room n m : ℕ) → Good s → frame_room ≤ room → n + m ≤ wait
    → (after s (pass room n ∷ pass room m ∷ []) ≡ after s (pass room (n + m) ∷ []))
    × (frames s (pass room n ∷ pass room m ∷ []) ≡ frames s (pass room (n + m) ∷ []))

-- TX_FLUSH, TX_START, RX_FLUSH, SEND_HARD_RESET, PD_RESET and SW_RES are never stored
abbrev pub CommandsNotStored : Type 0
CommandsNotStored =
    (s : State) → Good s
    → (has (TX_FLUSH + TX_START) (reg control0 s) ≡ false)
    × ((has RX_FLUSH (reg control1 s) ≡ false)
    × ((has SEND_HARD_RESET (reg control3 s) ≡ false) × (has (PD_RESET + SW_RES) (reg reset s) ≡ false)))

-- ---- 9. What the comparators show, and its interrupts (02, A1)

-- PWR bit 2 and exactly one MEAS_CC, and so many millivolts on its pin
pub record Measuring (s : State) (v : ℕ) : Type 0 where
  pub on : has PWR2 (reg power s) ≡ true
  pub pin :
      ((has MEAS_CC1 (reg switches0 s) ≡ true) × (has MEAS_CC2 (reg switches0 s) ≡ false) × (s.pins.cc1 ≡ v))
      ⊎ ((has MEAS_CC1 (reg switches0 s) ≡ false) × (has MEAS_CC2 (reg switches0 s) ≡ true) × (s.pins.cc2 ≡ v))

-- BC_LVL as 40 shows it
abbrev pub bc_lvl_shown : State → ℕ
bc_lvl_shown s = bit_and (status0_of s) BC_LVL

-- the MDAC's code: Measure bits 5:0
abbrev pub code : State → ℕ
code s = reg measure s % 64

-- what 40 shows, of every state: a threshold that is met exactly counts as above, and one below it is below
pub record ShownExactly : Type 0 where
  pub level_0 : (s : State) (v : ℕ) → Measuring s v → v < 200 → bc_lvl_shown s ≡ 0
  pub level_1 : (s : State) (v : ℕ) → Measuring s v → 200 ≤ v → v < 660 → bc_lvl_shown s ≡ 1
  pub level_2 : (s : State) (v : ℕ) → Measuring s v → 660 ≤ v → v < 1230 → bc_lvl_shown s ≡ 2
  pub level_3 : (s : State) (v : ℕ) → Measuring s v → 1230 ≤ v → bc_lvl_shown s ≡ 3
  pub comp_cc :
      (s : State) (v : ℕ) → Measuring s v → has MEAS_VBUS (reg measure s) ≡ false
      → (has COMP (status0_of s) ≡ true) ↔ (42 * (code s + 1) ≤ v)
  pub comp_vbus :
      (s : State) → has PWR2 (reg power s) ≡ true → has MEAS_VBUS (reg measure s) ≡ true
      → has MEAS_CC1 (reg switches0 s) ≡ false → has MEAS_CC2 (reg switches0 s) ≡ false
      → (has COMP (status0_of s) ≡ true) ↔ (420 * (code s + 1) ≤ s.pins.vbus)
  pub vbusok : (s : State) → (has VBUSOK (status0_of s) ≡ true) ↔ (4000 ≤ s.pins.vbus)
  -- otherwise 0: PWR bit 2 is 0; no MEAS_CC or both; MEAS_VBUS with a MEAS_CC
  pub off : (s : State) → has PWR2 (reg power s) ≡ false → (bc_lvl_shown s ≡ 0) × (has COMP (status0_of s) ≡ false)
  pub not_one :
      (s : State) → has MEAS_CC1 (reg switches0 s) ≡ has MEAS_CC2 (reg switches0 s)
      → (bc_lvl_shown s ≡ 0) × (has MEAS_VBUS (reg measure s) ≡ false → has COMP (status0_of s) ≡ false)
  pub vbus_and_cc :
      (s : State) → has MEAS_VBUS (reg measure s) ≡ true
      → (has MEAS_CC1 (reg switches0 s) || has MEAS_CC2 (reg switches0 s)) ≡ true → has COMP (status0_of s) ≡ false

-- an interrupt of 42 is set if and only if it was set, or the bits of 40 that it reports have changed
abbrev pub Reported : (bit status : ℕ) → State → State → Type 0
Reported i m s t = has i t.ints.main ≡ (has i s.ints.main || not (eqb (bit_and (status0_of s) m) (bit_and (status0_of t) m)))

pub record AllReported (s t : State) : Type 0 where
  pub i_vbusok : Reported I_VBUSOK VBUSOK s t
  pub i_comp_chng : Reported I_COMP_CHNG COMP s t
  pub i_bc_lvl : Reported I_BC_LVL BC_LVL s t

abbrev pub pin_status : ℕ
pin_status = VBUSOK + (COMP + BC_LVL)

abbrev pub pin_interrupts : ℕ
pin_interrupts = I_VBUSOK + (I_COMP_CHNG + I_BC_LVL)

-- events other than writes and voltages on the pins
abbrev pub is_other : Event → Bool
is_other (write r a v) = false
is_other (read r a) = true
is_other (pass r n) = true
is_other (hard_reset r) = true
is_other (packet r k m) = true
is_other (sense r x y z) = false

pub record InterruptsExactly : Type 0 where
  pub by_pins :
      (s : State) (room x y z : ℕ) → refusal s (sense room x y z) ≡ none → AllReported s (step s (sense room x y z)).state
  pub by_writes :
      (s : State) (room a v : ℕ) → refusal s (write room a v) ≡ none → sw_reset a v ≡ false
      → AllReported s (step s (write room a v)).state
  -- no other event changes what is shown, and only a read of 42 its interrupts
  pub by_no_other :
      (s : State) (e : Event) → is_other e ≡ true
      → bit_and (status0_of (step s e).state) pin_status ≡ bit_and (status0_of s) pin_status
  pub kept :
      (s : State) (e : Event) → is_other e ≡ true → on_read (λ a. eqb a interrupt) e ≡ false
      → bit_and (step s e).state.ints.main pin_interrupts ≡ bit_and s.ints.main pin_interrupts
  pub cleared : (s : State) (room : ℕ) → frame_room ≤ room → (step s (read room interrupt)).state.ints.main ≡ 0

-- voltages on the pins: nothing leaves, 12 is the one refusal, and nothing changes but the voltages and, in 42, bits that report it
pub record PinsAlone (s : State) (room x y z : ℕ) : Type 0 where
  pub frames : (step s (sense room x y z)).frames ≡ []
  pub reply : (step s (sense room x y z)).reply ≡ cond (ltb room frame_room) (no 12) done
  pub reported : ℕ
  pub only : bit_and reported pin_interrupts ≡ reported
  pub state :
      frame_room ≤ room
      → (step s (sense room x y z)).state
      ≡ with_pins (record { cc1 = x; cc2 = y; vbus = z })
      (with_ints (record { a = s.ints.a; b = s.ints.b; main = bit_or s.ints.main reported }) s)

abbrev pub VoltagesOnly : Type 0
VoltagesOnly = (s : State) (room x y z : ℕ) → PinsAlone s room x y z

-- SW_RES: power-up in all but the voltages, so that no interrupt bit is set; of what is shown, VBUSOK alone asks for no bit
abbrev pub SwResKeepsVoltages : Type 0
SwResKeepsVoltages =
    (s : State) (room v : ℕ) → frame_room ≤ room → has SW_RES v ≡ true
    → let t = (step s (write room reset v)).state in
    (t ≡ with_pins s.pins power_up) × (status0_of t ≡ cond (leb 4000 s.pins.vbus) VBUSOK 0)

-- ---- 10. The Soft_Reset goes to the one that was silent (02, A2)

-- a Soft_Reset on kind k: a whole frame of a header alone, which says type D, MessageID 0, the revision of Switches1 and, on SOP, its roles
pub record IsSoftReset (f : Frame) (k sw : ℕ) : Type 0 where
  pub whole : Whole f
  pub kind : f.kind ≡ k
  pub alone : length f.octets ≡ 2
  pub type : type_of f.octets ≡ 0xD
  pub bit_4 : heard_header f.octets / 16 % 2 ≡ 0
  pub data_role : heard_header f.octets / 32 % 2 ≡ cond (eqb k 0) (sw / 16 % 2) 0
  pub revision : heard_header f.octets / 64 % 4 ≡ sw / 32 % 4
  pub power_role : heard_header f.octets / 256 % 2 ≡ cond (eqb k 0) (sw / 128 % 2) 0
  pub id : message_id f.octets ≡ 0
  pub count : objects f.octets ≡ 0
  pub bit_15 : heard_header f.octets / 0x8000 ≡ 0

-- such is the frame that follows a message on any kind (SentToTheEnd)
abbrev pub SoftResetSays : Type 0
SoftResetSays = (k : ℕ) (q : Request) → k < sop_kinds → IsSoftReset (soft_reset_of k q) k q.switches1

-- a Soft_Reset on kind k is in flight
pub record Resetting (s : State) (k : ℕ) : Type 0 where
  pub request : Request
  pub is : s.request ≡ some request
  pub phase : request.phase ≡ soft_reset k

-- two requests of one start: what that latched is the same
pub record OneStart (q r : Request) : Type 0 where
  pub switches1 : r.switches1 ≡ q.switches1
  pub retries : r.retries ≡ q.retries
  pub soft : r.soft ≡ q.soft
  pub hard : r.hard ≡ q.hard

-- a request goes on: in the same phase, with the same queue
pub record Continues (s : State) (q : Request) (t : State) (r : Request) : Type 0 where
  pub start : OneStart q r
  pub phase : r.phase ≡ q.phase
  pub queue : t.tx ≡ s.tx

-- its message has failed, and what leaves is its Soft_Reset on the kind of that message
pub record FollowedByReset (s : State) (q : Request) (t : State) (r : Request) (left : List Frame) : Type 0 where
  pub start : OneStart q r
  pub frame : Frame
  pub spells : spelt s.tx ≡ some frame
  pub sending : q.phase ≡ message
  pub last : q.retries ≤ q.sent
  pub soft : q.soft ≡ true
  pub failed : has RETRYFAIL t.status.status0a ≡ true
  pub phase : r.phase ≡ soft_reset frame.kind
  pub sent : left ≡ soft_reset_of frame.kind r ∷ []

-- whatever the event, a request that is open after it was started by it, none being open, with what it latches as that write
-- leaves the registers; or it is the one that was open, and goes on, or its message has failed
pub data Whence (s : State) (x : Result) (r : Request) : Type 0 where
  begun : s.request ≡ none → r ≡ latched x.state → Whence s x r
  continued : (q : Request) → s.request ≡ some q → Continues s q x.state r → Whence s x r
  followed : (q : Request) → s.request ≡ some q → FollowedByReset s q x.state r x.frames → Whence s x r

pub record ResetsOnKind : Type 0 where
  -- so a Soft_Reset is in flight only on the kind of a message that failed, and stays on it
  pub whence : (s : State) (e : Event) (r : Request) → (step s e).state.request ≡ some r → Whence s (step s e) r
  -- time sends it again, a Hard Reset, or nothing
  pub again :
      (s : State) (room n k : ℕ) (r : Resetting s k) → let fs = (step s (pass room n)).frames in
      (fs ≡ []) ⊎ ((fs ≡ soft_reset_of k r.request ∷ []) ⊎ (fs ≡ hard_reset_frame ∷ []))
  -- while nothing but time passes, it is in flight from the message's failure to its own
  pub after_start :
      (s : State) (e : Event) (f : Frame) (room : ℕ) (ns : List ℕ) → frame_room ≤ room → AllParts ns → Started s e f
      → let q = latched s in
      let end = suc q.retries * wait in
      q.soft ≡ true → end ≤ in_all ns → in_all ns < end + end → Resetting (after s (e ∷ passing room ns)) f.kind

-- the GoodCRC of a Soft_Reset on kind k: heard right, on that kind, with MessageID 0
pub record Acknowledges (s : State) (room k j : ℕ) (m : List ℕ) : Type 0 where
  pub right : HeardRight s room j m
  pub good_crc : is_control GoodCRC m ≡ true
  pub kind : j ≡ k
  pub id : message_id m ≡ 0

-- it ends the request, and no other packet does; and a packet of a kind that is off changes nothing
pub record ResetAnswered : Type 0 where
  pub ends :
      (s : State) (room k j : ℕ) (m : List ℕ) → Resetting s k → Acknowledges s room k j m
      → let t = (step s (packet room j m)).state in
      (t.request ≡ none) × (t.tx ≡ []) × (has I_TXSENT t.ints.a ≡ true)
  pub stands :
      (s : State) (room k j : ℕ) (m : List ℕ) → Resetting s k → (Acknowledges s room k j m → ⊥)
      → let t = (step s (packet room j m)).state in
      (t.request ≡ s.request) × (has I_TXSENT t.ints.a ≡ has I_TXSENT s.ints.a)
  pub off :
      (s : State) (room j : ℕ) (m : List ℕ) → kind_on j s ≡ false
      → ((step s (packet room j m)).state ≡ s) × ((step s (packet room j m)).frames ≡ [])

-- ---- 11. Why was there no GoodCRC? (02, A5)

abbrev pub bit : ℕ → ℕ → ℕ
bit n x = x / 2 ^ n % 2

-- 0 always is; 07 bits 0, 1, 5, 6 enable kinds 1 to 4
abbrev pub Enabled : ℕ → ℕ → Type 0
Enabled control1 k = (k ≡ 0) ⊎ ((1 ≤ k) × (k ≤ 4) × (bit (get_or (0 ∷ 1 ∷ 5 ∷ 6 ∷ []) (k - 1) 0) control1 ≡ 1))

-- what a reason says of a packet, in 01's words, addresses and bits
abbrev pub Says : State → ℕ → List ℕ → Reason → Type 0
Says s k m (refused n) = ((n ≡ 11) × (4 < k)) ⊎ ((n ≡ 9) × ((length m < 6) ⊎ (34 < length m)))
Says s k m kind_off = Enabled (reg 0x07 s) k → ⊥
Says s k m crc_wrong = (l : List ℕ) → m ≡ with_crc l → ⊥
Says s k m no_room = 80 < length s.rx + (1 + length m)
Says s k m is_good_crc = (type_of m ≡ 1) × (objects m ≡ 0) × (length m ≡ 6)
Says s k m auto_crc_off = bit 2 (reg 0x03 s) ≡ 0
Says s k m auto_pre_on = bit 1 (reg 0x06 s) ≡ 1
Says s k m driver_off = bit 0 (reg 0x03 s) ≡ bit 1 (reg 0x03 s)

abbrev pub in_order : List Reason
in_order = refused 11 ∷ refused 9 ∷ kind_off ∷ crc_wrong ∷ no_room ∷ is_good_crc ∷ auto_crc_off ∷ auto_pre_on ∷ driver_off ∷ []

abbrev pub NoneTrue : (Reason → Type 0) → List Reason → Type 0
NoneTrue says [] = Unit {0}
NoneTrue says (r ∷ rs) = (says r → ⊥) × NoneTrue says rs

-- a reason that is true, and every earlier one is false
pub record FirstTrue (says : Reason → Type 0) (r : Reason) (rs : List Reason) : Type 0 where
  pub before : List Reason
  pub behind : List Reason
  pub is : rs ≡ before ++ (r ∷ behind)
  pub here : says r
  pub not_before : NoneTrue says before

pub record NamedExactly : Type 0 where
  pub reason :
      (s : State) (k : ℕ) (m : List ℕ) (r : Reason) → Octets m → (why s k m ≡ some r) ↔ FirstTrue (Says s k m) r in_order
  pub no_reason : (s : State) (k : ℕ) (m : List ℕ) → Octets m → (why s k m ≡ none) ↔ NoneTrue (Says s k m) in_order

-- the one frame that leaves is the GoodCRC on that kind, with that MessageID
pub record GoodCrcFor (k : ℕ) (m : List ℕ) (fs : List Frame) : Type 0 where
  pub frame : Frame
  pub alone : fs ≡ frame ∷ []
  pub whole : Whole frame
  pub kind : frame.kind ≡ k
  pub good_crc : (type_of frame.octets ≡ 1) × (objects frame.octets ≡ 0) × (length frame.octets ≡ 2)
  pub id : message_id frame.octets ≡ message_id m

-- of the event itself: where no reason applies it is answered, where one does nothing leaves, and its refusals are those named
pub record LeavesExactly : Type 0 where
  pub leaves :
      (s : State) (room k : ℕ) (m : List ℕ) → frame_room ≤ room
      → (why s k m ≡ none) ↔ GoodCrcFor k m (step s (packet room k m)).frames
  pub stays :
      (s : State) (room k : ℕ) (m : List ℕ) (r : Reason) → why s k m ≡ some r → (step s (packet room k m)).frames ≡ []
  pub refuses :
      (s : State) (room k : ℕ) (m : List ℕ) (n : ℕ) → frame_room ≤ room
      → (why s k m ≡ some (refused n)) ↔ ((step s (packet room k m)).reply ≡ no n)

-- a packet after some history gets this answer
pub record AnsweredAfter (o : Option Reason) : Type 0 where
  pub history : List Event
  pub kind : ℕ
  pub octets : List ℕ
  pub fits : AllFit history × Octets octets
  pub is : why (after power_up history) kind octets ≡ o

pub record EachReasonGiven : Type 0 where
  pub refused_11 : AnsweredAfter (some (refused 11))
  pub refused_9 : AnsweredAfter (some (refused 9))
  pub kind_off : AnsweredAfter (some kind_off)
  pub crc_wrong : AnsweredAfter (some crc_wrong)
  pub no_room : AnsweredAfter (some no_room)
  pub is_good_crc : AnsweredAfter (some is_good_crc)
  pub auto_crc_off : AnsweredAfter (some auto_crc_off)
  pub auto_pre_on : AnsweredAfter (some auto_pre_on)
  pub driver_off : AnsweredAfter (some driver_off)
  pub leaves : AnsweredAfter none
