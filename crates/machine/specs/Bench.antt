-- The cases of 01 'On the bench table' that are marked P, and some of 02, in one table; proofs/Benched.antt computes it.
-- Assumes nothing.
use Rattle.std.specs.Prelude.{◌≡◌, Bool, true, false, List, [], ◌∷◌, ◌++◌, map, ℕ, length, take, replicate}
use Rattle.line.specs.Crc.{with_crc}
use Rattle.line.specs.Frame.{joined, symbols_of}
use Rattle.line.specs.Read.{first}
use Rattle.line.specs.Reader.{Said, no_at, says_of}
use Rattle.machine.specs.State.{power_up}
use Rattle.machine.specs.Events.{Event, write, read, pass, packet, Reply, done, value, no}
use Rattle.machine.specs.Step.{step, after, replies}

-- after these events, all of them taken, an event gives a reply and symbols, and leaves a queue and so many octets in Rx;
-- or the reader says this of a record
pub data Case : Type 0 where
  device : (given : List Event) (event : Event) (reply : Reply) (symbols tx : List ℕ) (rx : ℕ) → Case
  reader : (line : List ℕ) → Said → Case

abbrev pub all_taken : List Reply → Bool
all_taken [] = true
all_taken (done ∷ rs) = all_taken rs
all_taken (value v ∷ rs) = all_taken rs
all_taken (no n ∷ rs) = false

abbrev pub CaseHolds : Case → Type 0
CaseHolds (device given e r symbols tx rx) =
    (all_taken (replies power_up given) ≡ true)
    × ((step (after power_up given) e).reply ≡ r)
    × (joined (step (after power_up given) e).frames ≡ symbols)
    × ((step (after power_up given) e).state.tx ≡ tx)
    × (length (step (after power_up given) e).state.rx ≡ rx)
CaseHolds (reader line said) = says_of 0 (first line) ≡ said

abbrev pub AllHold : List Case → Type 0
AllHold [] = Unit {0}
AllHold (c ∷ cs) = CaseHolds c × AllHold cs

-- ---- events, each with room for a frame

abbrev pub w : ℕ → ℕ → Event
w a v = write 73 a v

abbrev pub t : ℕ → Event
t n = pass 73 n

abbrev pub p : ℕ → List ℕ → Event
p k l = packet 73 k (with_crc l)

-- octets written to the port
abbrev pub port : List ℕ → List Event
port l = map (w 0x43) l

-- a message with a tank's name, and its letter C3 A1
abbrev pub name : List ℕ
name = 0x4F ∷ 0x10 ∷ 0x6C ∷ 0xC3 ∷ 0xA1 ∷ 0x21 ∷ []

abbrev pub name_queue : List ℕ
name_queue = 0x12 ∷ 0x12 ∷ 0x12 ∷ 0x13 ∷ 0x86 ∷ (name ++ (0xFF ∷ 0x14 ∷ 0xFE ∷ []))

-- a header of type 3 with MessageID 5
abbrev pub fifth : List ℕ
fifth = 0x43 ∷ 0x0A ∷ []

-- a message on SOP, or to a cable plug on SOP', started with AUTO_SOFTRESET and both roles in 03, and nobody answers (02, A2)
abbrev pub unanswered : List ℕ → List Event
unanswered set = w 0x03 0xB1 ∷ w 0x09 0x08 ∷ (port (set ++ (0x82 ∷ (fifth ++ (0xFF ∷ 0x14 ∷ 0xFE ∷ 0xA1 ∷ [])))) ++ (t 999 ∷ []))

abbrev pub to_sop : List ℕ
to_sop = 0x12 ∷ 0x12 ∷ 0x12 ∷ 0x13 ∷ []

abbrev pub to_plug : List ℕ
to_plug = 0x12 ∷ 0x12 ∷ 0x1B ∷ 0x1B ∷ []

-- a GoodCRC with MessageID 0, which answers a Soft_Reset
abbrev pub answer : List ℕ
answer = 0x41 ∷ 0x00 ∷ []

-- Rx holds a packet of 34 octets and one of n + 4, each with its token
abbrev pub fills : ℕ → List Event
fills n = p 0 (replicate 30 0) ∷ p 0 (replicate n 0) ∷ []

-- ---- the table

abbrev pub cases : List Case
cases =
    device [] (w 0x06 0x01) (no 4) [] [] 0
    ∷ device [] (w 0x06 0x41) (no 4) [] [] 0
    ∷ device (port (0x12 ∷ [])) (w 0x06 0x41) (no 4) [] (0x12 ∷ []) 0
    ∷ device (port (take 9 name_queue)) (w 0x43 0xA1) done [] (take 10 name_queue) 0
    ∷ device (port (take 13 name_queue)) (w 0x43 0xFE) done [] name_queue 0
    ∷ device (w 0x03 0x21 ∷ port name_queue) (w 0x43 0xA1) done
    (0x18 ∷ 0x18 ∷ 0x18 ∷ 0x11 ∷ 0x1D ∷ 0x0A ∷ 0x1E ∷ 0x09 ∷ 0x1A ∷ 0x0E ∷ 0x15 ∷ 0x1A ∷ 0x09 ∷ 0x16 ∷ 0x09 ∷ 0x14 ∷ 0x1A ∷ 0x1A ∷ 0x15 ∷ 0x0F ∷ 0x1E ∷ 0x0A ∷ 0x0E ∷ 0x15 ∷ 0x0D ∷ [])
    name_queue 0
    ∷ device [] (w 0x43 0x81) (no 3) [] [] 0
    ∷ device [] (w 0x43 0x9F) (no 3) [] [] 0
    ∷ device [] (w 0x43 0x82) done [] (0x82 ∷ []) 0
    ∷ device [] (w 0x43 0x9E) done [] (0x9E ∷ []) 0
    ∷ device (port (replicate 48 0x12)) (w 0x43 0x12) (no 5) [] (replicate 48 0x12) 0
    ∷ device (port (replicate 48 0x12)) (read 73 0x41) (value 0x24) [] (replicate 48 0x12) 0
    ∷ device [] (t 1000) done [] [] 0
    ∷ device [] (t 1001) (no 10) [] [] 0
    ∷ device (w 0x03 0xB5 ∷ []) (p 0 fifth) done (symbols_of (record { kind = 0; octets = 0x61 ∷ 0x0B ∷ [] })) [] 7
    ∷ device (w 0x03 0xB5 ∷ w 0x07 0x01 ∷ []) (p 1 fifth) done (symbols_of (record { kind = 1; octets = 0x41 ∷ 0x0A ∷ [] })) [] 7
    ∷ device (fills 5) (p 0 (replicate 30 1)) done [] [] 80
    ∷ device (fills 6) (p 0 (replicate 30 1)) done [] [] 46
    ∷ device (w 0x03 0x20 ∷ []) (w 0x09 0x46) (no 7) [] [] 0
    ∷ device (unanswered to_sop) (t 1) done (symbols_of (record { kind = 0; octets = 0x6D ∷ 0x01 ∷ [] })) [] 0
    ∷ device (unanswered to_plug) (t 1) done (symbols_of (record { kind = 1; octets = 0x4D ∷ 0x00 ∷ [] })) [] 0
    ∷ device (unanswered to_plug ++ (w 0x07 0x01 ∷ t 1 ∷ p 0 answer ∷ [])) (w 0x43 0x12) (no 6) [] [] 7
    ∷ device (unanswered to_plug ++ (w 0x07 0x01 ∷ t 1 ∷ p 1 answer ∷ [])) (w 0x43 0x12) done [] (0x12 ∷ []) 7
    ∷ device (unanswered to_plug ++ (t 1 ∷ p 1 answer ∷ [])) (w 0x43 0x12) (no 6) [] [] 0
    ∷ reader [] (no_at 14 0)
    ∷ reader (0x18 ∷ 0x18 ∷ 0x11 ∷ []) (no_at 14 3)  -- by 02, A4
    ∷ []

-- all of them hold
abbrev pub Benched : Type 0
Benched = AllHold cases
