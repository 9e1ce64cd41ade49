-- Numbers of no (01, table): each row stands alone, in 01's words; the first in 01's order is given.
-- Assumes nothing.
use Rattle.std.specs.Prelude.{Bool, not, cond, ◌&&◌, ◌||◌, List, [], ◌∷◌, ℕ, ltb, leb, eqb, length}
use Rattle.std.proofs.Math.Option.{Option}
use Rattle.line.specs.Refusal.{Row, first_no}
use Rattle.line.specs.Write.{frame_room}
use Rattle.machine.specs.Registers.{
  control0,
  control3,
  switches1,
  fifos,
  read_only,
  exists,
  has,
  TX_FLUSH,
  TX_START,
  SEND_HARD_RESET,
}
use Rattle.machine.specs.State.{State, reg}
use Rattle.machine.specs.Status.{tx_room}
use Rattle.machine.specs.Queue.{START, is_token, inside, is_message}
use Rattle.machine.specs.Requests.{opened, driver_on}
use Rattle.machine.specs.Events.{Event, room, on_write, on_read, on_pass, on_packet}

-- ---- what a write asks for

-- TX_START in Control0
unfoldable pub tx_start : ℕ → ℕ → Bool
tx_start a v = eqb a control0 && has TX_START v

-- A1 at the port, where it is not data
unfoldable pub port_start : State → ℕ → ℕ → Bool
port_start s a v = eqb a fifos && (not (inside s.tx) && eqb v START)

unfoldable pub starts : State → ℕ → ℕ → Bool
starts s a v = tx_start a v || port_start s a v

-- SEND_HARD_RESET in Control3
unfoldable pub sends_reset : ℕ → ℕ → Bool
sends_reset a v = eqb a control3 && has SEND_HARD_RESET v

-- data of any value, or a token; start is never stored
unfoldable pub to_be_stored : State → ℕ → ℕ → Bool
to_be_stored s a v = eqb a fifos && (inside s.tx || (is_token v && not (eqb v START)))

-- the queue that a start finds: TX_FLUSH acts before TX_START
unfoldable pub queue_at : State → ℕ → ℕ → List ℕ
queue_at s a v = cond (eqb a control0 && has TX_FLUSH v) [] s.tx

-- ---- the rows

-- symbol buffer under 73, any event
unfoldable pub no12 : State → Event → Bool
no12 s e = ltb (room e) frame_room

-- address doesn't exist
unfoldable pub no1 : State → Event → Bool
no1 s e = on_write (λ a v. not (exists a)) e || on_read (λ a. not (exists a)) e

-- write to a read-only address
unfoldable pub no2 : State → Event → Bool
no2 s e = on_write (λ a v. read_only a) e

-- write to 43 or TX_START, request open
unfoldable pub no6 : State → Event → Bool
no6 s e = on_write (λ a v. (eqb a fifos || tx_start a v) && opened s) e

-- non-data octet that is no token
unfoldable pub no3 : State → Event → Bool
no3 s e = on_write (λ a v. eqb a fifos && (not (inside s.tx) && not (is_token v))) e

-- octet to be stored, 48 held
unfoldable pub no5 : State → Event → Bool
no5 s e = on_write (λ a v. to_be_stored s a v && leb tx_room (length s.tx)) e

-- start, queue not a message
unfoldable pub no4 : State → Event → Bool
no4 s e = on_write (λ a v. starts s a v && not (is_message (queue_at s a v))) e

-- start or SEND_HARD_RESET, driver off
unfoldable pub no7 : State → Event → Bool
no7 s e = on_write (λ a v. (starts s a v || sends_reset a v) && not (driver_on (reg switches1 s))) e

-- read of 43, nothing held
unfoldable pub no8 : State → Event → Bool
no8 s e = on_read (λ a. eqb a fifos && eqb (length s.rx) 0) e

-- heard kind above 4
unfoldable pub no11 : State → Event → Bool
no11 s e = on_packet (λ k m. ltb 4 k) e

-- heard length outside 6 to 34
unfoldable pub no9 : State → Event → Bool
no9 s e = on_packet (λ k m. ltb (length m) 6 || ltb 34 (length m)) e

-- time above 1,000
unfoldable pub no10 : State → Event → Bool
no10 s e = on_pass (λ n. ltb 1000 n) e

-- ---- the table, in 01's order

abbrev pub no_row : ℕ → Bool → Row
no_row n b = record { number = n; applies = b }

abbrev pub table : State → Event → List Row
table s e =
    no_row 12 (no12 s e)
    ∷ no_row 1 (no1 s e)
    ∷ no_row 2 (no2 s e)
    ∷ no_row 6 (no6 s e)
    ∷ no_row 3 (no3 s e)
    ∷ no_row 5 (no5 s e)
    ∷ no_row 4 (no4 s e)
    ∷ no_row 7 (no7 s e)
    ∷ no_row 8 (no8 s e)
    ∷ no_row 11 (no11 s e)
    ∷ no_row 9 (no9 s e)
    ∷ no_row 10 (no10 s e)
    ∷ []

unfoldable pub refusal : State → Event → Option ℕ
refusal s e = first_no (table s e)
