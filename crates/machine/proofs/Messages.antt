-- A message written octet by octet to the port leaves whole at the start token.
-- Assumes nothing.
use mathlib.Core.Path.{◌≡◌, refl, ap, ◌∙◌}
use mathlib.Core.Bool.{Bool, true, false, cond, not, ◌&&◌, ◌||◌, or-false}
use mathlib.Core.List.{List, [], ◌∷◌, ◌++◌, map, map-append, append-nil, append_assoc}
use mathlib.Core.Option.{Option, none, some}
use Prim.Native.Nat.{ℕ, ◌+◌, ◌<◌, ◌≤◌}
use native.Mathlib.Omega.{arith}
use borrow.Author.Tests.{le-ltb, lt-leb}
use lib.Dec.{leb, eqb}
use lib.ListN.{length, length-append}
use Rattle.line.specs.Frame.{Frame, Whole}
use Rattle.line.specs.Refusal.{first_no}
use Rattle.line.specs.Write.{frame_room}
use Rattle.machine.specs.Registers.{switches1, fifos, is_stored, read_only, exists}
use Rattle.machine.specs.State.{State, reg, with_tx, raises}
use Rattle.machine.specs.Status.{tx_room, tx_full, I_ALERT}
use Rattle.machine.specs.Queue.{START, closing, set_symbol, is_token, to_come, inside, spelt, is_message}
use Rattle.machine.specs.Requests.{driver_on, start}
use Rattle.machine.specs.Packets.{only_if}
use Rattle.machine.specs.Events.{Event, write}
use Rattle.machine.specs.Refusals.{
  tx_start,
  port_start,
  starts,
  sends_reset,
  to_be_stored,
  queue_at,
  no12,
  no1,
  no2,
  no6,
  no3,
  no5,
  no4,
  no7,
  no8,
  no11,
  no9,
  no10,
  refusal,
}
use Rattle.machine.specs.Step.{queues, port_written, accepted, result_of, step, after, frames}
use Rattle.machine.specs.Theorems.{AnyMessageSent}
use Rattle.machine.proofs.Comparing.{port_written_lem}
use Rattle.machine.proofs.Spelling.{set_four, spelt_of}
use Rattle.machine.proofs.Blocks.{to_come_append, storable, AllStored, Stores, stores_append, set_stored, block_stored, closing_stored}

-- no request is open, the driver is on, and the queue holds q
record Ready (s : State) (q : List ℕ) : Type 0 where
  holds : s.tx ≡ q
  free : s.request ≡ none
  on : driver_on (reg switches1 s) ≡ true

-- ---- one octet

-- the refusal of an octet at the port with no request open: by whether it falls inside a block, is a token, is start,
-- and by whether the queue is full, spells a message, and the driver is on
abbrev port_no : Bool → Bool → Bool → Bool → Bool → Bool → Option ℕ
port_no within token begin full whole on =
    cond (not within && not token) (some 3)
    (cond ((within || (token && not begin)) && full) (some 5)
    (cond (not within && begin && not whole) (some 4)
    (cond (not within && begin && not on) (some 7) none)))

-- data, or a token other than start, where there is room
stored_no : (i t z m d : Bool) → (i || (t && not z)) ≡ true → (port_no i t z false m d ≡ none) × ((not i && z) ≡ false)
stored_no true t z m d e = (refl, refl)
stored_no false true true m d e = let z : ◌≡◌ {A = ℕ} 0 1 = cc in absurd (omega arith)
stored_no false true false m d e = (refl, refl)
stored_no false false z m d e = let z : ◌≡◌ {A = ℕ} 0 1 = cc in absurd (omega arith)

module _ (s : State) (room v : ℕ) (enough : frame_room ≤ room) (free : s.request ≡ none) where
  port_refusal : refusal s (write room fifos v)
      ≡ port_no (inside s.tx) (is_token v) (eqb v START) (leb tx_room (length s.tx)) (is_message s.tx) (driver_on (reg switches1 s))
  unfolding
      refusal first_no no12 no1 no2 no6 no3 no5 no4 no7 no8 no11 no9 no10
      exists is_stored read_only tx_start port_start starts sends_reset to_be_stored queue_at
  port_refusal = simp (le-ltb room frame_room enough, free, or-false)

  pub stored_step : storable (to_come 0 s.tx) v ≡ true → length s.tx < tx_room
      → ((step s (write room fifos v)).state ≡ queues v s) × ((step s (write room fifos v)).frames ≡ [])
  unfolding step result_of accepted port_written port_start inside
  stored_step e h =
      let b = stored_no (inside s.tx) (is_token v) (eqb v START) (is_message s.tx) (driver_on (reg switches1 s)) e in
      let taken : refusal s (write room fifos v) ≡ none = rw (port_refusal, lt-leb tx_room (length s.tx) h) b.0 in
      (rw (taken, port_written_lem v s, b.1), rw (taken, port_written_lem v s, b.1))

start_sends : (s : State) (q : List ℕ) (room : ℕ) (f : Frame) → frame_room ≤ room → Ready s q → to_come 0 q ≡ 0 → spelt q ≡ some f
    → frames s (write room fifos START ∷ []) ≡ f ∷ []
unfolding frames step result_of accepted port_written port_start start is_token set_symbol inside
start_sends s q room f enough r left e = simp (port_refusal s room START enough r.free, port_written_lem START s, r.holds, left, e, r.on)

queued : (s : State) (q : List ℕ) (v : ℕ) → Ready s q → Ready (queues v s) (q ++ (v ∷ []))
unfolding queues
queued s q v r = go (tx_full (with_tx (s.tx ++ (v ∷ [])) s))
  where
    longer : s.tx ++ (v ∷ []) ≡ q ++ (v ∷ [])
    longer = rw r.holds

    go : (b : Bool) → Ready (only_if b (raises I_ALERT) (with_tx (s.tx ++ (v ∷ [])) s)) (q ++ (v ∷ []))
    go true = record { holds = longer; free = r.free; on = r.on }
    go false = record { holds = longer; free = r.free; on = r.on }

-- ---- octets one after the other

module _ (room : ℕ) (enough : frame_room ≤ room) where
  writing : List ℕ → List Event
  writing l = map (write room fifos) l

  all_stored : (l q : List ℕ) (s : State) → Ready s q → AllStored (to_come 0 q) l → length q + length l ≤ tx_room
      → Ready (after s (writing l)) (q ++ l) × ((es : List Event) → frames s (writing l ++ es) ≡ frames (after s (writing l)) es)
  unfolding writing after frames
  all_stored [] q s r a h = (rw append-nil r, λ es. refl)
  all_stored (v ∷ l) q s r a h =
      let p = stored_step s room v enough r.free (rw r.holds a.0) (rw r.holds (omega arith)) in
      let next : Ready (step s (write room fifos v)).state (q ++ (v ∷ [])) = rw p.0 (queued s q v r) in
      let ih = all_stored l (q ++ (v ∷ [])) _ next (rw to_come_append a.1) (simp length-append (omega arith)) in
      (rw append_assoc at ih.0, λ es. rw p.1 (ih.1 es))

-- ---- the message

pub any_message_sent : AnyMessageSent
unfolding writing to_come
any_message_sent s f set room (Whole.alone h k e) tokens sop empty free on enough = absurd (omega arith)
any_message_sent s f set room (Whole.message h o lo hi) tokens sop empty free on enough =
    let m = f.octets in
    let q : List ℕ = set ++ ((0x80 + length m) ∷ (m ++ closing)) in
    let four = set_four set f.kind tokens (omega arith) in
    let stored : Stores 0 q 0 =
    stores_append set _ 0 0 0 (set_stored set f.kind (omega arith) tokens)
    (stores_append ((0x80 + length m) ∷ m) closing 0 0 0 (block_stored m lo hi) closing_stored) in
    let r = all_stored room enough q [] s (record { holds = empty; free = free; on = on }) stored.all (simp length-append (omega arith)) in
    let whole = spelt_of q f (record { set = set; sop = sop; tokens = tokens; many = lo; few = hi; is = refl }) in
    let parted : set ++ ((0x80 + length m) ∷ (m ++ (closing ++ (START ∷ [])))) ≡ q ++ (START ∷ []) = simp append_assoc in
    ap (λ (l : List ℕ). frames s (map (write room fifos) l)) parted
    ∙ ap (frames s) (map-append (write room fifos) q (START ∷ []))
    ∙ r.1 (write room fifos START ∷ [])
    ∙ start_sends _ q room f enough r.0 stored.left whole
