-- Packets heard: the answer of each test, and the effect of each way out.
-- Assumes nothing.
use Rattle.std.specs.Prelude as rust
use Rattle.std.specs.Prelude.{Some, None}
use mathlib.Core.Path.{◌≡◌, refl, sym, ap, ◌∙◌, subst}
use mathlib.Core.Bool.{Bool, true, false, cond, ◌&&◌}
use mathlib.Core.List.{List, [], ◌∷◌, ◌++◌}
use mathlib.Core.Option.{Option, none, some}
use Prim.Native.Nat.{ℕ, suc, ◌<◌, ◌≤◌}
use native.Mathlib.Omega.{arith}
use borrow.Author.Tests.{lt-ltb, le-ltb, eq-eqb, ne_eqb}
use lib.Dec.{eqb}
use lib.ListN.{length, drop, get_or}
use Rattle.std.specs.Array.{IsFirstChunk}
use Rattle.line.specs.declared.kind.SopKind.{SopKind}
use Rattle.line.specs.Numbered.{sop_number}
use Rattle.line.specs.Crc.{crc_right}
use Rattle.line.specs.Frame.{Frame, Octets}
use Rattle.line.specs.Write.{frame_room}
use Rattle.machine.specs.Registers.{cell}
use Rattle.machine.specs.Headers.{GoodCRC, control, message_id, is_control}
use Rattle.machine.specs.State.{State, with_rx, with_kind, raises_b, raises}
use Rattle.machine.specs.Status.{rx_room, I_GCRCSENT, I_ALERT}
use Rattle.machine.specs.Queue.{spelt}
use Rattle.machine.specs.Requests.{Effect, silent, flight_in, flight}
use Rattle.machine.specs.Packets.{kind_on, fits_rx, answers, awaited_by, awaited, replies_to, rx_token, keeps, stores, noted, accepts, hears}
use Rattle.machine.specs.Events.{Event, packet}
use Rattle.machine.specs.Step.{accepted, reply_to}
use Rattle.machine.proofs.Resetting.{reset_id}
use Rattle.machine.proofs.Checking.{packet_checks}
use Rattle.fusb302.specs.declared.queue.Message.{Message}
use Rattle.fusb302.specs.declared.fifo.Fifo.{Fifo}
use Rattle.fusb302.specs.declared.device.Device.{Device}
use Rattle.fusb302.specs.declared.device.Request.{Request}
use Rattle.std.specs.Prelude.{None, Ok, Err}
use Rattle.fusb302.specs.declared.refusals.No.{No}
use Rattle.fusb302.specs.declared.refusals.No.TheVariants.{SmallBuffer}
use Rattle.fusb302.specs.declared.device.Outcome.{Outcome}
use Rattle.fusb302.specs.Refusals.{number_of}
use Rattle.fusb302.specs.Messages.{packet_no}
use Rattle.fusb302.specs.Queued.{queued, spelt_as}
use Rattle.fusb302.specs.Held.{held}
use Rattle.fusb302.specs.View.{asked, view, Asks}
use Rattle.fusb302.specs.Serves.{Becomes, Sends, Does, Serves}
use Rattle.fusb302.proofs.Serving.{serves_no, serves_no_in, serves_in}
use Rattle.fusb302.proofs.Showing.{arranged, held_length}
use Rattle.fusb302.proofs.Sending.{sends_none, by_answer}
use Rattle.fusb302.proofs.Becoming.{done, and_then, silently, sending}

-- ---- the GoodCRC that is awaited

no_answer : (k : ℕ) (m : List ℕ) (o : Option Frame) → is_control GoodCRC m ≡ false → answers k m o ≡ false
no_answer k m none h = refl
no_answer k m (some f) h = rw h refl

module _ (d : Device) (k : ℕ) (m : List ℕ) where
  pub awaits_idle : d.request ≡ None → false ≡ awaited k m (view d)
  unfolding awaited_by
  awaits_idle e = rw e refl

  module _ (q : Request) (active : d.request ≡ Some q) where
    pub awaits_other : is_control GoodCRC m ≡ false → false ≡ awaited k m (view d)
    unfolding awaited_by
    awaits_other h = rw active (sym (no_answer k m (flight (view d) (asked q)) h))

    pub awaits_reset : is_control GoodCRC m ≡ true → (s : SopKind) → q.resetting ≡ Some s
        → (b : Bool) → b ≡ (eqb (sop_number s) k && eqb 0 (message_id m)) → b ≡ awaited k m (view d)
    unfolding awaited_by flight_in
    awaits_reset h s on b p =
        let j = sop_number s in
        rw (active, on, h)
        (p ∙ ap (λ (i : ℕ). eqb j k && eqb i (message_id m)) (sym (reset_id j (asked q))))

    module _ (sending : q.resetting ≡ None) (r : rust.Option Message) (is : spelt_as r ≡ spelt (queued d.tx)) where
      pub awaits_nothing : r ≡ None → false ≡ awaited k m (view d)
      unfolding awaited_by flight_in
      awaits_nothing e =
          let nothing : none ≡ spelt (queued d.tx) = rw e at is in
          rw (active, sending, ← nothing) refl

      pub awaits_message : is_control GoodCRC m ≡ true → (s : Message) → r ≡ Some s → (id : ℕ) → id ≡ message_id s.octets.now
          → (b : Bool) → b ≡ (eqb (sop_number s.kind) k && eqb id (message_id m)) → b ≡ awaited k m (view d)
      unfolding awaited_by flight_in
      awaits_message h s e id p-id b p =
          rw (active, sending, by_answer d.tx r is s e, h)
          (p ∙ ap (λ (i : ℕ). eqb (sop_number s.kind) k && eqb i (message_id m)) p-id)

-- ---- what is stored

module _ (d : Device) (s : SopKind) (m : List ℕ) (token : ℕ) (is : token ≡ rx_token (sop_number s)) (rx : Fifo) (p : length d.cells ≡ 15)
    (stored : held rx ≡ held d.rx ++ (token ∷ m)) where
  abbrev k : ℕ
  k = sop_number s

  -- the packet in Rx
  abbrev longer : Device
  longer =
      record {
        cells = d.cells;
        tx = d.tx;
        rx = rx;
        status = record { status0a = d.status.status0a; crc_chk = d.status.crc_chk; kind = Some s };
        ints = d.ints;
        request = d.request;
        pins = d.pins;
        registers = p;
      }

  abbrev octets : List ℕ
  octets = held d.rx ++ (rx_token k ∷ m)

  holds : held rx ≡ octets
  holds = stored ∙ ap (λ (t : ℕ). held d.rx ++ (t ∷ m)) is

  counted : length octets ≡ rx.len
  counted = sym (ap length holds) ∙ held_length rx

  is_longer : Becomes (with_kind k (with_rx octets (view d))) longer
  is_longer =
      record {
        state = rw holds refl;
        arranged = arranged longer;
      }

  pub keeps_on : (rx.len ≡ rx_room → ⊥) → Becomes (keeps k m (view d)) longer
  unfolding keeps
  keeps_on h = rw (counted, ne_eqb rx.len rx_room h) is_longer

  pub keeps_full : rx.len ≡ rx_room → (u : Device) → Becomes (raises I_ALERT (view longer)) u → Becomes (keeps k m (view d)) u
  unfolding keeps
  keeps_full h u x = rw (counted, eq-eqb rx.len rx_room h) (and_then _ longer is_longer (raises I_ALERT) u x)

module _ (d : Device) (k : ℕ) (m : List ℕ) (t : Device) (kept : Becomes (keeps k m (view d)) t) (before : List ℕ) where
  pub stores_only : replies_to m (view d) ≡ false → Does (stores k m (view d)) before (done t 0) before
  unfolding stores
  stores_only e = rw e (silently _ t kept before)

  pub stores_replies : replies_to m (view d) ≡ true → (u : Device) → Becomes (raises_b I_GCRCSENT (view t)) u → (n : ℕ) (after : List ℕ)
      → Sends (control GoodCRC k (get_or d.cells 1 0) (message_id m) ∷ []) before n after
      → Does (stores k m (view d)) before (done u n) after
  unfolding stores cell
  stores_replies e u x n after sent =
      rw e (sending _ u (and_then _ t kept (raises_b I_GCRCSENT) u x) before n after (control GoodCRC k (get_or d.cells 1 0) (message_id m)) sent)

-- ---- a packet whose CRC is right

module _ (d c : Device) (k : ℕ) (m : List ℕ) (noted_in : Becomes (noted k m (view d)) c) where
  is_noted : view c ≡ noted k m (view d)
  is_noted = noted_in.state

  pub accepts_stores : fits_rx m (view c) ≡ true → (before : List ℕ) (o : Outcome) (after : List ℕ) → Does (stores k m (view c)) before o after
      → Does (accepts k m (view d)) before o after
  unfolding accepts
  accepts_stores e before o after x =
      let same : accepts k m (view d) ≡ stores k m (view c) =
      ap (λ (t : State). cond (fits_rx m t) (stores k m t) (silent (raises I_ALERT t))) (sym is_noted)
      ∙ ap (λ (v : Bool). cond v (stores k m (view c)) (silent (raises I_ALERT (view c)))) e in
      subst (λ (y : Effect). Does y before o after) (sym same) x

  pub accepts_full : fits_rx m (view c) ≡ false → (u : Device) → Becomes (raises I_ALERT (view c)) u → (before : List ℕ)
      → Does (accepts k m (view d)) before (done u 0) before
  unfolding accepts
  accepts_full e u x before =
      let same : accepts k m (view d) ≡ silent (raises I_ALERT (view c)) =
      ap (λ (t : State). cond (fits_rx m t) (stores k m t) (silent (raises I_ALERT t))) (sym is_noted)
      ∙ ap (λ (v : Bool). cond v (stores k m (view c)) (silent (raises I_ALERT (view c)))) e in
      rw same (silently _ u x before)

-- ---- a packet heard

module _ (d : Device) (k : ℕ) (m : List ℕ) (before : List ℕ) where
  pub hears_off : kind_on k (view d) ≡ false → Does (hears k m (view d)) before (record { device = d; reply = Ok None; count = 0 }) before
  unfolding hears
  hears_off e = rw e (record { state = refl; arranged = arranged d; reply = refl; sends = sends_none before })

  pub hears_wrong : (p : length d.cells ≡ 15) → kind_on k (view d) ≡ true → crc_right m ≡ false
      → Does (hears k m (view d)) before
      (record {
        device =
            record {
              cells = d.cells;
              tx = d.tx;
              rx = d.rx;
              status = record { status0a = d.status.status0a; crc_chk = false; kind = d.status.kind };
              ints = d.ints;
              request = d.request;
              pins = d.pins;
              registers = p;
            };
        reply = Ok None;
        count = 0;
      }) before
  unfolding hears
  hears_wrong p e r =
      rw (e, r)
      (record { state = refl; arranged = arranged _; reply = refl; sends = sends_none before })

  pub hears_right : kind_on k (view d) ≡ true → crc_right m ≡ true → (o : Outcome) (after : List ℕ) → Does (accepts k m (view d)) before o after
      → Does (hears k m (view d)) before o after
  unfolding hears
  hears_right e r o after x = rw (e, r) x

-- ---- refused, or heard

octets_of_lem : (l : List ℕ) → ((i : ℕ) → get_or l i 0 < 256) → Octets l
octets_of_lem [] h = tt
octets_of_lem (x ∷ l) h = (h 0, octets_of_lem l (λ i. h (suc i)))

module _ (d : Device) (asks : Asks d) (before : List ℕ) (k : ℕ) (m : List ℕ) where
  abbrev heard : Event
  heard = packet (length before) k m

  pub packet_small : length before < frame_room → Serves heard d before (record { device = d; reply = Err SmallBuffer; count = 0 }) before
  packet_small h = serves_no heard d before asks SmallBuffer (packet_checks (view d) (length before) k m ∙ simp (lt-ltb (length before) frame_room h))

  module _ (frame : List ℕ) (first : IsFirstChunk before frame frame_room) where
    pub packet_refused : (n : No) → some (number_of n) ≡ packet_no k m
        → Serves heard d before (record { device = d; reply = Err n; count = 0 }) (frame ++ drop frame_room before)
    unfolding packet_no
    packet_refused n e =
        serves_no_in heard d before asks frame first n
        (packet_checks (view d) (length before) k m ∙ simp (le-ltb (length before) frame_room first.enough, sym e))

    module _ (sop : k ≤ 4) where
      module _ (lo : 6 ≤ length m) where
        pub packet_heard : length m ≤ 34 → ((i : ℕ) → get_or m i 0 < 256) → (o : Outcome) (after : List ℕ)
            → Does (hears k m (view d)) frame o after → Serves heard d before o (after ++ drop frame_room before)
        unfolding accepted reply_to
        packet_heard hi small o after h =
            serves_in heard d before asks frame first
            (packet_checks (view d) (length before) k m
            ∙ simp (le-ltb (length before) frame_room first.enough, le-ltb 4 k sop, le-ltb (length m) 6 lo, le-ltb 34 (length m) hi))
            (omega arith, octets_of_lem m small) refl o after h
