-- For every good state of the machine there is a device that stands for it, and so an outcome of every call.
-- Assumes nothing.
use Rattle.std.specs.Prelude as rust
use Rattle.std.specs.Prelude.{Some, None, Err}
use mathlib.Core.Path.{◌≡◌, refl, sym, ap, ◌∙◌, subst}
use mathlib.Core.List.{List, [], ◌∷◌, ◌++◌}
use mathlib.Core.Option.{Option, none, some}
use Prim.Native.Nat.{ℕ, zero, suc, ◌-◌, ◌<◌, ◌≤◌}
use native.Mathlib.Omega.{arith}
use lib.ListN.{length, take, replicate, length-append, length-replicate}
use lib.Seq.{take-append_seam}
use Rattle.line.specs.Frame.{joined}
use Rattle.line.specs.Kind.{sop_kinds}
use Rattle.line.specs.declared.kind.SopKind.{SopKind}
use Rattle.line.specs.declared.kind.SopKind.TheVariants.{Sop, SopPrime, SopDoublePrime, SopPrimeDebug, SopDoublePrimeDebug}
use Rattle.line.specs.Numbered.{sop_number}
use Rattle.machine.specs.Registers.{stored_bits}
use Rattle.machine.specs.State as machine
use Rattle.machine.specs.State.{Phase, message, soft_reset, State, power_up}
use Rattle.machine.specs.Status.{tx_room, rx_room}
use Rattle.machine.specs.Queue.{to_come}
use Rattle.machine.specs.Events.{Event, Fits}
use Rattle.machine.specs.Refusals.{refusal}
use Rattle.machine.specs.Step.{result_of, step, accepted, reply_to}
use Rattle.machine.specs.Good.{AllWithin, KindGood, PhaseGood, OpenGood, Good}
use Rattle.machine.proofs.Keeping.{power_up_good}
use Rattle.machine.proofs.Staying.{stays_good}
use Rattle.fusb302.specs.declared.device.Request.{Request}
use Rattle.fusb302.specs.declared.device.Device.{Device}
use Rattle.fusb302.specs.declared.device.Outcome.{Outcome}
use Rattle.fusb302.specs.Queued.{sop_kind}
use Rattle.fusb302.specs.View.{phase_of, request_of, view, Asks, PoweredUp}
use Rattle.fusb302.specs.Serves.{overlaid}
use Rattle.fusb302.proofs.Showing.{arranged}
use Rattle.fusb302.proofs.Serving.{serves_no, serves_yes}
use Rattle.fusb302.proofs.Outcomes.{reason, refusal_numbered, reply_of, reply_meant}
use Rattle.lives.specs.Theorems.{Answered}

-- ---- a device for a state

-- octets at the beginning of so many
padded : ℕ → List ℕ → List ℕ
padded n l = l ++ replicate (n - length l) 0

padded_back : (n : ℕ) (l : List ℕ) → take (length l) (padded n l) ≡ l
unfolding padded
padded_back n l = take-append_seam l (replicate (n - length l) 0)

padded_length : (n : ℕ) (l : List ℕ) → length l ≤ n → length (padded n l) ≡ n
unfolding padded
padded_length n l h = omega (arith, length-append l (replicate (n - length l) 0), length-replicate {A = ℕ} (n - length l) 0)

cells_length : (ms xs : List ℕ) → AllWithin ms xs → length xs ≡ length ms
cells_length [] [] h = refl
cells_length [] (x ∷ xs) h = absurd h
cells_length (m ∷ ms) [] h = absurd h
cells_length (m ∷ ms) (x ∷ xs) h = ap suc (cells_length ms xs h.1)

-- the SOP kind of a number below 5
sop_for : ℕ → SopKind
sop_for zero = Sop
sop_for (suc zero) = SopPrime
sop_for (suc (suc zero)) = SopDoublePrime
sop_for (suc (suc (suc zero))) = SopPrimeDebug
sop_for (suc (suc (suc (suc k)))) = SopDoublePrimeDebug

reset_on : Phase → rust.Option SopKind
reset_on message = None
reset_on (soft_reset k) = Some (sop_for k)

request_for : Option machine.Request → rust.Option Request
request_for none = None
request_for (some q) =
    Some (record {
      switches1 = q.switches1;
      retries = q.retries;
      soft = q.soft;
      hard = q.hard;
      resetting = reset_on q.phase;
      sent = q.sent;
      waited = q.waited;
    })

kind_for : Option ℕ → rust.Option SopKind
kind_for none = None
kind_for (some k) = Some (sop_for k)

pub made : (s : State) → Good s → Device
made s g =
    record {
      cells = s.cells;
      tx =
          record {
            octets = padded tx_room s.tx;
            len = length s.tx;
            left = to_come 0 s.tx;
            size = padded_length tx_room s.tx g.tx_few;
            room = g.tx_few;
            counted = ap (to_come 0) (sym (padded_back tx_room s.tx));
          };
      rx =
          record {
            octets = padded rx_room s.rx;
            len = length s.rx;
            size = padded_length rx_room s.rx g.rx_few;
            room = g.rx_few;
          };
      status = record { status0a = s.status.status0a; crc_chk = s.status.crc_chk; kind = kind_for s.status.kind };
      ints = record { a = s.ints.a; b = s.ints.b; main = s.ints.main };
      request = request_for s.request;
      pins = record { cc1 = record { 0 = s.pins.cc1 }; cc2 = record { 0 = s.pins.cc2 }; vbus = record { 0 = s.pins.vbus } };
      registers = cells_length stored_bits s.cells g.cells;
    }

-- ---- it stands for that state

sop_back : (k : ℕ) → k < sop_kinds → sop_number (sop_for k) ≡ k
unfolding sop_for
sop_back zero h = refl
sop_back (suc zero) h = refl
sop_back (suc (suc zero)) h = refl
sop_back (suc (suc (suc zero))) h = refl
sop_back (suc (suc (suc (suc zero)))) h = refl
sop_back (suc (suc (suc (suc (suc k))))) h = absurd (omega arith)

phase_back : (p : Phase) (tx : List ℕ) → PhaseGood p tx → phase_of (reset_on p) ≡ p
unfolding reset_on
phase_back message tx g = refl
phase_back (soft_reset k) tx g = ap soft_reset (sop_back k g.0)

request_back : (o : Option machine.Request) (tx : List ℕ) → OpenGood o tx → request_of (request_for o) ≡ o
unfolding request_for
request_back none tx g = refl
request_back (some q) tx g = rw (phase_back q.phase tx g.phase) refl

kind_back : (o : Option ℕ) → KindGood o → sop_kind (kind_for o) ≡ o
unfolding kind_for
kind_back none g = refl
kind_back (some k) g = ap some (sop_back k g)

made_back : (s : State) (g : Good s) → view (made s g) ≡ s
unfolding made
made_back s g =
    rw (padded_back tx_room s.tx, padded_back rx_room s.rx, kind_back s.status.kind g.kind, request_back s.request s.tx g.request) refl

made_asks : (s : State) (g : Good s) → Asks (made s g)
made_asks s g = record { arranged = arranged _; good = subst Good (sym (made_back s g)) g }

pub made_powered_up : PoweredUp (made power_up power_up_good)
made_powered_up = record { asks = made_asks power_up power_up_good; new = made_back power_up power_up_good }

-- ---- an outcome of every call

accepted_good : (s : State) (e : Event) → Good s → Fits e → refusal s e ≡ none → Good (accepted s e).state
unfolding step result_of
accepted_good s e g f h = rw h at (stays_good s e g f)

pub answered : (e : Event) (d : Device) (before : List ℕ) → Asks d → Fits e → Answered e d before
answered e d before asks fits = go (refusal (view d) e) refl
  where
    go : (o : Option ℕ) → refusal (view d) e ≡ o → Answered e d before
    go (some n) h =
        record {
          outcome = record { device = d; reply = Err (reason n); count = 0 };
          after = before;
          serves = serves_no e d before asks (reason n) (h ∙ ap some (sym (refusal_numbered (view d) e n h)));
        }
    go none h =
        let good = accepted_good (view d) e asks.good fits h in
        let symbols = joined (accepted (view d) e).frames in
        let r : Outcome = record { device = made (accepted (view d) e).state good; reply = reply_of (reply_to (view d) e); count = length symbols } in
        record {
          outcome = r;
          after = overlaid symbols before;
          serves = serves_yes e d before asks h fits r (overlaid symbols before) (arranged _) (made_back _ good) (reply_meant (view d) e) refl refl;
        }
