-- The machine does what tells it apart from poorer models, and each of those models fails one of these things.
-- Assumes nothing.
use mathlib.Core.Path.{◌≡◌, refl, ap, ◌∙◌}
use mathlib.Core.List.{List, [], ◌∷◌, ◌++◌}
use mathlib.Core.Option.{none}
use Prim.Native.Nat.{ℕ, ◌<◌}
use native.Mathlib.Nat.{mod-eq_of_lt}
use native.Mathlib.Omega.{arith}
use lib.Bits.{and_mask}
use Rattle.line.specs.Frame.{Frame}
use Rattle.line.specs.Refusal.{first_no}
use Rattle.machine.specs.State.{power_up}
use Rattle.machine.specs.Requests.{wait, latched}
use Rattle.machine.specs.Events.{Event, read, hard_reset, value}
use Rattle.machine.specs.Refusals.{table}
use Rattle.machine.specs.Step.{after}
use Rattle.machine.specs.Bench.{w, port, name, name_queue}
use Rattle.machine.specs.Theorems.{waits, Started, ours, RefusesAsListed, TellsApart, ReadsWhatWasWritten, SendsAgain, OursDoes, ShutOut}
use Rattle.machine.proofs.Computing.{computed}
use Rattle.machine.proofs.Refusing.{first_some_exactly, refused_exactly}
use Rattle.machine.proofs.Retrying.{after_append, next_sent}

-- ---- 6. The machine

refuses : RefusesAsListed ours
refuses es e n q = (refused_exactly (after power_up es) e n).0 q

tells : TellsApart ours
unfolding computed
tells = (refl, refl)

reads : ReadsWhatWasWritten ours
unfolding computed
reads v h = ap value (and_mask v 8 ∙ mod-eq_of_lt h)

sends : SendsAgain ours
sends es e f n st h =
    rw (after_append power_up es (e ∷ waits 73 n)) (next_sent (after power_up es) e f 73 (omega arith) st n h)

pub ours_does : OursDoes
ours_does = record { refuses = refuses; tells = tells; reads = reads; sends = sends }

-- ---- the others

-- a history after which a start is taken and retries are to be sent
ready : List Event
ready = w 0x03 0x21 ∷ (w 0x09 0x07 ∷ port name_queue)

named : Frame
named = record { kind = 0; octets = name }

ready_started : Started (after power_up ready) (w 0x43 0xA1) named × (0 < (latched (after power_up ready)).retries)
unfolding ready named computed
ready_started =
    (record { room = 73; address = 0x43; octet = 0xA1; is = refl; starting = refl; taken = refl; sent = refl }, omega arith)

none_refused : first_no (table power_up (hard_reset 73)) ≡ none
unfolding computed
none_refused = refl

pub shut_out : ShutOut
unfolding after
shut_out =
    record {
      refusing = λ m all listed.
          let e = hard_reset 73 in
          let r = all [] e in
          let first = (first_some_exactly (table power_up e) r.0).1 (listed [] e r.0 r.1) in
          let z : ◌≡◌ {A = ℕ} 0 1 = cc (none_refused, first) in
          omega arith;
      alike = λ m r same t.
          let z : ◌≡◌ {A = ℕ} 0x91 0x03 = cc (t.0, t.1, same [] (read 73 0x01), same [] (read 73 0x02)) in
          omega arith;
      forgetful = λ m same reads.
          let at_first : (v : ℕ) → m (w 0x02 v ∷ []) (read 73 0x02) ≡ m [] (read 73 0x02) = λ v. same (w 0x02 v ∷ []) (read 73 0x02) in
          let z : ◌≡◌ {A = ℕ} 0 1 = cc (reads 0 (omega arith), reads 1 (omega arith), at_first 0, at_first 1) in
          omega arith;
      pretending = λ m quiet sends.
          let e = w 0x43 0xA1 in
          let sent = sends ready e named 0 ready_started.0 ready_started.1 in
          let z : ◌≡◌ {A = ℕ} 0 1 = cc (sent, quiet (ready ++ (e ∷ waits 73 0)) 73 wait) in
          omega arith;
    }
