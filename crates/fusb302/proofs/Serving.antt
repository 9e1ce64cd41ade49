-- What a method owes, by whether its event is refused; and where the symbols stand that it sent.
-- Assumes nothing.
use mathlib.Core.Path.{◌≡◌, refl, sym, ap, ◌∙◌, subst}
use mathlib.Core.List.{List, [], ◌∷◌, ◌++◌}
use mathlib.Core.Logic.{◌⊎◌, ⊎_elim}
use mathlib.Core.Option.{none, some}
use Prim.Native.Nat.{ℕ, zero, suc, ◌≤◌}
use native.Mathlib.Omega.{arith}
use lib.ListN.{length, take, drop}
use lib.Seq.{take_at}
use Rattle.std.proofs.lemmas.List.{append_assoc, take-append-drop}
use Rattle.std.specs.Array.{IsFirstChunk}
use Rattle.line.specs.Frame.{joined}
use Rattle.line.specs.Write.{frame_room}
use Rattle.machine.specs.Events.{done, Event, Fits}
use Rattle.machine.specs.Refusals.{refusal}
use Rattle.machine.specs.Step.{accepted, reply_to, result_of, step}
use Rattle.machine.specs.Good.{Good}
use Rattle.machine.proofs.Refusing.{accepted_reply}
use Rattle.machine.proofs.Recording.{symbols_sent}
use Rattle.machine.proofs.Staying.{stays_good}
use Rattle.fusb302.specs.declared.device.Device.{Device}
use Rattle.std.specs.Prelude.{Err}
use Rattle.fusb302.specs.declared.device.Outcome.{Outcome}
use Rattle.fusb302.specs.declared.refusals.No.{No}
use Rattle.fusb302.specs.Refusals.{number_of}
use Rattle.fusb302.specs.View.{view, Arranged, Asks}
use Rattle.fusb302.specs.Serves.{replied, overlaid, Does, Serves}

-- ---- the room for a frame, split off what is lent

-- what a part of a beginning leaves of it, and what stands behind
rejoined : (a n : ℕ) (l : List ℕ) → a ≤ n → drop a (take n l) ++ drop n l ≡ drop a l
rejoined zero n l h = take-append-drop n l
rejoined (suc a) zero l h = absurd (omega arith)
rejoined (suc a) (suc n) [] h = refl
rejoined (suc a) (suc n) (x ∷ l) h = rejoined a n l (omega arith)

-- what stands in the room lies over all that is lent, if it is no longer than the room
overlaid_on : (f l : List ℕ) → length f ≤ frame_room → overlaid f (take frame_room l) ++ drop frame_room l ≡ overlaid f l
overlaid_on f l h = append_assoc f _ _ ∙ ap (λ x. f ++ x) (rejoined (length f) frame_room l h)

-- an event's symbols are no more than that
sent_fits : {n : ℕ} → (n ≡ 0) ⊎ ((n ≡ 4) ⊎ ((17 ≤ n) × (n ≤ frame_room))) → n ≤ frame_room
sent_fits {n} h = ⊎_elim {C = n ≤ frame_room} (λ p. omega arith) (λ q. ⊎_elim {C = n ≤ frame_room} (λ p. omega arith) (λ p. p.1) q) h

-- ---- refused, or taken

module _ (e : Event) (d : Device) (before : List ℕ) (asks : Asks d) where
  pub serves_no : (n : No) → refusal (view d) e ≡ some (number_of n) → Serves e d before (record { device = d; reply = Err n; count = 0 }) before
  unfolding step result_of joined
  serves_no n h =
      record { state = rw h refl; asks = asks; reply = rw h refl; count = rw h refl; lent = rw h refl; refused = λ m q. refl }

  -- a taken event: the device after it, its reply, and the frames' symbols
  module _ (taken : refusal (view d) e ≡ none) (fits : Fits e) (r : Outcome) (after : List ℕ) (arranged : Arranged r.device) where
    pub serves_yes : view r.device ≡ (accepted (view d) e).state → replied r.reply ≡ reply_to (view d) e
        → r.count ≡ length (joined (accepted (view d) e).frames) → after ≡ overlaid (joined (accepted (view d) e).frames) before
        → Serves e d before r after
    unfolding step result_of
    serves_yes state reply count lent =
        let is : view r.device ≡ (step (view d) e).state = rw taken state in
        record {
          state = is;
          asks = record { arranged = arranged; good = subst Good (sym is) (stays_good (view d) e asks.good fits) };
          reply = rw taken reply;
          count = rw taken count;
          lent = rw taken lent;
          refused = λ n q. absurd (accepted_reply (view d) e (number_of n) (sym reply ∙ ap replied q));
        }

  -- the same of the room for a frame, where it is what begins the lent symbols
  module _ (frame : List ℕ) (first : IsFirstChunk before frame frame_room) where
    pub serves_no_in : (n : No) → refusal (view d) e ≡ some (number_of n)
        → Serves e d before (record { device = d; reply = Err n; count = 0 }) (frame ++ drop frame_room before)
    serves_no_in n h = rw (first.same, take-append-drop frame_room before) (serves_no n h)

    pub serves_in : refusal (view d) e ≡ none → Fits e → reply_to (view d) e ≡ done → (r : Outcome) (after : List ℕ)
        → Does (accepted (view d) e) frame r after → Serves e d before r (after ++ drop frame_room before)
    unfolding step result_of
    serves_in taken fits quiet r after x =
        let long : length (joined (accepted (view d) e).frames) ≤ frame_room = rw taken at (sent_fits (symbols_sent (view d) e asks.good fits)) in
        serves_yes taken fits r _ x.arranged x.state (ap replied x.reply ∙ sym quiet) x.sends.count
        (rw first.same at (ap (λ l. l ++ drop frame_room before) x.sends.lent) ∙ overlaid_on _ before long)

-- what is counted of the lent symbols is the frames' symbols
pub served_symbols : {e : Event} {d : Device} {before : List ℕ} {r : Outcome} {after : List ℕ} → Serves e d before r after
    → take r.count after ≡ joined (step (view d) e).frames
served_symbols {e} {d} {r} serves =
    ap (take r.count) serves.lent ∙ take_at (joined (step (view d) e).frames) _ r.count (sym serves.count)
