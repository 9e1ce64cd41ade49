-- No second outcome, and each reply means one thing.
-- Assumes nothing.
use mathlib.Core.Path.{◌≡◌, refl, sym, ap, ◌∙◌, subst}
use mathlib.Core.Bool.{Bool, true, false, not, cond}
use mathlib.Core.List.{List, [], ◌∷◌, ◌++◌, append-nil}
use mathlib.Core.Logic.{◌↔◌, ⊎_elim}
use mathlib.Core.Option.{Option, none, some}
use Prim.Native.Nat.{ℕ, ◌<◌, ◌≤◌}
use native.Mathlib.Omega.{arith}
use lib.ListN.{length, get_or}
use Rattle.line.specs.Frame.{Frame, Whole, symbols_of, joined}
use Rattle.line.specs.Write.{frame_room}
use Rattle.line.specs.Refusal.{Row, first_no}
use Rattle.line.proofs.Writing.{frame_lengths}
use Rattle.machine.specs.Status.{int_low}
use Rattle.machine.specs.Events as events
use Rattle.machine.specs.Events.{Event, write, read, pass, hard_reset, packet, sense}
use Rattle.machine.specs.Why.{Reason, refused, kind_off, crc_wrong, no_room, is_good_crc, auto_crc_off, auto_pre_on, driver_off, Cause, causes, first_cause, why}
use Rattle.machine.specs.Refusals.{table, refusal}
use Rattle.machine.specs.Theorems.{GoodCrcFor}
use Rattle.machine.proofs.Explaining.{leaves_exactly}
use Rattle.machine.specs.State.{State}
use Rattle.machine.specs.Step.{Result, reply_to, step}
use Rattle.fusb302.specs.declared.device.Device.{Device}
use Rattle.fusb302.specs.declared.device.Outcome.{Outcome}
use Rattle.std.specs.Prelude.{Some, None, Ok, Err, ⊤}
use Rattle.fusb302.specs.declared.why.Why.{Why}
use Rattle.fusb302.specs.declared.why.Why.TheVariants.{Refused, KindOff, CrcWrong, NoRoom, IsGoodCrc, AutoCrcOff, AutoPreOn, Leaves}
use Rattle.fusb302.specs.declared.why.Why.TheVariants as whys
use Rattle.fusb302.specs.declared.refusals.No.{No}
use Rattle.fusb302.specs.declared.refusals.No.TheVariants.{
  SmallBuffer,
  NoSuchAddress,
  ReadOnly,
  RequestOpen,
  NotAToken,
  QueueFull,
  NotAMessage,
  DriverOff,
  NothingHeld,
  NoSuchKind,
  WrongLength,
  TimeTooLong,
}
use Rattle.fusb302.specs.Refusals.{number_of}
use Rattle.fusb302.specs.Serves.{Reply, replied, overlaid, Serves}
use Rattle.fusb302.specs.Why.{reason_of, Explains}
use Rattle.fusb302.specs.View.{view, Asks}
use Rattle.fusb302.specs.Theorems.{OneMeaning, Alike, OneOutcome, ViewEnough, OnePowerUp, OneLevel, OneWhy, WhyTrueOfEvent}

-- ---- the reason of a number

reasons : List No
reasons =
    SmallBuffer
    ∷ NoSuchAddress
    ∷ ReadOnly
    ∷ NotAToken
    ∷ NotAMessage
    ∷ QueueFull
    ∷ RequestOpen
    ∷ DriverOff
    ∷ NothingHeld
    ∷ WrongLength
    ∷ TimeTooLong
    ∷ NoSuchKind
    ∷ []

-- number 12 stands where 0 would, which is the number of none
pub reason : ℕ → No
reason n = get_or reasons n SmallBuffer

reason_of_number : (n : No) → reason (number_of n) ≡ n
unfolding reasons reason
reason_of_number SmallBuffer = refl
reason_of_number NoSuchAddress = refl
reason_of_number ReadOnly = refl
reason_of_number RequestOpen = refl
reason_of_number NotAToken = refl
reason_of_number QueueFull = refl
reason_of_number NotAMessage = refl
reason_of_number DriverOff = refl
reason_of_number NothingHeld = refl
reason_of_number NoSuchKind = refl
reason_of_number WrongLength = refl
reason_of_number TimeTooLong = refl

-- each row's number has its reason
AllNumbered : List Row → Type 0
AllNumbered [] = ⊤
AllNumbered (x ∷ xs) = (number_of (reason x.number) ≡ x.number) × AllNumbered xs

first_numbered : (xs : List Row) → AllNumbered xs → (n : ℕ) → first_no xs ≡ some n → number_of (reason n) ≡ n
unfolding AllNumbered first_no
first_numbered [] h n e = cc
first_numbered (x ∷ xs) h n e = go x.applies (first_numbered xs h.1 n) e
  where
    go : (b : Bool) → (first_no xs ≡ some n → number_of (reason n) ≡ n) → cond b (some x.number) (first_no xs) ≡ some n
        → number_of (reason n) ≡ n
    go true later q = let same : x.number ≡ n = cc in subst (λ (k : ℕ). number_of (reason k) ≡ k) same h.0
    go false later q = later q

pub refusal_numbered : (s : State) (e : Event) (n : ℕ) → refusal s e ≡ some n → number_of (reason n) ≡ n
unfolding AllNumbered refusal reasons reason
refusal_numbered s e n h = first_numbered (table s e) (refl, (refl, (refl, (refl, (refl, (refl, (refl, (refl, (refl, (refl, (refl, (refl, tt)))))))))))) n h

-- ---- each reply means one thing

-- the reply of a meaning
pub reply_of : events.Reply → Reply
reply_of events.done = Ok None
reply_of (events.value v) = Ok (Some v)
reply_of (events.no n) = Err (reason n)

reply_back : (r : Reply) → reply_of (replied r) ≡ r
unfolding reply_of
reply_back (Ok None) = refl
reply_back (Ok (Some v)) = refl
reply_back (Err n) = ap (λ (x : No). Err x) (reason_of_number n)

pub reply_meant : (s : State) (e : Event) → replied (reply_of (reply_to s e)) ≡ reply_to s e
unfolding reply_of reply_to
reply_meant s (write r a v) = refl
reply_meant s (read r a) = refl
reply_meant s (pass r n) = refl
reply_meant s (hard_reset r) = refl
reply_meant s (packet r k m) = refl
reply_meant s (sense r x y z) = refl

pub one_meaning : OneMeaning
one_meaning r s e = sym (reply_back r) ∙ ap reply_of e ∙ reply_back s

same_reply_lem : {r s : Reply} {m n : events.Reply} → replied r ≡ m → replied s ≡ n → m ≡ n → r ≡ s
same_reply_lem {r} {s} p q e = one_meaning r s (p ∙ e ∙ sym q)

pub one_outcome : OneOutcome
one_outcome e d before r s a b p q =
    let same : r.reply ≡ s.reply = same_reply_lem p.reply q.reply refl in (
      record { reply = same; count = p.count ∙ sym q.count; state = p.state ∙ sym q.state; symbols = p.lent ∙ sym q.lent },
      λ n h. p.refused n h ∙ sym (q.refused n (sym same ∙ h)),
    )

pub one_power_up : OnePowerUp
one_power_up d e p q = p.new ∙ sym q.new

pub one_level : OneLevel
one_level d r s p q = p ∙ sym q

-- ---- why was there no GoodCRC?

-- the answer of a reason, or of none
pub why_of : Option Reason → Why No
why_of none = Leaves
why_of (some (refused n)) = Refused (reason n)
why_of (some kind_off) = KindOff
why_of (some crc_wrong) = CrcWrong
why_of (some no_room) = NoRoom
why_of (some is_good_crc) = IsGoodCrc
why_of (some auto_crc_off) = AutoCrcOff
why_of (some auto_pre_on) = AutoPreOn
why_of (some driver_off) = whys.DriverOff

why_back : (w : Why No) → why_of (reason_of w) ≡ w
unfolding why_of
why_back (Refused n) = ap (λ (x : No). Refused x) (reason_of_number n)
why_back KindOff = refl
why_back CrcWrong = refl
why_back NoRoom = refl
why_back IsGoodCrc = refl
why_back AutoCrcOff = refl
why_back AutoPreOn = refl
why_back whys.DriverOff = refl
why_back Leaves = refl

-- each cause's reason is that of an answer
AllAnswered : List Cause → Type 0
AllAnswered [] = ⊤
AllAnswered (x ∷ xs) = (reason_of (why_of (some x.reason)) ≡ some x.reason) × AllAnswered xs

first_answered : (xs : List Cause) → AllAnswered xs → reason_of (why_of (first_cause xs)) ≡ first_cause xs
unfolding AllAnswered first_cause why_of
first_answered [] h = refl
first_answered (x ∷ xs) h = go x.applies (first_answered xs h.1)
  where
    go : (b : Bool) → reason_of (why_of (first_cause xs)) ≡ first_cause xs
        → reason_of (why_of (cond b (some x.reason) (first_cause xs))) ≡ cond b (some x.reason) (first_cause xs)
    go true later = h.0
    go false later = later

pub reason_back : (s : State) (k : ℕ) (m : List ℕ) → reason_of (why_of (why s k m)) ≡ why s k m
unfolding AllAnswered why why_of reasons reason
reason_back s k m = first_answered (causes s k m) (refl, (refl, (refl, (refl, (refl, (refl, (refl, (refl, (refl, tt)))))))))

same_why : (r s : Why No) → reason_of r ≡ reason_of s → r ≡ s
same_why r s e = sym (why_back r) ∙ ap why_of e ∙ why_back s

pub one_why : OneWhy
one_why d k m r s p q = same_why r s (p ∙ sym q)

-- a step is of what the device stands for, and of nothing else
pub view_enough : ViewEnough
view_enough =
    record {
      events = events_alike;
      levels = λ d c r s v p q. p ∙ ap (λ (u : State). not (int_low u)) v ∙ sym q;
      whys = λ d c k m r s v p q. same_why r s (p ∙ ap (λ (u : State). why u k m) v ∙ sym q);
    }
  where
    events_alike : (e : Event) (d c : Device) (before : List ℕ) (r s : Outcome) (a b : List ℕ)
        → view d ≡ view c → Serves e d before r a → Serves e c before s b
        → Alike r s a b × (Asks r.device × Asks s.device)
    events_alike e d c before r s a b v p q =
        let same : step (view d) e ≡ step (view c) e = ap (λ (u : State). step u e) v in (
          record {
            reply = same_reply_lem p.reply q.reply (ap (λ (z : Result). z.reply) same);
            count = p.count ∙ ap (λ (z : Result). length (joined z.frames)) same ∙ sym q.count;
            state = p.state ∙ ap (λ (z : Result). z.state) same ∙ sym q.state;
            symbols = p.lent ∙ ap (λ (z : Result). overlaid (joined z.frames) before) same ∙ sym q.lent;
          },
          (p.asks, q.asks),
        )

-- a frame that is whole has symbols
some_symbols : (f : Frame) → Whole f → 0 < length (joined (f ∷ []))
unfolding joined
some_symbols f w =
    let n : length (symbols_of f ++ []) ≡ length (symbols_of f) = ap length (append-nil (symbols_of f)) in
    ⊎_elim (λ z. omega arith) (λ z. omega (arith, z.0)) (frame_lengths f w)

module _ (d : Device) (k : ℕ) (m : List ℕ) (w : Why No) (before : List ℕ) (r : Outcome) (after : List ℕ)
    (room : frame_room ≤ length before) (is : Explains d k m w) (serves : Serves (packet (length before) k m) d before r after) where
  abbrev sent : List Frame
  sent = (step (view d) (packet (length before) k m)).frames

  answered : w ≡ Leaves → GoodCrcFor k m sent
  answered e = (leaves_exactly.leaves (view d) (length before) k m room).0 (sym is ∙ ap reason_of e)

  sends_some : w ≡ Leaves → 0 < r.count
  sends_some e =
      let g = answered e in
      rw (serves.count, g.alone) (some_symbols g.frame g.whole)

  some_leave : 0 < r.count → w ≡ Leaves
  unfolding joined
  some_leave h = go (why (view d) k m) refl
    where
      go : (o : Option Reason) → why (view d) k m ≡ o → w ≡ Leaves
      go none e = same_why w Leaves (is ∙ e)
      go (some x) e =
          let none-sent = leaves_exactly.stays (view d) (length before) k m x e in
          let n : r.count ≡ 0 = rw none-sent at serves.count in
          absurd (omega arith)

  refuses : (n : No) → (w ≡ Refused n) ↔ (r.reply ≡ Err n)
  refuses n =
      let of-step = leaves_exactly.refuses (view d) (length before) k m (number_of n) room in (
        λ e. one_meaning r.reply (Err n) (serves.reply ∙ of-step.0 (sym is ∙ ap reason_of e)),
        λ e. same_why w (Refused n) (is ∙ of-step.1 (sym serves.reply ∙ ap replied e)),
      )

pub why_true_of_event : WhyTrueOfEvent
why_true_of_event d k m w before r after room is serves =
    record {
      leaves = (sends_some d k m w before r after room is serves, some_leave d k m w before r after room is serves);
      reply =
          λ e. record {
            frames = _;
            good_crc = answered d k m w before r after room is serves e;
            sends = record { count = serves.count; lent = serves.lent };
          };
      refused = refuses d k m w before r after room is serves;
    }
