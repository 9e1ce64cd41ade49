-- Packets heard: GoodCRCs that are not answered, ends without room, and what is recorded.
-- Assumes nothing.
use mathlib.Core.Path.{◌≡◌, refl, ap, ◌∙◌}
use mathlib.Core.Bool.{Bool, true, false, not, cond}
use mathlib.Core.List.{List, [], ◌∷◌, ◌++◌}
use mathlib.Core.Option.{Option, none, some}
use Prim.Native.Nat.{ℕ}
use lib.Bits.{bit_and}
use lib.Dec.{eqb}
use Rattle.line.specs.Crc.{crc_right}
use Rattle.machine.specs.Registers.{switches1, has}
use Rattle.machine.specs.State.{State, reg, with_rx, with_kind, raises, raises_b}
use Rattle.machine.specs.Status.{rx_full, I_ALERT, I_TXSENT, I_SOFTRST, I_GCRCSENT, I_CRC_CHK}
use Rattle.machine.specs.Headers.{GoodCRC, Soft_Reset, control, message_id, is_control}
use Rattle.machine.specs.Requests.{Effect, silent, sends, acknowledged}
use Rattle.machine.specs.Packets.{kind_on, fits_rx, awaited, replies_to, rx_token, only_if, checks, soft_reset_heard, noted, keeps, stores, accepts, hears}
use Rattle.machine.specs.Events.{packet}
use Rattle.machine.specs.Refusals.{refusal}
use Rattle.machine.specs.Step.{accepted, result_of, step}
use Rattle.machine.specs.Theorems.{GoodCrcNotAnswered, HeardRight, AwaitedEnds, Recorded}
use Rattle.machine.proofs.Masks.{Set, set_by, stays_set}

quiet_cond : (b : Bool) (x y : Effect) → x.frames ≡ [] → y.frames ≡ [] → (cond b x y).frames ≡ []
quiet_cond true x y p q = p
quiet_cond false x y p q = q

no_reply : (m : List ℕ) (s : State) → is_control GoodCRC m ≡ true → replies_to m s ≡ false
unfolding replies_to
no_reply m s e = cc

stores_silent : (k : ℕ) (m : List ℕ) (s : State) → is_control GoodCRC m ≡ true → (stores k m s).frames ≡ []
unfolding stores
stores_silent k m s e = rw (no_reply m s e) refl

pub good_crc_not_answered : GoodCrcNotAnswered
unfolding step result_of accepted hears accepts
good_crc_not_answered s room k m e = go (refusal s (packet room k m))
  where
    go : (o : Option ℕ) → (result_of o s (packet room k m)).frames ≡ []
    go (some n) = refl
    go none =
        quiet_cond (kind_on k s) _ _
        (quiet_cond (crc_right m) _ _ (quiet_cond (fits_rx m (noted k m s)) _ _ (stores_silent k m (noted k m s) e) refl) refl)
        refl

-- what storing or dropping a packet leaves: queue, request and 3E; bits of 42 stay set
pub record Leaves (s t : State) : Type 0 where
  pub tx : t.tx ≡ s.tx
  pub request : t.request ≡ s.request
  pub a : t.ints.a ≡ s.ints.a
  pub main : (m : ℕ) → Set m s.ints.main → Set m t.ints.main

alerts : (s t : State) → Leaves s t → (b : Bool) → Leaves s (only_if b (raises I_ALERT) t)
alerts s t h true =
    record { tx = h.tx; request = h.request; a = h.a; main = λ m z. stays_set m t.ints.main I_ALERT (h.main m z) }
alerts s t h false = h

leaves_cond : (s : State) (b : Bool) (x y : Effect) → Leaves s x.state → Leaves s y.state → Leaves s (cond b x y).state
leaves_cond s true x y p q = p
leaves_cond s false x y p q = q

same : (s : State) → Leaves s s
same s = record { tx = refl; request = refl; a = refl; main = λ m z. z }

keeps_leaves : (k : ℕ) (m : List ℕ) (s : State) → Leaves s (keeps k m s)
unfolding keeps
keeps_leaves k m s =
    alerts s (with_kind k (with_rx (s.rx ++ (rx_token k ∷ m)) s)) (record { tx = refl; request = refl; a = refl; main = λ m z. z })
    (rx_full (with_rx (s.rx ++ (rx_token k ∷ m)) s))

stores_leaves : (k : ℕ) (m : List ℕ) (s : State) → Leaves s (stores k m s).state
unfolding stores
stores_leaves k m s = go (replies_to m s)
  where
    t : Leaves s (keeps k m s)
    t = keeps_leaves k m s

    go : (b : Bool)
        → Leaves s (cond b (sends (control GoodCRC k (reg switches1 s) (message_id m)) (raises_b I_GCRCSENT (keeps k m s))) (silent (keeps k m s))).state
    go true = record { tx = t.tx; request = t.request; a = t.a; main = t.main }
    go false = t

pub accepts_leaves : (k : ℕ) (m : List ℕ) (s : State) → Leaves (noted k m s) (accepts k m s).state
unfolding accepts
accepts_leaves k m s =
    leaves_cond (noted k m s) (fits_rx m (noted k m s)) _ _ (stores_leaves k m (noted k m s)) (alerts (noted k m s) _ (same (noted k m s)) true)

heard : (s : State) (room k : ℕ) (m : List ℕ) → HeardRight s room k m → (step s (packet room k m)).state ≡ (accepts k m s).state
unfolding step result_of accepted hears
heard s room k m h = rw (h.taken, h.on, h.right) refl

-- what is known once the CRC is right
record Noted (t : State) : Type 0 where
  request : t.request ≡ none
  tx : t.tx ≡ []
  a : Set I_TXSENT t.ints.a

acknowledges : (k : ℕ) (m : List ℕ) (s : State) → awaited k m s ≡ true → Noted (noted k m s)
acknowledges k m s e = go (is_control Soft_Reset m)
  where
    ended : Noted (only_if (awaited k m s) acknowledged (checks s))
    ended = rw e (record { request = refl; tx = refl; a = set_by s.ints.a I_TXSENT })

    go : (b : Bool) → Noted (only_if b soft_reset_heard (only_if (awaited k m s) acknowledged (checks s)))
    go true =
        record {
          request = ended.request;
          tx = ended.tx;
          a = stays_set I_TXSENT (only_if (awaited k m s) acknowledged (checks s)).ints.a I_SOFTRST ended.a;
        }
    go false = ended

pub awaited_ends : AwaitedEnds
unfolding has
awaited_ends s room k m h e =
    let n = acknowledges k m s e in
    let l = accepts_leaves k m s in
    let set : Set I_TXSENT (accepts k m s).state.ints.a = ap (λ (x : ℕ). bit_and x I_TXSENT) l.a ∙ n.a in
    rw (heard s room k m h) (l.request ∙ n.request, (l.tx ∙ n.tx, ap (λ (x : ℕ). not (eqb x 0)) set))

checks_crc : (k : ℕ) (m : List ℕ) (s : State) → Set I_CRC_CHK (noted k m s).ints.main
checks_crc k m s = go (is_control Soft_Reset m) (awaited k m s)
  where
    go : (b c : Bool) → Set I_CRC_CHK (only_if b soft_reset_heard (only_if c acknowledged (checks s))).ints.main
    go true true = set_by s.ints.main I_CRC_CHK
    go true false = set_by s.ints.main I_CRC_CHK
    go false true = set_by s.ints.main I_CRC_CHK
    go false false = set_by s.ints.main I_CRC_CHK

pub recorded : Recorded
unfolding has
recorded s room k m h =
    rw (heard s room k m h) (ap (λ (x : ℕ). not (eqb x 0)) ((accepts_leaves k m s).main I_CRC_CHK (checks_crc k m s)))
