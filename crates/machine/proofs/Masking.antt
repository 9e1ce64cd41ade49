-- The masks change nothing of a step: no test, no effect and no refusal reads them. Time reads no cell at all.
-- Assumes nothing.
use mathlib.Core.Path.{◌≡◌, refl, sym, ap, ◌∙◌}
use mathlib.Core.Bool.{Bool, true, false, cond, ◌||◌, true≢false}
use mathlib.Core.List.{List, [], ◌∷◌}
use mathlib.Core.Option.{Option, none, some}
use Prim.Native.Nat.{ℕ, zero, suc, ◌+◌, ◌-◌}
use native.Mathlib.Omega.{arith}
use borrow.Author.Tests.{eqb-false}
use lib.Bits.{bit_and}
use lib.Dec.{eqb}
use lib.ListN.{get_or, set, drop}
use lib.Seq.{set-set, set_comm, get_or-set_other}
use Rattle.line.specs.Frame.{Frame}
use Rattle.machine.specs.Registers.{stored_bits, stored, cell, switches0, switches1, measure, control0, control1, control3, mask, power, reset, maska, maskb, fifos, has, TX_FLUSH, PD_RESET, SW_RES}
use Rattle.machine.specs.State.{Phase, message, soft_reset, Pins, State, Request, power_up, with_cells, with_rx, with_ints, with_pins, raises}
use Rattle.machine.specs.Pins.{readings}
use Rattle.machine.specs.Status.{status1a_of, status0_of, status1_of, changes, reports, cleared_at}
use Rattle.machine.specs.Headers.{Soft_Reset, is_control}
use Rattle.machine.specs.Requests.{Effect, silent, sends_if, latched, start, over, acknowledged, send_hard_reset, hard_reset_heard, soft_reset_follows, message_fails, soft_fails, fails, expires, elapses, passes}
use Rattle.machine.specs.Packets.{kind_on, awaited, awaited_by, replies_to, only_if, checks, soft_reset_heard, noted, keeps, stores, accepts, hears}
use Rattle.machine.specs.Events.{Event, write, read, pass, hard_reset, packet, sense, value, on_read}
use Rattle.machine.specs.Refusals.{port_start, starts, to_be_stored, queue_at, no12, no1, no2, no6, no3, no5, no4, no7, no8, no11, no9, no10, refusal}
use Rattle.machine.specs.Step.{restored, pd_reset, queues, control0_written, control1_written, control3_written, reset_written, port_written, commands, writes, sw_reset, written, senses, after_read, read_value, accepted, reply_to, result_of, step}
use Rattle.machine.specs.Theorems.{SameButMasks, is_mask, MasksOnlyMask}

-- ---- cells

-- a cell that is cleared in the end may be cleared before another is set
clear_set : (l : List ℕ) (i j x : ℕ) → set (set l i x) j 0 ≡ set (set (set l j 0) i x) j 0
clear_set [] i j x = refl
clear_set (y ∷ l) zero zero x = refl
clear_set (y ∷ l) zero (suc j) x = ap (λ (m : List ℕ). x ∷ m) (sym (set-set l j 0 0))
clear_set (y ∷ l) (suc i) zero x = refl
clear_set (y ∷ l) (suc i) (suc j) x = ap (λ (m : List ℕ). y ∷ m) (clear_set l i j x)

-- two cells
clear_two : (l : List ℕ) (i j k x : ℕ) → (j ≡ k → ⊥)
    → set (set (set l i x) j 0) k 0 ≡ set (set (set (set (set l j 0) k 0) i x) j 0) k 0
clear_two l i j k x h =
    ap (λ (m : List ℕ). set m k 0) (clear_set l i j x)
    ∙ set_comm (set (set l j 0) i x) j k 0 0 h
    ∙ ap (λ (m : List ℕ). set m j 0) (clear_set (set l j 0) i k x)
    ∙ sym (set_comm (set (set (set l j 0) k 0) i x) j k 0 0 h)

-- Maskb, Maska and Mask
cleared : List ℕ → List ℕ
cleared c = set (set (set c 13 0) 12 0) 8 0

cleared_set : (c : List ℕ) (i x : ℕ) → cleared (set c i x) ≡ cleared (set (cleared c) i x)
unfolding cleared
cleared_set c i x =
    let d = set (set c 13 0) 12 0 in
    ap (λ (m : List ℕ). set m 8 0) (clear_two c i 13 12 x (λ e. omega arith))
    ∙ behind (set d i x)
    ∙ ap (λ (m : List ℕ). set (set m 13 0) 12 0) (clear_set d i 8 x)
    ∙ sym (behind (set (set d 8 0) i x))
  where
    behind : (l : List ℕ) → set (set (set l 13 0) 12 0) 8 0 ≡ set (set (set l 8 0) 13 0) 12 0
    behind l =
        set_comm (set l 13 0) 12 8 0 0 (λ e. omega arith) ∙ ap (λ (m : List ℕ). set m 12 0) (set_comm l 13 8 0 0 (λ e. omega arith))

-- the registers that a step reads
record Agree (c d : List ℕ) : Type 0 where
  s0 : cell switches0 d ≡ cell switches0 c
  sw : cell switches1 d ≡ cell switches1 c
  me : cell measure d ≡ cell measure c
  c0 : cell control0 d ≡ cell control0 c
  c1 : cell control1 d ≡ cell control1 c
  c3 : cell control3 d ≡ cell control3 c
  pw : cell power d ≡ cell power c

kept : (i : ℕ) → (i ≡ 8 → ⊥) → (i ≡ 12 → ⊥) → (i ≡ 13 → ⊥) → (l : List ℕ) → get_or (cleared l) i 0 ≡ get_or l i 0
unfolding cleared
kept i a b c l =
    get_or-set_other (set (set l 13 0) 12 0) 8 i 0 0 a ∙ get_or-set_other (set l 13 0) 12 i 0 0 b ∙ get_or-set_other l 13 i 0 0 c

same_cell : (c d : List ℕ) → cleared c ≡ cleared d → (i : ℕ) → (i ≡ 8 → ⊥) → (i ≡ 12 → ⊥) → (i ≡ 13 → ⊥) → get_or d i 0 ≡ get_or c i 0
same_cell c d h i x y z = sym (kept i x y z d) ∙ ap (λ (l : List ℕ). get_or l i 0) (sym h) ∙ kept i x y z c

agree : (c d : List ℕ) → cleared c ≡ cleared d → Agree c d
unfolding cell
agree c d h =
    record {
      s0 = same_cell c d h 0 (λ e. omega arith) (λ e. omega arith) (λ e. omega arith);
      sw = same_cell c d h 1 (λ e. omega arith) (λ e. omega arith) (λ e. omega arith);
      me = same_cell c d h 2 (λ e. omega arith) (λ e. omega arith) (λ e. omega arith);
      c0 = same_cell c d h 4 (λ e. omega arith) (λ e. omega arith) (λ e. omega arith);
      c1 = same_cell c d h 5 (λ e. omega arith) (λ e. omega arith) (λ e. omega arith);
      c3 = same_cell c d h 7 (λ e. omega arith) (λ e. omega arith) (λ e. omega arith);
      pw = same_cell c d h 9 (λ e. omega arith) (λ e. omega arith) (λ e. omega arith);
    }

-- ---- other cells, and the same effect

module _ (d : List ℕ) where
  abbrev With : Effect → Effect
  With x = record { state = with_cells d x.state; frames = x.frames }

  cells_if : (b : Bool) (s t : State) → with_cells d (cond b s t) ≡ cond b (with_cells d s) (with_cells d t)
  cells_if true s t = refl
  cells_if false s t = refl

  with_if : (b : Bool) (x y : Effect) → With (cond b x y) ≡ cond b (With x) (With y)
  with_if true x y = refl
  with_if false x y = refl

  with_sends : (o : Option Frame) (s : State) → With (sends_if o s) ≡ sends_if o (with_cells d s)
  with_sends none s = refl
  with_sends (some f) s = refl

  with_resets : (w : ℕ) (q : Request) (o : Option Frame) (s : State) → With (soft_reset_follows w q o s) ≡ soft_reset_follows w q o (with_cells d s)
  with_resets w q none s = refl
  with_resets w q (some f) s = refl

  -- ---- time

  fails_with : (p : Phase) (w : ℕ) (q : Request) (s : State) → fails p w q (with_cells d s) ≡ With (fails p w q s)
  unfolding fails message_fails soft_fails
  fails_with message w q s = simp (with_if, with_resets)
  fails_with (soft_reset k) w q s = simp with_if

  elapses_with : (w : ℕ) (q : Request) (s : State) → elapses w q (with_cells d s) ≡ With (elapses w q s)
  unfolding elapses expires
  elapses_with w q s = simp (with_if, with_sends, fails_with)

  pub passes_with : (n : ℕ) (o : Option Request) (s : State) → passes n o (with_cells d s) ≡ With (passes n o s)
  unfolding passes
  passes_with n none s = refl
  passes_with n (some q) s = elapses_with (q.waited + n) q s

  module _ (s : State) (same : Agree s.cells d) where
    start_with : start (with_cells d s) ≡ With (start s)
    unfolding start latched
    start_with = simp (same.sw, same.c3, with_sends)

    -- ---- packets

    keeps_with : (k : ℕ) (m : List ℕ) → keeps k m (with_cells d s) ≡ with_cells d (keeps k m s)
    unfolding keeps
    keeps_with k m = simp cells_if

    stores_with : (k : ℕ) (m : List ℕ) → stores k m (with_cells d s) ≡ With (stores k m s)
    unfolding stores replies_to
    stores_with k m = simp (same.sw, same.c0, keeps_with, with_if)

  awaited_with : (k : ℕ) (m : List ℕ) (s : State) (o : Option Request) → awaited_by k m (with_cells d s) o ≡ awaited_by k m s o
  unfolding awaited_by
  awaited_with k m s none = refl
  awaited_with k m s (some q) = refl

  noted_with : (k : ℕ) (m : List ℕ) (s : State) → noted k m (with_cells d s) ≡ with_cells d (noted k m s)
  noted_with k m s =
      let heard = is_control Soft_Reset m in
      let t = only_if (awaited k m s) acknowledged (checks s) in
      rw (awaited_with k m s s.request)
      (ap (only_if heard soft_reset_heard) (sym (cells_if (awaited k m s) (acknowledged (checks s)) (checks s)))
      ∙ sym (cells_if heard (soft_reset_heard t) t))

  noted_cells : (k : ℕ) (m : List ℕ) (s : State) → (noted k m s).cells ≡ s.cells
  noted_cells k m s = go (is_control Soft_Reset m) (awaited k m s)
    where
      go : (b c : Bool) → (only_if b soft_reset_heard (only_if c acknowledged (checks s))).cells ≡ s.cells
      go true true = refl
      go true false = refl
      go false true = refl
      go false false = refl

  module _ (s : State) (same : Agree s.cells d) (k : ℕ) (m : List ℕ) where
    accepts_with : accepts k m (with_cells d s) ≡ With (accepts k m s)
    unfolding accepts
    accepts_with = simp (noted_with, with_if, stores_with (noted k m s) (rw (noted_cells k m s) same) k m)

    hears_with : hears k m (with_cells d s) ≡ With (hears k m s)
    unfolding hears kind_on
    hears_with = simp (same.c1, with_if, accepts_with)

  -- ---- writes

  module _ (s : State) (same : Agree s.cells d) (v : ℕ) where
    port_with : port_written v (with_cells d s) ≡ With (port_written v s)
    unfolding port_written port_start queues
    port_with = simp (with_if, cells_if, start_with s same)

    control0_with : control0_written v (with_cells d s) ≡ With (control0_written v s)
    unfolding control0_written
    control0_with = rw (← cells_if (has TX_FLUSH v) (over s) s) (simp (with_if, flushed (has TX_FLUSH v)))
      where
        flushed : (b : Bool) → start (with_cells d (only_if b over s)) ≡ With (start (only_if b over s))
        flushed true = start_with (over s) same
        flushed false = start_with s same

    control1_with : control1_written v (with_cells d s) ≡ With (control1_written v s)
    unfolding control1_written
    control1_with = simp cells_if

    control3_with : control3_written v (with_cells d s) ≡ With (control3_written v s)
    unfolding control3_written send_hard_reset
    control3_with = simp with_if

-- ---- steps

record Same (x y : Effect) : Type 0 where
  state : SameButMasks x.state y.state
  frames : x.frames ≡ y.frames

same_if : (b : Bool) (x y u v : Effect) → Same x u → Same y v → Same (cond b x y) (cond b u v)
same_if true x y u v p q = p
same_if false x y u v p q = q

itself : (c : List ℕ) → Agree c c
itself c = record { s0 = refl; sw = refl; me = refl; c0 = refl; c1 = refl; c3 = refl; pw = refl }

module _ (s : State) (d : List ℕ) (h : cleared s.cells ≡ cleared d) where
  -- an effect that reads no mask leaves the cells, and so the masks alone differ
  same_with : (f : State → Effect) → ((c : List ℕ) → Agree s.cells c → f (with_cells c s) ≡ With c (f s)) → Same (f s) (f (with_cells d s))
  unfolding cleared stored
  same_with f e =
      let cells : (f s).state.cells ≡ s.cells = ap (λ (x : Effect). x.state.cells) (e s.cells (itself s.cells)) in
      rw (e d (agree s.cells d h))
      (record { state = record { same = ap (λ (l : List ℕ). with_cells l (f s).state) (ap cleared cells ∙ h) }; frames = refl })

  reset_same : (v : ℕ) → Same (reset_written v s) (reset_written v (with_cells d s))
  unfolding reset_written restored pd_reset
  reset_same v = go (has SW_RES v)
    where
      go : (b : Bool)
          → Same (silent (cond b (with_pins s.pins power_up) (only_if (has PD_RESET v) pd_reset s)))
          (silent (cond b (with_pins s.pins power_up) (only_if (has PD_RESET v) pd_reset (with_cells d s))))
      go true = record { state = record { same = refl }; frames = refl }
      go false = same_with (λ (u : State). silent (only_if (has PD_RESET v) pd_reset u)) (λ c a. ap silent (sym (cells_if c (has PD_RESET v) (pd_reset s) s)))

  commands_same : (a v : ℕ) → Same (commands a v s) (commands a v (with_cells d s))
  unfolding commands
  commands_same a v =
      same_if (eqb a control0) _ _ _ _ (same_with (control0_written v) (λ c g. control0_with c s g v))
      (same_if (eqb a control1) _ _ _ _ (same_with (control1_written v) (λ c g. control1_with c s g v))
      (same_if (eqb a control3) _ _ _ _ (same_with (control3_written v) (λ c g. control3_with c s g v))
      (same_if (eqb a reset) _ _ _ _ (reset_same v) (same_with silent (λ c g. refl)))))

-- ---- what the comparators show

readings_with : (s : State) (d : List ℕ) → Agree s.cells d → readings (with_cells d s) ≡ readings s
unfolding readings
readings_with s d same = rw (same.s0, same.me, same.pw) refl

shown_same : (s t : State) → SameButMasks s t → readings t ≡ readings s
unfolding cleared stored
shown_same s t h =
    ap (λ (u : State). readings u) (sym (ap (with_cells t.cells) h.same))
    ∙ readings_with s t.cells (agree s.cells t.cells (ap (λ (u : State). u.cells) h.same))

reports_same : (s u t v : State) → SameButMasks s t → SameButMasks u v → SameButMasks (reports s u) (reports t v)
reports_same s u t v h k =
    record {
      same =
          rw (shown_same s t h, shown_same u v k)
          (ap (raises (changes (readings s) (readings u))) k.same);
    }

stored_same : (c d : List ℕ) (a v : ℕ) → cleared c ≡ cleared d → cleared (stored a v c) ≡ cleared (stored a v d)
unfolding stored
stored_same c d a v h =
    let x = bit_and v (get_or stored_bits (a - 2) 0) in
    cleared_set c (a - 2) x ∙ ap (λ (l : List ℕ). cleared (set l (a - 2) x)) h ∙ sym (cleared_set d (a - 2) x)

neither : (b c : Bool) → (b || c) ≡ false → (b ≡ false) × (c ≡ false)
neither false c e = (refl, e)
neither true c e = absurd (true≢false e)

module _ (s : State) (d : List ℕ) (h : cleared s.cells ≡ cleared d) where
  writes_same : (a v : ℕ) → Same (writes a v s) (writes a v (with_cells d s))
  unfolding writes
  writes_same a v =
      same_if (eqb a fifos) _ _ _ _ (same_with s d h (port_written v) (λ c g. port_with c s g v))
      (commands_same (with_cells (stored a v s.cells) s) (stored a v d) (stored_same s.cells d a v h) a v)

  written_same : (a v : ℕ) → Same (written a v s) (written a v (with_cells d s))
  unfolding written
  written_same a v =
      let w = writes_same a v in
      record { state = go (sw_reset a v) w; frames = w.frames }
    where
      go : (b : Bool) → Same (writes a v s) (writes a v (with_cells d s))
          → SameButMasks (cond b (writes a v s).state (reports s (writes a v s).state))
          (cond b (writes a v (with_cells d s)).state (reports (with_cells d s) (writes a v (with_cells d s)).state))
      go true w = w.state
      go false w = reports_same s _ (with_cells d s) _ (same_with s d h silent (λ c g. refl)).state w.state

  accepted_same : (e : Event) → Same (accepted s e) (accepted (with_cells d s) e)
  unfolding accepted after_read hard_reset_heard senses
  accepted_same (write r a v) = written_same a v
  accepted_same (read r a) =
      same_with s d h (λ (u : State). silent (cond (eqb a fifos) (with_rx (drop 1 u.rx) u) (with_ints (cleared_at a u.ints) u)))
      (λ c g. ap silent (go c (eqb a fifos)))
    where
      go : (c : List ℕ) (b : Bool)
          → cond b (with_rx (drop 1 s.rx) (with_cells c s)) (with_ints (cleared_at a s.ints) (with_cells c s))
          ≡ with_cells c (cond b (with_rx (drop 1 s.rx) s) (with_ints (cleared_at a s.ints) s))
      go c true = refl
      go c false = refl
  accepted_same (pass r n) = same_with s d h (λ (u : State). passes n u.request u) (λ c g. passes_with c n s.request s)
  accepted_same (hard_reset r) = same_with s d h (λ (u : State). silent (hard_reset_heard u)) (λ c g. refl)
  accepted_same (packet r k m) = same_with s d h (hears k m) (λ c g. hears_with c s g k m)
  accepted_same (sense r x y z) =
      let p : Pins = record { cc1 = x; cc2 = y; vbus = z } in
      same_with s d h (λ (u : State). silent (senses p u))
      (λ c g. rw (readings_with s c g, readings_with (with_pins p s) c g) refl)

  refusal_same : (e : Event) → refusal (with_cells d s) e ≡ refusal s e
  unfolding refusal port_start starts to_be_stored queue_at no12 no1 no2 no6 no3 no5 no4 no7 no8 no11 no9 no10
  refusal_same (write r a v) = rw (agree s.cells d h).sw refl
  refusal_same (read r a) = refl
  refusal_same (pass r n) = refl
  refusal_same (hard_reset r) = refl
  refusal_same (packet r k m) = refl
  refusal_same (sense r x y z) = refl

  step_same : (e : Event)
      → SameButMasks (step s e).state (step (with_cells d s) e).state × ((step s e).frames ≡ (step (with_cells d s) e).frames)
  unfolding step result_of
  step_same e = rw (refusal_same e) (go (refusal s e))
    where
      go : (o : Option ℕ)
          → SameButMasks (result_of o s e).state (result_of o (with_cells d s) e).state × ((result_of o s e).frames ≡ (result_of o (with_cells d s) e).frames)
      go (some n) = let z = same_with s d h silent (λ c g. refl) in (z.state, z.frames)
      go none = let z = accepted_same e in (z.state, z.frames)

  value_same : (a : ℕ) → is_mask a ≡ false → read_value a (with_cells d s) ≡ read_value a s
  unfolding read_value cell status0_of status1_of status1a_of
  value_same a n =
      let e = neither (eqb a mask) (eqb a maska || eqb a maskb) n in
      let f = neither (eqb a maska) (eqb a maskb) e.1 in
      rw (
        same_cell s.cells d h (a - 2)
            (λ z. eqb-false a 0x0A e.0 (omega arith)) (λ z. eqb-false a 0x0E f.0 (omega arith)) (λ z. eqb-false a 0x0F f.1 (omega arith)),
        readings_with s d (agree s.cells d h),
      ) refl

  reply_same : (e : Event) → on_read is_mask e ≡ false → reply_to (with_cells d s) e ≡ reply_to s e
  unfolding reply_to
  reply_same (write r a v) n = refl
  reply_same (read r a) n = ap value (value_same a n)
  reply_same (pass r k) n = refl
  reply_same (hard_reset r) n = refl
  reply_same (packet r k m) n = refl
  reply_same (sense r x y z) n = refl

  step_reply : (e : Event) → on_read is_mask e ≡ false → (step s e).reply ≡ (step (with_cells d s) e).reply
  unfolding step result_of
  step_reply e n = rw (refusal_same e) (go (refusal s e))
    where
      go : (o : Option ℕ) → (result_of o s e).reply ≡ (result_of o (with_cells d s) e).reply
      go (some k) = refl
      go none = sym (reply_same e n)

-- ---- the theorem, of any two states that differ in the masks alone

module _ (s t : State) (h : SameButMasks s t) where
  same_cells : cleared s.cells ≡ cleared t.cells
  unfolding cleared stored
  same_cells = ap (λ (u : State). u.cells) h.same

  rest : with_cells t.cells s ≡ t
  rest = ap (with_cells t.cells) h.same

pub masks_only_mask : MasksOnlyMask
masks_only_mask =
    record {
      states = λ s t e h. rw (rest s t h) at (step_same s t.cells (same_cells s t h) e).0;
      recorded = λ s t e h. ap (λ (u : State). u.ints) (rw (rest s t h) at (step_same s t.cells (same_cells s t h) e).0).same;
      frames = λ s t e h. rw (rest s t h) at (step_same s t.cells (same_cells s t h) e).1;
      replies = λ s t e h n. rw (rest s t h) at (step_reply s t.cells (same_cells s t h) e n);
    }
