-- What each function leaves lies in the buffers, and room that is made is there.
-- Assumes nothing.
use mathlib.Core.Path.{◌≡◌, refl, sym, ap, ◌∙◌, subst}
use mathlib.Core.Bool.{Bool, true, false, not}
use mathlib.Core.List.{List}
use Prim.Native.Nat.{ℕ, ◌+◌, ◌≤◌}
use native.Mathlib.Omega.{arith}
use borrow.Author.Tests.{le-leb}
use lib.ListN.{length}
use Rattle.text.specs.Put.{has_room}
use Rattle.stream.specs.declared.Input.{Input}
use Rattle.stream.specs.declared.Stream.{Stream}
use Rattle.stream.specs.Ready.{buffer_room, octet_waits, InBuffer, Ready}
use Rattle.stream.specs.Promises.{BeginsFresh, ReadsMore, WritesOut, MakesRoom, Fills, StepsTo}
use Rattle.stream.specs.Theorems.{StaysReady, RoomIsMade}

pub begin_ready : (r : Stream) → BeginsFresh r → Ready r
begin_ready r e = subst Ready (sym e) (record { input = (omega arith, omega arith); output = omega arith })

more_inside : (b : Bool) {i r : Input} {before after : List ℕ} → InBuffer i → ReadsMore b i before r after → InBuffer r
more_inside true h p = rw (p.stood refl).0 h
more_inside false h p = let z = (p.came refl).0 in let n = (p.came refl).1 in (omega arith, n)

pub write_out_ready : (s r : Stream) → Ready s → WritesOut s r → Ready r
write_out_ready s r h p = subst Ready (sym p.leaves) (record { input = h.input; output = omega arith })

makes_ready : (b : Bool) (s r : Stream) → Ready s → MakesRoom b s r → Ready r
makes_ready true s r h p = rw p h
makes_ready false s r h p = write_out_ready s r h p

pub room_ready : (s r : Stream) (need : ℕ) (out : List ℕ) → Ready s → MakesRoom (has_room need out s.used) s r → Ready r
room_ready s r need out h p = makes_ready (has_room need out s.used) s r h p

fills_ready : (b : Bool) (s r : Stream) (before after : List ℕ) → Ready s → Fills b s before r after → Ready r
fills_ready true s r before after h p = rw p.0 h
fills_ready false s r before after h p =
    let n = p.used in
    record { input = more_inside (not r.on) h.input p.input; output = omega arith }

pub fill_ready : (s r : Stream) (before after : List ℕ) → Ready s → Fills (octet_waits s.input) s before r after → Ready r
fill_ready s r before after h p = fills_ready (octet_waits s.input) s r before after h p

pub stepped_ready : (s : Stream) (input : Input) (used : ℕ) (ends : Bool) (r : Stream) → InBuffer input → used ≤ buffer_room → StepsTo s input used ends r → Ready r
stepped_ready s input used ends r h k p = subst Ready (sym p.leaves) (record { input = h; output = k })

pub stays_ready : StaysReady
stays_ready = record { begin = begin_ready; write_out = write_out_ready; room = room_ready; fill = fill_ready; stepped = stepped_ready }

pub room_is_made : RoomIsMade
room_is_made s r need out fits = go (has_room need out s.used) refl
  where
    go : (b : Bool) → has_room need out s.used ≡ b → MakesRoom b s r → has_room need out r.used ≡ true
    go true e p = ap (λ (x : Stream). has_room need out x.used) p ∙ e
    go false e p = ap (λ (x : Stream). has_room need out x.used) p.leaves ∙ le-leb (0 + need) (length out) (omega arith)
