-- What the functions promise of a stream and the buffer that is read into. What is written, and when, is no part of it: std promises nothing of a write.
-- Assumes nothing.
use Rattle.std.specs.Prelude.{◌≡◌, Bool, true, false, not, ◌&&◌, List, ℕ, ◌≤◌}
use Rattle.stream.specs.declared.Input.{Input}
use Rattle.stream.specs.declared.Stream.{Stream}
use Rattle.stream.specs.Ready.{buffer_room}

-- nothing read, nothing printed
abbrev pub fresh : Stream
fresh = record { input = record { at = 0; end = 0 }; used = 0; on = true }

abbrev pub BeginsFresh : Stream → Type 0
BeginsFresh r = r ≡ fresh

-- all stays as it stood; or what is read, perhaps nothing, stands at the beginning of the buffer
pub record ReadsMore (stays : Bool) (i : Input) (before : List ℕ) (r : Input) (after : List ℕ) : Type 0 where
  pub stood : stays ≡ true → (r ≡ i) × (after ≡ before)
  pub came : stays ≡ false → (r.at ≡ 0) × (r.end ≤ buffer_room)

-- behind a write nothing counts as printed; a run that has ended stays ended
abbrev pub flushed : Stream → Bool → Stream
flushed s went = record { input = s.input; used = 0; on = went && s.on }

-- went is the write's answer, of which nothing is known
pub record WritesOut (s r : Stream) : Type 0 where
  pub went : Bool
  pub leaves : r ≡ flushed s went

-- room is there, or the stream is as behind a write
abbrev pub MakesRoom : Bool → Stream → Stream → Type 0
MakesRoom true s r = r ≡ s
MakesRoom false s r = WritesOut s r

-- as behind a write and, where the run goes on, a read
pub record WritesAndReads (s : Stream) (before : List ℕ) (r : Stream) (after : List ℕ) : Type 0 where
  pub went : Bool
  pub used : r.used ≡ 0
  pub on : r.on ≡ (went && s.on)
  pub input : ReadsMore (not r.on) s.input before r.input after

-- an octet is there, or is read
abbrev pub Fills : Bool → Stream → List ℕ → Stream → List ℕ → Type 0
Fills true s before r after = (r ≡ s) × (after ≡ before)
Fills false s before r after = WritesAndReads s before r after

-- the step's input, output and end; a run that has ended stays ended
pub record StepsTo (s : Stream) (input : Input) (used : ℕ) (ends : Bool) (r : Stream) : Type 0 where
  pub leaves : r ≡ record { input = input; used = used; on = not ends && s.on }
