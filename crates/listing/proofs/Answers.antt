-- What the reader's answer says of the symbols that it was given, with room for any frame's octets.
-- Assumes nothing.
use mathlib.Core.Path.{◌≡◌, sym, ap, ◌∙◌}
use mathlib.Core.List.{List}
use Prim.Native.Nat.{ℕ, ◌≤◌}
use native.Mathlib.Omega.{arith}
use lib.ListN.{length, take, drop, length-append}
use lib.Seq.{take_at}
use Rattle.std.specs.Prelude.{Result, Ok, Err}
use Rattle.line.specs.declared.read.FoundFrame.{FoundFrame}
use Rattle.line.specs.declared.read.ReadError.{ReadError}
use Rattle.line.specs.declared.read.ReadError.TheVariants.{SmallBuffer, NoFrame, TooShort, WrongCrc}
use Rattle.line.specs.Numbered.{kind_number}
use Rattle.line.specs.Read.{ReadFrame, First, frame, wrong_crc, too_short, no_frame, first}
use Rattle.line.specs.Reader.{octet_room, said, says_of, filled, Reads}
use Rattle.line.proofs.Tails.{with_room}

module _ (w before after : List ℕ) (a : Result FoundFrame ReadError) (room : octet_room ≤ length before) (r : Reads w 0 before a after) where
  -- whatever the answer says is what the symbols are
  inverts : (b : Result FoundFrame ReadError) (P : First → Type 0) → a ≡ b → ((f : First) → said b ≡ says_of 0 f → after ≡ filled f before → P f) → P (first w)
  inverts b P e each =
      let t = with_room w 0 before a after room r in
      each (first w) (ap said (sym e) ∙ t.says) t.leaves

  abbrev pub read : FoundFrame → ReadFrame
  read found = record { shape = record { kind = kind_number found.kind; octets = take found.count after }; exact = found.exact }

  pub is_frame : (found : FoundFrame) → a ≡ Ok found → first w ≡ frame (read found)
  unfolding says_of filled
  is_frame found e = inverts (Ok found) (λ f. f ≡ frame (read found)) e go
    where
      go : (f : First) → said (Ok found) ≡ says_of 0 f → after ≡ filled f before → f ≡ frame (read found)
      go (frame r) e l =
          let s = r.shape in
          let kind : s.kind ≡ kind_number found.kind = cc in
          let mark : r.exact ≡ found.exact = cc in
          let count : length s.octets ≡ found.count = cc in
          let octets : s.octets ≡ take found.count after = sym (ap (take found.count) l ∙ take_at s.octets _ found.count count) in
          λ i. frame (record { shape = record { kind = kind i; octets = octets i }; exact = mark i })
      go (wrong_crc p) e l = cc
      go (too_short p) e l = cc
      go (no_frame p) e l = cc

  pub is_none : (p : ℕ) → a ≡ Err (NoFrame p) → first w ≡ no_frame p
  unfolding says_of filled
  is_none p e = inverts (Err (NoFrame p)) (λ f. f ≡ no_frame p) e go
    where
      go : (f : First) → said (Err (NoFrame p)) ≡ says_of 0 f → after ≡ filled f before → f ≡ no_frame p
      go (frame r) e l = cc
      go (wrong_crc q) e l = cc
      go (too_short q) e l = cc
      go (no_frame q) e l = cc

  pub is_short : (p : ℕ) → a ≡ Err (TooShort p) → first w ≡ too_short p
  unfolding says_of filled
  is_short p e = inverts (Err (TooShort p)) (λ f. f ≡ too_short p) e go
    where
      go : (f : First) → said (Err (TooShort p)) ≡ says_of 0 f → after ≡ filled f before → f ≡ too_short p
      go (frame r) e l = cc
      go (wrong_crc q) e l = cc
      go (too_short q) e l = cc
      go (no_frame q) e l = cc

  pub is_wrong : (p : ℕ) → a ≡ Err (WrongCrc p) → first w ≡ wrong_crc p
  unfolding says_of filled
  is_wrong p e = inverts (Err (WrongCrc p)) (λ f. f ≡ wrong_crc p) e go
    where
      go : (f : First) → said (Err (WrongCrc p)) ≡ says_of 0 f → after ≡ filled f before → f ≡ wrong_crc p
      go (frame r) e l = cc
      go (wrong_crc q) e l = cc
      go (too_short q) e l = cc
      go (no_frame q) e l = cc

  -- with room it is never asked for more
  pub not_small : a ≡ Err SmallBuffer → ⊥
  unfolding says_of filled
  not_small e = inverts (Err SmallBuffer) (λ f. ⊥) e go
    where
      go : (f : First) → said (Err SmallBuffer) ≡ says_of 0 f → after ≡ filled f before → ⊥
      go (frame r) e l = let z : ◌≡◌ {A = ℕ} 0 1 = cc in omega arith
      go (wrong_crc q) e l = let z : ◌≡◌ {A = ℕ} 0 1 = cc in omega arith
      go (too_short q) e l = let z : ◌≡◌ {A = ℕ} 0 1 = cc in omega arith
      go (no_frame q) e l = let z : ◌≡◌ {A = ℕ} 0 1 = cc in omega arith

  -- a frame's octets are all there
  pub count_fits : (found : FoundFrame) → a ≡ Ok found → found.count ≤ length after
  unfolding says_of filled
  count_fits found e = inverts (Ok found) (λ f. found.count ≤ length after) e go
    where
      go : (f : First) → said (Ok found) ≡ says_of 0 f → after ≡ filled f before → found.count ≤ length after
      go (frame r) e l =
          let s = r.shape in
          let count : length s.octets ≡ found.count = cc in
          omega (arith, ap length l, length-append s.octets (drop (length s.octets) before))
      go (wrong_crc p) e l = let z : ◌≡◌ {A = ℕ} 0 1 = cc in absurd (omega arith)
      go (too_short p) e l = let z : ◌≡◌ {A = ℕ} 0 1 = cc in absurd (omega arith)
      go (no_frame p) e l = let z : ◌≡◌ {A = ℕ} 0 1 = cc in absurd (omega arith)
