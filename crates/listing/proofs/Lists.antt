-- Of whole frames each is shown; and character by character, all of an input is listed.
-- Assumes nothing.
use mathlib.Core.Path.{◌≡◌, refl, sym, ap, ◌∙◌}
use mathlib.Core.Bool.{Bool, true, false}
use mathlib.Core.List.{List, [], ◌∷◌, ◌++◌, append_assoc, append-nil}
use Prim.Native.Nat.{ℕ, ◌+◌}
use native.Mathlib.Omega.{arith}
use lib.ListN.{length, length-append}
use lib.Seq.{append_snoc}
use Rattle.line.specs.Frame.{drawn}
use Rattle.line.specs.Read.{set_at, ReadFrame, First, frame, wrong_crc, too_short, no_frame, after_set, first}
use Rattle.reader.specs.Walk.{Walked, ends, before, walk, drawn_all, read_exact}
use Rattle.reader.proofs.Walking.{walks_frames}
use Rattle.std.specs.Prelude.{Option, Some, None}
use Rattle.listing.specs.declared.form.Scan.{Scan}
use Rattle.listing.specs.declared.form.Scan.TheVariants.{Begin, Digit, Symbol, Line, Space}
use Rattle.listing.specs.Form.{ReadText, broken}
use Rattle.listing.specs.Lines.{frame_text, no_text, bad_octet_text}
use Rattle.listing.specs.Listed.{frames_text, short_text, last_text, walk_text, listed}
use Rattle.listing.specs.Scans.{form_after, input_may_end}
use Rattle.listing.specs.Steps.{ListingState, Step, empty_state, on_symbol, step_to, character_step, end_text, then_all, printed_from}
use Rattle.listing.specs.Theorems.{ShowsFrames, ListsAll}
use Rattle.listing.proofs.Forms.{to_come, with_last, come_end, come_on, come}
use Rattle.listing.proofs.Walks.{frame_all, walk_frame, walk_wrong, walk_none, walk_short}

-- ---- the text of a walk

text_before : (kept : Bool) (p : ℕ) (r : ReadFrame) (v : Walked)
    → walk_text kept p (before r v) ≡ frame_text p r ++ walk_text kept (p + length (drawn r.shape)) v
unfolding walk_text frames_text before drawn_all
text_before kept p r v =
    let n = length (drawn r.shape) in
    let fs = frames_text (p + n) v.frames in
    let place : p + length (drawn r.shape ++ drawn_all v.frames) ≡ p + n + length (drawn_all v.frames) =
    omega (arith, length-append (drawn r.shape) (drawn_all v.frames)) in
    append_assoc (frame_text p r) fs _
    ∙ ap (λ (m : ℕ). frame_text p r ++ (fs ++ last_text kept m v.rest v.ended)) place

text_ends : (kept : Bool) (p : ℕ) (l : List ℕ) (f : First) → walk_text kept p (ends l f) ≡ last_text kept p l f
unfolding walk_text frames_text ends drawn_all
text_ends kept p l f = let place : p + 0 ≡ p = omega arith in ap (λ (m : ℕ). last_text kept m l f) place

-- ---- whole frames, and nothing behind them

pub shows_frames : ShowsFrames
unfolding walk_text last_text short_text listed
shows_frames input fs whole is =
    ap (λ (r : ReadText). walk_text r.kept 0 (walk r.symbols)) is
    ∙ ap (walk_text true 0) (walks_frames fs whole)
    ∙ append-nil (frames_text 0 (read_exact fs))

-- ---- the text of a record of which some symbols are known

-- w are known, r is still to come
told : ℕ → List ℕ → ReadText → List ℕ
told p w r = walk_text r.kept p (walk (w ++ r.symbols))

module _ (p : ℕ) (l : List ℕ) where
  told_frame : (r : ReadText) (s : ReadFrame) → first l ≡ frame s → length (drawn s.shape) ≡ length l → told p l r ≡ frame_text p s ++ told (p + length l) [] r
  unfolding told
  told_frame r s e is =
      ap (walk_text r.kept p) (walk_frame l r.symbols s e is)
      ∙ text_before r.kept p s (walk r.symbols)
      ∙ ap (λ (n : ℕ). frame_text p s ++ walk_text r.kept (p + n) (walk r.symbols)) is

  told_none : (r : ReadText) (q : ℕ) → first l ≡ no_frame q → told p l r ≡ no_text 13 (p + q)
  unfolding told last_text
  told_none r q e =
      ap (walk_text r.kept p) (walk_none l r.symbols q e) ∙ text_ends r.kept p (l ++ r.symbols) (no_frame q)

  told_wrong : (r : ReadText) (q : ℕ) → first l ≡ wrong_crc q → told p l r ≡ no_text 15 (p + q)
  unfolding told last_text
  told_wrong r q e =
      ap (walk_text r.kept p) (walk_wrong l r.symbols q e) ∙ text_ends r.kept p (l ++ r.symbols) (wrong_crc q)

  told_short : (kept : Bool) (q : ℕ) → first l ≡ too_short q → told p l (record { symbols = []; kept = kept }) ≡ short_text kept p (length l)
  unfolding told last_text
  told_short kept q e =
      ap (λ (x : List ℕ). walk_text kept p (walk x)) (append-nil l)
      ∙ ap (walk_text kept p) (walk_short l q e)
      ∙ text_ends kept p l (too_short q)

  told_broken : (q : ℕ) → first l ≡ too_short q → told p l broken ≡ bad_octet_text (p + length l + 1)
  unfolding broken short_text
  told_broken q e = told_short false q e

  -- the first symbol to come is as good as known
  told_last : (v : ℕ) (r : ReadText) → told p (l ++ (v ∷ [])) r ≡ told p l (with_last (Symbol v) r)
  unfolding told with_last
  told_last v r = ap (λ (x : List ℕ). walk_text r.kept p (walk x)) (append_snoc l v r.symbols)

-- ---- a character

-- from any state on the text of what is known and what is to come is printed
abbrev Lists : List ℕ → Type 0
Lists input =
    (s : ListingState) (q : ℕ) → first s.symbols ≡ too_short q → printed_from s input ≡ told s.before s.symbols (to_come s.scan input)

nothing : first [] ≡ too_short 0
unfolding set_at after_set first
nothing = refl

module _ (input : List ℕ) (rest : Lists input) (p : ℕ) (w : List ℕ) (q : ℕ) (e : first w ≡ too_short q) where
  all : Step → List ℕ
  all s = then_all s (λ n. printed_from n input)

  goes_on : (s : Scan) → printed_from (record { scan = s; before = p; symbols = w }) input ≡ told p w (to_come s input)
  goes_on s = rest (record { scan = s; before = p; symbols = w }) q e

  module _ (v : ℕ) where
    abbrev known : List ℕ
    known = w ++ (v ∷ [])

    abbrev coming : ReadText
    coming = to_come (Symbol v) input

    by_symbol : (f : First) → first known ≡ f → all (on_symbol (Symbol v) p known f) ≡ told p known coming
    unfolding all then_all on_symbol
    by_symbol (frame s) f =
        ap (λ (t : List ℕ). frame_text p s ++ t) (rest (record { scan = Symbol v; before = p + length known; symbols = [] }) 0 nothing)
        ∙ sym (told_frame p known coming s f (frame_all w v q s e f))
    by_symbol (no_frame n) f = sym (told_none p known coming n f)
    by_symbol (too_short n) f = rest (record { scan = Symbol v; before = p; symbols = known }) n f
    by_symbol (wrong_crc n) f = sym (told_wrong p known coming n f)

  on_char : (t : Option Scan) → all (step_to t p w) ≡ told p w (come t input)
  unfolding all then_all step_to with_last to_come
  on_char (Some Begin) = goes_on Begin
  on_char (Some (Digit a)) = goes_on (Digit a)
  on_char (Some (Symbol v)) = by_symbol v (first (w ++ (v ∷ []))) refl ∙ told_last p w v (to_come (Symbol v) input)
  on_char (Some Line) = goes_on Line
  on_char (Some Space) = goes_on Space
  on_char None = sym (told_broken p w q e)

lists : (input : List ℕ) → Lists input
unfolding printed_from end_text character_step all
lists [] s q e =
    sym (told_short s.before s.symbols (input_may_end s.scan) q e)
    ∙ ap (told s.before s.symbols) (sym (come_end s.scan))
lists (c ∷ input) s q e =
    on_char input (lists input) s.before s.symbols q e (form_after s.scan c)
    ∙ ap (told s.before s.symbols) (sym (come_on s.scan c input))

-- ---- 1. Character by character, all of an input is listed

pub lists_all : ListsAll
unfolding told to_come listed empty_state
lists_all input = lists input empty_state 0 nothing
