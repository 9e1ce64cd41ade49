-- A reader's step is the cursor's read at its place and holds the record, so calls of the one are calls of the other; with room each tells what the record begins with there, and that is the walk's next.
-- Assumes nothing.
use mathlib.Core.Path.{◌≡◌, refl, sym, ap, ◌∙◌, subst}
use mathlib.Core.List.{List, [], ◌∷◌}
use Prim.Native.Nat.{ℕ, ◌+◌}
use lib.ListN.{length, drop}
use lib.Seq.{drop-drop}
use denote.Ref.{Bor}
use Rattle.line.specs.Frame.{drawn, joined}
use Rattle.line.specs.Read.{First, frame, wrong_crc, too_short, no_frame, first}
use Rattle.line.specs.Reader.{said, behind, says_of, Tells}
use Rattle.reader.specs.declared.Reader.{Reader}
use Rattle.reader.specs.Step.{unread}
use Rattle.reader.specs.Walk.{Walked, ends, before, onward, walk}
use Rattle.reader.specs.Calls.{Returned, ByCursor, ByReader, stays, goes, AllRoom, AllTold}
use Rattle.reader.specs.Theorems.{SameWalk, ReaderWalks, ReadsAllBack}
use Rattle.line.proofs.Tails.{with_room}
use Rattle.reader.proofs.Walking.{walk_goes_on, walks_frames}

-- ---- 3. By a reader and by a cursor

-- the same record, and the cursor's calls from the reader's place
abbrev Same : Reader → List (List ℕ) → List Returned → Reader → Type 0
Same h bs gs e = (e.line ≡ h.line) × ByCursor h.line.now h.at.at bs gs e.at.at

to_cursor : {h e : Reader} {bs : List (List ℕ)} {gs : List Returned} → ByReader h bs gs e → Same h bs gs e
to_cursor stays = (refl, refl)
to_cursor (goes {h} {m} {e} {b} {bs} {g} {gs} n r) =
    let next = to_cursor r in
    let at = n.steps.moves in (
      next.0 ∙ n.holds,
      (
        n.steps.reads,
        subst (λ (p : ℕ). ByCursor h.line.now p bs gs e.at.at) at
            (subst (λ (l : Bor (List ℕ)). ByCursor l.now m.at.at bs gs e.at.at) n.holds next.1),
      ),
    )

to_reader : (h e : Reader) (bs : List (List ℕ)) (gs : List Returned) → Same h bs gs e → ByReader h bs gs e
to_reader h e [] [] s =
    let is : h ≡ e = λ i. record { line = sym s.0 i; at = record { at = sym s.1 i } } in
    subst (ByReader h [] []) is stays
to_reader h e [] (g ∷ gs) s = absurd s.1
to_reader h e (b ∷ bs) [] s = absurd s.1
to_reader h e (b ∷ bs) (g ∷ gs) s =
    let m : Reader = record { line = h.line; at = record { at = behind h.at.at (said g.answer) } } in
    goes {m = m} (record { holds = refl; steps = record { reads = s.1.0; moves = refl } }) (to_reader m e bs gs (s.0, s.1.1))

pub same_walk : SameWalk
same_walk h e bs gs = (to_cursor, to_reader h e bs gs)

-- ---- 4. With room

abbrev Told : ℕ → Walked → List (List ℕ) → List Returned → ℕ → Type 0
Told at w bs gs end = AllTold at w.frames w.ended bs gs end

-- where there is no frame the reader stays, and the walk from there is at its end
ended : (line : List ℕ) (at : ℕ) (bs : List (List ℕ)) (gs : List Returned) (end : ℕ) (f : First) (to : ℕ)
    → first (drop at line) ≡ f → onward (drop at line) f walk ≡ ends (drop at line) f → to ≡ at
    → Told to (walk (drop to line)) bs gs end → Told at (ends (drop at line) f) bs gs end
ended line at bs gs end f to e stop same more =
    subst (λ (w : Walked). Told at w bs gs end)
    (walk_goes_on (drop at line) ∙ ap (λ (x : First). onward (drop at line) x walk) e ∙ stop)
    (subst (λ (p : ℕ). Told p (walk (drop p line)) bs gs end) same more)

-- one call tells of what stands first, and the others of the walk from where it leads
one_call : (line : List ℕ) (at : ℕ) (b : List ℕ) (bs : List (List ℕ)) (g : Returned) (gs : List Returned) (end : ℕ) (f : First)
    → first (drop at line) ≡ f → Tells at f b g.answer g.octets
    → Told (behind at (said g.answer)) (walk (drop (behind at (said g.answer)) line)) bs gs end
    → Told at (onward (drop at line) f walk) (b ∷ bs) (g ∷ gs) end
unfolding onward ends before behind says_of
one_call line at b bs g gs end (frame r) e t more =
    let to : behind at (said g.answer) ≡ at + length (drawn r.shape) = ap (behind at) t.says in
    let rest : drop (at + length (drawn r.shape)) line ≡ drop (length (drawn r.shape)) (drop at line) = sym (drop-drop (length (drawn r.shape)) at line) in (
      t,
      subst (λ (l : List ℕ). Told (at + length (drawn r.shape)) (walk l) bs gs end) rest
          (subst (λ (p : ℕ). Told p (walk (drop p line)) bs gs end) to more),
    )
one_call line at b bs g gs end (wrong_crc p) e t more = (t, ended line at bs gs end (wrong_crc p) _ e refl (ap (behind at) t.says) more)
one_call line at b bs g gs end (too_short p) e t more = (t, ended line at bs gs end (too_short p) _ e refl (ap (behind at) t.says) more)
one_call line at b bs g gs end (no_frame p) e t more = (t, ended line at bs gs end (no_frame p) _ e refl (ap (behind at) t.says) more)

told : (line : List ℕ) (at : ℕ) (bs : List (List ℕ)) (gs : List Returned) (end : ℕ) → AllRoom bs → ByCursor line at bs gs end
    → Told at (walk (drop at line)) bs gs end
told line at [] [] end room c = c
told line at [] (g ∷ gs) end room c = absurd c
told line at (b ∷ bs) [] end room c = absurd c
told line at (b ∷ bs) (g ∷ gs) end room c =
    subst (λ (w : Walked). Told at w (b ∷ bs) (g ∷ gs) end) (sym (walk_goes_on (drop at line)))
    (one_call line at b bs g gs end (first (drop at line)) refl (with_room line at b g.answer g.octets room.0 c.0)
    (told line (behind at (said g.answer)) bs gs end room.1 c.1))

pub reader_walks : ReaderWalks
reader_walks h e bs gs room r = told h.line.now h.at.at bs gs e.at.at room (to_cursor r).1

pub reads_all_back : ReadsAllBack
reads_all_back line h e fs bs gs start whole is room r =
    let from : unread h ≡ joined fs = ap (λ (l : Bor (List ℕ)). drop h.at.at l.now) start.holds ∙ ap (λ (p : ℕ). drop p line.now) start.begins ∙ is in
    subst (λ (w : Walked). AllTold 0 w.frames w.ended bs gs e.at.at) (ap walk from ∙ walks_frames fs whole)
    (subst (λ (p : ℕ). AllTold p (walk (unread h)).frames (walk (unread h)).ended bs gs e.at.at) start.begins (reader_walks h e bs gs room r))
