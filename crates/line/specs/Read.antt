-- What a record begins with: a frame, too few symbols for one, or no frame (01, 'Line reader'; 02, A4).
-- Assumes nothing.
use Rattle.std.specs.Prelude.{Bool, true, false, cond, ◌&&◌, List, [], ◌∷◌, ℕ, zero, suc, ◌+◌, ◌*◌, ◌%◌, ltb, leb, eqb, length, take, drop, get_or}
use Rattle.std.proofs.Math.Option.{Option, none, some}
use Rattle.line.specs.Symbol.{eop, is_nibble, octets_of}
use Rattle.line.specs.Kind.{ordered_sets, kind_from, carries}
use Rattle.line.specs.Crc.{crc_right}
use Rattle.line.specs.Frame.{Shape}

-- what is looked for is there; or so many symbols fit and the record ends; or so many fit and the next does not (of a set: fewer than four; or 0)
pub data Look (A : Type 0) : Type 0 where
  found : A → Look A
  short : ℕ → Look A
  misfit : ℕ → Look A

-- ---- which set begins the record (02, A4)

-- a kind that the first four symbols are taken for, and whether they are its set exactly
pub record TakenSet : Type 0 where
  pub kind : ℕ
  pub exact : Bool

-- in how many places a set and the record agree
unfoldable pub agree : List ℕ → List ℕ → ℕ
agree [] l = 0
agree (x ∷ xs) [] = 0
agree (x ∷ xs) (y ∷ ys) = cond (eqb x y) (suc (agree xs ys)) (agree xs ys)

-- the kinds of those sets that agree with the record in three places; k is the first one's kind
unfoldable pub agreeing : ℕ → List (List ℕ) → List ℕ → List ℕ
agreeing k [] l = []
agreeing k (s ∷ ss) l = cond (eqb (agree s l) 3) (k ∷ agreeing (suc k) ss l) (agreeing (suc k) ss l)

-- a single kind is taken; of none and of several the answer is 13 with place 0
unfoldable pub single : List ℕ → Look TakenSet
single [] = misfit 0
single (k ∷ []) = found (record { kind = k; exact = false })
single (k ∷ j ∷ ks) = misfit 0

-- the set that matches exactly, else the single kind that agrees in three places
unfoldable pub taken_or : Option ℕ → List ℕ → Look TakenSet
taken_or (some k) near = found (record { kind = k; exact = true })
taken_or none near = single near

-- of fewer than four symbols nothing is known yet
unfoldable pub set_at : List ℕ → Look TakenSet
set_at l = cond (ltb (length l) 4) (short (length l)) (taken_or (kind_from 0 ordered_sets l) (agreeing 0 ordered_sets l))

-- ---- what follows the set of an SOP kind

-- how many nibbles l begins with, n at most
unfoldable pub nibble_run : ℕ → List ℕ → ℕ
nibble_run zero l = 0
nibble_run (suc n) [] = 0
nibble_run (suc n) (s ∷ l) = cond (is_nibble s) (suc (nibble_run n l)) 0

-- EOP ends 6 octets or more, and no half of one
unfoldable pub may_end : ℕ → ℕ → Bool
may_end n s = eqb s eop && (leb 12 n && eqb (n % 2) 0)

-- n nibbles, and what stands behind them
unfoldable pub end_or : ℕ → List ℕ → Look (List ℕ)
end_or n l = cond (eqb n (length l)) (short n) (cond (may_end n (get_or l n 0)) (found (octets_of (take n l))) (misfit n))

-- 34 octets are the most
unfoldable pub body_at : List ℕ → Look (List ℕ)
body_at l = end_or (nibble_run 68 l) l

-- ---- both

unfoldable pub with_set : ℕ → Look (List ℕ) → Look Shape
with_set k (found m) = found (record { kind = k; octets = m })
with_set k (short p) = short (4 + p)
with_set k (misfit p) = misfit (4 + p)

-- the shape of kind k, CRC values disregarded; l is what follows its set
unfoldable pub shape_behind : ℕ → List ℕ → Look Shape
shape_behind k l = cond (carries k) (with_set k (body_at l)) (found (record { kind = k; octets = [] }))

-- ---- the first frame

-- a frame as it is read: its kind and its octets with CRC, and whether its set was exact
pub record ReadFrame : Type 0 where
  pub shape : Shape
  pub exact : Bool

-- one whose set is exact
abbrev pub exact_frame : Shape → ReadFrame
exact_frame s = record { shape = s; exact = true }

-- the frame; or the place at which there is none
pub data First : Type 0 where
  frame : ReadFrame → First
  wrong_crc : ℕ → First
  too_short : ℕ → First
  no_frame : ℕ → First

-- a CRC is wrong at the symbols before EOP
unfoldable pub checked : Bool → Shape → First
checked exact s =
    cond (carries s.kind)
    (cond (crc_right s.octets) (frame (record { shape = s; exact = exact })) (wrong_crc (4 + 2 * length s.octets)))
    (frame (record { shape = s; exact = exact }))

unfoldable pub first_of : Bool → Look Shape → First
first_of exact (found s) = checked exact s
first_of exact (short p) = too_short p
first_of exact (misfit p) = no_frame p

-- a set that is taken counts four symbols, exact or not
unfoldable pub after_set : Look TakenSet → List ℕ → First
after_set (found t) l = first_of t.exact (shape_behind t.kind (drop 4 l))
after_set (short p) l = too_short p
after_set (misfit p) l = no_frame p

unfoldable pub first : List ℕ → First
first l = after_set (set_at l) l
