-- The kinds of frames and their ordered sets: one table for writer, reader and transmit queue (01, 'Line code (PD)', table).
-- Assumes nothing.
use Rattle.std.specs.Prelude.{Bool, cond, List, [], ◌∷◌, ℕ, suc, ltb, eqb, length, get_or}
use Rattle.std.proofs.Math.Option.{Option, none, some}
use Rattle.line.specs.Symbol.{sync_1, sync_2, sync_3, rst_1, rst_2}

abbrev pub ordered_sets : List (List ℕ)
ordered_sets =
    (sync_1 ∷ sync_1 ∷ sync_1 ∷ sync_2 ∷ [])  -- 0 SOP
    ∷ (sync_1 ∷ sync_1 ∷ sync_3 ∷ sync_3 ∷ [])  -- 1 SOP'
    ∷ (sync_1 ∷ sync_3 ∷ sync_1 ∷ sync_3 ∷ [])  -- 2 SOP''
    ∷ (sync_1 ∷ rst_2 ∷ rst_2 ∷ sync_3 ∷ [])  -- 3 SOP'_Debug
    ∷ (sync_1 ∷ rst_2 ∷ sync_3 ∷ sync_2 ∷ [])  -- 4 SOP''_Debug
    ∷ (rst_1 ∷ rst_1 ∷ rst_1 ∷ rst_2 ∷ [])  -- 5 Hard Reset
    ∷ []

-- how many kinds there are
abbrev pub kinds : ℕ
kinds = length ordered_sets

unfoldable pub set_of : ℕ → List ℕ
set_of k = get_or ordered_sets k []

-- the SOP kinds carry a message; the frame of any other kind is its set alone
abbrev pub sop_kinds : ℕ
sop_kinds = 5

unfoldable pub carries : ℕ → Bool
carries k = ltb k sop_kinds

-- ---- which set a list begins with, exactly

-- how many symbols a set and a list begin with in common
unfoldable pub common : List ℕ → List ℕ → ℕ
common [] l = 0
common (x ∷ xs) [] = 0
common (x ∷ xs) (y ∷ ys) = cond (eqb x y) (suc (common xs ys)) 0

-- the first of these sets that the list begins with; k is the first one's kind
unfoldable pub kind_from : ℕ → List (List ℕ) → List ℕ → Option ℕ
kind_from k [] l = none
kind_from k (s ∷ ss) l = cond (eqb (common s l) 4) (some k) (kind_from (suc k) ss l)
