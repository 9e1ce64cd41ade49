-- Which set a record is taken to begin with, in 02's words and by no count over it (02, A4).
-- Assumes nothing.
use Rattle.std.specs.Prelude.{◌≡◌, Bool, true, false, List, [], ◌∷◌, ◌++◌, ◌⊎◌, ℕ, ◌<◌, ◌≤◌, length, take, drop, get_or}
use Rattle.line.specs.Symbol.{sync_1, sync_2, sync_3, rst_2}
use Rattle.line.specs.Kind.{kinds, set_of}
use Rattle.line.specs.Read.{First, frame, wrong_crc, too_short, no_frame}

-- the first four symbols are k's set
pub record Exactly (line : List ℕ) (k : ℕ) : Type 0 where
  pub kind : k < kinds
  pub same : take 4 line ≡ set_of k

-- the first four symbols agree with k's set in three places: in all but one
pub record InThree (line : List ℕ) (k : ℕ) : Type 0 where
  pub kind : k < kinds
  pub wrong : ℕ
  pub within : wrong < 4
  pub differs : get_or line wrong 0 ≡ get_or (set_of k) wrong 0 → ⊥
  pub agrees : (i : ℕ) → i < 4 → (i ≡ wrong → ⊥) → get_or line i 0 ≡ get_or (set_of k) i 0

-- they match no set, and k is the single kind that agrees in three places
pub record Nearly (line : List ℕ) (k : ℕ) : Type 0 where
  pub four : 4 ≤ length line
  pub none : (j : ℕ) → Exactly line j → ⊥
  pub three : InThree line k
  pub single : (j : ℕ) → InThree line j → j ≡ k

-- the set is taken as k's, exactly or not
abbrev pub TakenAs : List ℕ → ℕ → Bool → Type 0
TakenAs line k true = Exactly line k
TakenAs line k false = Nearly line k

-- four symbols or more, and no set is taken
pub record Untaken (line : List ℕ) : Type 0 where
  pub four : 4 ≤ length line
  pub none : (k : ℕ) (exact : Bool) → TakenAs line k exact → ⊥

-- they agree in three places with several kinds
pub record Doubtful (line : List ℕ) : Type 0 where
  pub four : 4 ≤ length line
  pub one : ℕ
  pub other : ℕ
  pub apart : one ≡ other → ⊥
  pub with_one : InThree line one
  pub with_other : InThree line other

-- these do, each with the kinds that it is near
abbrev pub doubtful_sets : List (List ℕ)
doubtful_sets =
    (sync_1 ∷ sync_1 ∷ sync_1 ∷ sync_3 ∷ [])  -- SOP, SOP', SOP''
    ∷ (sync_1 ∷ sync_1 ∷ sync_3 ∷ sync_2 ∷ [])  -- SOP, SOP', SOP''_Debug
    ∷ (sync_1 ∷ sync_1 ∷ rst_2 ∷ sync_3 ∷ [])  -- SOP', SOP'_Debug
    ∷ (sync_1 ∷ sync_3 ∷ sync_1 ∷ sync_2 ∷ [])  -- SOP, SOP''
    ∷ (sync_1 ∷ sync_3 ∷ sync_3 ∷ sync_3 ∷ [])  -- SOP', SOP''
    ∷ (sync_1 ∷ sync_3 ∷ rst_2 ∷ sync_3 ∷ [])  -- SOP'', SOP'_Debug
    ∷ (sync_1 ∷ rst_2 ∷ sync_1 ∷ sync_2 ∷ [])  -- SOP, SOP''_Debug
    ∷ (sync_1 ∷ rst_2 ∷ sync_1 ∷ sync_3 ∷ [])  -- SOP'', SOP'_Debug
    ∷ (sync_1 ∷ rst_2 ∷ sync_3 ∷ sync_3 ∷ [])  -- SOP', SOP'_Debug, SOP''_Debug
    ∷ (sync_1 ∷ rst_2 ∷ rst_2 ∷ sync_2 ∷ [])  -- SOP'_Debug, SOP''_Debug
    ∷ []

-- one of them
abbrev pub Among : List ℕ → List (List ℕ) → Type 0
Among l [] = ⊥
Among l (r ∷ rs) = (l ≡ r) ⊎ Among l rs

-- ---- as if it had been exact

-- the record with its first four symbols replaced by k's set
unfoldable pub straight : ℕ → List ℕ → List ℕ
straight k line = set_of k ++ drop 4 line

-- a set is taken, and P holds of the record with that set
pub record AsIfExact (P : List ℕ → Type 0) (line : List ℕ) : Type 0 where
  pub kind : ℕ
  pub exact : Bool
  pub taken : TakenAs line kind exact
  pub holds : P (straight kind line)

-- the same answer, with this exactness
unfoldable pub marked : Bool → First → First
marked exact (frame r) = frame (record { shape = r.shape; exact = exact })
marked exact (wrong_crc p) = wrong_crc p
marked exact (too_short p) = too_short p
marked exact (no_frame p) = no_frame p
