-- The transmit queue: tokens, counted blocks, and the message a queue spells (01, 'The transmit queue').
-- Assumes nothing.
use Rattle.std.specs.Prelude.{Bool, true, false, cond, ◌&&◌, ◌||◌, List, [], ◌∷◌, map, ℕ, zero, suc, ◌+◌, ◌-◌, ltb, leb, eqb, take, drop, get_or}
use Rattle.std.proofs.Math.Option.{Option, none, some}
use Rattle.line.specs.Symbol.{sync_1, sync_2, sync_3, rst_1, rst_2}
use Rattle.line.specs.Kind.{ordered_sets, carries, kind_from}
use Rattle.line.specs.Frame.{Frame}
use Rattle.machine.specs.Registers.{between}

-- ---- tokens

abbrev pub CRC : ℕ
CRC = 0xFF

abbrev pub EOP : ℕ
EOP = 0x14

abbrev pub TXOFF : ℕ
TXOFF = 0xFE

abbrev pub START : ℕ
START = 0xA1

-- the symbol that a set's token stands for; 32, which is none, for any other octet
unfoldable pub set_symbol : ℕ → ℕ
set_symbol x =
    cond (eqb x 0x12) sync_1 (cond (eqb x 0x13) sync_2 (cond (eqb x 0x1B) sync_3 (cond (eqb x 0x15) rst_1 (cond (eqb x 0x16) rst_2 32))))

-- 82 to 9E announce 2 to 30 data octets
unfoldable pub announced : ℕ → ℕ
announced x = cond (between 0x82 0x9E x) (x - 0x80) 0

unfoldable pub is_token : ℕ → Bool
is_token x =
    ltb (set_symbol x) 32 || (between 0x82 0x9E x || (eqb x CRC || (eqb x EOP || (eqb x TXOFF || eqb x START))))

-- ---- counted blocks

-- how many data octets are still to come, where n were before these
unfoldable pub to_come : ℕ → List ℕ → ℕ
to_come n [] = n
to_come zero (x ∷ q) = to_come (announced x) q
to_come (suc n) (x ∷ q) = to_come n q

-- the next octet falls inside a counted block: it is data, of any value
unfoldable pub inside : List ℕ → Bool
inside q = ltb 0 (to_come 0 q)

-- ---- a message

abbrev pub same_list : List ℕ → List ℕ → Bool
same_list [] [] = true
same_list [] (y ∷ ys) = false
same_list (x ∷ xs) [] = false
same_list (x ∷ xs) (y ∷ ys) = eqb x y && same_list xs ys

-- what ends every message
abbrev pub closing : List ℕ
closing = CRC ∷ EOP ∷ TXOFF ∷ []

-- of n octets, on the kind whose set the queue begins with
unfoldable pub spelt_by : Option ℕ → ℕ → List ℕ → Option Frame
spelt_by none n q = none
spelt_by (some k) n q =
    cond (carries k && (leb 2 n && same_list (drop (5 + n) q) closing)) (some (record { kind = k; octets = take n (drop 5 q) })) none

-- the message that a queue spells: an SOP set, one counted block complete, CRC, EOP, driver off, and no more
unfoldable pub spelt : List ℕ → Option Frame
spelt q = spelt_by (kind_from 0 ordered_sets (map set_symbol (take 4 q))) (announced (get_or q 4 0)) q

abbrev pub is_some : {A : Type 0} → Option A → Bool
is_some none = false
is_some (some a) = true

abbrev pub is_message : List ℕ → Bool
is_message q = is_some (spelt q)
