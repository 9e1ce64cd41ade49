-- What a row answers is computed; in the last arm the symbol is in no row, and so not in the table. That the arms stand in the
-- page's order is read off what the last arm knows of them, for which the check has a name of its own alone.
use Rattle.std.proofs.Common.{◌≡◌, ℕ, List, [], ◌∷◌, ◌++◌}
use Rattle.line.specs.Symbol.{nibble_symbols, sync_1, sync_2, sync_3, rst_1, rst_2, eop, nibble_of}
use Rattle.line.proofs.Keys.{None, known, absent}
use Rattle.line.proofs.symbols.nibble.Goals as goal

-- the page's rows behind hex data, the codes by the names that 01 gives them
abbrev others : List ℕ
others =
    sync_1 ∷ sync_2 ∷ rst_1 ∷ rst_2 ∷ eop ∷
    0b00000 ∷ 0b00001 ∷ 0b00010 ∷ 0b00011 ∷ 0b00100 ∷ 0b00101 ∷
    sync_3 ∷ 0b01000 ∷ 0b01100 ∷ 0b10000 ∷ 0b11111 ∷ []

in_no_row : (s : ℕ) → None (Unit {0}) (nibble_symbols ++ others) s → nibble_of s ≡ 16
unfolding nibble_of
in_no_row s h = absent (Unit {0}) nibble_symbols s (known (None (Unit {0}) nibble_symbols s) others s h)

pub returns-in_default : goal.returns-in_default
returns-in_default c = in_no_row c.args.symbol c.in_default.in_default-own.rest
