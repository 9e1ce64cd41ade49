-- The octets are gathered, judged by their CRC, and only then handed over.
use mathlib.Core.Path.{ap}
use mathlib.Core.List.{List, ◌++◌}
use Prim.Native.Nat.{ℕ}
use lib.ListN.{drop}
use native.Mathlib.Omega.{arith}
use Rattle.line.proofs.Reading.{length_pairs, held_octets, crc_wrong, crc_agrees}
use Rattle.line.proofs.read.read_octets.Goals as goal

pub returns-then-right : goal.returns-then-right
returns-then-right c =
    crc_agrees _ c.args.set.kind _ _ (length_pairs _ _ c.requires.0) (held_octets _ _ _ _ c.requires.2 c.requires.0 c.get_octets.ensures) _ _ _ (omega (arith, c.requires.2)) _ c.right.ensures c.if-right.true
    _ (ap (λ (l : List ℕ). l ++ drop c.args.count c.args.octets.now) c.copy_from_slice.ensures.after)

pub returns : goal.returns
returns c =
    crc_wrong _ c.args.set.kind _ _ (length_pairs _ _ c.requires.0) (held_octets _ _ _ _ c.requires.2 c.requires.0 c.get_octets.ensures) _ _ _ (omega (arith, c.requires.2)) _ c.right.ensures c.if-right.false
