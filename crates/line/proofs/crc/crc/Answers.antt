use mathlib.Core.Path.{◌≡◌, ap, ◌∙◌}
use borrow.Author.Rules.{rules}
use Prim.Native.Nat.{ℕ, ◌-◌}
use Rattle.std.specs.Prelude.{fold}
use Rattle.line.specs.Crc.{crc_octet, crc_of}
use Rattle.line.proofs.Register.{folded}
use Rattle.line.proofs.crc.crc.Goals as goal

pub returns : goal.returns
unfolding crc_of
returns c =
    let e : c.fold.result ≡ fold crc_octet 0xFFFF_FFFF c.args.octets.now = search rules in
    ap (λ (x : ℕ). 0xFFFF_FFFF - x) (e ∙ folded 0xFFFF_FFFF c.args.octets.now)
