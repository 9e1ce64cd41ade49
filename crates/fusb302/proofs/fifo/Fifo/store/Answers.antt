-- The token is pushed behind what was held, and the packet is written behind both.
use mathlib.Core.Path.{◌∙◌, refl, ap}
use mathlib.Core.List.{List, [], ◌∷◌, ◌++◌, append_assoc}
use Prim.Native.Nat.{ℕ, ◌+◌}
use native.Mathlib.Omega.{arith}
use lib.ListN.{take, length-set, set}
use Rattle.std.proofs.lemmas.Slice.{take-put_mid}
use Rattle.fusb302.proofs.Queueing.{pushed}
use Rattle.fusb302.proofs.fifo.Fifo.store.Goals as goal

pub returns : goal.returns
returns c =
    let f = c.args.self in
    rw c.copy_from_slice.ensures.after
    (take-put_mid (f.len + 1) _ (set f.octets f.len c.args.token) c.args.packet.now _ refl (omega (arith, length-set f.octets f.len c.args.token))
    ∙ ap (λ (l : List ℕ). l ++ c.args.packet.now) (pushed f.octets f.len c.args.token (omega arith))
    ∙ append_assoc (take f.len f.octets) (c.args.token ∷ []) c.args.packet.now)
