-- What stands before the octets is the kind, and the octets are looked at before any is stored.
use mathlib.Core.Path.{sym, ◌∙◌}
use borrow.Author.Rules.{rules}
use Rattle.script.proofs.Lines.{no_kind, no_octets, enough, all_heard}
use Rattle.script.proofs.parse.packet.Goals as goal

pub returns-in_err-kind : goal.returns-in_err-kind
returns-in_err-kind c = rw c.from_residual.ensures (no_kind _ _ _ _ c.split_digits.ensures c.in_err-kind.ensures.says)

pub returns-then-not-are_octets : goal.returns-then-not-are_octets
returns-then-not-are_octets c = no_octets _ _ _ _ c.split_digits.ensures _ c.in_ok-kind.ensures.says (sym c.are_octets.ensures ∙ c.if-not-are_octets.true)

pub store_octets-count-requires : goal.store_octets-count-requires
store_octets-count-requires c =
    (sym c.are_octets.ensures ∙ c.if-not-are_octets.false, enough _ c.args.octets.now _ _ c.split_digits.ensures _ c.in_ok-kind.ensures.says c.requires (search rules))

pub returns : goal.returns
returns c =
    all_heard _ _ _ _ c.split_digits.ensures _ c.in_ok-kind.ensures.says c.requires (search rules) _ _ (sym c.are_octets.ensures ∙ c.if-not-are_octets.false) c.store_octets-count.ensures.0 c.store_octets-count.ensures.1
