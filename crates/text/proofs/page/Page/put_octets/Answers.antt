-- None is ` -`, and any others are spaced, three characters to an octet.
use mathlib.Core.Path.{refl, sym}
use borrow.Author.Tests.{eqb-true, eqb-false}
use Rattle.text.proofs.Texts.{no_octets, some_octets, octets_unput}
use Rattle.text.proofs.Pages.{print_on}
use Rattle.text.proofs.page.Page.put_octets.Goals as goal

pub returns-then-is_empty : goal.returns-then-is_empty
returns-then-is_empty c =
    print_on c.put_text.ensures.same
    (no_octets c.args.octets.now c.args.self.now.octets.now _ _ _ (eqb-true _ _ (sym c.if-is_empty.ensures)) c.put_text.ensures.prints)

pub returns-then-has_room_thrice : goal.returns-then-has_room_thrice
returns-then-has_room_thrice c =
    print_on c.lay_spaced.ensures.same
    (some_octets _ _ _ _ _ (eqb-false _ _ (sym c.if-is_empty.ensures)) (sym c.if-has_room_thrice.ensures) c.lay_spaced.ensures.puts)

pub returns-else-has_room_thrice : goal.returns-else-has_room_thrice
returns-else-has_room_thrice c =
    print_on refl (octets_unput c.args.octets.now c.args.self.now.octets.now _ (eqb-false _ _ (sym c.if-is_empty.ensures)) (sym c.if-has_room_thrice.ensures))
