-- What the reader answers of the symbols says which line is printed and what is held.
use mathlib.Core.Path.{refl, sym, ap, ◌∙◌}
use Rattle.std.specs.Prelude.{Err}
use borrow.Author.Rules.{rules}
use native.Mathlib.Omega.{arith}
use lib.Seq.{length-take-le}
use Rattle.listing.proofs.Symbols.{frame_fits, answers_frame, answers_short, none_fits, answers_none, wrong_fits, answers_wrong, never_small}
use Rattle.listing.proofs.Listing.symbol.Goals as goal

pub slice_bounds-octets-end : goal.slice_bounds-octets-end
slice_bounds-octets-end c =
    frame_fits c.args.self c.args.window.now c.args.page.now.octets.now c.args.page.now.at c.requires.0 (search rules) c.requires.1 c.args.v _ _ _ refl c.read_frame.auto.octets c.read_frame.ensures _ c.in-Ok.is

pub slice_bounds-octets-end-in-Ok : goal.slice_bounds-octets-end-in-Ok
slice_bounds-octets-end-in-Ok c =
    sym (length-take-le _ _ (frame_fits c.args.self c.args.window.now c.args.page.now.octets.now c.args.page.now.at c.requires.0 (search rules) c.requires.1 c.args.v _ _ _ refl c.read_frame.auto.octets c.read_frame.ensures _ c.in-Ok.is))

pub overflow_add-place : goal.overflow_add-place
overflow_add-place c =
    omega (arith, none_fits c.args.self c.args.window.now c.args.page.now.octets.now c.args.page.now.at c.requires.0 (search rules) c.requires.1 c.args.v _ _ _ refl c.read_frame.auto.octets c.read_frame.ensures _ (c.in-Err-NoFrame.is ∙ ap Err c.in-Err-NoFrame.field-0-is))

pub overflow_add-place-in-Err-WrongCrc : goal.overflow_add-place-in-Err-WrongCrc
overflow_add-place-in-Err-WrongCrc c =
    omega (arith, wrong_fits c.args.self c.args.window.now c.args.page.now.octets.now c.args.page.now.at c.requires.0 (search rules) c.requires.1 c.args.v _ _ _ refl c.read_frame.auto.octets c.read_frame.ensures _ (c.in-Err-WrongCrc.is ∙ ap Err c.in-Err-WrongCrc.field-0-is))

pub returns-in-Ok-clause-goes : goal.returns-in-Ok-clause-goes
returns-in-Ok-clause-goes c =
    answers_frame c.args.self c.args.window.now c.args.page.now.octets.now c.args.page.now.at c.requires.0 (search rules) c.requires.1 c.args.v _ _ _ refl c.read_frame.auto.octets c.read_frame.ensures _ _ _ _ c.in-Ok.is refl c.put_frame.ensures.puts

pub returns-in-Err-TooShort-clause-goes : goal.returns-in-Err-TooShort-clause-goes
returns-in-Err-TooShort-clause-goes c =
    answers_short c.args.self c.args.window.now c.args.page.now.octets.now c.args.page.now.at c.requires.0 (search rules) c.requires.1 c.args.v _ _ _ refl c.read_frame.auto.octets c.read_frame.ensures _ (c.in-Err-TooShort.is ∙ ap Err c.in-Err-TooShort.field-0-is)

pub returns-in-Err-NoFrame-clause-goes : goal.returns-in-Err-NoFrame-clause-goes
returns-in-Err-NoFrame-clause-goes c =
    answers_none c.args.self c.args.window.now c.args.page.now.octets.now c.args.page.now.at c.requires.0 (search rules) c.requires.1 c.args.v _ _ _ refl c.read_frame.auto.octets c.read_frame.ensures _ _ _ _ (c.in-Err-NoFrame.is ∙ ap Err c.in-Err-NoFrame.field-0-is) (rw c.in-Err-NoFrame.field-0-is at c.put_no.ensures.puts) refl

pub returns-in-Err-WrongCrc-clause-goes : goal.returns-in-Err-WrongCrc-clause-goes
returns-in-Err-WrongCrc-clause-goes c =
    answers_wrong c.args.self c.args.window.now c.args.page.now.octets.now c.args.page.now.at c.requires.0 (search rules) c.requires.1 c.args.v _ _ _ refl c.read_frame.auto.octets c.read_frame.ensures _ _ _ _ (c.in-Err-WrongCrc.is ∙ ap Err c.in-Err-WrongCrc.field-0-is) (rw c.in-Err-WrongCrc.field-0-is at c.put_no-in-Err-WrongCrc.ensures.puts) refl

pub unreachable-requires : goal.unreachable-requires
unreachable-requires c =
    never_small c.args.self c.args.window.now c.args.page.now.octets.now c.args.page.now.at c.requires.0 (search rules) c.requires.1 c.args.v _ _ _ refl c.read_frame.auto.octets c.read_frame.ensures (c.in-Err-SmallBuffer.is ∙ ap Err c.in-Err-SmallBuffer.field-0-is)
