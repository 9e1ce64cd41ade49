-- A line is taken in one way, and told of in one.
-- Assumes nothing.
use mathlib.Core.Path.{◌≡◌, sym, ap, ◌∙◌}
use mathlib.Core.Bool.{true, false}
use Rattle.fusb302.specs.View.{view}
use Rattle.turn.specs.Turn.{outcomes, Turned, Lent, TakesLineTelling}
use Rattle.turn.specs.Theorems.{OneTurn, OneTelling}
use Rattle.turn.proofs.Turning.{taken_outcomes}

pub one_telling : OneTelling
unfolding TakesLineTelling
one_telling true t d e number before at r s a b p q =
    let x = p.acts in
    let y = q.acts in
    record {
      state = x.state ∙ sym y.state;
      ends = x.ends ∙ sym y.ends;
      at = x.prints.next ∙ sym y.prints.next;
      out = x.prints.stands ∙ sym y.prints.stands;
      octets = p.octets ∙ sym q.octets;
      symbols = x.symbols ∙ sym y.symbols;
    }
one_telling false t d e number before at r s a b p q =
    let same : r ≡ s = p.0 ∙ sym q.0 in
    let kept : a ≡ b = p.1 ∙ sym q.1 in
    record {
      state = ap (λ (x : Turned). view x.device) same;
      ends = ap (λ (x : Turned). x.ends) same;
      at = ap (λ (x : Turned). x.at) same;
      out = ap (λ (x : Lent). x.out) kept;
      octets = ap (λ (x : Lent). x.octets) kept;
      symbols = ap (λ (x : Lent). x.symbols) kept;
    }

pub one_turn : OneTurn
one_turn fits d e number before at r s a b p q =
    one_telling fits outcomes d e number before at r s a b (taken_outcomes d e number before at r a fits p) (taken_outcomes d e number before at s b fits q)
