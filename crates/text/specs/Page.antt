-- What a text put on a page leaves: the same lent octets, with it in them, and the place behind it.
-- Assumes nothing.
use Rattle.std.specs.Prelude.{◌≡◌, Bool, List, ℕ}
use Rattle.text.specs.Put.{Puts, Prints}
use Rattle.text.specs.declared.page.Page.{Page}

-- what stays lent: a relation of the page before and after, so that no field of a page says it
abbrev pub SameOctets : Page → Page → Type 0
SameOctets p q = q.octets.ghost_name ≡ p.octets.ghost_name

pub record PutsOn (p : Page) (t : List ℕ) (q : Page) : Type 0 where
  pub same : SameOctets p q
  pub puts : Puts p.octets.now p.at t q.at q.octets.now

-- a whole text, or, where it need not fit, none
pub record PrintsOn (fits : Bool) (p : Page) (t : List ℕ) (q : Page) : Type 0 where
  pub same : SameOctets p q
  pub prints : Prints fits p.octets.now p.at t q.at q.octets.now
