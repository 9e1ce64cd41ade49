-- Texts stand one after the other on a page, and a whole text has room.
-- Assumes nothing.
use mathlib.Core.Path.{◌≡◌, ◌∙◌}
use mathlib.Core.Bool.{Bool, true}
use mathlib.Core.List.{List, ◌++◌}
use Prim.Native.Nat.{ℕ, ◌+◌, ◌≤◌}
use borrow.Author.Tests.{le-leb}
use lib.ListN.{length}
use Rattle.text.specs.Put.{Puts, has_room, Prints}
use Rattle.text.specs.Page.{PutsOn, PrintsOn}
use Rattle.text.specs.declared.page.Page.{Page}
use Rattle.text.proofs.Texts.{then, is_printed, Run}

pub on : {p q : Page} {t : List ℕ} → q.octets.ghost_name ≡ p.octets.ghost_name → Puts p.octets.now p.at t q.at q.octets.now → PutsOn p t q
on s p = record { same = s; puts = p }

pub print_on : {x : Bool} {p q : Page} {t : List ℕ} → q.octets.ghost_name ≡ p.octets.ghost_name → Prints x p.octets.now p.at t q.at q.octets.now → PrintsOn x p t q
print_on s p = record { same = s; prints = p }

pub then_on : {p q r : Page} {t u : List ℕ} → PutsOn p t q → PutsOn q u r → PutsOn p (t ++ u) r
then_on x y = record { same = y.same ∙ x.same; puts = then x.puts y.puts }

-- whoever knows of the room has the text whole
pub is_printed_on : {x : Bool} {p q : Page} {t : List ℕ} → x ≡ true → PrintsOn x p t q → PutsOn p t q
is_printed_on e s = record { same = s.same; puts = is_printed e s.prints }

-- of the octets to be put, so many were
pub record RunOn (p : Page) (octets : List ℕ) (q : Page) (i : ℕ) : Type 0 where
  pub same : q.octets.ghost_name ≡ p.octets.ghost_name
  pub run : Run p.octets.now octets p.at q.octets.now q.at i

-- a text stands whole where its room is known
pub roomed_on : {p q : Page} {t : List ℕ} (need : ℕ) → p.at + need ≤ length p.octets.now → PrintsOn (has_room need p.octets.now p.at) p t q → PutsOn p t q
roomed_on {p} need h s = is_printed_on (le-leb (p.at + need) (length p.octets.now) h) s
