-- A symbol, a broken form, or any other that leaves the symbols as they are.
use borrow.Author.Rules.{rules}
use Rattle.listing.proofs.Goings.{goes_broken, goes_on, goes_to}
use Rattle.listing.proofs.Listing.go.Goals as goal

pub returns-in_default-clause-goes : goal.returns-in_default-clause-goes
returns-in_default-clause-goes c =
    goes_to c.in_default.is
    (goes_broken c.args.self _ _ _ c.requires.0 (search rules) c.requires.1 _ _ c.put_bad.ensures.puts)

pub returns-in_default-scan-clause-goes : goal.returns-in_default-scan-clause-goes
returns-in_default-scan-clause-goes c =
    goes_to c.in-Some.is (goes_on c.args.self _ _ _ c.requires.0 (search rules) c.requires.1 c.in-Some.scan c.in_default-scan.not-Symbol)
