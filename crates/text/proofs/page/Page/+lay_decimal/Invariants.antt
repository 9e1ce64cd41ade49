-- Each call has one digit less to put.
use Rattle.text.proofs.page.Page.+lay_decimal.Given as goal

abbrev pub decreases-lay_decimal : goal.decreases-lay_decimal
decreases-lay_decimal l = l.most
