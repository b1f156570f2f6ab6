-- `line::Text::decimal` calls itself for a tenth of the number.
use Rattle.line.proofs.buffer.Text.+decimal.Given as goal

abbrev pub decreases-decimal : goal.decreases-decimal
decreases-decimal l = l.n
