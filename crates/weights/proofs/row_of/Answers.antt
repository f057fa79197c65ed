-- `weights::row_of` meets its contract: each of the 1536 entries is computed by the rule. Assumes nothing.
use Rattle.std.proofs.Common.{rules}
use Rattle.laws.proofs.Tables.{listed}
use Rattle.weights.specs.Weights.{scale, weight_of}
use Rattle.weights.proofs.Weights.{table, rows, row_is}
use Rattle.weights.proofs.row_of.Goals as goal

pub returns : goal.returns
unfolding table rows listed weight_of scale
returns c = row_is c.args.row (search rules)
