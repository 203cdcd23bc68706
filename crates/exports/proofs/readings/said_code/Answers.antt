use Rattle.exports.proofs.Prelude.{◌∙◌}
use Rattle.exports.proofs.Face.{said_or_none}
use Rattle.exports.proofs.readings.said_code.Goals as goal

pub returns : goal.returns
returns c = c.unwrap_or.ensures ∙ said_or_none c.args.said
