use Rattle.std.proofs.Common.{rules, SFits, w64}
use Rattle.thrift_fields.proofs.Chains.{near64}
use Rattle.thrift_fields.proofs.fields.push_long.Goals as goal

pub returns-clause-fits : goal.returns-clause-fits
returns-clause-fits c =
    let fits : SFits w64 c.args.number.now = search rules in
    near64 c.args.number.now fits
