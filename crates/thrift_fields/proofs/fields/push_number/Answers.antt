use Rattle.std.proofs.Common.{rules, SFits, w32}
use Rattle.thrift_fields.proofs.Chains.{near32}
use Rattle.thrift_fields.proofs.fields.push_number.Goals as goal

pub returns-clause-fits : goal.returns-clause-fits
returns-clause-fits c =
    let fits : SFits w32 c.args.number.now = search rules in
    near32 c.args.number.now fits
