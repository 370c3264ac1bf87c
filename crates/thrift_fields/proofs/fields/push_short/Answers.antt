use Rattle.std.proofs.Common.{rules, SFits, w16}
use Rattle.thrift_fields.proofs.Chains.{near16}
use Rattle.thrift_fields.proofs.fields.push_short.Goals as goal

pub returns-clause-fits : goal.returns-clause-fits
returns-clause-fits c =
    let fits : SFits w16 c.args.number.now = search rules in
    near16 c.args.number.now fits
