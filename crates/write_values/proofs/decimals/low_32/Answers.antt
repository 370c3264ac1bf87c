use Rattle.std.proofs.Common.{◌∙◌, SFits, rules}
use Rattle.std.specs.Int.{w32, w128}
use Rattle.std.proofs.lemmas.Int.{to_z-of_z}
use Rattle.write_values.proofs.DecimalBits.{low_bits_32}
use Rattle.write_values.proofs.decimals.low_32.Goals as goal

pub returns : goal.returns
returns c =
    let fits : SFits w128 c.args.number.now = search rules in
    let held : SFits w32 c.as_.result = search rules in
    to_z-of_z w32 c.as_.result held ∙ (c.as_.ensures ∙ low_bits_32 c.args.number.now fits)
