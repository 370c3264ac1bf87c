use Rattle.std.proofs.Common.{◌+◌, ◌*◌, ◌∙◌}
use Rattle.schema_fb.proofs.Sizes.{padded_low, scaled_low}
use Rattle.schema_fb.proofs.size.block.Goals as goal

pub returns : goal.returns
returns c =
    let n = c.args.head + c.args.each * c.args.count in
    c.padded.ensures ∙ padded_low _ n (scaled_low c.args.head c.args.each c.args.count)
