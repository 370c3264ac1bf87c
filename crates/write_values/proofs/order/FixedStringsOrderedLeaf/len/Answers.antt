use Rattle.std.proofs.Common.{◌∙◌}
use Rattle.write_values.proofs.FixedPlaces.{strings_are}
use Rattle.write_values.proofs.order.FixedStringsOrderedLeaf.len.Goals as goal

pub returns : goal.returns
returns c =
    let a = c.args.self.now.array.now in
    c.len.ensures ∙ strings_are a.0 a.1.0
