use Rattle.std.proofs.Common.{◌≤◌, ◌/◌, length, arith, true≢false, sym, ◌∙◌}
use Rattle.read_leaf.proofs.Chunks.{count-stored, stored-front}
use Rattle.read_leaf.proofs.fixed_bytes.split_strings.Goals as goal

pub returns-then-not-are_there : goal.returns-then-not-are_there
returns-then-not-are_there c =
    let few : ¬ (c.args.count ≤ length c.args.bytes.now / c.args.size) = λ h. true≢false (sym (c.are_there.ensures.1 h) ∙ c.if-not-are_there.true) in
    omega (arith, count-stored c.args.size c.args.bytes.now, few)

pub returns : goal.returns
returns c = stored-front c.args.size c.args.count c.args.bytes.now _ _ (c.are_there.ensures.0 c.if-not-are_there.false) c.split_at.ensures.front c.split_at.ensures.back
