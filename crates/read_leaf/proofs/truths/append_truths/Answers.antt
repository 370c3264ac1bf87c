use Rattle.std.proofs.Common.{◌+◌, ◌++◌, List, Bool, ap, ◌∙◌, refl, arith}
use Rattle.columns_core.specs.Bits.{bits_from}
use Rattle.read_leaf.proofs.PlainBits.{next_truths}
use Rattle.read_leaf.proofs.truths.append_truths.Goals as goal

pub returns-clause-ok : goal.returns-clause-ok
returns-clause-ok c =
    let bytes = c.args.bytes.now in
    record {
      truths = bits_from bytes c.args.bit c.args.count;
      took = next_truths bytes c.skip.result.now c.args.bit c.args.count (c.args.bit + c.args.count) (λ i. omega (arith, c.type_inv.bytes i)) refl c.requires.within c.skip.ensures;
      pushed = c.append_bits.ensures ∙ ap (λ (bs : List Bool). bs ++ bits_from bytes c.args.bit c.args.count) c.reserve.ensures.same;
    }
