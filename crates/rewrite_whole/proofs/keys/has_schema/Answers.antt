use Rattle.std.proofs.Common.{rules, refl, arith}
use Rattle.rewrite_whole.proofs.KeyTexts.{found, passed}
use Rattle.rewrite_whole.proofs.keys.has_schema.Goals as goal

pub returns-then-is_schema : goal.returns-then-is_schema
returns-then-is_schema c = (
  λ yes. found c.args.entries.now c.loop-entry.entry-index c.entry-item.result c.the_last_counts.ensures (omega arith) c.entry-item.is (search rules) c.loop-entry.invariant,
  λ some. refl,
)

pub loop-entry-preserved : goal.loop-entry-preserved
loop-entry-preserved c = passed c.args.entries.now c.loop-entry.entry-index c.entry-item.result (omega arith) c.entry-item.is (search rules) c.loop-entry.invariant
