use Rattle.std.proofs.Common.{refl, rules, arith}
use Rattle.pq_thrift.specs.Reading.{value_at}
use Rattle.pq_thrift.specs.declared.kind.Kind.TheVariants.{I32}
use Rattle.pq_thrift.specs.declared.value.Thrift.{the_lemmas}
use Rattle.pq_thrift.proofs.Again.{value_at-below}
use Rattle.pq_thrift.proofs.reading.take_short.Goals as goal

pub returns-then-depth-eq0-clause-gives : goal.returns-then-depth-eq0-clause-gives
unfolding value_at
returns-then-depth-eq0-clause-gives c = rw c.if-depth-eq0.true refl

pub returns-in_err-number-clause-gives : goal.returns-in_err-number-clause-gives
returns-in_err-number-clause-gives c = rw (value_at-below c.args.depth I32 c.args.bytes.now (omega arith)) (search (rules, the_lemmas))

pub returns-clause-gives : goal.returns-clause-gives
returns-clause-gives c = rw (value_at-below c.args.depth I32 c.args.bytes.now (omega arith)) (search (rules, the_lemmas))
