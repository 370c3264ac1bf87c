use Rattle.std.proofs.Common.{◌-◌, refl, arith, ap, sym, ◌∙◌, replicate, Bool, ◌++◌}
use Rattle.pq_bitmaps.specs.Called.{given_bits, bits_called}
use Rattle.pq_bitmaps.proofs.Truths.{copies_called, copies_fail, no_copies_called}
use Rattle.pq_bitmaps.proofs.cursor.take_copies.Goals as goal

pub returns-then-count-eq0-clause-ok : goal.returns-then-count-eq0-clause-ok
returns-then-count-eq0-clause-ok c = no_copies_called c.args.cursor.now.left c.args.count c.min-count.result c.args.cursor.now.bytes.now c.args.value.now c.args.rest.now c.requires.some c.requires.run (omega (arith, c.min-count.ensures)) c.if-count-eq0.true

pub returns-in-Some-clause-ok : goal.returns-in-Some-clause-ok
returns-in-Some-clause-ok c =
    copies_called c.args.cursor.now.left c.args.count c.min-count.result c.args.cursor.now.bytes.now c.args.value.now c.args.rest.now c.requires.some c.requires.run (omega (arith, c.min-count.ensures)) c.in-Some.ensures.0
    ∙ ap (λ (b : Bool). given_bits (replicate c.min-count.result b) ++ bits_called (c.args.cursor.now.left - c.min-count.result) c.args.rest.now) (sym c.in-Some.ensures.1)

pub returns-in-None-clause-err : goal.returns-in-None-clause-err
returns-in-None-clause-err c = (
  refl,
  copies_fail c.args.cursor.now.left c.args.count c.min-count.result c.args.cursor.now.bytes.now c.args.value.now c.args.rest.now c.requires.some c.requires.run (omega (arith, c.min-count.ensures)) (omega arith) (omega (arith, c.in-None.ensures)),
  refl,
)
