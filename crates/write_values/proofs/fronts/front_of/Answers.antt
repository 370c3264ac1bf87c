use Rattle.std.proofs.Common.{◌-◌, drop, take, ap, ◌∙◌, arith}
use Rattle.write_values.specs.FirstBytes.{front}
use Rattle.write_values.proofs.FirstBytes.{front_of_chunk, front_short, front_whole, small_behind, small_piece, whole_rest}
use Rattle.write_values.proofs.fronts.front_of.Goals as goal

pub returns-then-end-start-lt16-clause-small : goal.returns-then-end-start-lt16-clause-small
returns-then-end-start-lt16-clause-small c = small_piece c.args.start (c.args.end - c.args.start) c.args.all.now (λ i. omega (arith, c.type_inv.all i))

pub returns-then-end-start-lt16-clause-is : goal.returns-then-end-start-lt16-clause-is
returns-then-end-start-lt16-clause-is c =
    let rest = drop c.args.start c.args.all.now in
    c.kept_front.ensures ∙ front_short (c.args.end - c.args.start) rest c.from_be_bytes-number.result (small_behind c.args.start c.args.all.now (λ i. omega (arith, c.type_inv.all i))) (omega (arith, c.if-end-start-lt16.true)) (c.from_be_bytes-number.ensures ∙ (front_of_chunk c.in-Some.chunk.now ∙ ap (front 16) (c.in-Some.ensures.cases.same ∙ ap (take 16) (whole_rest c.args.start c.args.all.now))))

pub returns-else-end-start-lt16-clause-small : goal.returns-else-end-start-lt16-clause-small
returns-else-end-start-lt16-clause-small c = small_piece c.args.start (c.args.end - c.args.start) c.args.all.now (λ i. omega (arith, c.type_inv.all i))

pub returns-else-end-start-lt16-clause-is : goal.returns-else-end-start-lt16-clause-is
returns-else-end-start-lt16-clause-is c =
    let rest = drop c.args.start c.args.all.now in
    front_whole (c.args.end - c.args.start) rest c.from_be_bytes-number.result (omega (arith, c.if-end-start-lt16.false)) (c.from_be_bytes-number.ensures ∙ (front_of_chunk c.in-Some.chunk.now ∙ ap (front 16) (c.in-Some.ensures.cases.same ∙ ap (take 16) (whole_rest c.args.start c.args.all.now))))
