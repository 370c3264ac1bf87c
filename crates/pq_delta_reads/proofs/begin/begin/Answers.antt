use Rattle.std.proofs.Common.{Bool, refl, ap, arith, inl, inr}
use Rattle.pq_delta_reads.specs.Reading.{later, later_of}
use Rattle.pq_delta_reads.proofs.begin.begin.Goals as goal

pub returns-then-state-clause-err : goal.returns-then-state-clause-err
unfolding later
returns-then-state-clause-err c =
    let s = c.args.state.now in
    (refl, c.requires.none, ap (λ (b : Bool). later_of b s.miniblocks s.groups s.least s.widths.now s.left s.bytes.now) c.if-state.true)

pub returns-then-state-eq0-clause-err : goal.returns-then-state-eq0-clause-err
unfolding later
returns-then-state-eq0-clause-err c =
    let s = c.begin_miniblock.new.state in (
      refl,
      c.if-state-eq0.true,
      elim c.in_ok-begin_miniblock.ensures.ok [
        | inl some ↦ absurd (omega (arith, some, c.if-state-eq0.true))
        | inr cut ↦ ap (λ (b : Bool). later_of b s.miniblocks s.groups s.least s.widths.now s.left s.bytes.now) cut
      ],
    )
