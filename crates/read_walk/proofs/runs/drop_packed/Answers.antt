use Rattle.std.proofs.Common.{arith, inl, inr}
use Rattle.pq_numbers.proofs.Bytes.{are-drop}
use Rattle.read_walk.specs.LevelRuns.{runs_left}
use Rattle.read_walk.proofs.Eights.{packed_taken, enough-bytes}
use Rattle.read_walk.proofs.runs.drop_packed.Goals as goal

pub skip-levels-requires : goal.skip-levels-requires
skip-levels-requires c =
    let s = c.args.levels.now in
    (enough-bytes s.runs.num_bits s.shift c.args.count s.standing s.packed.now c.requires.within c.requires.is.enough).0

pub returns-clause-is : goal.returns-clause-is
returns-clause-is c =
    let s = c.args.levels.now in
    let e = enough-bytes s.runs.num_bits s.shift c.args.count s.standing s.packed.now c.requires.within c.requires.is.enough in
    rw c.skip-levels.ensures record {
      fits = c.requires.is.fits;
      bits = elim c.requires.is.bits [ inl p ↦ inl p | inr q ↦ inr (omega (arith, q, c.requires.is.within, c.requires.none)) ];
      within = omega (arith, c.requires.is.within, c.requires.none, c.requires.within);
      small = omega arith;
      enough = e.1;
      are = are-drop _ _ c.requires.is.are;
    }

pub returns-clause-left : goal.returns-clause-left
unfolding runs_left
returns-clause-left c =
    let s = c.args.levels.now in
    rw (c.requires.none, c.skip-levels.ensures) (packed_taken s.runs.num_bits s.left s.number s.standing s.shift c.args.count s.packed.now s.runs.values.now c.requires.within (omega (arith, c.requires.is.within)) c.requires.is.are)
