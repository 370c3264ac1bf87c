use Rattle.std.proofs.Common.{◌^◌, ◌∙◌, ap, length, arith, refl}
use Rattle.pq_numbers.specs.Texts.{number_of}
use Rattle.pq_numbers.proofs.Bytes.{are-drop}
use Rattle.pq_numbers.proofs.Digits.{length-digits}
use Rattle.pq_delta_reads.specs.Reading.{later, later_of, items, total}
use Rattle.pq_delta_reads.proofs.Steps.{fill_items}
use Rattle.pq_delta_reads.proofs.take.fill.Goals as goal

pub returns-clause-is : goal.returns-clause-is
returns-clause-is c =
    let s = c.args.state.now in
    let count = ap length c.fill.ensures ∙ length-digits (2 ^ s.width) c.min-count.result (number_of s.packed.now) in
    record {
      some_miniblocks = c.requires.is.some_miniblocks;
      some_groups = c.requires.is.some_groups;
      few_groups = c.requires.is.few_groups;
      fits = c.requires.is.fits;
      few = omega (arith, c.requires.is.few, count, c.min-count.ensures);
      within = c.requires.is.within;
      lacks = c.requires.is.lacks;
      last = c.requires.is.last;
      wanted = c.requires.is.wanted;
      are = rw c.skip-state.ensures (are-drop _ _ c.requires.is.are);
    }

pub returns-clause-keeps : goal.returns-clause-keeps
unfolding items total later
returns-clause-keeps c =
    let s = c.args.state.now in
    let count = ap length c.fill.ensures ∙ length-digits (2 ^ s.width) c.min-count.result (number_of s.packed.now) in
    record {
      items = fill_items s.latest s.least s.buffer c.fill.new.self s.width s.standing c.min-count.result s.packed.now c.skip-state.result.now (later_of s.cut s.miniblocks s.groups s.least s.widths.now s.left s.bytes.now) c.requires.empty c.requires.is.are c.min-count.ensures c.fill.ensures c.skip-state.ensures;
      total = refl;
      left = omega (arith, count, c.min-count.ensures, c.requires.empty);
    }
