use Rattle.std.proofs.Common.{◌≡◌, ℕ, ◌-◌, ◌*◌, ◌<◌, ◌≤◌, ◌^◌, ap, refl, arith, length, min, inl}
use Rattle.std.proofs.lemmas.List.{length-drop}
use Rattle.pq_runs.specs.DeltaReading.{failed}
use Rattle.pq_delta_reads.specs.Reading.{later, later_of, items, total}
use Rattle.pq_delta_reads.proofs.Steps.{mini_wide, mini_on, mini_off, mini_taken, mini_last, none_missing, gives_items, size_fits}
use Rattle.pq_delta_reads.proofs.begin.begin_miniblock.Goals as goal

pub returns-then-width-gt64-clause-err : goal.returns-then-width-gt64-clause-err
unfolding later
returns-then-width-gt64-clause-err c =
    let s = c.args.state.now in
    (refl, c.requires.idle.none, rw (c.requires.idle.whole, c.in-Some.ensures) (mini_wide s.miniblocks s.groups s.left c.in-Some.width s.least c.in-Some.others.now s.bytes.now c.requires.idle.some c.if-width-gt64.true))

pub returns-then-count-wanted-clause-keeps : goal.returns-then-count-wanted-clause-keeps
unfolding later items total
returns-then-count-wanted-clause-keeps c =
    let s = c.args.state.now in
    let size : c.from.result * s.groups ≡ c.in-Some.width * s.groups = ap (λ (w : ℕ). w * s.groups) c.from.ensures in
    let few : c.standing-count.result < min s.left (8 * s.groups) = omega (arith, c.if-count-wanted.true, c.min-wanted.ensures) in
    let e = mini_off s.cut s.miniblocks s.groups s.left c.in-Some.width c.standing-count.result (c.from.result * s.groups) s.least s.widths.now c.in-Some.others.now s.bytes.now c.split_up_to.result.0.now c.requires.idle.whole c.requires.idle.some c.if-width-gt64.false c.in-Some.ensures size c.split_up_to.ensures.front c.standing-count.ensures few in
    let g = gives_items s.latest s.least s.least s.buffer s.width c.in-Some.width s.standing c.standing-count.result 0 s.packed.now s.bytes.now (later_of s.cut s.miniblocks s.groups s.least s.widths.now s.left s.bytes.now) failed c.requires.idle.empty c.requires.idle.none e in
    record {
      items = g.0;
      total = omega (arith, g.1);
      left = omega (arith, few, c.requires.idle.none);
    }

pub returns-then-count-wanted-clause-is : goal.returns-then-count-wanted-clause-is
returns-then-count-wanted-clause-is c =
    let s = c.args.state.now in
    let few : c.standing-count.result < min s.left (8 * s.groups) = omega (arith, c.if-count-wanted.true, c.min-wanted.ensures) in
    record {
      some_miniblocks = c.requires.is.some_miniblocks;
      some_groups = c.requires.is.some_groups;
      few_groups = c.requires.is.few_groups;
      fits = c.if-width-gt64.false;
      few = omega (arith, c.requires.is.few, c.requires.idle.none, few);
      within = c.requires.is.within;
      lacks = c.requires.is.lacks;
      last = inl (none_missing s.missing s.left c.requires.idle.some c.requires.is.last);
      wanted = λ e. omega (arith, few);
      are = c.split_up_to.ensures.are;
    }

pub returns-clause-is : goal.returns-clause-is
returns-clause-is c =
    let s = c.args.state.now in
    let size : c.from.result * s.groups ≡ c.in-Some.width * s.groups = ap (λ (w : ℕ). w * s.groups) c.from.ensures in
    let all_there : min s.left (8 * s.groups) ≤ c.standing-count.result = omega (arith, c.if-count-wanted.false, c.min-wanted.ensures) in
    let most : c.in-Some.width * s.groups < 2 ^ 70 = size_fits c.in-Some.width s.groups c.if-width-gt64.false c.requires.is.few_groups in
    record {
      some_miniblocks = c.requires.is.some_miniblocks;
      some_groups = c.requires.is.some_groups;
      few_groups = c.requires.is.few_groups;
      fits = c.if-width-gt64.false;
      few = omega (arith, c.requires.is.few, c.requires.idle.none, c.standing-count.ensures);
      within = omega (arith, c.requires.is.within, ap length c.split_up_to.ensures.back, length-drop (c.from.result * s.groups) s.bytes.now);
      lacks = omega (arith, most, size);
      last = mini_last s.groups s.left c.in-Some.width c.standing-count.result (c.from.result * s.groups) _ s.bytes.now c.split_up_to.result.0.now size c.split_up_to.ensures.front refl c.standing-count.ensures all_there;
      wanted = λ e. (let no = rw c.requires.idle.whole at e in absurd cc);
      are = c.split_up_to.ensures.are;
    }

pub returns-clause-keeps : goal.returns-clause-keeps
unfolding later items total
returns-clause-keeps c =
    let s = c.args.state.now in
    let size : c.from.result * s.groups ≡ c.in-Some.width * s.groups = ap (λ (w : ℕ). w * s.groups) c.from.ensures in
    let all_there : min s.left (8 * s.groups) ≤ c.standing-count.result = omega (arith, c.if-count-wanted.false, c.min-wanted.ensures) in
    let e = mini_on s.cut s.miniblocks s.groups s.left c.in-Some.width c.standing-count.result (c.from.result * s.groups) s.least s.widths.now c.in-Some.others.now s.bytes.now c.split_up_to.result.0.now c.split_up_to.result.1.now c.requires.idle.whole c.requires.idle.some c.if-width-gt64.false c.in-Some.ensures size c.split_up_to.ensures.front c.split_up_to.ensures.back c.standing-count.ensures all_there in
    let g = gives_items s.latest s.least s.least s.buffer s.width c.in-Some.width s.standing c.standing-count.result (c.in-Some.width * s.groups) s.packed.now s.bytes.now (later_of s.cut s.miniblocks s.groups s.least s.widths.now s.left s.bytes.now) (later_of s.cut s.miniblocks s.groups s.least c.in-Some.others.now (s.left - c.standing-count.result) c.split_up_to.result.1.now) c.requires.idle.empty c.requires.idle.none e in
    let t = mini_taken s.length s.groups s.left c.in-Some.width c.standing-count.result (c.from.result * s.groups) s.missing _ s.bytes.now c.split_up_to.result.0.now c.split_up_to.result.1.now c.requires.is.within (none_missing s.missing s.left c.requires.idle.some c.requires.is.last) size c.split_up_to.ensures.front c.split_up_to.ensures.back refl in
    record {
      items = g.0;
      total = omega (arith, g.1, t);
      left = omega (arith, c.standing-count.ensures, c.requires.idle.none);
    }
