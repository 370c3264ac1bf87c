use Rattle.std.proofs.Common.{◌+◌, ◌≤◌, ◌<◌, ◌^◌, ◌∙◌, arith, refl, subst, sym, ℕ}
use Rattle.levels.specs.Sizes.{list_size}
use Rattle.pq_runs.proofs.Packs.{kept_same, kept_then}
use Rattle.pq_runs.proofs.Steps.{finished}
use Rattle.level_sections.specs.Lists.{pending}
use Rattle.level_sections.proofs.Repeats.{numbers-below}
use Rattle.level_sections.proofs.Told.{none_opens, told_begin, lists_more, lists_end}
use Rattle.level_sections.proofs.lists.push_lists.Goals as goal

pub loop-place-init : goal.loop-place-init
loop-place-init g c = record {
  after = omega arith;
  before = c.requires.ordered;
  is_open = none_opens;
  width = refl;
  kept = kept_same c.args.out.now.items c.args.out.now.items refl;
  added = λ start xs k. told_begin start _ _ c.args.depth _ xs _ refl k;
}

pub loop-place-preserved : goal.loop-place-preserved
loop-place-preserved g c =
    let h = c.loop-place.invariant in
    let e = c.in_ok-starts.ensures in
    let list = c.args.list.now in
    let size = list_size list.is_optional list.validity list.offsets in
    let within : c.loop-place.place + c.min-count.result ≤ c.args.to = omega (arith, c.min-count.ensures, c.loop-place-test.true) in
    record {
      after = omega (arith, h.after);
      before = within;
      is_open = e.open;
      width = e.width ∙ h.width;
      kept = kept_then c.args.out.now.items c.loop-place.out.items c.push_some.new.out.items h.kept e.kept;
      added = λ start xs k.
          e.added list.is_optional list.validity c.present_word-word.ensures start _ _
          (lists_more start _ _ size c.args.depth c.loop-place.place c.min-count.result c.args.to (pending c.args.depth c.loop-place.starts) _ within (h.added start xs k));
    }

pub push_some-requires-clause-holds : goal.push_some-requires-clause-holds
push_some-requires-clause-holds g c = subst (λ (w : ℕ). c.args.depth + 1 < 2 ^ w) (sym c.loop-place.invariant.width) c.requires.holds

pub push_bits-requires-clause-low : goal.push_bits-requires-clause-low
push_bits-requires-clause-low g c = numbers-below c.args.depth c.loop-place.starts.word 0 c.loop-place.starts.count (2 ^ c.loop-place.writer.width) (subst (λ (w : ℕ). c.args.depth + 1 < 2 ^ w) (sym c.loop-place.invariant.width) c.requires.holds)

pub returns-clause-added : goal.returns-clause-added
returns-clause-added g c =
    let list = c.args.list.now in
    let size = list_size list.is_optional list.validity list.offsets in
    finished c.push_bits.result (λ f start xs k. lists_end start _ _ _ _ size c.args.depth c.loop-place.place _ c.loop-place.starts _ (omega (arith, c.loop-place-test.false)) f (c.loop-place.invariant.added start xs k)) c.push_bits.ensures.added
