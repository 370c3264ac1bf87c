use Rattle.std.proofs.Common.{◌+◌, ◌<◌, ◌^◌, ◌∙◌, arith, refl, subst, sym, ℕ}
use Rattle.levels.specs.Sizes.{list_size}
use Rattle.pq_runs.proofs.Packs.{kept_same, kept_then}
use Rattle.level_sections.specs.Lists.{pending}
use Rattle.level_sections.proofs.Told.{some_begin, some_end}
use Rattle.level_sections.proofs.lists.push_some.Goals as goal

pub loop-i-init : goal.loop-i-init
loop-i-init g c = record {
  is_open = c.requires.open;
  within = omega arith;
  width = refl;
  kept = kept_same c.args.out.now.items c.args.out.now.items refl;
  added = λ is_optional mask bits start rest whole k. some_begin start _ _ (list_size is_optional mask c.args.offsets.now) c.args.depth c.args.place c.args.count _ _ (pending c.args.depth c.args.starts) rest whole (omega arith) (omega arith) k;
}

pub loop-i-preserved : goal.loop-i-preserved
loop-i-preserved g c =
    let h = c.loop-i.invariant in
    let e = c.in_ok-next.ensures in
    record {
      is_open = e.open;
      within = e.before;
      width = e.width ∙ h.width;
      kept = kept_then c.args.out.now.items c.loop-i.out.items c.push_word.new.out.items h.kept e.kept;
      added = λ is_optional mask bits start rest whole k. e.added is_optional mask bits start rest whole (h.added is_optional mask bits start rest whole k);
    }

pub returns-clause-added : goal.returns-clause-added
returns-clause-added g c = λ is_optional mask bits start rest whole k. some_end start _ _ (list_size is_optional mask c.args.offsets.now) c.args.depth _ _ (pending c.args.depth c.loop-i.after) rest whole (omega (arith, c.loop-i-test.false)) (c.loop-i.invariant.added is_optional mask bits start rest whole k)

pub push_word-requires-clause-holds : goal.push_word-requires-clause-holds
push_word-requires-clause-holds g c = subst (λ (w : ℕ). c.args.depth + 1 < 2 ^ w) (sym c.loop-i.invariant.width) c.requires.holds
