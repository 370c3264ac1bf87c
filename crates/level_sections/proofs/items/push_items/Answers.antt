use Rattle.std.proofs.Common.{◌+◌, ◌<◌, ◌^◌, ◌∙◌, All, arith, refl, subst, sym, ℕ}
use Rattle.levels.specs.Nested.{parts_of}
use Rattle.levels.specs.Levels.{bit}
use Rattle.pq_runs.proofs.Packs.{kept_same, kept_then}
use Rattle.pq_runs.proofs.Steps.{finished}
use Rattle.level_sections.specs.Blocks.{flat_level}
use Rattle.level_sections.specs.Definitions.{list_definitions, pending_levels}
use Rattle.level_sections.proofs.PlaneNumbers.{planes-none}
use Rattle.level_sections.proofs.Listed.{told-begin, told-end, waits-none}
use Rattle.level_sections.proofs.items.push_items.Goals as goal

pub loop-place-init : goal.loop-place-init
loop-place-init g c = record {
  few = omega arith;
  after = omega arith;
  before = c.requires.ordered;
  width = refl;
  kept = kept_same c.args.out.now.items c.args.out.now.items refl;
  waits = waits-none (2 ^ c.args.writer.now.width) _ (planes-none c.args.def _ 0 0 refl);
  added = λ start xs k. told-begin start _ _ _ xs _ (planes-none c.args.def _ 0 0 refl) k;
}

pub loop-place-preserved : goal.loop-place-preserved
loop-place-preserved g c =
    let h = c.loop-place.invariant in
    let e = c.in_ok-after.ensures in
    record {
      few = e.few;
      after = omega (arith, h.after, e.after);
      before = e.before;
      width = e.width ∙ h.width;
      kept = kept_then c.args.out.now.items c.loop-place.out.items c.push_some.new.out.items h.kept e.kept;
      waits = subst (λ (w : ℕ). All (λ v. v < 2 ^ w) (pending_levels c.args.def c.in_ok-after.after)) h.width e.waits;
      added = λ start xs k. e.added start _ (h.added start xs k);
    }

pub push_some-requires-clause-waits : goal.push_some-requires-clause-waits
push_some-requires-clause-waits g c = subst (λ (w : ℕ). All (λ v. v < 2 ^ w) (pending_levels c.args.def c.loop-place.pending)) (sym c.loop-place.invariant.width) c.loop-place.invariant.waits

pub push_some-requires-clause-holds : goal.push_some-requires-clause-holds
push_some-requires-clause-holds g c = subst (λ (w : ℕ). (j : ℕ) → flat_level (parts_of c.args.rest.now) (c.args.def + bit c.args.list.now.is_optional + 1) j < 2 ^ w) (sym c.loop-place.invariant.width) c.requires.holds

pub push_planes-requires-clause-holds : goal.push_planes-requires-clause-holds
push_planes-requires-clause-holds g c = subst (λ (w : ℕ). All (λ v. v < 2 ^ w) (pending_levels c.args.def c.loop-place.pending)) (sym c.loop-place.invariant.width) c.loop-place.invariant.waits

pub returns-clause-added : goal.returns-clause-added
returns-clause-added g c =
    let list = c.args.list.now in
    let levels = list_definitions list.is_optional list.validity list.offsets (parts_of c.args.rest.now) c.args.def in
    finished c.push_planes.result (λ f start xs k. told-end start _ _ _ _ levels c.loop-place.place _ (pending_levels c.args.def c.loop-place.pending) _ (omega (arith, c.loop-place-test.false)) f (c.loop-place.invariant.added start xs k)) c.push_planes.ensures.added
