use Rattle.std.proofs.Common.{◌+◌, ◌-◌, ◌++◌, ◌==◌, ◌∙◌, ap, arith, cond, refl, List, ℕ}
use Rattle.std.proofs.lemmas.Nat.Bits.{shr_and_one}
use Rattle.shredding.specs.Parts.{item_start}
use Rattle.levels.specs.Levels.{bit}
use Rattle.level_sections.specs.Blocks.{flat_level}
use Rattle.level_sections.specs.Definitions.{list_definitions, pending_levels}
use Rattle.level_sections.specs.Planes.{plane_number}
use Rattle.level_sections.proofs.Listed.{items-listed, items-there, listed-begin, listed-more}
use Rattle.level_sections.proofs.items.take_lists.Goals as goal

pub returns-then-at-window-clause-levels : goal.returns-then-at-window-clause-levels
returns-then-at-window-clause-levels g c = λ rest def is. c.with_others-after.ensures.levels def ∙ listed-begin (list_definitions c.args.list.now.is_optional c.args.list.now.validity c.args.list.now.offsets rest def) c.args.place (pending_levels def c.args.pending)

pub loop-i-init : goal.loop-i-init
loop-i-init g c = record {
  few = omega (arith, c.with_others-after.ensures.count, c.requires.room);
  within = omega arith;
  begun = omega (arith, c.if-at-window.false);
  known = omega (arith, c.if-at-window.false, c.requires.ordered);
  start = c.item_place-at.ensures.start ∙ ap (item_start c.args.list.now.offsets) (omega arith);
  edge = c.edge_of-edge.ensures.known;
  room = c.edge_of-edge.ensures.room;
  followed = λ i h lt.
      ap (plane_number c.with_others-after.result.planes) (omega (arith, c.with_others-after.ensures.count))
      ∙ (c.with_others-after.ensures.behind i (omega (arith, h, c.with_others-after.ensures.count)) ∙ ap (plane_number c.args.window.planes) (omega (arith, c.if-at-window.false)));
  levels = λ rest def is. c.with_others-after.ensures.levels def ∙ listed-begin (list_definitions c.args.list.now.is_optional c.args.list.now.validity c.args.list.now.offsets rest def) c.args.place (pending_levels def c.args.pending);
}

pub loop-i-preserved : goal.loop-i-preserved
loop-i-preserved g c =
    let h = c.loop-i.invariant in
    let list = c.args.list.now in
    let there = ap (λ n. n == 1) (shr_and_one c.args.word c.loop-i.i) ∙ c.requires.bits c.loop-i.i c.loop-i-test.true in
    let e = c.item_end-next.ensures in
    let after = c.in-Some.ensures in
    let items = c.item_end-next.result - c.loop-i.at in
    record {
      few = after.few;
      within = omega (arith, c.loop-i-test.true);
      begun = omega (arith, h.begun, e.ordered);
      known = after.known;
      start = e.end ∙ ap (item_start list.offsets) (omega arith);
      edge = after.edge;
      room = after.room;
      followed = after.followed;
      levels = λ rest def is.
          let level = flat_level rest (def + bit list.is_optional + 1) in
          let one = items-listed list.is_optional list.validity list.offsets rest def (c.args.place + c.loop-i.i) _ c.loop-i.at items (cond _ (bit list.is_optional) 0) there h.start (items-there _ items _ after.there e.count) refl in
          listed-more (list_definitions list.is_optional list.validity list.offsets rest def) c.args.place c.loop-i.i (pending_levels def c.args.pending) (pending_levels def c.loop-i.after) (pending_levels def c.in-Some.more) (h.levels rest def is)
          (after.levels def level is ∙ ap (λ (ys : List ℕ). pending_levels def c.loop-i.after ++ ys) one);
    }
