use Rattle.std.proofs.Common.{◌+◌, ◌-◌, ◌^◌, ◌++◌, ◌∙◌, ap, arith, refl, subst, List, ℕ}
use Rattle.levels.specs.Levels.{bit}
use Rattle.levels.specs.Nested.{parts_of}
use Rattle.pq_runs.specs.Writing.{Keeps}
use Rattle.level_sections.specs.Blocks.{flat_level}
use Rattle.level_sections.specs.Definitions.{list_definitions, pending_levels}
use Rattle.level_sections.specs.Planes.{plane_number}
use Rattle.level_sections.proofs.Blocks.{reaches-less}
use Rattle.level_sections.proofs.PlaneNumbers.{planes-none}
use Rattle.level_sections.proofs.Listed.{definitions-below, items-listed, long-definitions, told-long, told-short, waits-none, waits-one}
use Rattle.level_sections.proofs.items.push_list.Goals as goal

pub push_flat-requires-clause-reaches : goal.push_flat-requires-clause-reaches
push_flat-requires-clause-reaches g c = reaches-less _ _ (parts_of c.args.rest.now) c.items_of-first.ensures.within c.requires.reaches

pub window_at-window-requires-clause-reaches : goal.window_at-window-requires-clause-reaches
window_at-window-requires-clause-reaches g c = reaches-less _ _ (parts_of c.args.rest.now) c.items_of-first.ensures.within c.requires.reaches

pub returns-then-items-gt64-clause-waits : goal.returns-then-items-gt64-clause-waits
returns-then-items-gt64-clause-waits g c = waits-none (2 ^ c.args.writer.now.width) _ (planes-none c.args.def _ 0 0 refl)

pub returns-then-items-gt64-clause-added : goal.returns-then-items-gt64-clause-added
returns-then-items-gt64-clause-added g c =
    let list = c.args.list.now in
    let rest = parts_of c.args.rest.now in
    let e = c.items_of-first.ensures in
    let first = c.items_of-first.result.0 in
    let items = c.items_of-first.result.1 - first in
    let is = long-definitions list.is_optional list.validity list.offsets rest c.args.def c.args.i c.args.there first items items (c.args.def + c.step_of.result + 1) c.requires.there e.first e.count (λ z. absurd (omega (arith, z, c.if-items-gt64.true))) refl (omega (arith, c.step_of.ensures.value)) in
    λ start left whole k.
    told-long start _ _ _ _ _ _ (pending_levels c.args.def c.args.pending) _ (list_definitions list.is_optional list.validity list.offsets rest c.args.def c.args.i) left whole (planes-none c.args.def _ 0 0 refl) c.in_ok-push_planes.ensures.added
    (λ s xs n. subst (λ (ys : List ℕ). Keeps s c.push_flat.new.out.items c.push_flat.new.writer (xs ++ ys)) is (c.in_ok-push_flat.ensures.added s xs n)) k

pub returns-clause-waits : goal.returns-clause-waits
returns-clause-waits g c =
    let list = c.args.list.now in
    let rest = parts_of c.args.rest.now in
    let e = c.items_of-first.ensures in
    let first = c.items_of-first.result.0 in
    let is = items-listed list.is_optional list.validity list.offsets rest c.args.def c.args.i c.args.there first (c.items_of-first.result.1 - first) c.step_at-empty.result c.requires.there e.first e.count c.step_at-empty.ensures.value in
    waits-one (2 ^ c.args.writer.now.width) _ (list_definitions list.is_optional list.validity list.offsets rest c.args.def c.args.i) _ (planes-none c.args.def (record { ones = 0; twos = 0; fours = 0 }) 0 0 refl)
    (c.with_list.ensures.levels c.args.def (flat_level rest (c.args.def + bit list.is_optional + 1)) (c.window_at-window.ensures.levels c.args.def) ∙ (ap (λ (ys : List ℕ). pending_levels c.args.def c.with_others-pending.result ++ ys) is ∙ ap (λ (ys : List ℕ). ys ++ list_definitions list.is_optional list.validity list.offsets rest c.args.def c.args.i) (c.with_others-pending.ensures.levels c.args.def)))
    (definitions-below list.is_optional list.validity list.offsets rest c.args.def c.args.i (2 ^ c.args.writer.now.width) c.requires.holds)

pub returns-clause-added : goal.returns-clause-added
returns-clause-added g c =
    let list = c.args.list.now in
    let rest = parts_of c.args.rest.now in
    let e = c.items_of-first.ensures in
    let first = c.items_of-first.result.0 in
    let is = items-listed list.is_optional list.validity list.offsets rest c.args.def c.args.i c.args.there first (c.items_of-first.result.1 - first) c.step_at-empty.result c.requires.there e.first e.count c.step_at-empty.ensures.value in
    λ start left whole k.
    told-short start _ _ _ _ (pending_levels c.args.def c.args.pending) _ (pending_levels c.args.def c.with_list.result) (list_definitions list.is_optional list.validity list.offsets rest c.args.def c.args.i) left whole (planes-none c.args.def (record { ones = 0; twos = 0; fours = 0 }) 0 0 refl)
    (c.with_list.ensures.levels c.args.def (flat_level rest (c.args.def + bit list.is_optional + 1)) (c.window_at-window.ensures.levels c.args.def) ∙ (ap (λ (ys : List ℕ). pending_levels c.args.def c.with_others-pending.result ++ ys) is ∙ ap (λ (ys : List ℕ). ys ++ list_definitions list.is_optional list.validity list.offsets rest c.args.def c.args.i) (c.with_others-pending.ensures.levels c.args.def)))
    c.in_ok-push_planes.ensures.added k

pub with_list-requires-clause-followed : goal.with_list-requires-clause-followed
with_list-requires-clause-followed g c = λ i h lt.
    ap (plane_number c.with_others-pending.result.planes) (omega (arith, c.with_others-pending.ensures.count))
    ∙ (c.with_others-pending.ensures.behind i (omega (arith, h, c.with_others-pending.ensures.count)) ∙ ap (plane_number c.window_at-window.result.planes) (omega (arith, c.window_at-window.ensures.first)))
