use Rattle.std.proofs.Common.{◌≡◌, ◌-◌, ◌^◌, ◌++◌, ◌∷◌, refl, subst, List, ℕ}
use Rattle.shredding.specs.Parts.{list_part}
use Rattle.levels.specs.Nested.{parts_of}
use Rattle.pq_runs.specs.Writing.{Keeps}
use Rattle.pq_runs.proofs.Steps.{finished}
use Rattle.level_sections.proofs.Listed.{items-below, items-reach, listed-items}
use Rattle.level_sections.proofs.items.walk_items.Goals as goal

pub push_items-requires-clause-reaches : goal.push_items-requires-clause-reaches
push_items-requires-clause-reaches c =
    let list = c.in-List.list in
    let e : parts_of c.args.parts.now ≡ list_part list.is_optional list.validity list.offsets ∷ parts_of c.in-Some.rest.now = rw (c.in-Some.ensures.cases.0, c.in-List.is) refl in
    items-reach list.is_optional list.validity list.offsets (parts_of c.in-Some.rest.now) (parts_of c.args.parts.now) e c.requires.items.1 c.requires.well.fits

pub push_items-requires-clause-holds : goal.push_items-requires-clause-holds
push_items-requires-clause-holds c =
    let list = c.in-List.list in
    let e : parts_of c.args.parts.now ≡ list_part list.is_optional list.validity list.offsets ∷ parts_of c.in-Some.rest.now = rw (c.in-Some.ensures.cases.0, c.in-List.is) refl in
    items-below list.is_optional list.validity list.offsets (parts_of c.in-Some.rest.now) (parts_of c.args.parts.now) c.args.above.def (2 ^ c.args.writer.now.width) e c.requires.items.1 c.requires.well.fits c.requires.holds

pub returns-in-List-clause-added : goal.returns-in-List-clause-added
returns-in-List-clause-added c =
    let list = c.in-List.list in
    let e : parts_of c.args.parts.now ≡ list_part list.is_optional list.validity list.offsets ∷ parts_of c.in-Some.rest.now = rw (c.in-Some.ensures.cases.0, c.in-List.is) refl in
    let is = listed-items c.args.level list.is_optional list.validity list.offsets (parts_of c.in-Some.rest.now) (parts_of c.args.parts.now) c.args.above c.args.from (c.args.to - c.args.from) e c.requires.items c.requires.well.fits in
    finished c.push_items.result (λ f start xs k. subst (λ (ys : List ℕ). Keeps start c.push_items.new.out.items c.push_items.new.writer (xs ++ ys)) is (f start xs k)) c.push_items.ensures.added

pub push_items-requires-in-LargeList-clause-reaches : goal.push_items-requires-in-LargeList-clause-reaches
push_items-requires-in-LargeList-clause-reaches c =
    let list = c.in-LargeList.list in
    let e : parts_of c.args.parts.now ≡ list_part list.is_optional list.validity list.offsets ∷ parts_of c.in-Some.rest.now = rw (c.in-Some.ensures.cases.0, c.in-LargeList.is) refl in
    items-reach list.is_optional list.validity list.offsets (parts_of c.in-Some.rest.now) (parts_of c.args.parts.now) e c.requires.items.1 c.requires.well.fits

pub push_items-requires-in-LargeList-clause-holds : goal.push_items-requires-in-LargeList-clause-holds
push_items-requires-in-LargeList-clause-holds c =
    let list = c.in-LargeList.list in
    let e : parts_of c.args.parts.now ≡ list_part list.is_optional list.validity list.offsets ∷ parts_of c.in-Some.rest.now = rw (c.in-Some.ensures.cases.0, c.in-LargeList.is) refl in
    items-below list.is_optional list.validity list.offsets (parts_of c.in-Some.rest.now) (parts_of c.args.parts.now) c.args.above.def (2 ^ c.args.writer.now.width) e c.requires.items.1 c.requires.well.fits c.requires.holds

pub returns-in-LargeList-clause-added : goal.returns-in-LargeList-clause-added
returns-in-LargeList-clause-added c =
    let list = c.in-LargeList.list in
    let e : parts_of c.args.parts.now ≡ list_part list.is_optional list.validity list.offsets ∷ parts_of c.in-Some.rest.now = rw (c.in-Some.ensures.cases.0, c.in-LargeList.is) refl in
    let is = listed-items c.args.level list.is_optional list.validity list.offsets (parts_of c.in-Some.rest.now) (parts_of c.args.parts.now) c.args.above c.args.from (c.args.to - c.args.from) e c.requires.items c.requires.well.fits in
    finished c.push_items-in-LargeList.result (λ f start xs k. subst (λ (ys : List ℕ). Keeps start c.push_items-in-LargeList.new.out.items c.push_items-in-LargeList.new.writer (xs ++ ys)) is (f start xs k)) c.push_items-in-LargeList.ensures.added
