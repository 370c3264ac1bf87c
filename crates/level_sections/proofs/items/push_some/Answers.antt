use Rattle.std.proofs.Common.{◌≤◌, ◌<◌, ◌+◌, ◌-◌, ◌^◌, ◌==◌, ◌∙◌, ap, arith, refl}
use Rattle.std.proofs.lemmas.Nat.Bits.{shr_and_one}
use Rattle.levels.specs.Nested.{parts_of}
use Rattle.levels.proofs.Rising.{rising}
use Rattle.level_sections.specs.Definitions.{list_definitions, listed_from, pending_levels}
use Rattle.level_sections.proofs.Blocks.{reaches-less}
use Rattle.level_sections.proofs.Listed.{definitions-below, told-next, told-taken, waits-more}
use Rattle.level_sections.proofs.items.push_some.Goals as goal

pub window_at-window-requires-clause-reaches : goal.window_at-window-requires-clause-reaches
window_at-window-requires-clause-reaches g c = reaches-less _ _ (parts_of c.args.rest.now) c.item_place-end.ensures.within c.requires.reaches

pub window_at-window-requires-clause-ordered : goal.window_at-window-requires-clause-ordered
window_at-window-requires-clause-ordered g c =
    omega (arith, c.item_place-first.ensures.start, c.item_place-end.ensures.start, rising c.args.list.now.offsets c.args.place (c.args.place + c.min-count.result) c.item_place-first.ensures.rises (omega arith) (omega (arith, c.min-count.ensures, c.requires.some, c.requires.within)))

pub returns-then-taken-count-clause-waits : goal.returns-then-taken-count-clause-waits
returns-then-taken-count-clause-waits g c =
    let list = c.args.list.now in
    let rest = parts_of c.args.rest.now in
    waits-more (list_definitions list.is_optional list.validity list.offsets rest c.args.def) (2 ^ c.args.writer.now.width) c.args.place c.take_lists-taken.result.1 _ _ (c.take_lists-taken.ensures.levels rest c.args.def (c.window_at-window.ensures.levels c.args.def))
    (λ i. definitions-below list.is_optional list.validity list.offsets rest c.args.def i (2 ^ c.args.writer.now.width) c.requires.holds) c.requires.waits

pub returns-then-taken-count-clause-added : goal.returns-then-taken-count-clause-added
returns-then-taken-count-clause-added g c =
    let list = c.args.list.now in
    let rest = parts_of c.args.rest.now in
    let within : c.args.place + c.take_lists-taken.result.1 ≤ c.args.to = omega (arith, c.take_lists-taken.ensures.before, c.min-count.ensures, c.requires.some) in
    λ start whole k.
    told-taken start _ _ (list_definitions list.is_optional list.validity list.offsets rest c.args.def) c.args.place c.take_lists-taken.result.1 c.args.to _ (pending_levels c.args.def c.args.pending) (pending_levels c.args.def c.take_lists-taken.result.0) whole within refl (c.take_lists-taken.ensures.levels rest c.args.def (c.window_at-window.ensures.levels c.args.def)) k

pub push_list-requires-clause-there : goal.push_list-requires-clause-there
push_list-requires-clause-there g c =
    ap (λ n. n == 1) (shr_and_one c.present_word-word.result c.take_lists-taken.result.1) ∙ c.present_word-word.ensures c.take_lists-taken.result.1 (omega (arith, c.take_lists-taken.ensures.before, c.if-taken-count.false))

pub push_list-requires-clause-waits : goal.push_list-requires-clause-waits
push_list-requires-clause-waits g c =
    let list = c.args.list.now in
    let rest = parts_of c.args.rest.now in
    waits-more (list_definitions list.is_optional list.validity list.offsets rest c.args.def) (2 ^ c.args.writer.now.width) c.args.place c.take_lists-taken.result.1 _ _ (c.take_lists-taken.ensures.levels rest c.args.def (c.window_at-window.ensures.levels c.args.def))
    (λ i. definitions-below list.is_optional list.validity list.offsets rest c.args.def i (2 ^ c.args.writer.now.width) c.requires.holds) c.requires.waits

pub returns-clause-added : goal.returns-clause-added
returns-clause-added g c =
    let list = c.args.list.now in
    let rest = parts_of c.args.rest.now in
    let levels = list_definitions list.is_optional list.validity list.offsets rest c.args.def in
    let next = c.args.place + c.take_lists-taken.result.1 in
    let some : next < c.args.to = omega (arith, c.take_lists-taken.ensures.before, c.if-taken-count.false, c.min-count.ensures, c.requires.some) in
    λ start whole k.
    c.in_ok-after.ensures.added start (listed_from levels (next + 1) (c.args.to - (next + 1))) whole
    (told-next start _ _ levels next c.args.to (next + 1) (pending_levels c.args.def c.take_lists-taken.result.0) whole some refl
    (told-taken start _ _ levels c.args.place c.take_lists-taken.result.1 c.args.to next (pending_levels c.args.def c.args.pending) (pending_levels c.args.def c.take_lists-taken.result.0) whole (omega (arith, some)) refl (c.take_lists-taken.ensures.levels rest c.args.def (c.window_at-window.ensures.levels c.args.def)) k))
