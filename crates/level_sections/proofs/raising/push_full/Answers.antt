use Rattle.std.proofs.Common.{◌≡◌, ℕ, List, ◌+◌, ◌-◌, ◌<◌, ◌≤◌, ◌++◌, ◌∷◌, ◌∙◌, ap, arith, drop, inl, inr, length, refl, slice_index, sym, take}
use Rattle.std.proofs.lemmas.Bool.{cases_lt}
use Rattle.std.proofs.lemmas.Grind.{get_or-set_at}
use Rattle.std.proofs.lemmas.List.{get_or-set_other, length-append}
use Rattle.shredding.specs.Parts.{item_start, list_part}
use Rattle.levels.specs.Nested.{parts_of}
use Rattle.level_sections.specs.Walk.{walked}
use Rattle.level_sections.proofs.SlotLevels.{cut-size}
use Rattle.level_sections.proofs.FullLists.{edges-low, edges-rise, full-between, full-step, none-behind}
use Rattle.level_sections.proofs.raising.push_full.Goals as goal

pub bounds-lower-edges : goal.bounds-lower-edges
bounds-lower-edges g c =
    let list = c.args.list.now in
    let to = c.args.at + c.args.count in
    let end : c.args.place + to ≡ c.args.place + c.args.at + c.args.count = omega arith in
    let before : item_start list.offsets (c.args.place + to) ≤ c.args.last = omega (arith, c.requires.before, ap (item_start list.offsets) end) in
    omega (arith, c.requires.beneath.few, edges-low list.offsets c.args.edges.now c.args.from c.args.place to c.args.last c.args.at c.requires.rises (omega (arith, c.requires.within, c.requires.some)) before c.requires.beneath.few c.requires.edges (omega arith))

pub push_part-requires-clause-ordered : goal.push_part-requires-clause-ordered
push_part-requires-clause-ordered g c =
    let list = c.args.list.now in
    let to = c.args.at + c.args.count in
    let end : c.args.place + to ≡ c.args.place + c.args.at + c.args.count = omega arith in
    let before : item_start list.offsets (c.args.place + to) ≤ c.args.last = omega (arith, c.requires.before, ap (item_start list.offsets) end) in
    (edges-rise c.args.level list.is_optional list.offsets c.args.edges.now (parts_of c.args.rest.now) c.args.above c.args.from c.args.place to c.args.last c.args.at to c.args.lower.now c.requires.rises c.requires.after (omega (arith, c.requires.within, c.requires.some)) before c.requires.edges c.requires.beneath (omega arith) (omega arith)).0

pub push_part-requires-clause-within : goal.push_part-requires-clause-within
push_part-requires-clause-within g c =
    let list = c.args.list.now in
    let to = c.args.at + c.args.count in
    let end : c.args.place + to ≡ c.args.place + c.args.at + c.args.count = omega arith in
    let before : item_start list.offsets (c.args.place + to) ≤ c.args.last = omega (arith, c.requires.before, ap (item_start list.offsets) end) in
    (edges-rise c.args.level list.is_optional list.offsets c.args.edges.now (parts_of c.args.rest.now) c.args.above c.args.from c.args.place to c.args.last c.args.at to c.args.lower.now c.requires.rises c.requires.after (omega (arith, c.requires.within, c.requires.some)) before c.requires.edges c.requires.beneath (omega arith) (omega arith)).1

pub loop-k-init : goal.loop-k-init
loop-k-init g c =
    let lower = c.args.lower.now in
    let lo = slice_index lower.starts (slice_index c.args.edges.now c.args.at) in
    let stop = slice_index lower.starts (slice_index c.args.edges.now (c.args.at + c.args.count)) in
    record {
      low = omega arith;
      high = omega arith;
      told = c.push_part.ensures c.if-not-push_part.false ∙ ap (λ (xs : List ℕ). xs ++ take (stop - lo) (drop lo lower.told)) c.requires.told.told;
      here = c.len-begin.ensures.size ∙ ap length c.requires.told.told;
      after = omega arith;
      sum = omega arith;
      starts = c.requires.told.starts;
    }

pub set_first-requires-clause-within : goal.set_first-requires-clause-within
set_first-requires-clause-within g c =
    let i = c.loop-k.invariant in
    let k = c.loop-k.k in
    let list = c.args.list.now in
    let lower = c.args.lower.now in
    let edges = c.args.edges.now in
    let rest = parts_of c.args.rest.now in
    let to = c.args.at + c.args.count in
    let lo = slice_index lower.starts (slice_index edges k) in
    let stop = slice_index lower.starts (slice_index edges to) in
    let within : c.args.place + to < length list.offsets = omega (arith, c.requires.within, c.requires.some) in
    let end : c.args.place + to ≡ c.args.place + c.args.at + c.args.count = omega arith in
    let before : item_start list.offsets (c.args.place + to) ≤ c.args.last = omega (arith, c.requires.before, ap (item_start list.offsets) end) in
    let below : k < to = omega (arith, c.loop-k-test.true) in
    let is = full-between c.args.level list.is_optional list.validity list.offsets edges rest c.args.above c.args.from c.args.place to c.args.last k lower c.requires.same c.requires.rises c.requires.after within before c.requires.edges c.requires.beneath below (c.requires.full k i.low below) (c.requires.there k i.low below) in
    let rise = edges-rise c.args.level list.is_optional list.offsets edges rest c.args.above c.args.from c.args.place to c.args.last (k + 1) to lower c.requires.rises c.requires.after within before c.requires.edges c.requires.beneath (omega (arith, below)) (omega arith) in
    let piece = take (stop - lo) (drop lo lower.told) in
    let front = walked c.args.level (list_part list.is_optional list.validity list.offsets ∷ rest) c.args.above c.args.from (c.args.place + k - c.args.from) in
    omega (arith, ap length i.told, length-append front piece, i.here, cut-size lower.told lo stop rise.1, is.ordered, rise.0)

pub bounds-lower-edges-in-loop-k : goal.bounds-lower-edges-in-loop-k
bounds-lower-edges-in-loop-k g c =
    let list = c.args.list.now in
    let to = c.args.at + c.args.count in
    let end : c.args.place + to ≡ c.args.place + c.args.at + c.args.count = omega arith in
    let before : item_start list.offsets (c.args.place + to) ≤ c.args.last = omega (arith, c.requires.before, ap (item_start list.offsets) end) in
    omega (arith, c.requires.beneath.few, edges-low list.offsets c.args.edges.now c.args.from c.args.place to c.args.last (c.loop-k.k + 1) c.requires.rises (omega (arith, c.requires.within, c.requires.some)) before c.requires.beneath.few c.requires.edges (omega (arith, c.loop-k-test.true)))

pub overflow_sub-here : goal.overflow_sub-here
overflow_sub-here g c =
    let list = c.args.list.now in
    let to = c.args.at + c.args.count in
    let end : c.args.place + to ≡ c.args.place + c.args.at + c.args.count = omega arith in
    let before : item_start list.offsets (c.args.place + to) ≤ c.args.last = omega (arith, c.requires.before, ap (item_start list.offsets) end) in
    (edges-rise c.args.level list.is_optional list.offsets c.args.edges.now (parts_of c.args.rest.now) c.args.above c.args.from c.args.place to c.args.last c.args.at (c.loop-k.k + 1) c.args.lower.now c.requires.rises c.requires.after (omega (arith, c.requires.within, c.requires.some)) before c.requires.edges c.requires.beneath (omega (arith, c.loop-k.invariant.low)) (omega (arith, c.loop-k-test.true))).0

pub overflow_cast-upper : goal.overflow_cast-upper
overflow_cast-upper g c =
    let list = c.args.list.now in
    let to = c.args.at + c.args.count in
    let end : c.args.place + to ≡ c.args.place + c.args.at + c.args.count = omega arith in
    let before : item_start list.offsets (c.args.place + to) ≤ c.args.last = omega (arith, c.requires.before, ap (item_start list.offsets) end) in
    let rise = edges-rise c.args.level list.is_optional list.offsets c.args.edges.now (parts_of c.args.rest.now) c.args.above c.args.from c.args.place to c.args.last c.args.at (c.loop-k.k + 1) c.args.lower.now c.requires.rises c.requires.after (omega (arith, c.requires.within, c.requires.some)) before c.requires.edges c.requires.beneath (omega (arith, c.loop-k.invariant.low)) (omega (arith, c.loop-k-test.true)) in
    omega (arith, rise.1, c.len-size.ensures.size, c.len-size.ensures.most, c.len-begin.ensures.most)

pub loop-k-preserved : goal.loop-k-preserved
loop-k-preserved g c =
    let i = c.loop-k.invariant in
    let k = c.loop-k.k in
    let list = c.args.list.now in
    let lower = c.args.lower.now in
    let edges = c.args.edges.now in
    let rest = parts_of c.args.rest.now in
    let parts = list_part list.is_optional list.validity list.offsets ∷ rest in
    let to = c.args.at + c.args.count in
    let lo = slice_index lower.starts (slice_index edges k) in
    let hi = slice_index lower.starts (slice_index edges (k + 1)) in
    let stop = slice_index lower.starts (slice_index edges to) in
    let W = λ (n : ℕ). walked c.args.level parts c.args.above c.args.from n in
    let n = c.args.place + k - c.args.from in
    let next = c.args.place + (k + 1) - c.args.from in
    let within : c.args.place + to < length list.offsets = omega (arith, c.requires.within, c.requires.some) in
    let end : c.args.place + to ≡ c.args.place + c.args.at + c.args.count = omega arith in
    let before : item_start list.offsets (c.args.place + to) ≤ c.args.last = omega (arith, c.requires.before, ap (item_start list.offsets) end) in
    let below : k < to = omega (arith, c.loop-k-test.true) in
    let is = full-between c.args.level list.is_optional list.validity list.offsets edges rest c.args.above c.args.from c.args.place to c.args.last k lower c.requires.same c.requires.rises c.requires.after within before c.requires.edges c.requires.beneath below (c.requires.full k i.low below) (c.requires.there k i.low below) in
    let rise = edges-rise c.args.level list.is_optional list.offsets edges rest c.args.above c.args.from c.args.place to c.args.last (k + 1) to lower c.requires.rises c.requires.after within before c.requires.edges c.requires.beneath (omega (arith, below)) (omega arith) in
    let piece = take (stop - lo) (drop lo lower.told) in
    let some : 0 < length piece = omega (arith, cut-size lower.told lo stop rise.1, is.ordered, rise.0) in
    let step = full-step c.args.level parts c.args.above c.args.from (c.args.place + k) n next (slice_index edges k) (slice_index edges (k + 1)) stop lower c.loop-k.upper.told c.set_first.new.told c.requires.same (omega (arith, c.requires.after)) (omega (arith, c.requires.after)) is rise.0 i.told (c.set_first.ensures (W n) piece i.told (sym i.here) some) in
    let first = slice_index lower.starts (slice_index edges c.args.at) in
    let here : ℕ = hi - first + c.len-begin.result in
    let same : here ≡ length (W next) = omega (arith, step.1, i.here, i.sum, i.after, is.ordered) in
    let place : ℕ = c.args.place - c.args.from + k + 1 in
    let place_is : place ≡ next = omega (arith, c.requires.after) in
    record {
      low = omega (arith, i.low);
      high = omega (arith, below);
      told = step.0;
      here = same;
      after = omega (arith, i.after, is.ordered);
      sum = refl;
      starts = λ j le. elim (cases_lt j place) [
        | inl less ↦ get_or-set_other c.loop-k.upper.starts place j here 0 (omega (arith, less)) ∙ i.starts j (omega (arith, less, c.requires.after))
        | inr more ↦
            let j_is : j ≡ place = omega (arith, le, more, place_is) in
            get_or-set_at c.loop-k.upper.starts place j here 0 j_is (omega (arith, c.requires.room, below, c.requires.after))
            ∙ (same ∙ ap (λ (m : ℕ). length (W m)) (sym (j_is ∙ place_is)))
      ];
    }

pub returns : goal.returns
returns g c =
    let i = c.loop-k.invariant in
    let list = c.args.list.now in
    let lower = c.args.lower.now in
    let edges = c.args.edges.now in
    let to = c.args.at + c.args.count in
    let W = λ (n : ℕ). walked c.args.level (list_part list.is_optional list.validity list.offsets ∷ parts_of c.args.rest.now) c.args.above c.args.from n in
    let end : c.loop-k.k ≡ to = omega (arith, i.high, c.loop-k-test.false) in
    let n : c.args.place + c.loop-k.k - c.args.from ≡ c.args.place + c.args.at + c.args.count - c.args.from = omega (arith, end) in
    λ t. record {
      few = c.requires.room;
      told = i.told ∙ (none-behind (slice_index lower.starts (slice_index edges c.loop-k.k)) (slice_index lower.starts (slice_index edges to)) lower.told (W (c.args.place + c.loop-k.k - c.args.from)) (ap (λ (j : ℕ). slice_index lower.starts (slice_index edges j)) end) ∙ ap W n);
      starts = λ j le. i.starts j (omega (arith, le, n));
    }
