use Rattle.std.proofs.Common.{◌≡◌, ◌+◌, ◌^◌, ◌<◌, ◌++◌, ◌∙◌, ℕ, List, All, ap, arith, subst, sym}
use Rattle.pq_runs.specs.Writing.{Keeps}
use Rattle.pq_runs.proofs.Steps.{finished}
use Rattle.level_sections.specs.Planes.{plane_number}
use Rattle.level_sections.proofs.PlaneNumbers.{planes-bits, planes-taken}
use Rattle.level_sections.proofs.planes.push_planes.Goals as goal

pub push_each-requires : goal.push_each-requires
push_each-requires c =
    let e = planes-taken c.args.low c.args.planes c.wide_numbers_in-numbers.result 0 c.args.count (omega (arith, c.requires.few)) (λ i h. c.wide_numbers_in-numbers.ensures i h ∙ ap (λ (k : ℕ). c.args.low + plane_number c.args.planes k) (omega arith)) in
    record { low = subst (λ (ys : List ℕ). All (λ v. v < 2 ^ c.args.writer.now.width) ys) (sym e) c.requires.holds }

pub returns-then-low-gt248-clause-added : goal.returns-then-low-gt248-clause-added
returns-then-low-gt248-clause-added c =
    let e = planes-taken c.args.low c.args.planes c.wide_numbers_in-numbers.result 0 c.args.count (omega (arith, c.requires.few)) (λ i h. c.wide_numbers_in-numbers.ensures i h ∙ ap (λ (k : ℕ). c.args.low + plane_number c.args.planes k) (omega arith)) in
    finished c.push_each.result (λ f start xs k. subst (λ (ys : List ℕ). Keeps start c.push_each.new.out.items c.push_each.new.self (xs ++ ys)) e (f start xs k)) c.push_each.ensures.added

pub push_bytes-requires : goal.push_bytes-requires
push_bytes-requires c =
    let e = planes-taken c.args.low c.args.planes c.numbers_in-numbers.result 0 c.args.count (omega (arith, c.requires.few)) (λ i h. let there : plane_number c.args.planes (0 + i) ≡ plane_number c.args.planes i = ap (plane_number c.args.planes) (omega arith) in omega (arith, c.numbers_in-numbers.ensures i h, there, c.if-low-gt248.false)) in
    record { low = subst (λ (ys : List ℕ). All (λ v. v < 2 ^ c.args.writer.now.width) ys) (sym e) c.requires.holds }

pub returns-clause-added : goal.returns-clause-added
returns-clause-added c =
    let e = planes-taken c.args.low c.args.planes c.numbers_in-numbers.result 0 c.args.count (omega (arith, c.requires.few)) (λ i h. let there : plane_number c.args.planes (0 + i) ≡ plane_number c.args.planes i = ap (plane_number c.args.planes) (omega arith) in omega (arith, c.numbers_in-numbers.ensures i h, there, c.if-low-gt248.false)) in
    finished c.push_bytes.result (λ f start xs k. subst (λ (ys : List ℕ). Keeps start c.push_bytes.new.out.items c.push_bytes.new.self (xs ++ ys)) e (f start xs k)) c.push_bytes.ensures.added

pub push_bits-requires-clause-low : goal.push_bits-requires-clause-low
push_bits-requires-clause-low c =
    let e = planes-bits c.args.low c.args.planes 0 c.args.count c.if-planes-eq0.true c.if-planes-eq0-2.true in
    subst (λ (ys : List ℕ). All (λ v. v < 2 ^ c.args.writer.now.width) ys) (sym e) c.requires.holds

pub returns-then-planes-eq0-2-clause-added : goal.returns-then-planes-eq0-2-clause-added
returns-then-planes-eq0-2-clause-added c =
    let e = planes-bits c.args.low c.args.planes 0 c.args.count c.if-planes-eq0.true c.if-planes-eq0-2.true in
    finished c.push_bits.result (λ f start xs k. subst (λ (ys : List ℕ). Keeps start c.push_bits.new.out.items c.push_bits.new.self (xs ++ ys)) e (f start xs k)) c.push_bits.ensures.added
