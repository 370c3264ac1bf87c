use Rattle.std.proofs.Common.{◌≡◌, ◌++◌, List, Bool, map, ap, subst, ◌∙◌}
use Rattle.std.specs.Prelude.{IfOk}
use Rattle.columns_core.specs.Bits.{bits_from}
use Rattle.levels.specs.Nested.{parts_of}
use Rattle.pq_tree.specs.Physical.{boolean}
use Rattle.shredding.specs.Slot.{Value, truth}
use Rattle.write_places.specs.Places.{path_places}
use Rattle.write_values.specs.Rows.{AppendsPlain}
use Rattle.write_values.specs.Truths.{truth_at}
use Rattle.write_values.proofs.TruthPlaces.{truths_stored}
use Rattle.write_values.proofs.truths.push_truths.Goals as goal

pub returns-clause-ok : goal.returns-clause-ok
returns-clause-ok c =
    let a = c.args.array.now in
    let places = path_places (parts_of c.args.nested.now) in
    let slice = c.as_slice.result.now in
    let taken : c.take_places.new.taker.out.0 ≡ map (truth_at a.1.0) places =
    c.in_ok-take_places.ensures.taken.1 ∙ (ap (λ (x : List Bool). x ++ map (truth_at c.values.result.now) places) c.new.ensures ∙ ap (λ (x : List Bool). map (truth_at x) places) c.values.ensures) in
    let all : bits_from slice 0 c.len.result ≡ map (truth_at a.1.0) places = ap (bits_from slice 0) c.len.ensures ∙ (c.as_slice.ensures.bits ∙ taken) in
    subst (λ (vs : List Value). IfOk c.push_bytes.result (λ body. AppendsPlain boolean c.args.out.items body.items vs)) (ap (map truth) all ∙ truths_stored a.0 a.1.0 a.1.1 places) c.push_bytes.ensures.ok
