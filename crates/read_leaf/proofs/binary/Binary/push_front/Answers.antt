use Rattle.std.proofs.Common.{◌≡◌, ◌++◌, ◌∷◌, [], ap₂, ◌∙◌, List, ℕ, ◌+◌, take, arith}
use Rattle.std.proofs.lemmas.List.{length-take-le}
use Rattle.columns_core.specs.Rising.{last_place}
use Rattle.columns_slots.specs.Bytes.{pieces}
use Rattle.read_leaf.proofs.Pieces.{laid-more, pieces-more}
use Rattle.read_leaf.proofs.binary.Binary.push_front.Goals as goal

pub invariant_of-self-in-Ok : goal.invariant_of-self-in-Ok
invariant_of-self-in-Ok g c =
    let l = c.self.invariant in
    let content = c.self.inside.values.items in
    let s : List ℕ = take c.args.count c.args.bytes.now in
    let size = length-take-le c.args.count c.args.bytes.now c.requires in
    rw (c.in-Ok.ensures.ok, c.in_ok-push_first.ensures.ok) (laid-more c.self.inside.offsets.0 content s _ l (omega (arith, l.last, size)))

pub returns-in-Ok-clause-ok : goal.returns-in-Ok-clause-ok
returns-in-Ok-clause-ok g c =
    let l = c.self.invariant in
    let content = c.self.inside.values.items in
    let s : List ℕ = take c.args.count c.args.bytes.now in
    let size = length-take-le c.args.count c.args.bytes.now c.requires in
    let items : c.push_first.new.values.items ≡ content ++ s = c.in_ok-push_first.ensures.ok in
    let os : List ℕ = c.self.inside.offsets.0 ++ (last_place c.self.inside.offsets.0 + c.args.count) ∷ [] in
    let offsets : c.try_push_usize.new.self.0 ≡ os = c.in-Ok.ensures.ok in
    rw (← c.self.view_is) (ap₂ pieces offsets items ∙ pieces-more c.self.inside.offsets.0 content s _ l.some l.last l.below (omega (arith, l.last, size)))
