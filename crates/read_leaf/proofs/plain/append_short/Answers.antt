use Rattle.std.proofs.Common.{◌≡◌, ◌+◌, ◌-◌, ◌*◌, ◌≤◌, ◌++◌, List, ℕ, length, take, drop, arith, ap, ◌∙◌}
use Rattle.std.proofs.lemmas.List.{length-take, length-take-le, length-drop, length-append}
use borrow.Rule.Slice.PartMut.{put_mid, post_of}
use Rattle.columns_core.specs.Bits.{word_bits}
use Rattle.read_leaf.proofs.Stretches.{front-put, vec-front, filled-front, short-behind}
use Rattle.read_leaf.proofs.plain.append_short.Goals as goal

pub returns-clause-took : goal.returns-clause-took
returns-clause-took c =
    let old = c.args.content.now.items in
    let before : ℕ = c.len-before.result in
    let size : ℕ = c.take_short-taken.result.size in
    let filled : List ℕ = c.deref_mut.result.now in
    let places : List ℕ = c.take_short-taken.new.places in
    let written : List ℕ = put_mid before (length filled - before) filled places in
    let whole : before ≡ length old = omega (arith, c.len-before.ensures, c.has_room.new.content.ok.0, ap length c.has_room.ensures.same) in
    let items = rw c.unwrap.ensures at c.resize.ensures.items in
    let front : take before filled ≡ old = filled-front before (32 * length c.args.lengths.now) _ filled c.has_room.new.content.items old whole c.has_room.ensures.same (c.deref_mut.ensures.value ∙ items) in
    let within : before ≤ length filled = omega (arith, ap length front, length-take before filled, whole) in
    let fits : size ≤ length places = omega (arith, c.take_short-taken.ensures.fits, c.take_short-taken.auto.places) in
    let most : before + size ≤ c.resize.new.self.len = omega (arith, within, c.take_short-taken.ensures.fits, length-take (length filled - before) (drop before filled), length-drop before filled, ap length c.deref_mut.ensures.value, c.resize.new.self.ok.0) in
    let long : before + size ≤ length written = omega (arith, length-append (take before filled) (places ++ post_of before (length filled - before) filled), length-append places (post_of before (length filled - before) filled), length-take-le before filled within, fits) in
    let made : c.truncate.new.self.items ≡ old ++ take size places = c.truncate.ensures.items ∙ (vec-front (before + size) c.resize.new.self.len written c.resize.new.self.items most long ∙ (front-put before (length filled - before) size filled places within fits ∙ ap (λ (t : List ℕ). t ++ take size places) front)) in
    short-behind (word_bits c.args.valid c.take_short-taken.result.count) c.args.text.now c.take_short-taken.result.rest.now (take c.take_short-taken.result.count c.take_short-taken.new.lengths) old (take size places) c.truncate.new.self.items c.take_short-taken.ensures.took made
