use Rattle.std.proofs.Common.{◌≡◌, ◌∙◌, refl, sym, ap, arith, rules, length, ◌∷◌, SFits, ℤ, Ok}
use Rattle.std.proofs.lemmas.Int.{to_z-of_z}
use Rattle.std.specs.Int.{w64}
use Rattle.pq_delta_reads.specs.Decoding.{Decoding, decoding}
use Rattle.pq_delta_reads.specs.Reading.{items, left_of, total, later}
use Rattle.pq_delta_reads.proofs.Steps.{nothing_left}
use Rattle.pq_delta_reads.proofs.decoder.DecoderIterator.next.Goals as goal

pub returns-then-len-eq0-clause-steps : goal.returns-then-len-eq0-clause-steps
unfolding decoding items total later
returns-then-len-eq0-clause-steps c =
    let e = c.self.view_is in
    let s = c.self.inside.state in
    let none : left_of s ≡ 0 = omega (arith, ap (λ (d : Decoding). d.left) e, c.len.ensures, c.if-len-eq0.true) in
    let n = nothing_left s.latest s.least s.buffer s.width s.standing s.left s.miniblocks s.groups s.packed.now s.widths.now s.bytes.now s.cut none c.self.invariant.wanted in
    (sym (ap (λ (d : Decoding). d.items) e) ∙ n.0, sym (ap (λ (d : Decoding). d.left) e) ∙ none, omega (arith, n.1, ap (λ (d : Decoding). d.taken) e, ap (λ (d : Decoding). d.total) e), refl)

pub find-requires-clause-some : goal.find-requires-clause-some
unfolding decoding
find-requires-clause-some c = omega (arith, ap (λ (d : Decoding). d.left) c.self.view_is, c.len.ensures, c.if-len-eq0.false)

pub returns-in-Ok-clause-steps : goal.returns-in-Ok-clause-steps
unfolding decoding
returns-in-Ok-clause-steps c =
    let e = c.self.view_is in
    let t = c.take.new.state in
    let k = c.in-Ok.ensures.found.0 in
    let fits : SFits w64 c.take.result = search rules in (
      sym (ap (λ (d : Decoding). d.items) e) ∙ sym k.items ∙ c.take.ensures.first ∙ ap (λ (z : ℤ). Ok z ∷ items t) (sym (to_z-of_z w64 c.take.result fits)),
      sym (ap (λ (d : Decoding). d.left) e) ∙ sym k.left ∙ c.take.ensures.left,
      c.take.ensures.total ∙ k.total ∙ ap (λ (d : Decoding). d.total) e,
    )

pub returns-in-Ok-clause-goes : goal.returns-in-Ok-clause-goes
unfolding decoding
returns-in-Ok-clause-goes c =
    let i = sym (ap (λ (d : Decoding). d.items) c.self.view_is) ∙ sym c.in-Ok.ensures.found.0.items ∙ c.take.ensures.first in
    record { on = λ f. (search rules, search rules, omega (arith, ap length i)); keeps = search rules; rests = λ f. search rules }

pub returns-in-Err-clause-steps : goal.returns-in-Err-clause-steps
unfolding decoding
returns-in-Err-clause-steps c =
    let e = c.self.view_is in
    let f = c.in-Err.ensures.failed in
    (f.0, sym (ap (λ (d : Decoding). d.items) e) ∙ f.1, f.2, f.3, c.find.ensures.total ∙ ap (λ (d : Decoding). d.total) e)

pub returns-in-Err-clause-goes : goal.returns-in-Err-clause-goes
unfolding decoding
returns-in-Err-clause-goes c =
    let f = c.in-Err.ensures.failed in
    let i = sym (ap (λ (d : Decoding). d.items) c.self.view_is) ∙ f.1 in
    record { on = λ h. (search rules, search rules, omega (arith, ap length i, ap length f.2)); keeps = search rules; rests = λ h. search rules }
