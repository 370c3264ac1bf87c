use Rattle.std.proofs.Common.{◌≡◌, ◌∙◌, refl, sym, ap, arith}
use Rattle.pq_delta_reads.specs.Decoding.{Decoding, decoding}
use Rattle.pq_delta_reads.specs.Reading.{items, left_of, total, later, zeroed}
use Rattle.pq_delta_reads.proofs.Steps.{nothing_left}
use Rattle.pq_delta_reads.proofs.decoder.Decoder.pass_block.Goals as goal

pub returns-then-len-eq0 : goal.returns-then-len-eq0
unfolding decoding items total later
returns-then-len-eq0 c =
    let e = c.self.view_is in
    let s = c.self.inside.state in
    let none : left_of s ≡ 0 = omega (arith, ap (λ (d : Decoding). d.left) e, c.len.ensures, c.if-len-eq0.true) in
    let n = nothing_left s.latest s.least s.buffer s.width s.standing s.left s.miniblocks s.groups s.packed.now s.widths.now s.bytes.now s.cut none c.self.invariant.wanted in
    (sym (ap (λ (d : Decoding). d.items) e) ∙ n.0, sym (ap (λ (d : Decoding). d.left) e) ∙ none, omega (arith, n.1, ap (λ (d : Decoding). d.taken) e, ap (λ (d : Decoding). d.total) e), refl)

pub returns-then-len-gt0 : goal.returns-then-len-gt0
unfolding decoding
returns-then-len-gt0 c =
    let e = c.self.view_is in (
      omega arith,
      ap zeroed (sym (ap (λ (d : Decoding). d.items) e) ∙ c.take-number.ensures.first),
      sym (ap (λ (d : Decoding). d.left) e) ∙ c.take-number.ensures.left ∙ omega arith,
      c.take-number.ensures.total ∙ ap (λ (d : Decoding). d.total) e,
    )

pub find_standing-requires-clause-some : goal.find_standing-requires-clause-some
unfolding decoding
find_standing-requires-clause-some c = omega (arith, ap (λ (d : Decoding). d.left) c.self.view_is, c.len.ensures, c.if-len-eq0.false)

pub returns-in-Ok : goal.returns-in-Ok
unfolding decoding
returns-in-Ok c =
    let e = c.self.view_is in
    let k = c.in-Ok.ensures.found.0 in
    let t = c.pass_standing.ensures in (
      t.some,
      ap zeroed (sym (ap (λ (d : Decoding). d.items) e) ∙ sym k.items) ∙ t.passed,
      sym (ap (λ (d : Decoding). d.left) e) ∙ sym k.left ∙ t.left,
      t.total ∙ k.total ∙ ap (λ (d : Decoding). d.total) e,
    )

pub returns-in-Err : goal.returns-in-Err
unfolding decoding
returns-in-Err c =
    let e = c.self.view_is in
    let f = c.in-Err.ensures.failed in
    (f.0, sym (ap (λ (d : Decoding). d.items) e) ∙ f.1, f.2, f.3, c.in-Err.ensures.total ∙ ap (λ (d : Decoding). d.total) e)
