use Rattle.std.proofs.Common.{◌≡◌, ◌+◌, ◌++◌, ℕ, List, take, length, arith, ap, sym, ◌∙◌}
use Rattle.std.proofs.lemmas.List.{length-take-le}
use Rattle.pq_delta_reads.proofs.strings.put_chunk.Goals as goal

pub slice_bounds-put_bytes-end : goal.slice_bounds-put_bytes-end
slice_bounds-put_bytes-end c = sym (ap length c.in-Some.ensures.cases.same ∙ length-take-le 32 c.args.bytes.now c.requires.enough)

pub put_bytes-requires : goal.put_bytes-requires
put_bytes-requires c =
    let size : length c.in-Some.chunk.now ≡ 32 = ap length c.in-Some.ensures.cases.same ∙ length-take-le 32 c.args.bytes.now c.requires.enough in
    omega (arith, size, c.requires.within)

pub returns : goal.returns
returns c =
    let size : length c.in-Some.chunk.now ≡ 32 = ap length c.in-Some.ensures.cases.same ∙ length-take-le 32 c.args.bytes.now c.requires.enough in
    ap (λ (k : ℕ). take (c.args.at + k) c.put_bytes.new.places) (sym size) ∙ (c.put_bytes.ensures ∙ ap (λ (t : List ℕ). take c.args.at c.args.places.now ++ t) c.in-Some.ensures.cases.same)
