use Rattle.std.proofs.Common.{◌≡◌, ℕ, ◌+◌, ◌-◌, ◌∙◌, List, arith, length, take, drop, ap, sym}
use Rattle.std.proofs.lemmas.List.{length-drop, take_all}
use Rattle.pq_numbers.proofs.LittleEndianBytes.{four_bytes}
use Rattle.pq_numbers.specs.Texts.{number_of}
use Rattle.pq_delta_reads.proofs.Copying.{string_put}
use Rattle.pq_delta_reads.proofs.strings.put_string.Goals as goal

pub returns : goal.returns
returns c =
    let four : length c.to_le_bytes-head.result ≡ 4 = ap length c.to_le_bytes-head.ensures in
    let value : number_of c.to_le_bytes-head.result ≡ c.args.size = ap number_of c.to_le_bytes-head.ensures ∙ four_bytes c.args.size (omega (arith, c.requires.short)) in
    let first = ap (λ (k : ℕ). take (c.args.at + k) c.put_bytes.new.places) (sym four) ∙ c.put_bytes.ensures in
    let rest : List ℕ = take (length c.args.bytes.now - c.args.size) (drop c.args.size c.args.bytes.now) in
    let behind : rest ≡ drop c.args.size c.args.bytes.now = take_all _ _ (omega (arith, length-drop c.args.size c.args.bytes.now)) in
    string_put c.args.at c.args.size 32 c.to_le_bytes-head.result c.args.places.now c.put_bytes.new.places c.put_chunk.new.places c.args.bytes.now rest (omega (arith, c.requires.within)) four value c.requires.short c.requires.enough behind first c.put_chunk.ensures
