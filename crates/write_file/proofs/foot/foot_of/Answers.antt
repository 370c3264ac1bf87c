use Rattle.std.proofs.Common.{◌≡◌, ◌<◌, ◌^◌, ◌∙◌, ◌++◌, ℕ, List, length, ap, refl, arith, rules, append_assoc, w32}
use Rattle.std.specs.Int.{to_le_bytes}
use Rattle.pq_metadata.specs.Frame.{magic}
use Rattle.write_file.proofs.foot.foot_of.Goals as goal

pub returns-clause-ok : goal.returns-clause-ok
returns-clause-ok c =
    let f = c.in_default.ensures.ok in
    let foot : c.write_metadata.new.out.items ≡ f.text = f.parts ∙ ap (λ (x : List ℕ). x ++ f.text) c.new-foot.ensures.items in
    let four = to_le_bytes w32 c.in-Ok.length in
    let same : c.in-Ok.length ≡ length f.text = omega (arith, c.in-Ok.ensures, c.len.ensures, ap length foot, c.write_metadata.new.out.ok.0) in
    let fits : c.in-Ok.length < 2 ^ 32 = search rules in
    let short : length f.text < 2 ^ 32 = omega (arith, same, fits) in
    record {
      footer = f.text;
      size = four;
      is = f.is;
      four = refl;
      is_size = c.bytes_spell_numbers.ensures.four c.in-Ok.length (omega (arith, short, same)) ∙ same;
      parts = c.in_ok-extend_from_slice.ensures.items ∙ (ap (λ (x : List ℕ). x ++ magic) (c.in_ok-push_u32_le.ensures.ok ∙ ap (λ (x : List ℕ). x ++ four) foot) ∙ append_assoc f.text four magic);
      short = short;
    }
