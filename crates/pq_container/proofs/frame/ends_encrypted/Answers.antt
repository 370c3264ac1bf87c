use Rattle.std.proofs.Common.{arith, sym, ◌∙◌}
use Rattle.pq_metadata.specs.Frame.{EndsEncrypted}
use Rattle.pq_container.proofs.Encryptions.{equal_test}
use Rattle.pq_container.proofs.Fours.{encrypted_end, encrypted_number, encrypted_long}
use Rattle.pq_container.proofs.frame.ends_encrypted.Goals as goal

pub returns-then-len-lt4 : goal.returns-then-len-lt4
returns-then-len-lt4 c = λ h. omega (arith, encrypted_long c.args.file.now h, c.if-len-lt4.true)

pub returns : goal.returns
returns c =
    let file = c.args.file.now in
    equal_test c.four_bytes.result 1163018576 (EndsEncrypted file) (λ e. encrypted_end file c.type_inv.file (omega (arith, c.if-len-lt4.false)) (sym c.four_bytes.ensures ∙ e)) (λ h. c.four_bytes.ensures ∙ encrypted_number file h)
