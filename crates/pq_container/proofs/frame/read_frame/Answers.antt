use Rattle.std.proofs.Common.{arith, sym, ◌∙◌, length, ◌-◌, drop}
use Rattle.std.proofs.lemmas.List.{take_all, length-drop}
use Rattle.pq_container.proofs.Fours.{magic_at}
use Rattle.pq_container.proofs.frame.read_frame.Goals as goal

pub returns : goal.returns
returns c = (
  record {
    long = omega (arith, c.if-len-lt12.false);
    front = magic_at c.args.file.now 0 c.type_inv.file (omega (arith, c.if-len-lt12.false)) (sym c.four_bytes.ensures ∙ c.if-four_bytes-ne-MAGIC.false);
    back =
        sym (take_all 4 (drop (length c.args.file.now - 4) c.args.file.now) (omega (arith, c.if-len-lt12.false, length-drop (length c.args.file.now - 4) c.args.file.now)))
        ∙ magic_at c.args.file.now (length c.args.file.now - 4) c.type_inv.file (omega (arith, c.if-len-lt12.false)) (sym c.four_bytes-else-four_bytes-ne-MAGIC.ensures ∙ c.if-four_bytes-ne-MAGIC-2.false);
    room = omega (arith, c.if-footer-len.false, c.four_bytes-footer.ensures);
  },
  c.four_bytes-footer.ensures,
)
