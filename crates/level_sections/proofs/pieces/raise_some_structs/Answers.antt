use Rattle.std.proofs.Common.{◌≡◌, ℕ, ◌+◌, ◌-◌, ◌∷◌, ◌∙◌, ap, arith, subst, sym}
use Rattle.shredding.specs.Parts.{is_present, struct_part}
use Rattle.levels.specs.Nested.{parts_of}
use Rattle.level_sections.specs.Pieces.{AreTold}
use Rattle.level_sections.specs.Walk.{walked}
use Rattle.level_sections.proofs.SlotLevels.{told-next}
use Rattle.level_sections.proofs.pieces.raise_some_structs.Goals as goal

pub push_present-is_told-requires-clause-there : goal.push_present-is_told-requires-clause-there
push_present-is_told-requires-clause-there c i h =
    let here : c.args.place + c.args.at + i ≡ c.args.place + (c.args.at + i) = omega arith in
    ap (λ (p : ℕ). is_present c.args.is_optional c.args.mask.now p) here
    ∙ (sym (c.requires.bits (c.args.at + i) (omega (arith, h, c.set_run-some.ensures.within))) ∙ c.set_run-some.ensures.set i h)

pub returns-clause-told : goal.returns-clause-told
returns-clause-told c z =
    let m = c.mark.ensures in
    subst (λ (n : ℕ). AreTold (λ k. walked c.args.level (struct_part c.args.is_optional c.args.mask.now c.args.slots ∷ parts_of c.args.rest.now) c.args.above c.args.from k) n c.mark.new.pieces) (omega arith)
    (told-next c.args.level (struct_part c.args.is_optional c.args.mask.now c.args.slots ∷ parts_of c.args.rest.now) c.args.above c.args.from (c.args.place + c.args.at - c.args.from) (c.args.place + c.args.at + 1 - c.args.from) (c.args.place + c.args.at) c.args.upper.now c.mark.new.pieces c.push_struct.new.told c.requires.same (omega (arith, c.requires.after)) (omega (arith, c.requires.next, c.requires.room, c.requires.within)) (omega (arith, c.requires.after)) c.requires.told (c.push_struct.ensures c.if-not-push_struct.false) m.told m.here m.others)
