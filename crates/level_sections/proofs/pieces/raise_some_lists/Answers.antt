use Rattle.std.proofs.Common.{◌≡◌, ℕ, true, ◌+◌, ◌-◌, ◌∷◌, ◌==◌, ◌∙◌, ap, arith, subst, sym}
use Rattle.std.proofs.lemmas.Nat.Bits.{shr_and_one}
use Rattle.std.specs.Int.{bit_at}
use Rattle.shredding.specs.Parts.{item_start, list_part}
use Rattle.levels.specs.Nested.{parts_of}
use Rattle.level_sections.specs.Pieces.{AreTold}
use Rattle.level_sections.specs.Walk.{walked}
use Rattle.level_sections.proofs.SlotLevels.{items-rise, told-next}
use Rattle.level_sections.proofs.pieces.raise_some_lists.Goals as goal

pub push_full-is_told-requires-clause-before : goal.push_full-is_told-requires-clause-before
push_full-is_told-requires-clause-before g c =
    omega (arith, c.requires.before, items-rise c.args.list.now.offsets (c.args.place + c.args.at + c.set_run-some.result) (c.args.place + c.args.count) c.requires.rises (omega (arith, c.set_run-some.ensures.within)) (omega (arith, c.requires.within, c.requires.next)))

pub push_full-is_told-requires-clause-full : goal.push_full-is_told-requires-clause-full
push_full-is_told-requires-clause-full g c k low below =
    let back : c.args.at + (k - c.args.at) ≡ k = omega (arith, low) in
    let set : (bit_at c.args.full k == 1) ≡ true = ap (λ (j : ℕ). bit_at c.args.full j == 1) (sym back) ∙ c.set_run-some.ensures.set (k - c.args.at) (omega (arith, low, below)) in
    (c.requires.full k (omega (arith, below, c.set_run-some.ensures.within, c.requires.few)) set).1

pub push_full-is_told-requires-clause-there : goal.push_full-is_told-requires-clause-there
push_full-is_told-requires-clause-there g c k low below =
    let back : c.args.at + (k - c.args.at) ≡ k = omega (arith, low) in
    let set : (bit_at c.args.full k == 1) ≡ true = ap (λ (j : ℕ). bit_at c.args.full j == 1) (sym back) ∙ c.set_run-some.ensures.set (k - c.args.at) (omega (arith, low, below)) in
    sym (c.requires.bits k (omega (arith, below, c.set_run-some.ensures.within))) ∙ (c.requires.full k (omega (arith, below, c.set_run-some.ensures.within, c.requires.few)) set).0

pub push_list-requires-clause-stop : goal.push_list-requires-clause-stop
push_list-requires-clause-stop g c =
    let next : c.args.place + (c.args.at + 1) ≡ c.args.place + c.args.at + 1 = omega arith in
    c.requires.edges (c.args.at + 1) (omega (arith, c.requires.next)) ∙ ap (λ (p : ℕ). item_start c.args.list.now.offsets p - item_start c.args.list.now.offsets c.args.from) next

pub push_list-requires-clause-before : goal.push_list-requires-clause-before
push_list-requires-clause-before g c =
    omega (arith, c.requires.before, items-rise c.args.list.now.offsets (c.args.place + c.args.at + 1) (c.args.place + c.args.count) c.requires.rises (omega (arith, c.requires.next)) (omega (arith, c.requires.within, c.requires.next)))

pub returns-clause-told : goal.returns-clause-told
returns-clause-told g c z =
    let m = c.mark.ensures in
    let list = c.args.list.now in
    subst (λ (n : ℕ). AreTold (λ k. walked c.args.level (list_part list.is_optional list.validity list.offsets ∷ parts_of c.args.rest.now) c.args.above c.args.from k) n c.mark.new.pieces) (omega arith)
    (told-next c.args.level (list_part list.is_optional list.validity list.offsets ∷ parts_of c.args.rest.now) c.args.above c.args.from (c.args.place + c.args.at - c.args.from) (c.args.place + c.args.at + 1 - c.args.from) (c.args.place + c.args.at) c.args.upper.now c.mark.new.pieces c.push_list.new.told c.requires.same (omega (arith, c.requires.after)) (omega (arith, c.requires.next, c.requires.room)) (omega (arith, c.requires.after)) c.requires.told (c.push_list.ensures c.if-not-push_list.false) m.told m.here m.others)

pub push_list-requires-clause-there : goal.push_list-requires-clause-there
push_list-requires-clause-there g c =
    ap (λ (k : ℕ). k == 1) (shr_and_one c.args.word c.args.at) ∙ c.requires.bits c.args.at c.requires.next
