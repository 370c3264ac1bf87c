use Rattle.std.proofs.Common.{◌++◌, ℕ, Bool, List, map, nat_lt, arith, ap, sym, refl, ◌∙◌}
use Rattle.columns_core.specs.Bits.{word_bits}
use Rattle.read_state.specs.Kinds.{starts_of}
use Rattle.read_state.specs.Reach.{chosen}
use Rattle.read_state.proofs.Marked.{told-levels}
use Rattle.read_state.proofs.Counting.{leaf-counted, struct-counted}
use Rattle.read_state.proofs.Listing.{optional-words, valid-words, struct-words}
use Rattle.read_state.proofs.plain.push_part.Goals as goal

pub returns-in-Primitive : goal.returns-in-Primitive
returns-in-Primitive c ms reps depth is grows all =
    rw (c.in-Primitive.is, c.push_counted.ensures all) (sym (leaf-counted c.in-Primitive.leaf.nullable c.args.pushed ms c.in-Primitive.leaf.pushes c.args.first depth c.args.def c.ranges.pushed.fits is.pushed))

pub returns-in-StructValid : goal.returns-in-StructValid
returns-in-StructValid c ms reps depth is grows all =
    rw (c.in-StructValid.is, c.push_counted-in-StructValid.ensures all) (sym (struct-counted c.args.pushed ms c.in-StructValid.part.pushes c.args.first depth c.args.def c.ranges.pushed.fits is.pushed))

pub returns-in-Optional : goal.returns-in-Optional
returns-in-Optional c ms reps depth is grows all =
    let list = c.in-Optional.list in
    let told = ap (λ (ds : List ℕ). list.validity.0 ++ chosen (word_bits c.args.pushed 64) (map (λ d. nat_lt c.args.def d) ds)) (sym is.definitions) ∙ ap (λ (bs : List Bool). list.validity.0 ++ chosen (word_bits c.args.pushed 64) bs) (told-levels c.args.def ms (omega (arith, c.requires.few))) in
    let beneath = (rw c.in-Optional.is at grows) refl in
    rw c.in-Optional.is (optional-words ms (map (λ m. m.definition) ms) list.validity.0 c.push_list.new.list.validity.0 (starts_of list.lengths.items) (starts_of c.push_list.new.list.lengths.items) c.args.first depth c.args.def (word_bits c.args.pushed 64) (word_bits c.args.grown 64) refl is.pushed beneath.pushed (c.push_list.ensures.validity all ∙ told) (c.push_list.ensures.places all))

pub returns-in-Valid : goal.returns-in-Valid
returns-in-Valid c ms reps depth is grows all =
    let list = c.in-Valid.list in
    let beneath = (rw c.in-Valid.is at grows) refl in
    rw c.in-Valid.is (valid-words ms (starts_of list.lengths.items) (starts_of c.push_places.new.lengths.items) c.args.first depth c.args.def (word_bits c.args.pushed 64) (word_bits c.args.grown 64) is.pushed beneath.pushed (c.push_places.ensures all))

pub returns-in-Struct : goal.returns-in-Struct
returns-in-Struct c ms reps depth is grows all =
    let part = c.in-Struct.part in
    let told = ap (λ (ds : List ℕ). part.validity.0 ++ chosen (word_bits c.args.pushed 64) (map (λ d. nat_lt c.args.def d) ds)) (sym is.definitions) ∙ ap (λ (bs : List Bool). part.validity.0 ++ chosen (word_bits c.args.pushed 64) bs) (told-levels c.args.def ms (omega (arith, c.requires.few))) in
    rw c.in-Struct.is (struct-words ms (map (λ m. m.definition) ms) part.validity.0 c.push_valid.new.validity.0 c.args.first depth c.args.def (word_bits c.args.pushed 64) refl is.pushed (c.push_valid.ensures all ∙ told))
